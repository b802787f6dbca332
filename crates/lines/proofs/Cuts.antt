-- A line, cut at its first blank, and its fields.
use Rattle.std.proofs.Common.{Bor, get_or, subst, ◌≡◌, ℕ, suc, ◌+◌, ◌-◌, ◌<◌, ◌≤◌, ◌⊎◌, inl, inr, Bool, true, false, cond, eqb, leb, ltb, List, [], ◌∷◌, ◌++◌, map, length, take, set, Some, None, Option, sym, refl, ap, ◌∙◌, append_assoc, append-nil, arith}
use lib.Dec.{eqb-suc-suc}
use Rattle.std.specs.Bool.{MatchBool}
use denote.Param.Members.{Mut}
use Rattle.std.specs.Fn.{CalledAt, ComputesKey}
use Rattle.std.specs.List.{All, IsFirstMatchOrLen, join_with_byte}
use Rattle.std.specs.Slice.Iter.{split_callee}
use Rattle.std.specs.declared.slice.SplitN.{SplitN}
use Rattle.std.specs.Char.{is_ascii_digit}
use Rattle.std.specs.Option.{option_map}
use Rattle.std.specs.Str.{all_ascii_digits}
use Rattle.std.proofs.lemmas.Bool.{ne_eqb, and_parts, and_left, and_right, cond-false, cases_lt, leb-true}
use Rattle.std.proofs.lemmas.List.Elements.{All-nil, All-cons}
use Rattle.std.proofs.lemmas.Fn.{always_returns_same}
use Rattle.std.proofs.lemmas.Grind.{common_steps}
use Rattle.std.proofs.lemmas.List.Splits.{slice_split_none, slice_split_at, length-slice_split, join_with_byte-slice_split}
use Rattle.lines.specs.Text.{number_in, numbers, fields, all_some}

-- what ends a field
abbrev pub blank : ℕ → Bool
blank c = eqb c 32

-- the fields that a split has still to give
abbrev pub fields_left : Bool → List ℕ → List (List ℕ)
fields_left done bs = cond done [] (fields bs)

first_part : (bs x rest : List ℕ) (done : Bool) → MatchBool done (bs ≡ x) ((y : ℕ) × (bs ≡ x ++ (y ∷ rest))) → IsFirstMatchOrLen blank bs (length x) → fields bs ≡ x ∷ fields_left done rest
first_part bs x rest true e h = ap fields e ∙ slice_split_none blank x (λ k d l. subst (λ ys. blank (get_or ys k d) ≡ false) e (h.0 k d (omega arith) l))
first_part bs x rest false e h =
    let front : All (λ z. blank z ≡ false) x = λ k d l. let a = h.0 k d (omega arith) l in let b = e.1 in grind (arith, common_steps) in
    let hit : blank e.0 ≡ true = let b = e.1 in let a = h.1 (grind (arith, common_steps)) e.0 in grind (arith, common_steps) in
    ap fields e.1 ∙ slice_split_at blank x e.0 rest front hit

-- what a part that `splitn` gives says of what was left of the line and of what is left now
abbrev pub Part : {F : Type 0} → Mut F (Bor ℕ × Unit {0}) Bool → SplitN ℕ F → Bor (List ℕ) → SplitN ℕ F → Type 0
Part g s x t = (0 < s.count) × (s.count ≡ 1 → t.parts.done ≡ true)
    × MatchBool t.parts.done (s.parts.rest.now ≡ x.now) ((y : ℕ) × (s.parts.rest.now ≡ x.now ++ (y ∷ t.parts.rest.now)))
    × (s.parts.done ≡ false)
    × (1 < s.count → (p : ℕ → Bool) → ComputesKey g p (split_callee s.parts) → ComputesKey g p (split_callee t.parts) × IsFirstMatchOrLen p s.parts.rest.now (length x.now))

-- the closure tells blanks
abbrev pub TellsBlanks : {F : Type 0} → Mut F (Bor ℕ × Unit {0}) Bool → F → Type 0
TellsBlanks {F} g f = (a : ℕ) (b : Bool) (q : F) → CalledAt g f a b q → (q ≡ f) × (b ≡ blank a)

-- a part that is not the last is the first field
pub next_part : {F : Type 0} (g : Mut F (Bor ℕ × Unit {0}) Bool) (s t : SplitN ℕ F) (x : Bor (List ℕ)) → Part g s x t → 1 < s.count → TellsBlanks g (split_callee s.parts)
    → fields_left s.parts.done s.parts.rest.now ≡ x.now ∷ fields_left t.parts.done t.parts.rest.now
next_part g s t x k more tests =
    let f = split_callee s.parts in
    let key = always_returns_same g (λ a r. r ≡ blank a.0.now) f (λ a r q called. let m = tests a.0.now r q (record { shown = a.0; shows = refl; called = called }) in (m.1, m.0)) in
    rw k.3 (first_part s.parts.rest.now x.now t.parts.rest.now t.parts.done k.2 (k.4 more blank key).1)

whole : {A : Type 0} (B : Type 0) (b : Bool) → b ≡ true → MatchBool b A B → A
whole B true e m = m
whole B false e m = absurd cc

-- the last part is all that was left
pub last_part : {F : Type 0} (g : Mut F (Bor ℕ × Unit {0}) Bool) (s t : SplitN ℕ F) (x : Bor (List ℕ)) → Part g s x t → s.count ≡ 1 → fields_left s.parts.done s.parts.rest.now ≡ fields x.now
last_part g s t x k one = rw k.3 (ap fields (whole _ t.parts.done (k.1 one) k.2))

-- so many numbers, one in each field
abbrev pub numbers_of : ℕ → ℕ → List (List ℕ) → Option (List ℕ)
numbers_of limit count fs = cond (eqb (length fs) count) (all_some (map (number_in limit) fs)) None

-- the numbers found so far, with those in the fields that are left
abbrev pub numbers_with : ℕ → ℕ → List ℕ → List (List ℕ) → Option (List ℕ)
numbers_with limit count found fs = option_map (λ ns. found ++ ns) (numbers_of limit count fs)

pub no_field : (limit count : ℕ) (found : List ℕ) → 0 < count → numbers_with limit count found [] ≡ None
no_field limit count found h = rw (ne_eqb 0 count (λ e. omega arith))

pub no_number : (limit count : ℕ) (found f : List ℕ) (fs : List (List ℕ)) → None ≡ number_in limit f → numbers_with limit count found (f ∷ fs) ≡ None
no_number limit count found f fs e = rw (sym e) (by (eqb (suc (length fs)) count))
  where
    by : (b : Bool) → option_map (λ ns. found ++ ns) (cond b (all_some (None ∷ map (number_in limit) fs)) None) ≡ None
    by true = refl
    by false = refl

pub next_number : (limit count : ℕ) (found f : List ℕ) (fs : List (List ℕ)) (n : ℕ) → Some n ≡ number_in limit f
    → numbers_with limit (suc count) found (f ∷ fs) ≡ numbers_with limit count (found ++ n ∷ []) fs
next_number limit count found f fs n e = rw (sym e, eqb-suc-suc (length fs) count) (by (eqb (length fs) count) (all_some (map (number_in limit) fs)))
  where
    by : (b : Bool) (ms : Option (List ℕ))
        → option_map (λ ns. found ++ ns) (cond b (option_map (λ ns. n ∷ ns) ms) None) ≡ option_map (λ ns. (found ++ n ∷ []) ++ ns) (cond b ms None)
    by true None = refl
    by true (Some ns) = rw (append_assoc found (n ∷ []) ns)
    by false ms = refl

-- the same, where the number is put into place i of an array
pub number_put : (limit count i : ℕ) (found f : List ℕ) (fs : List (List ℕ)) (n : ℕ) → i < count → length found ≡ count → Some n ≡ number_in limit f
    → numbers_with limit (count - i) (take i found) (f ∷ fs) ≡ numbers_with limit (count - (i + 1)) (take (i + 1) (set found i n)) fs
number_put limit count i found f fs n lt len e =
    let one : count - i ≡ suc (count - (i + 1)) = omega arith in
    let put : take (i + 1) (set found i n) ≡ take i found ++ n ∷ [] = grind (arith, common_steps) in
    rw (one, put) (next_number limit (count - (i + 1)) (take i found) f fs n e)

pub no_field_left : (limit : ℕ) (found : List ℕ) → numbers_with limit 0 found [] ≡ Some found
no_field_left limit found = rw (append-nil found)

-- a line has a field at least
pub no_fields : (limit : ℕ) (bs : List ℕ) → numbers limit 0 bs ≡ None
no_fields limit bs = rw (ne_eqb (length (fields bs)) 0 (λ e. omega (arith, length-slice_split blank bs))) refl

-- digits have no blank
no_blank : (bs : List ℕ) → all_ascii_digits bs ≡ true → All (λ c. blank c ≡ false) bs
no_blank [] e = All-nil (λ c. blank c ≡ false)
no_blank (c ∷ cs) e =
    let both = and_parts (is_ascii_digit c) (all_ascii_digits cs) e in
    let low = leb-true 48 c (and_parts (leb 48 c) (leb c 57) both.0).0 in
    All-cons (λ c. blank c ≡ false) c cs (ne_eqb c 32 (λ is. omega arith)) (no_blank cs both.1)

pub two_fields : (xs ys : List ℕ) → all_ascii_digits xs ≡ true → all_ascii_digits ys ≡ true → fields (xs ++ 32 ∷ ys) ≡ xs ∷ ys ∷ []
two_fields xs ys h k = slice_split_at blank xs 32 ys (no_blank xs h) refl ∙ ap (λ fs. xs ∷ fs) (slice_split_none blank ys (no_blank ys k))

number_without_digits : (limit : ℕ) (bs : List ℕ) → all_ascii_digits bs ≡ false → number_in limit bs ≡ None
number_without_digits limit bs e = cond-false _ _ _ (and_right (ltb 0 (length bs)) _ (and_left (all_ascii_digits bs) _ e))

-- what is left of a line is one number where it reads as one: a blank in it is no digit
pub last_number : (limit : ℕ) (bs : List ℕ) → numbers_of limit 1 (fields bs) ≡ option_map (λ n. n ∷ []) (number_in limit bs)
last_number limit bs = by (all_ascii_digits bs) refl
  where
    sole : (o : Option ℕ) → all_some (o ∷ []) ≡ option_map (λ n. n ∷ []) o
    sole None = refl
    sole (Some n) = refl

    only : (fs : List (List ℕ)) → fields bs ≡ fs → number_in limit bs ≡ None → numbers_of limit 1 fs ≡ None
    only [] e none = refl
    only (f ∷ []) e none =
        let same : bs ≡ f = sym (join_with_byte-slice_split 32 bs) ∙ ap (join_with_byte 32) e in
        rw (sym same, none) refl
    only (f ∷ g ∷ fs) e none = rw (ne_eqb (suc (suc (length fs))) 1 (λ z. omega arith)) refl

    by : (b : Bool) → all_ascii_digits bs ≡ b → numbers_of limit 1 (fields bs) ≡ option_map (λ n. n ∷ []) (number_in limit bs)
    by true e = rw (slice_split_none blank bs (no_blank bs e)) (sole (number_in limit bs))
    by false e = let none = number_without_digits limit bs e in rw none (only (fields bs) refl none)

module _ {F : Type 0} (g : Mut F (Bor ℕ × Unit {0}) Bool) (limit count i : ℕ) (found : List ℕ) (s t : SplitN ℕ F) (x : Bor (List ℕ)) (k : Part g s x t)
    (tests : TellsBlanks g (split_callee s.parts)) (lt : i < count) (left : s.count ≡ count - i) where
  -- a part that is no number
  pub part_no_number : None ≡ number_in limit x.now → numbers_with limit (count - i) (take i found) (fields_left s.parts.done s.parts.rest.now) ≡ None
  part_no_number e = by (cases_lt 1 s.count)
    where
      by : (1 < s.count) ⊎ (s.count ≤ 1) → numbers_with limit (count - i) (take i found) (fields_left s.parts.done s.parts.rest.now) ≡ None
      by (inl more) = rw (next_part g s t x k more tests) (no_number limit (count - i) (take i found) x.now _ e)
      by (inr last) =
          let one : count - i ≡ 1 = omega arith in
          rw (last_part g s t x k (omega arith), one, last_number limit x.now, sym e) refl

  -- a part whose number is put into place i of an array
  pub part_put : (n : ℕ) → length found ≡ count → Some n ≡ number_in limit x.now
      → numbers_with limit (count - i) (take i found) (fields_left s.parts.done s.parts.rest.now)
      ≡ numbers_with limit (count - (i + 1)) (take (i + 1) (set found i n)) (fields_left t.parts.done t.parts.rest.now)
  part_put n len e = by (cases_lt 1 s.count)
    where
      by : (1 < s.count) ⊎ (s.count ≤ 1) → numbers_with limit (count - i) (take i found) (fields_left s.parts.done s.parts.rest.now)
          ≡ numbers_with limit (count - (i + 1)) (take (i + 1) (set found i n)) (fields_left t.parts.done t.parts.rest.now)
      by (inl more) = rw (next_part g s t x k more tests) (number_put limit count i found x.now _ n lt len e)
      by (inr last) =
          let one : count - i ≡ 1 = omega arith in
          let none : count - (i + 1) ≡ 0 = omega arith in
          let put : take (i + 1) (set found i n) ≡ take i found ++ n ∷ [] = grind (arith, common_steps) in
          rw (last_part g s t x k (omega arith), one, none, last_number limit x.now, sym e, k.1 (omega arith), put) (sym (no_field_left limit (take i found ++ n ∷ [])))
