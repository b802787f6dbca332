-- A filter in place that writes no place behind what it keeps.
use Rattle.std.proofs.Common.{◌≡◌, ℕ, ◌+◌, ◌-◌, ◌<◌, ◌≤◌, Bool, true, false, cond, List, [], ◌∷◌, ◌++◌, length, get_or, take, drop, set, filter, sym, ap, ◌∙◌, arith}
use Rattle.std.proofs.lemmas.List.Elements.{filter_more}
use Rattle.std.proofs.lemmas.List.{append_assoc, append-nil, drop_more, get_or-append_right, get_or-drop, length_push, set_at, take_at}
use Rattle.dated.specs.Row.{kept_in, kept_len}

-- of the first i of xs the k that pass p stand in the front of ys, and behind them ys is still xs
pub record Kept {X : Type 0} (p : X → Bool) (xs ys : List X) (k i : ℕ) : Type 0 where
  pub count : length (filter p (take i xs)) ≡ k
  pub places : ys ≡ filter p (take i xs) ++ drop k xs
  pub behind : k ≤ i

-- what is read at i is the entry of xs
read : {X : Type 0} (p : X → Bool) (xs ys : List X) (k i : ℕ) (x : X) → Kept p xs ys k i → x ≡ get_or ys i x → get_or xs i x ≡ x
read {X} p xs ys k i x h is =
    let back : k + (i - k) ≡ i = omega arith in
    sym
    (is
    ∙ ap (λ (l : List X). get_or l i x) h.places
    ∙ get_or-append_right (filter p (take i xs)) (drop k xs) k i x h.count h.behind
    ∙ get_or-drop k xs (i - k) x
    ∙ ap (λ (j : ℕ). get_or xs j x) back)

-- what passes p among the first i + 1
more : {X : Type 0} (p : X → Bool) (xs ys : List X) (k i : ℕ) (x : X) (b : Bool) → Kept p xs ys k i → i < length xs → x ≡ get_or ys i x → p x ≡ b
    → filter p (take (i + 1) xs) ≡ filter p (take i xs) ++ cond b (x ∷ []) []
more p xs ys k i x b h lt is e =
    let r = read p xs ys k i x h is in
    simp (r, e) at (filter_more p xs i x lt)

pub kept_no : {X : Type 0} (p : X → Bool) (xs ys : List X) (k i : ℕ) (x : X) → Kept p xs ys k i → i < length xs → x ≡ get_or ys i x → p x ≡ false
    → Kept p xs ys k (i + 1)
kept_no p xs ys k i x h lt is e =
    let m : filter p (take (i + 1) xs) ≡ filter p (take i xs) = more p xs ys k i x false h lt is e ∙ append-nil _ in
    record { count = rw m h.count; places = rw m h.places; behind = omega arith }

pub kept_yes : {X : Type 0} (p : X → Bool) (xs ys : List X) (k i : ℕ) (x : X) → Kept p xs ys k i → i < length xs → x ≡ get_or ys i x → p x ≡ true
    → Kept p xs (set ys k x) (k + 1) (i + 1)
kept_yes {X} p xs ys k i x h lt is e =
    let m : filter p (take (i + 1) xs) ≡ filter p (take i xs) ++ x ∷ [] = more p xs ys k i x true h lt is e in
    let d : drop k xs ≡ get_or xs k x ∷ drop (k + 1) xs = drop_more xs k x (omega arith) in
    record {
      count = rw m (length_push (filter p (take i xs)) x ∙ ap (λ (n : ℕ). n + 1) h.count);
      places =
          rw (m, append_assoc)
          (ap (λ (l : List X). set l k x) (h.places ∙ ap (λ (l : List X). filter p (take i xs) ++ l) d)
          ∙ set_at (filter p (take i xs)) (get_or xs k x) (drop (k + 1) xs) x k h.count);
      behind = omega arith;
    }

-- the end of the loop, at the row's end
pub kept_all : {X : Type 0} (p : X → Bool) (xs ys : List X) (k i len : ℕ) → Kept p xs ys k i → take i xs ≡ take len xs
    → (k ≡ kept_len p len xs) × (ys ≡ kept_in p len xs) × (take k ys ≡ filter p (take len xs))
kept_all {X} p xs ys k i len h e =
    let n : kept_len p len xs ≡ k = rw e at h.count in
    let f : ys ≡ filter p (take len xs) ++ drop k xs = rw e at h.places in
    (sym n, simp n f, ap (take k) f ∙ take_at (filter p (take len xs)) (drop k xs) k n)
