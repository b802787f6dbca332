-- Lists of retired nodes: how long one can be, and what a sweep keeps of it. Assumes nothing.
use Rattle.std.proofs.Common.{◌≡◌, ℕ, suc, ◌+◌, ◌<◌, ◌≤◌, Bool, true, false, cond, not, eqb, List, [], ◌∷◌, length, sym, refl, ap, ◌∙◌, inl, inr, zero-le, arith}
use Rattle.std.specs.List.{AllByRecursion}
use Rattle.std.proofs.ByRecursion.{all_kept_by, kept_by_passes}
use Rattle.std.proofs.lemmas.Bool.{eqb-true, eqb-false, eq-eqb, ne_eqb, ltb-false, not-true, or_cases, or_left, or_right}
use Rattle.memory.specs.Meaning.{any_of}
use Rattle.protocol.specs.declared.retired.Retired.{Retired}
use Rattle.protocol.specs.History.{names}
use Rattle.protocol.specs.Steps.{old, keeps, kept}
use Rattle.protocol.proofs.PlacedNodes.{names_parts}

-- a number is among those seen
abbrev pub is_in : ℕ → List ℕ → Bool
is_in n seen = any_of (λ v. eqb v n) seen

-- the list less its first occurrence of a number
abbrev without : ℕ → List ℕ → List ℕ
without n [] = []
without n (v ∷ vs) = cond (eqb v n) vs (v ∷ without n vs)

without_shorter : (n : ℕ) (seen : List ℕ) → is_in n seen ≡ true → suc (length (without n seen)) ≡ length seen
without_shorter n [] i = absurd cc
without_shorter n (v ∷ vs) i = at (eqb v n) refl (without_shorter n vs)
  where
    at : (b : Bool) → eqb v n ≡ b → (is_in n vs ≡ true → suc (length (without n vs)) ≡ length vs) → suc (length (without n (v ∷ vs))) ≡ length (v ∷ vs)
    at true e more = rw e refl
    at false e more = rw e (ap suc (more (rw e at i)))

without_has : (n m : ℕ) (seen : List ℕ) → (m ≡ n → ⊥) → is_in m seen ≡ true → is_in m (without n seen) ≡ true
without_has n m [] ne i = i
without_has n m (v ∷ vs) ne i = at (eqb v n) refl (without_has n m vs ne)
  where
    at : (b : Bool) → eqb v n ≡ b → (is_in m vs ≡ true → is_in m (without n vs) ≡ true) → is_in m (without n (v ∷ vs)) ≡ true
    at true e more =
        let same = eqb-true v n e in
        let no : eqb v m ≡ false = ne_eqb v m (λ w. ne (sym w ∙ same)) in
        rw e (rw no at i)
    at false e more = rw e (elim (or_cases (eqb v m) (is_in m vs) i) [ inl y ↦ or_left (eqb v m) (is_in m (without n vs)) y | inr y ↦ or_right (eqb v m) (is_in m (without n vs)) (more y) ])

-- where a list does not name a number, none of its entries does
unnamed : (n : ℕ) (l : List Retired) → names n l ≡ 0 → AllByRecursion (λ (e : Retired). e.node ≡ n → ⊥) l
unnamed n [] z = tt
unnamed n (e ∷ l) z = at (eqb e.node n) refl (unnamed n l)
  where
    at : (b : Bool) → eqb e.node n ≡ b → (names n l ≡ 0 → AllByRecursion (λ (e : Retired). e.node ≡ n → ⊥) l) → AllByRecursion (λ (e : Retired). e.node ≡ n → ⊥) (e ∷ l)
    at true q more = let y = rw q at z in absurd (omega arith)
    at false q more = let y = rw q at z in (eqb-false e.node n q, more (omega arith))

names_tail : (n : ℕ) (e : Retired) (l : List Retired) → names n l ≤ names n (e ∷ l)
names_tail n e l = omega arith

all_both : {X : Type 0} (P Q R : X → Type 0) → ((x : X) → P x → Q x → R x) → (xs : List X) → AllByRecursion P xs → AllByRecursion Q xs → AllByRecursion R xs
all_both P Q R f [] p q = tt
all_both P Q R f (x ∷ xs) p q = (f x p.0 q.0, all_both P Q R f xs p.1 q.1)

-- a list that names each node at most once, and only nodes seen, is no longer than what was seen
pub pigeons : (l : List Retired) (seen : List ℕ) → ((n : ℕ) → names n l ≤ 1) → AllByRecursion (λ (e : Retired). any_of (λ v. eqb v e.node) seen ≡ true) l → length l ≤ length seen
pigeons [] seen once all = zero-le
pigeons (e ∷ l) seen once all =
    let here : 1 + names e.node l ≤ 1 = rw (eq-eqb e.node e.node refl) at (once e.node) in
    let others = unnamed e.node l (omega arith) in
    let rest =
    pigeons l (without e.node seen) (λ n. omega (arith, names_tail n e l, once n))
    (all_both (λ (x : Retired). x.node ≡ e.node → ⊥) (λ (x : Retired). is_in x.node seen ≡ true) (λ (x : Retired). is_in x.node (without e.node seen) ≡ true) (λ x ne i. without_has e.node x.node seen ne i) l others all.1) in
    omega (arith, without_shorter e.node seen all.0)

-- What a sweep keeps.

pub names_kept : (bound now : ℕ) (seen : List ℕ) (n : ℕ) (l : List Retired) → names n (kept bound now seen l) ≤ names n l
names_kept bound now seen n l = let parts = names_parts (keeps bound now seen) n l in omega arith

-- an entry that is old is kept only if a cell named it
keeps_old : (bound now : ℕ) (seen : List ℕ) (e : Retired) → e.date + bound < now → keeps bound now seen e ≡ true → is_in e.node seen ≡ true
keeps_old bound now seen e late k = elim (or_cases (not (old bound now e.date)) (is_in e.node seen) k) [
  | inl young ↦ let early = ltb-false _ _ (not-true (old bound now e.date) young) in absurd (omega arith)
  | inr named ↦ named
]

pub kept_old : (bound now : ℕ) (seen : List ℕ) (l : List Retired) → AllByRecursion (λ (e : Retired). e.date + bound < now) l → AllByRecursion (λ (e : Retired). is_in e.node seen ≡ true) (kept bound now seen l)
kept_old bound now seen l late =
    all_both (λ (e : Retired). e.date + bound < now) (λ (e : Retired). keeps bound now seen e ≡ true) (λ (e : Retired). is_in e.node seen ≡ true) (keeps_old bound now seen)
    (kept bound now seen l)
    (all_kept_by (keeps bound now seen) (λ (e : Retired). e.date + bound < now) l late)
    (kept_by_passes (keeps bound now seen) l)

-- a sweep that finds every entry old leaves no more entries than it has seen cells
pub kept_short : (bound now : ℕ) (seen : List ℕ) (l : List Retired) → ((n : ℕ) → names n l ≤ 1) → AllByRecursion (λ (e : Retired). e.date + bound < now) l → length (kept bound now seen l) ≤ length seen
kept_short bound now seen l once late =
    pigeons (kept bound now seen l) seen (λ n. omega (arith, names_kept bound now seen n l, once n)) (kept_old bound now seen l late)

-- 0 is the name of no node
pub names_none : (l : List Retired) → AllByRecursion (λ (e : Retired). 0 < e.node) l → names 0 l ≡ 0
names_none [] real = refl
names_none (e ∷ l) real = let more = names_none l real.1 in rw (ne_eqb e.node 0 (λ z. absurd (omega (arith, real.0)))) (omega arith)
