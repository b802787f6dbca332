-- A sound memory that is found new is new. Assumes nothing.
use Rattle.std.proofs.Common.{◌≡◌, ℕ, Bool, true, ◌&&◌, eqb, List, [], ◌∷◌, length, replicate, sym, refl}
use Rattle.std.specs.List.{list_all}
use Rattle.std.proofs.lemmas.List.{nil_from_length}
use Rattle.std.proofs.lemmas.Bool.{eqb-true, and_parts}
use Rattle.memory.specs.declared.write.Write.{Write}
use Rattle.memory.specs.Meaning.{Meaning, nothing_waits, cells_are_zero, is_new}
use Rattle.memory.specs.Calls.{Sound}
use Rattle.memory.specs.History.{New}

-- a list whose every element passes a test for d is d over and over
all_are : {X : Type 0} (p : X → Bool) (d : X) → ((x : X) → p x ≡ true → x ≡ d) → (xs : List X) → list_all p xs ≡ true → xs ≡ replicate (length xs) d
all_are p d one [] e = refl
all_are p d one (x ∷ xs) e =
    let r = and_parts (p x) (list_all p xs) e in
    let f : x ≡ d = one x r.0 in
    let g : xs ≡ replicate (length xs) d = all_are p d one xs r.1 in
    cc

pub new_from : (m : Meaning) → Sound m → is_new m ≡ true → New m
new_from m s e =
    let r = and_parts (eqb m.clock 0) (nothing_waits m && cells_are_zero m) e in
    let q = and_parts (nothing_waits m) (cells_are_zero m) r.1 in
    let clock : m.clock ≡ 0 = eqb-true m.clock 0 r.0 in
    let cells : m.cells ≡ replicate 64 0 = rw s.cells at (all_are (λ (v : ℕ). eqb v 0) 0 (λ v f. eqb-true v 0 f) m.cells q.1) in
    let waiting : m.waiting ≡ replicate 8 [] = rw s.threads at (all_are (λ (ws : List Write). eqb (length ws) 0) [] (λ ws f. nil_from_length ws (eqb-true (length ws) 0 f)) m.waiting q.0) in
    made clock cells waiting
  where
    made : {n : ℕ} {cs : List ℕ} {ws : List (List Write)} → m.clock ≡ n → m.cells ≡ cs → m.waiting ≡ ws → m ≡ record { clock = n; cells = cs; bound = m.bound; self_landing = m.self_landing; waiting = ws }
    made clock cells waiting = rw (sym clock, sym cells, sym waiting) refl
