-- A sweep over the hazard cells: at its start every old guarded node lies ahead of it, each load passes none by, and at its end
-- none is unseen. Assumes nothing.
use Rattle.std.proofs.Common.{◌≡◌, ℕ, zero, suc, ◌+◌, ◌-◌, ◌*◌, ◌<◌, ◌≤◌, true, false, eqb, ◌≢◌, ◌⊎◌, List, [], ◌∷◌, ◌++◌, length, sym, refl, ◌∙◌, inl, inr, mul_comm, mul-suc, arith}
use Rattle.std.specs.List.{AllByRecursion}
use Rattle.std.proofs.ByRecursion.{All-weaker}
use Rattle.std.proofs.lemmas.List.{length_push}
use Rattle.std.proofs.lemmas.Bool.{cases_eq, cases_lt, cases_order, eq-eqb, or_left, or_right, or_cases}
use Rattle.memory.specs.Meaning.{any_of}
use Rattle.protocol.specs.declared.settings.Settings.{Settings}
use Rattle.protocol.specs.Settings.{hazard_cells}
use Rattle.protocol.proofs.Guarded.{Spotted, spotted, ahead, ahead_own}
use Rattle.protocol.proofs.GuardView.{GuardState, Loads, others, own}
use Rattle.protocol.proofs.PathLemmas.{path_lower, path_next, path_end, after_scan}
use Rattle.protocol.proofs.Paths.{Slot, last_of, Path, PathAfter}

-- The numbers of the hazard cells.

-- the cells of thread t come before those of a later one
pub cells_before : (k t u : ℕ) → t < u → k * t + k ≤ k * u
cells_before k t zero lt = absurd (omega arith)
cells_before k t (suc u) lt = elim (cases_eq t u) [
  | inl e ↦ rw (e, mul-suc k u) (omega arith)
  | inr ne ↦ let more = cells_before k t u (omega arith) in rw (mul-suc k u) (omega arith)
]

-- a cell's number tells its thread and index
pub cell_thread : (k t i u j : ℕ) → k * t + i ≡ k * u + j → i < k → j < k → t ≡ u
cell_thread k t i u j e a b = elim (cases_order t u) [
  | inl f ↦ f
  | inr (inl lt) ↦ let c = cells_before k t u lt in absurd (omega arith)
  | inr (inr lt) ↦ let c = cells_before k u t lt in absurd (omega arith)
]

pub cell_index : (k t i u j : ℕ) → k * t + i ≡ k * u + j → i < k → j < k → i ≡ j
cell_index k t i u j e a b = let same = cell_thread k t i u j e a b in let f : k * u + i ≡ k * u + j = rw same at e in omega arith

-- all cells of thread t, among those of all threads
cells_within : (k t n : ℕ) → t < n → k * t + k ≤ n * k
cells_within k t n lt = rw (mul_comm n k) (cells_before k t n lt)

-- What a sweep has seen.

seen_before : (n v : ℕ) (seen : List ℕ) → any_of (λ x. eqb x n) seen ≡ true → any_of (λ x. eqb x n) (seen ++ v ∷ []) ≡ true
seen_before n v [] e = absurd cc
seen_before n v (x ∷ xs) e = elim (or_cases (eqb x n) (any_of (λ x. eqb x n) xs) e) [
  | inl y ↦ or_left (eqb x n) (any_of (λ x. eqb x n) (xs ++ v ∷ [])) y
  | inr y ↦ or_right (eqb x n) (any_of (λ x. eqb x n) (xs ++ v ∷ [])) (seen_before n v xs y)
]

seen_last : (n v : ℕ) (seen : List ℕ) → v ≡ n → any_of (λ x. eqb x n) (seen ++ v ∷ []) ≡ true
seen_last n v [] e = or_left (eqb v n) false (eq-eqb v n e)
seen_last n v (x ∷ xs) e = or_right (eqb x n) (any_of (λ x. eqb x n) (xs ++ v ∷ [])) (seen_last n v xs e)

-- The start: a store dated r or before cannot wait beyond r + bound, so none does.
pub scan_starts : (bound now r : ℕ) (view : ℕ → ℕ) (ws : List Slot) (i n : ℕ) → r + bound < now → AllByRecursion (λ (w : Slot). now ≤ w.date + bound) ws
    → PathAfter r view ws i n → Path view ws 0 i n
scan_starts bound now r view ws i n old in_time =
    after_scan r view ws i n (All-weaker (λ (w : Slot). now ≤ w.date + bound) (λ (w : Slot). r < w.date) (λ w h. omega arith) ws in_time)

-- The end: no cell is left in which the node could be ahead.
pub scan_ends : (z : Settings) (a : GuardState) (u t i n : ℕ) (seen : List ℕ) → t < z.threads → i < z.hazards → length seen ≡ hazard_cells z
    → Spotted z a u t i n seen → any_of (λ v. eqb v n) seen ≡ true
scan_ends z a u t i n seen lt low all (spotted e) = e
scan_ends z a u t i n seen lt low all (ahead ne p) =
    let c = cells_within z.hazards t z.threads lt in absurd (path_end (a.view t) (a.slots t) (length seen - z.hazards * t) i n (omega arith) p)
scan_ends z a u t i n seen lt low all (ahead_own e le) = let c = cells_within z.hazards t z.threads lt in absurd (omega arith)

-- What is loaded from the cell of thread t at i.
loads_at : (z : Settings) (a : GuardState) (u t i c v : ℕ) → c ≡ z.hazards * t + i → i < z.hazards → Loads z u a c v
    → ((t ≢ u) × (v ≡ a.view t i)) ⊎ ((t ≡ u) × (v ≡ last_of (a.view t) (a.slots t) i))
loads_at z a u t i c v is low (others t' j e f g h) =
    let same = cell_thread z.hazards t i t' j (sym is ∙ e) low f in
    let index = cell_index z.hazards t i t' j (sym is ∙ e) low f in
    rw (same, index) (inl (g, h))
loads_at z a u t i c v is low (own j e f h) =
    let same = cell_thread z.hazards t i u j (sym is ∙ e) low f in
    let index = cell_index z.hazards t i u j (sym is ∙ e) low f in
    rw (same, index) (inr (refl, h))

-- One more cell: the sweep passes no guarded node by.
module _ (z : Settings) (a : GuardState) (u t i n : ℕ) (seen : List ℕ) (v : ℕ) where
  -- the path goes on from the next cell
  further : t ≢ u → (lo : ℕ) → length seen + 1 - z.hazards * t ≤ lo → Path (a.view t) (a.slots t) lo i n → Spotted z a u t i n (seen ++ v ∷ [])
  further ne lo le p =
      let long = length_push seen v in
      ahead ne (path_lower (a.view t) (a.slots t) lo (length (seen ++ v ∷ []) - z.hazards * t) i n (omega arith) p)

  further_own : t ≡ u → length seen + 1 - z.hazards * t ≤ i → Spotted z a u t i n (seen ++ v ∷ [])
  further_own e le = let long = length_push seen v in ahead_own e (omega arith)

  other_cell : (lo : ℕ) → length seen ≡ z.hazards * t + lo → t ≢ u → Path (a.view t) (a.slots t) lo i n → v ≡ a.view t lo → Spotted z a u t i n (seen ++ v ∷ [])
  other_cell lo is ne p e = elim (cases_eq v n) [
    | inl f ↦ spotted (seen_last n v seen f)
    | inr un ↦ further ne (lo + 1) (omega arith) (path_next (a.view t) (a.slots t) lo i n (λ f. un (e ∙ f)) p)
  ]

  own_cell : (lo : ℕ) → length seen ≡ z.hazards * t + lo → t ≡ u → lo ≤ i → last_of (a.view t) (a.slots t) i ≡ n → v ≡ last_of (a.view t) (a.slots t) lo → Spotted z a u t i n (seen ++ v ∷ [])
  own_cell lo is same le shows e = elim (cases_eq lo i) [
    | inl f ↦ spotted (seen_last n v seen (e ∙ rw f shows))
    | inr ne ↦ further_own same (omega arith)
  ]

  pub scan_more : i < z.hazards → last_of (a.view t) (a.slots t) i ≡ n → Loads z u a (length seen) v → Spotted z a u t i n seen → Spotted z a u t i n (seen ++ v ∷ [])
  scan_more low shows loads (spotted e) = spotted (seen_before n v seen e)
  scan_more low shows loads (ahead ne p) = go (cases_lt (length seen) (z.hazards * t))
    where
      within : z.hazards * t ≤ length seen → (length seen - z.hazards * t < z.hazards) ⊎ (z.hazards ≤ length seen - z.hazards * t) → Spotted z a u t i n (seen ++ v ∷ [])
      within le (inl lt) =
          let lo : ℕ = length seen - z.hazards * t in
          let is : length seen ≡ z.hazards * t + lo = omega arith in
          elim (loads_at z a u t lo (length seen) v is lt loads) [
            | inl f ↦ other_cell lo is ne p f.1
            | inr f ↦ absurd (ne f.0)
          ]
      within le (inr past) = absurd (path_end (a.view t) (a.slots t) (length seen - z.hazards * t) i n (omega arith) p)

      go : (length seen < z.hazards * t) ⊎ (z.hazards * t ≤ length seen) → Spotted z a u t i n (seen ++ v ∷ [])
      go (inl lt) = further ne (length seen - z.hazards * t) (omega arith) p
      go (inr le) = within le (cases_lt (length seen - z.hazards * t) z.hazards)
  scan_more low shows loads (ahead_own e le) = go (cases_lt (length seen) (z.hazards * t))
    where
      go : (length seen < z.hazards * t) ⊎ (z.hazards * t ≤ length seen) → Spotted z a u t i n (seen ++ v ∷ [])
      go (inl lt) = further_own e (omega arith)
      go (inr in') =
          let lo : ℕ = length seen - z.hazards * t in
          let is : length seen ≡ z.hazards * t + lo = omega arith in
          elim (loads_at z a u t lo (length seen) v is (omega arith) loads) [
            | inl f ↦ absurd (f.0 e)
            | inr f ↦ own_cell lo is e le shows f.1
          ]
