-- The path along which a node stays visible in the hazard cells of one thread while its waiting stores land. Assumes nothing.
use Rattle.std.proofs.Common.{◌≡◌, ℕ, ◌≤◌, Bool, true, false, cond, eqb, leb, List, [], ◌∷◌}

-- a waiting store of the thread to its hazard cell `index`
pub record Slot : Type 0 where
  pub index : ℕ
  pub value : ℕ
  pub date : ℕ

-- the thread's hazard cells once the store has landed
abbrev pub put : (ℕ → ℕ) → Slot → ℕ → ℕ
put view w i = cond (eqb w.index i) w.value (view i)

-- what the cell holds once all have landed
abbrev pub last_of : (ℕ → ℕ) → List Slot → ℕ → ℕ
last_of view [] i = view i
last_of view (w ∷ ws) i = last_of (put view w) ws i

-- However many of the stores have landed, some cell from lo on shows n; its index never falls while more land, and ends at i.
abbrev pub Path : (ℕ → ℕ) → List Slot → ℕ → ℕ → ℕ → Type 0
Path view [] lo i n = (lo ≤ i) × (view i ≡ n)
Path view (w ∷ ws) lo i n = (j : ℕ) × (lo ≤ j) × (j ≤ i) × (view j ≡ n) × Path (put view w) ws j i n

abbrev pub Early : Bool → Type 0 → Type 0 → Type 0
Early true P Q = P
Early false P Q = Q

-- the same once the leading stores dated r or before have landed
abbrev pub PathAfter : ℕ → (ℕ → ℕ) → List Slot → ℕ → ℕ → Type 0
PathAfter r view [] i n = Path view [] 0 i n
PathAfter r view (w ∷ ws) i n = Early (leb w.date r) (PathAfter r (put view w) ws i n) (Path view (w ∷ ws) 0 i n)
