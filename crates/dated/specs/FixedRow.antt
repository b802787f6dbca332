-- What a fixed row holds, and what its calls do. Assumes nothing.
use Rattle.std.specs.Prelude.{◌≡◌, ℕ, ◌<◌, List, [], ◌∷◌, ◌++◌, length, take, Some, None, Ok, Err, Option, Result}
use Rattle.dated.specs.declared.fixed_row.FixedRow.{FixedRow}
use Rattle.dated.specs.declared.fixed_row.Full.{Full}

-- the entries, oldest first
unfoldable pub entries_of : {T : Type 0} {N : ℕ} → FixedRow T N → List T
entries_of r = take r.len r.places

-- an entry goes behind the others, while fewer than n are there
abbrev pub Pushes : {X : Type 0} → ℕ → X → List X → List X → Result (Unit {0}) Full → Type 0
Pushes n x xs xs' (Ok _) = (length xs < n) × (xs' ≡ xs ++ x ∷ [])
Pushes n x xs xs' (Err _) = (length xs ≡ n) × (xs' ≡ xs)

-- the oldest entry is taken out, where there is one
abbrev pub TakesFirst : {X : Type 0} → List X → List X → Option X → Type 0
TakesFirst xs xs' None = (xs ≡ []) × (xs' ≡ [])
TakesFirst xs xs' (Some x) = xs ≡ x ∷ xs'
