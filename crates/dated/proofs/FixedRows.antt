-- The entries of a fixed row, by its places and its length. Assumes nothing.
use Rattle.std.proofs.Common.{◌≡◌, ℕ, ◌+◌, ◌<◌, ◌≤◌, List, [], ◌∷◌, length, take, Some, None, refl, inl, inr, arith}
use Rattle.std.proofs.lemmas.List.{length-take-le}
use Rattle.std.proofs.lemmas.Bool.{cases_lt, lt-ltb, le-ltb}
use Rattle.dated.specs.declared.fixed_row.FixedRow.{FixedRow}
use Rattle.dated.specs.FixedRow.{entries_of}
use Rattle.dated.specs.Row.{appended, first_of, head_of}

pub entries_length : {T : Type 0} {N : ℕ} (r : FixedRow T N) → length (entries_of r) ≡ r.len
unfolding entries_of
entries_length r = length-take-le r.len r.places (omega arith)

-- whether there was a place for one more
pub append_some : (room len n : ℕ) → Some n ≡ appended room len → (len < room) × (n ≡ len + 1)
append_some room len n e = elim (cases_lt len room) [ inl h ↦ (let f = lt-ltb len room h in (h, cc)) | inr h ↦ (let f = le-ltb len room h in absurd cc) ]

pub append_none : (room len : ℕ) → None ≡ appended room len → room ≤ len
append_none room len e = elim (cases_lt len room) [ inl h ↦ (let f = lt-ltb len room h in absurd cc) | inr h ↦ h ]

-- a row with no first is empty
pub first_none : {X : Type 0} (len : ℕ) (xs : List X) → len ≤ length xs → None ≡ first_of len xs → take len xs ≡ []
first_none {X} len xs within e = go (take len xs) (rw (le-ltb (length xs) len within) at e)
  where
    go : (ys : List X) → None ≡ head_of ys → ys ≡ []
    go [] f = refl
    go (y ∷ ys) f = absurd cc
