-- What the functions on rows leave and answer. A row is the first `len` entries of a slice. Assumes nothing.
use Rattle.std.specs.Prelude.{ℕ, ◌+◌, Bool, cond, List, [], ◌∷◌, ◌++◌, length, take, drop, Some, None, filter, Option, nat_lt}

-- the new length, where a slice of `room` places has one behind the row
abbrev pub appended : ℕ → ℕ → Option ℕ
appended room len = cond (nat_lt len room) (Some (len + 1)) None

abbrev pub head_of : {X : Type 0} → List X → Option X
head_of [] = None
head_of (x ∷ xs) = Some x

-- the oldest entry; none where the row is empty or passes the slice
abbrev pub first_of : {X : Type 0} → ℕ → List X → Option X
first_of len xs = cond (nat_lt (length xs) len) None (head_of (take len xs))

-- the row without its oldest entry; that entry stands in the place that the row gives up
abbrev pub without_first : {X : Type 0} → ℕ → List X → List X
without_first len xs = cond (nat_lt (length xs) len) xs (drop 1 (take len xs) ++ take 1 (take len xs) ++ drop len xs)

abbrev pub kept_len : {X : Type 0} → (X → Bool) → ℕ → List X → ℕ
kept_len p len xs = length (filter p (take len xs))

-- the entries kept, and behind them the places that no entry has moved to
abbrev pub kept_in : {X : Type 0} → (X → Bool) → ℕ → List X → List X
kept_in p len xs = filter p (take len xs) ++ drop (kept_len p len xs) xs
