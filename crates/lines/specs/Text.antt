-- Decimal numbers in a line, with single blanks between them. Assumes nothing.
use Rattle.std.specs.Prelude.{ℕ, ◌+◌, ◌-◌, ◌*◌, ◌^◌, cond, ◌&&◌, List, [], ◌∷◌, map, length, Some, None, Option, ◌==◌, nat_le, nat_lt}
use Rattle.std.specs.List.{slice_split}
use Rattle.std.specs.Option.{option_map}
use Rattle.std.specs.Str.{all_ascii_digits}

-- the number that digits write: each counts by its place
abbrev pub value_of : List ℕ → ℕ
value_of [] = 0
value_of (c ∷ cs) = (c - 48) * 10 ^ length cs + value_of cs

-- one digit, byte 48 to 57, or more, leading zeros too, of a value that is at most the limit
abbrev pub number_in : ℕ → List ℕ → Option ℕ
number_in limit bs = cond (nat_lt 0 (length bs) && (all_ascii_digits bs && nat_le (value_of bs) limit)) (Some (value_of bs)) None

-- the line split at its blanks, byte 32: one field more than it has blanks, each without a blank
abbrev pub fields : List ℕ → List (List ℕ)
fields bs = slice_split (λ c. c == 32) bs

-- all of them, if none is missing
abbrev pub all_some : List (Option ℕ) → Option (List ℕ)
all_some [] = Some []
all_some (None ∷ os) = None
all_some (Some n ∷ os) = option_map (λ ns. n ∷ ns) (all_some os)

-- exactly so many numbers, with single blanks between them
abbrev pub numbers : ℕ → ℕ → List ℕ → Option (List ℕ)
numbers limit count bs = cond (length (fields bs) == count) (all_some (map (number_in limit) (fields bs))) None
