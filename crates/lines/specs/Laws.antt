-- What is printed, as a reader finds it. Assumes nothing.
use Rattle.std.specs.Prelude.{◌≡◌, ℕ, ◌<◌, ◌≤◌, [], ◌∷◌, ◌++◌, Some, slice_index}
use Rattle.lines.specs.Output.{decimal}
use Rattle.lines.specs.Text.{numbers}

-- a printed line, without its newline, is two numbers: the code and the value
abbrev pub PrintedNumbersReadBack : Type 0
PrintedNumbersReadBack =
    (limit code value : ℕ) → code ≤ limit → value ≤ limit → numbers limit 2 (decimal code ++ 32 ∷ decimal value) ≡ Some (code ∷ value ∷ [])

-- only the number 0 is printed with a zero in front
abbrev pub NoZeroInFront : Type 0
NoZeroInFront = (n : ℕ) → 0 < n → 48 < slice_index (decimal n) 0
