-- The bytes of a printed line. Assumes nothing.
use Rattle.std.specs.Prelude.{ℕ, ◌+◌, cond, List, [], ◌∷◌, ◌++◌, map, drop, ◌==◌}
use Rattle.std.specs.Int.Digits.{digits_of}
use Rattle.lines.specs.declared.line.Line.{Line}

-- the digits of a number, the highest first, with no zero in front; `0` is byte 48
abbrev pub decimal : ℕ → List ℕ
decimal n = cond (n == 0) (48 ∷ []) (map (λ d. 48 + d) (digits_of 10 n))

-- the code, a blank (32), the value and a newline (10)
abbrev pub printed : ℕ → ℕ → List ℕ
printed code value = decimal code ++ 32 ∷ (decimal value ++ 10 ∷ [])

-- the bytes of a line that was made
abbrev pub bytes_of : Line → List ℕ
bytes_of l = drop l.start l.bytes
