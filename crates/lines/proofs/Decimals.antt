-- The digits of a number.
use Rattle.std.proofs.Common.{◌≡◌, ℕ, zero, suc, ◌+◌, ◌/◌, ◌%◌, ◌^◌, ◌<◌, List, [], ◌∷◌, ◌++◌, map, sym, ◌∙◌, arith}
use Rattle.std.specs.Int.Digits.{digits_of}
use Rattle.std.proofs.lemmas.Int.Digits.{digits_of_step}
use Rattle.std.proofs.lemmas.List.{map_push}
use Rattle.std.proofs.lemmas.Bool.{ne_eqb}
use Rattle.std.proofs.lemmas.Fmt.{decimal_digit, decimal-digits_of}
use Rattle.std.specs.Fmt.{decimal as std_decimal}
use Rattle.lines.specs.Output.{decimal}

-- the bytes of the digits, none for 0
abbrev pub figures : ℕ → List ℕ
figures n = map (λ d. 48 + d) (digits_of 10 n)

-- the last digit stands behind the others
pub figures_last : (n : ℕ) → 0 < n → figures n ≡ figures (n / 10) ++ ((48 + n % 10) ∷ [])
figures_last n h = rw (digits_of_step 10 n (omega arith) h, map_push (λ d. 48 + d) (digits_of 10 (n / 10)) (n % 10))

pub decimal_figures : (n : ℕ) → 0 < n → decimal n ≡ figures n
decimal_figures n h = rw (ne_eqb n 0 (λ e. omega arith))

-- what std prints, of a number of 64 bits
pub decimal_printed : (n : ℕ) → n < 2 ^ 64 → std_decimal n ≡ decimal n
decimal_printed zero h = decimal_digit 0 (omega arith)
decimal_printed (suc n) h = decimal-digits_of (suc n) (omega arith) h ∙ sym (decimal_figures (suc n) (omega arith))
