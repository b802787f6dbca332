-- What is printed is read back.
use Rattle.std.proofs.Common.{◌≡◌, ℕ, zero, suc, ◌+◌, ◌-◌, ◌*◌, ◌/◌, ◌%◌, ◌<◌, ◌≤◌, true, leb, List, [], ◌∷◌, map, length, Some, subst, sym, refl, ◌∙◌, arith}
use Rattle.std.specs.Char.{is_ascii_digit}
use Rattle.std.specs.Str.{all_ascii_digits}
use Rattle.std.specs.Int.Digits.{digits_of, AllBelowBase, number_from_digits_after}
use Rattle.std.proofs.lemmas.Int.Digits.{first_digits_of, length-digits_of_step, number_digits_of, all_below_base_digits_of}
use Rattle.std.proofs.lemmas.List.{get_or-map, length_push}
use Rattle.std.proofs.lemmas.Bool.{and_from, le-leb, lt-ltb}
use Rattle.lines.specs.Laws.{PrintedNumbersReadBack, NoZeroInFront}
use Rattle.lines.specs.Output.{decimal}
use Rattle.lines.specs.Text.{value_of, number_in}
use Rattle.lines.proofs.Cuts.{two_fields}
use Rattle.lines.proofs.Decimals.{figures, figures_last, decimal_figures}
use Rattle.lines.proofs.Numbers.{value_after, value_more}

value_bytes : (v : ℕ) (ds : List ℕ) → value_after v (map (λ d. 48 + d) ds) ≡ number_from_digits_after 10 v ds
value_bytes v [] = omega arith
value_bytes v (d ∷ ds) =
    let same : 48 + d - 48 ≡ d = omega arith in
    value_more v (48 + d) (map (λ d. 48 + d) ds) ∙ rw same (value_bytes (v * 10 + d) ds)

digits_bytes : (ds : List ℕ) → AllBelowBase 10 ds → all_ascii_digits (map (λ d. 48 + d) ds) ≡ true
digits_bytes [] u = refl
digits_bytes (d ∷ ds) u =
    let small = u.0 in
    and_from (is_ascii_digit (48 + d)) _ (and_from (leb 48 (48 + d)) _ (le-leb 48 (48 + d) (omega arith)) (le-leb (48 + d) 57 (omega arith))) (digits_bytes ds u.1)

-- bs are digits that write n
record Spells (n : ℕ) (bs : List ℕ) : Type 0 where
  some : 0 < length bs
  all : all_ascii_digits bs ≡ true
  value : value_of bs ≡ n

figures_spell : (n : ℕ) → 0 < n → Spells n (figures n)
figures_spell n above =
    let back : value_after 0 (figures n) ≡ n = value_bytes 0 (digits_of 10 n) ∙ number_digits_of 10 n (omega arith) in
    record {
      some = rw (figures_last n above, length_push (figures (n / 10)) (48 + n % 10)) (omega arith);
      all = digits_bytes (digits_of 10 n) (all_below_base_digits_of 10 n (omega arith));
      value = omega arith;
    }

decimal_spells : (n : ℕ) → Spells n (decimal n)
decimal_spells zero = record { some = omega arith; all = refl; value = refl }
decimal_spells (suc n) = subst (Spells (suc n)) (sym (decimal_figures (suc n) (omega arith))) (figures_spell (suc n) (omega arith))

number_back : (limit n : ℕ) → n ≤ limit → number_in limit (decimal n) ≡ Some n
number_back limit n h =
    let s = decimal_spells n in
    rw (lt-ltb 0 (length (decimal n)) s.some, s.all, s.value, le-leb n limit h)

pub read_back : PrintedNumbersReadBack
read_back limit code value h k =
    rw (two_fields (decimal code) (decimal value) (decimal_spells code).all (decimal_spells value).all, number_back limit code h, number_back limit value k)

pub no_zero : NoZeroInFront
no_zero n h =
    let first = first_digits_of 10 n (omega arith) h in
    let some : 0 < length (digits_of 10 n) = omega (arith, length-digits_of_step 10 n (omega arith) h) in
    rw (decimal_figures n h, get_or-map (λ d. 48 + d) (digits_of 10 n) 0 0 0 some) (omega arith)
