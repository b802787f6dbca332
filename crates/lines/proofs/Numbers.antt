-- A number, read digit by digit.
use Rattle.std.proofs.Common.{◌≡◌, ℕ, suc, ◌+◌, ◌-◌, ◌*◌, ◌^◌, ◌<◌, ◌≤◌, true, cond, ◌&&◌, leb, List, ◌∷◌, length, get_or, drop, Some, None, Option, ◌∙◌, mul_assoc, mul_comm, add-mul, pow-suc, le-mul_of_pos_right, arith}
use native.Mathlib.Nat.{pow-le-pow_right}
use Rattle.std.proofs.lemmas.List.{at_drop_more}
use Rattle.std.proofs.lemmas.Bool.{and_right, cond-false, lt-leb}
use Rattle.std.specs.Char.{is_ascii_digit}
use Rattle.std.specs.Str.{all_ascii_digits}
use Rattle.lines.specs.Text.{value_of}

-- the value, where v was read already and bs follows
abbrev pub value_after : ℕ → List ℕ → ℕ
value_after v bs = v * 10 ^ length bs + value_of bs

-- the number, where v was read already and bs follows
abbrev pub number_after : ℕ → ℕ → List ℕ → Option ℕ
number_after limit v bs = cond (all_ascii_digits bs && leb (value_after v bs) limit) (Some (value_after v bs)) None

pub value_more : (v c : ℕ) (cs : List ℕ) → value_after v (c ∷ cs) ≡ value_after (v * 10 + (c - 48)) cs
value_more v c cs =
    let p = 10 ^ length cs in
    let d = c - 48 in
    let e : v * 10 ^ suc (length cs) ≡ v * 10 * p = rw (pow-suc 10 (length cs), mul_comm p 10, mul_assoc v 10 p) in
    omega (arith, e, add-mul (v * 10) d p)

number_more : (limit v c : ℕ) (cs : List ℕ) → is_ascii_digit c ≡ true → number_after limit v (c ∷ cs) ≡ number_after limit (v * 10 + (c - 48)) cs
number_more limit v c cs e = rw (e, value_more v c cs)

-- what follows does not make it smaller
pub number_over : (limit v : ℕ) (bs : List ℕ) → limit < v → number_after limit v bs ≡ None
number_over limit v bs over =
    let one : 1 ≤ 10 ^ length bs = pow-le-pow_right {n = 10} (omega arith) {i = 0} {j = length bs} (omega arith) in
    let large : v ≤ v * 10 ^ length bs = le-mul_of_pos_right v one in
    cond-false _ _ _ (and_right (all_ascii_digits bs) _ (lt-leb (value_after v bs) limit (omega arith)))

-- the same at byte i of a line
pub reads_at : (limit v : ℕ) (bs : List ℕ) (i : ℕ) → i < length bs → is_ascii_digit (get_or bs i 0) ≡ true
    → number_after limit v (drop i bs) ≡ number_after limit (v * 10 + (get_or bs i 0 - 48)) (drop (i + 1) bs)
reads_at limit v bs i lt e = at_drop_more (number_after limit v) bs i 0 lt ∙ number_more limit v (get_or bs i 0) (drop (i + 1) bs) e
