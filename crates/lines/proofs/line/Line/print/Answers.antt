use Rattle.std.proofs.Common.{◌≡◌, ℕ, ◌+◌, ◌-◌, ◌^◌, ◌<◌, ◌≤◌, List, [], ◌∷◌, ◌++◌, length, drop, set, arith, rules}
use Rattle.std.proofs.lemmas.List.{drop-set}
use Rattle.std.proofs.lemmas.Fmt.{length-decimal-le}
use Rattle.std.proofs.lemmas.Grind.{common_steps}
use Rattle.std.specs.Fmt.{decimal}
use Rattle.lines.specs.Output.{printed}
use Rattle.lines.proofs.Decimals.{decimal_printed}
use Rattle.lines.proofs.line.Line.print.Goals as goal

-- 64 bits have at most 20 digits
short : (n : ℕ) → n < 2 ^ 64 → length (decimal n) ≤ 20
short n h = length-decimal-le 20 n (omega arith) (omega arith) h

-- the code, written to end at a blank in front of the value
line_printed : (out buf : List ℕ) (start blank code value : ℕ) → code < 2 ^ 64 → value < 2 ^ 64 → blank < length buf
    → drop start out ≡ decimal code ++ drop blank (set buf blank 32) → drop (blank + 1) buf ≡ decimal value ++ 10 ∷ [] → drop start out ≡ printed code value
line_printed out buf start blank code value h k lt e f = rw (e, drop-set buf blank 32 lt, f, decimal_printed code h, decimal_printed value k)

pub write_number-blank-requires : goal.write_number-blank-requires
write_number-blank-requires c = search (rules, length-decimal-le 20)

pub overflow_sub-blank : goal.overflow_sub-blank
overflow_sub-blank c = omega (arith, short c.args.value (omega arith))

pub write_number-start-requires : goal.write_number-start-requires
write_number-start-requires c = (omega (arith, short c.args.value (omega arith), short c.args.code (omega arith)), grind (arith, common_steps))

pub returns : goal.returns
returns c =
    let blank = c.write_number-blank.result - 1 in
    let next : blank + 1 ≡ c.write_number-blank.result = omega (arith, short c.args.value (omega arith)) in
    line_printed c.write_number-start.new.out c.write_number-blank.new.out c.write_number-start.result blank c.args.code c.args.value (omega arith) (omega arith)
    (omega arith) c.write_number-start.ensures.written (rw next c.write_number-blank.ensures.written)
