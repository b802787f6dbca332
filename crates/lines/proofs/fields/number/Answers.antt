use Rattle.std.proofs.Common.{◌+◌, ◌-◌, ◌*◌, ◌<◌, get_or, arith}
use Rattle.lines.proofs.Numbers.{number_over, reads_at}
use Rattle.lines.proofs.fields.number.Goals as goal

pub returns-then-value-from : goal.returns-then-value-from
returns-then-value-from c =
    let over : c.args.limit < c.loop-byte.value * 10 + (get_or c.args.bytes.now c.loop-byte.byte-index 0 - 48) = omega arith in
    grind (arith, number_over, reads_at)

pub loop-byte-preserved : goal.loop-byte-preserved
loop-byte-preserved c = grind (arith, reads_at)
