use Rattle.std.proofs.Common.{◌≡◌, ◌≤◌, drop}
use Rattle.lines.specs.Text.{number_in}
use Rattle.lines.proofs.Numbers.{number_after}
use Rattle.lines.proofs.fields.number.Given as goal

-- the value so far and the bytes that are left give the number
abbrev pub invariant-loop-byte : goal.invariant-loop-byte
invariant-loop-byte l = (number_after l.limit l.value (drop l.byte-index l.bytes) ≡ number_in l.limit l.bytes) × (l.value ≤ l.limit)
