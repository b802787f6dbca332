-- The number under which each refusal is reported. Assumes nothing.
use Rattle.std.specs.Prelude.{ℕ}
use Rattle.memory.specs.declared.refusal.Refusal.{Refusal}
use Rattle.memory.specs.declared.refusal.Refusal.TheVariants.{OutOfRange, BufferFull, NothingWaiting, WritesWaiting, WriteDue, ClockAtEnd, NotMade}

abbrev pub number : Refusal → ℕ
number OutOfRange = 1
number BufferFull = 2
number NothingWaiting = 3
number WritesWaiting = 4
number WriteDue = 5
number ClockAtEnd = 6
number NotMade = 7
