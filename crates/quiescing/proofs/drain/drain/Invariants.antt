use Rattle.memory.specs.Meaning.{Meaning, waiting_count}
use Rattle.quiescing.proofs.Draining.{Draining}
use Rattle.quiescing.proofs.drain.drain.Given as goal

-- what was told before the inner loop began goes on
abbrev pub invariant-loop-memory : goal.invariant-loop-memory
invariant-loop-memory g l = (m : Meaning) → Draining l.thread m (g.M.Memory.meaning l.initial.memory) → Draining l.thread m (g.M.Memory.meaning l.memory)

abbrev pub decreases-loop-memory : goal.decreases-loop-memory
decreases-loop-memory g l = waiting_count (g.M.Memory.meaning l.memory) l.thread

abbrev pub invariant-loop-thread : goal.invariant-loop-thread
invariant-loop-thread g l = Draining l.thread (g.M.Memory.meaning l.initial.memory) (g.M.Memory.meaning l.memory)
