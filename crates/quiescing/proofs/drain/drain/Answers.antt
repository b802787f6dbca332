use Rattle.std.proofs.Common.{rules}
use Rattle.quiescing.proofs.Draining.{drain_told, drain_next, fewer, told_accepted}
use Rattle.quiescing.proofs.drain.drain.Goals as goal

pub loop-memory-preserved : goal.loop-memory-preserved
loop-memory-preserved g c = search (rules, drain_told, told_accepted)

pub loop-memory-smaller : goal.loop-memory-smaller
loop-memory-smaller g c = search (rules, fewer, told_accepted)

pub loop-thread-preserved : goal.loop-thread-preserved
loop-thread-preserved g c = search (rules, drain_next)
