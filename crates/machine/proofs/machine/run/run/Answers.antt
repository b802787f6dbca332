use Rattle.std.proofs.Common.{arith, rules}
use Rattle.protocol.proofs.CallsKept.{runs_none, runs_more}
use Rattle.machine.proofs.machine.run.run.Goals as goal

pub loop-call-init : goal.loop-call-init
loop-call-init g c = (c.in-Ok.ensures.len, c.in-Ok.ensures.capacity, runs_none _ _ _ (g.met.M.Memory.sound c.args.memory) c.in-Ok.ensures.items c.new-machine.ensures)

pub loop-call-preserved : goal.loop-call-preserved
loop-call-preserved g c = (
  omega arith,
  omega arith,
  runs_more _ _ _ _ _ _ _ _ _ c.loop-call-test.true (search rules) c.push_reserved.ensures.items c.loop-call.invariant.2 c.call.ensures,
)
