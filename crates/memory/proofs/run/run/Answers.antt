use Rattle.std.proofs.Common.{sym, rules}
use Rattle.memory.proofs.Carrying.{upto_more, upto_all}
use Rattle.memory.proofs.run.run.Goals as goal

pub loop-call-preserved : goal.loop-call-preserved
loop-call-preserved g c = search (rules, upto_more)

pub returns : goal.returns
returns g c =
    upto_all _ _ _ _ _ c.loop-call-test.false (g.met.M.Memory.sound c.args.memory.now) (sym c.if-not-is_new.ensures.answer) (rw c.is_new.ensures.same at c.loop-call.invariant.2)
