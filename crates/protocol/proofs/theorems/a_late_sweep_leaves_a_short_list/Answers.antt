use Rattle.protocol.proofs.LateSweeps.{a_late_sweep_leaves_a_short_list}
use Rattle.protocol.proofs.theorems.a_late_sweep_leaves_a_short_list.Goals as goal

pub returns : goal.returns
returns c = a_late_sweep_leaves_a_short_list
