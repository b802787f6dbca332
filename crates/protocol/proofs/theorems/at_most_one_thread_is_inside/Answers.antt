use Rattle.protocol.proofs.Exclusion.{at_most_one_inside}
use Rattle.protocol.proofs.theorems.at_most_one_thread_is_inside.Goals as goal

pub returns : goal.returns
returns c = at_most_one_inside
