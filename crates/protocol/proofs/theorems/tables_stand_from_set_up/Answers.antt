use Rattle.protocol.proofs.AcceptedCalls.{tables_stand}
use Rattle.protocol.proofs.theorems.tables_stand_from_set_up.Goals as goal

pub returns : goal.returns
returns c = tables_stand
