use Rattle.protocol.proofs.WholeGuarantee.{the_guarantees}
use Rattle.protocol.proofs.theorems.every_history_has_the_guarantees.Goals as goal

pub returns : goal.returns
returns c = the_guarantees
