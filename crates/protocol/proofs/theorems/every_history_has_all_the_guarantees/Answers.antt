use Rattle.protocol.proofs.WholeGuarantee.{all_the_guarantees}
use Rattle.protocol.proofs.theorems.every_history_has_all_the_guarantees.Goals as goal

pub returns : goal.returns
returns c = all_the_guarantees
