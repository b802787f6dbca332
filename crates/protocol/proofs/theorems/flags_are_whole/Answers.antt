use Rattle.protocol.proofs.NumbersFit.{flags_are_whole}
use Rattle.protocol.proofs.theorems.flags_are_whole.Goals as goal

pub returns : goal.returns
returns c = flags_are_whole
