use Rattle.protocol.proofs.NumbersFit.{numbers_fit}
use Rattle.protocol.proofs.theorems.numbers_fit.Goals as goal

pub returns : goal.returns
returns c = numbers_fit
