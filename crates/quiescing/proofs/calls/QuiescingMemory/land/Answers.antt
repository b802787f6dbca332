use Rattle.std.proofs.Common.{rules}
use Rattle.quiescing.proofs.Layering.{lands_on}
use Rattle.quiescing.proofs.calls.QuiescingMemory.land.Goals as goal

pub returns-clause-call : goal.returns-clause-call
returns-clause-call g c = search (rules, lands_on)
