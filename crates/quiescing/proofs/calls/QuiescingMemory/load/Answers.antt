use Rattle.std.proofs.Common.{rules}
use Rattle.quiescing.proofs.Layering.{loads_on}
use Rattle.quiescing.proofs.calls.QuiescingMemory.load.Goals as goal

pub returns-clause-call : goal.returns-clause-call
returns-clause-call g c = search (rules, loads_on)
