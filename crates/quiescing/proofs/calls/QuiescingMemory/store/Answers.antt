use Rattle.std.proofs.Common.{rules}
use Rattle.quiescing.proofs.Layering.{stores_on}
use Rattle.quiescing.proofs.calls.QuiescingMemory.store.Goals as goal

pub returns-clause-call : goal.returns-clause-call
returns-clause-call g c = search (rules, stores_on)
