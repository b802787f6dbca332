use Rattle.std.proofs.Common.{rules}
use Rattle.quiescing.proofs.Layering.{exchanges_on}
use Rattle.quiescing.proofs.calls.QuiescingMemory.exchange.Goals as goal

pub returns-clause-call : goal.returns-clause-call
returns-clause-call g c = search (rules, exchanges_on)
