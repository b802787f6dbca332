use Rattle.std.proofs.Common.{rules}
use Rattle.protocol.proofs.Asked.{node_asked_lem}
use Rattle.machine.specs.State.{state}
use Rattle.machine.proofs.machine.Machine.node.Goals as goal

pub returns-in_err-as_ref-clause-history : goal.returns-in_err-as_ref-clause-history
returns-in_err-as_ref-clause-history g c = λ h e. search (rules, node_asked_lem h (state g.M.Memory.meaning c.args.self.now) e)

pub returns-clause-history : goal.returns-clause-history
returns-clause-history g c = λ h e. search (rules, node_asked_lem h (state g.M.Memory.meaning c.args.self.now) e)
