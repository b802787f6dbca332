use Rattle.std.proofs.Common.{rules}
use Rattle.protocol.proofs.Asked.{hazard_asked}
use Rattle.protocol.proofs.HazardCells.{names_hazard}
use Rattle.tables.proofs.LayoutFacts.{some_hazards}
use Rattle.machine.specs.State.{state}
use Rattle.machine.proofs.machine.Machine.hazard_cell.Goals as goal

pub returns-in_err-as_ref-clause-history : goal.returns-in_err-as_ref-clause-history
returns-in_err-as_ref-clause-history g c = λ h e. search (rules, hazard_asked h (state g.M.Memory.meaning c.args.self.now) e)

pub returns-clause-history : goal.returns-clause-history
returns-clause-history g c = λ h e. search (rules, hazard_asked h (state g.M.Memory.meaning c.args.self.now) e)

pub returns-clause-law : goal.returns-clause-law
returns-clause-law g c =
    let x = c.in_ok-as_ref.field-0.now.layout in
    search (rules, names_hazard x.settings c.args.cell (some_hazards x.settings x.lawful))
