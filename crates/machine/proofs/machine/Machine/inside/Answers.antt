use Rattle.std.proofs.Common.{rules, ◌≡◌}
use Rattle.protocol.proofs.Asked.{inside_asked_lem}
use Rattle.protocol.specs.Questions.{inside_asked}
use Rattle.protocol.proofs.WhoIsInside.{names_inside}
use Rattle.machine.specs.State.{state}
use Rattle.machine.proofs.machine.Machine.inside.Goals as goal

pub returns-in_err-as_ref-clause-law : goal.returns-in_err-as_ref-clause-law
returns-in_err-as_ref-clause-law g c = λ h e.
    let named : c.from_residual.result ≡ inside_asked h = search (rules, inside_asked_lem h (state g.M.Memory.meaning c.args.self.now) e) in
    rw named (names_inside h (state g.M.Memory.meaning c.args.self.now) e)

pub returns-clause-law : goal.returns-clause-law
returns-clause-law g c = λ h e.
    let named : c.inside.result ≡ inside_asked h = search (rules, inside_asked_lem h (state g.M.Memory.meaning c.args.self.now) e) in
    rw named (names_inside h (state g.M.Memory.meaning c.args.self.now) e)
