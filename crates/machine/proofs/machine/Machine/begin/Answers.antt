use Rattle.std.proofs.Common.{refl, rules}
use Rattle.tables.proofs.Admission.{refused}
use Rattle.machine.proofs.machine.Machine.begin.Goals as goal

pub returns-in_default : goal.returns-in_default
returns-in_default g c = rw c.in_default.is (refused refl)

pub returns : goal.returns
returns g c = search (rules, c.begin.ensures (g.M.Memory.meaning c.args.self.now.memory))
