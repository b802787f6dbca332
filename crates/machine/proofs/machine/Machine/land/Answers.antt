use Rattle.std.proofs.Common.{refl}
use Rattle.tables.proofs.Admission.{refused}
use Rattle.machine.proofs.machine.Machine.land.Goals as goal

pub returns-in_default : goal.returns-in_default
returns-in_default g c = rw c.in_default.is (refused refl)
