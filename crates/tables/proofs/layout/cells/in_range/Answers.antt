use Rattle.std.proofs.Common.{arith}
use Rattle.std.proofs.lemmas.Grind.{common_steps}
use Rattle.tables.proofs.layout.cells.in_range.Goals as goal

pub returns-else-settings : goal.returns-else-settings
returns-else-settings c = grind (arith, common_steps)
