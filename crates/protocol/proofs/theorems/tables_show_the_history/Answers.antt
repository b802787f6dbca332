use Rattle.protocol.proofs.ShownKeeps.{tables_show}
use Rattle.protocol.proofs.theorems.tables_show_the_history.Goals as goal

pub returns : goal.returns
returns c = tables_show
