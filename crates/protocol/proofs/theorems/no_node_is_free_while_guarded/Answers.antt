use Rattle.protocol.proofs.Guards.{no_node_free_while_guarded}
use Rattle.protocol.proofs.theorems.no_node_is_free_while_guarded.Goals as goal

pub returns : goal.returns
returns c = no_node_free_while_guarded
