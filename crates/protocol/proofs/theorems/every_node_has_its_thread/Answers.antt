use Rattle.protocol.proofs.OnePlace.{every_node_has_its_thread}
use Rattle.protocol.proofs.theorems.every_node_has_its_thread.Goals as goal

pub returns : goal.returns
returns c = every_node_has_its_thread
