use Rattle.protocol.proofs.OnePlace.{every_node_in_one_place}
use Rattle.protocol.proofs.theorems.every_node_is_in_one_place.Goals as goal

pub returns : goal.returns
returns c = every_node_in_one_place
