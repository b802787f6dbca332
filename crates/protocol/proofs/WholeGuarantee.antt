-- The whole guarantee, from its parts. Assumes nothing.
use Rattle.protocol.specs.AllGuarantees.{AllTheGuarantees}
use Rattle.protocol.specs.Guarantees.{TheGuarantees}
use Rattle.protocol.proofs.Exclusion.{at_most_one_inside}
use Rattle.protocol.proofs.Guards.{no_node_free_while_guarded, lists_in_order}
use Rattle.protocol.proofs.LateSweeps.{a_late_sweep_leaves_a_short_list}
use Rattle.protocol.proofs.NumbersFit.{numbers_fit}
use Rattle.protocol.proofs.OnePlace.{every_node_in_one_place, every_node_has_its_thread}

pub the_guarantees : TheGuarantees
the_guarantees h s w =
    record {
      guarded = no_node_free_while_guarded h s w;
      placed = every_node_in_one_place h s w;
      alone = at_most_one_inside h s w;
      ordered = lists_in_order h s w;
      short = a_late_sweep_leaves_a_short_list h s w;
    }

pub all_the_guarantees : AllTheGuarantees
all_the_guarantees h s w =
    record {
      guarantees = the_guarantees h s w;
      threads = every_node_has_its_thread h s w;
      fits = (numbers_fit h s w).0;
      few = (numbers_fit h s w).1;
    }
