use Rattle.std.proofs.Common.{◌≡◌, false, not, refl, ap, arith, rules}
use Rattle.std.proofs.lemmas.Bool.{lt-ltb}
use Rattle.memory.specs.declared.refusal.Refusal.TheVariants.{WriteDue, ClockAtEnd}
use Rattle.memory.specs.Meaning.{ticked}
use Rattle.memory.proofs.Passing.{both_pass}
use Rattle.memory.proofs.shared_cells.SharedCells.tick.Goals as goal

pub returns : goal.returns
unfolding ticked
returns c lands waiting =
    let none_due : c.args.write_due ≡ false = search rules in
    record { passes = both_pass ClockAtEnd WriteDue (lt-ltb c.args.self.now.clock 1000000 (omega arith)) (ap not none_due); does = refl }
