use Rattle.std.proofs.Common.{◌≡◌, true, sym}
use Rattle.protocol.specs.Settings.{in_range}
use Rattle.protocol.proofs.PlacedMemory.{ranges}
use Rattle.tables.proofs.LayoutFacts.{last_highs}
use Rattle.tables.proofs.layout.Layout.new.Goals as goal

pub invariant_of-result : goal.invariant_of-result
invariant_of-result c =
    let z = c.args.settings in
    let e : in_range z ≡ true = sym c.if-not-in_range.ensures in
    let r = ranges z e in
    let last = last_highs z e in
    record { lawful = e; threads_high = r.threads; hazards_high = r.hazards; cells_high = r.cells; roots_high = r.roots; nodes_high = last.0; places_high = last.1 }
