-- Settings in range, by the tests that they pass. Assumes nothing.
use Rattle.std.proofs.Common.{◌≡◌, ◌<◌, ◌≤◌, true, leb, ltb}
use Rattle.std.proofs.lemmas.Bool.{leb-true, and_parts}
use Rattle.protocol.specs.declared.settings.Settings.{Settings}
use Rattle.protocol.specs.Settings.{in_range, within, hazard_cells}

pub some_hazards : (z : Settings) → in_range z ≡ true → 0 < z.hazards
some_hazards z e =
    let threads = and_parts (within 2 8 z.threads) _ e in
    let hazards = and_parts (within 1 4 z.hazards) _ threads.1 in
    leb-true 1 z.hazards (and_parts (leb 1 z.hazards) (leb z.hazards 4) hazards.0).0

pub last_highs : (z : Settings) → in_range z ≡ true → (z.nodes ≤ 64) × (z.places ≤ 48)
last_highs z e =
    let threads = and_parts (within 2 8 z.threads) _ e in
    let hazards = and_parts (within 1 4 z.hazards) _ threads.1 in
    let roots = and_parts (within 1 8 z.roots) _ hazards.1 in
    let nodes = and_parts (within 1 64 z.nodes) _ roots.1 in
    let places = and_parts (ltb (hazard_cells z) z.places) _ nodes.1 in
    (leb-true z.nodes 64 (and_parts (leb 1 z.nodes) (leb z.nodes 64) nodes.0).1, leb-true z.places 48 places.1)
