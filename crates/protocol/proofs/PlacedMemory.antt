-- What the memory does by itself keeps the invariant of the tables for nodes. Assumes nothing.
use Rattle.std.proofs.Common.{◌≡◌, ℕ, ◌+◌, ◌*◌, ◌<◌, ◌≤◌, true, ◌&&◌, ltb, leb, length, refl, ◌∙◌, mul_comm, mul-le-mul, mul-add, arith}
use Rattle.std.proofs.ByRecursion.{All-weaker}
use Rattle.std.proofs.lemmas.Bool.{and_parts, leb-true}
use Rattle.memory.specs.Calls.{Sound}
use Rattle.memory.specs.Landings.{Lands}
use Rattle.memory.specs.Meaning.{Meaning, queue, stored, landed, exchanged, ticked}
use Rattle.memory.proofs.Soundness.{landed_sound, stored_sound, exchanged_sound, ticked_sound}
use Rattle.memory.proofs.Views.{lands_keep}
use Rattle.protocol.specs.declared.retired.Retired.{Retired}
use Rattle.protocol.specs.declared.settings.Settings.{Settings}
use Rattle.protocol.specs.Settings.{in_range, within, hazard_cells, hazard_cell, lock_cell}
use Rattle.protocol.specs.Tables.{Tables, thread_of}
use Rattle.protocol.proofs.BoundStays.{onward_landed, onward_stored, onward_exchanged, onward_ticked}
use Rattle.protocol.proofs.Placed.{Placed}
use Rattle.protocol.proofs.RootCells.{Below, below_landed, below_stored, below_exchanged, below_ticked}

-- the ranges of the settings
pub record Ranges (z : Settings) : Type 0 where
  pub threads : z.threads ≤ 8
  pub hazards : z.hazards ≤ 4
  pub roots : z.roots ≤ 8
  pub cells : hazard_cells z ≤ 32
  pub some : 0 < hazard_cells z

-- the tests of the range, one by one
record Within (z : Settings) : Type 0 where
  threads : within 2 8 z.threads ≡ true
  hazards : within 1 4 z.hazards ≡ true
  roots : within 1 8 z.roots ≡ true
  nodes : within 1 64 z.nodes ≡ true

within_range : (z : Settings) → in_range z ≡ true → Within z
within_range z e =
    let a = and_parts (within 2 8 z.threads) (within 1 4 z.hazards && (within 1 8 z.roots && (within 1 64 z.nodes && (ltb (hazard_cells z) z.places && leb z.places 48)))) e in
    let b = and_parts (within 1 4 z.hazards) (within 1 8 z.roots && (within 1 64 z.nodes && (ltb (hazard_cells z) z.places && leb z.places 48))) a.1 in
    let c = and_parts (within 1 8 z.roots) (within 1 64 z.nodes && (ltb (hazard_cells z) z.places && leb z.places 48)) b.1 in
    let d = and_parts (within 1 64 z.nodes) (ltb (hazard_cells z) z.places && leb z.places 48) c.1 in
    record { threads = a.0; hazards = b.0; roots = c.0; nodes = d.0 }

pub ranges : (z : Settings) → in_range z ≡ true → Ranges z
ranges z e =
    let w = within_range z e in
    let t : z.threads ≤ 8 = leb-true z.threads 8 (and_parts (leb 2 z.threads) (leb z.threads 8) w.threads).1 in
    let h : z.hazards ≤ 4 = leb-true z.hazards 4 (and_parts (leb 1 z.hazards) (leb z.hazards 4) w.hazards).1 in
    let u : 2 ≤ z.threads = leb-true 2 z.threads (and_parts (leb 2 z.threads) (leb z.threads 8) w.threads).0 in
    let i : 1 ≤ z.hazards = leb-true 1 z.hazards (and_parts (leb 1 z.hazards) (leb z.hazards 4) w.hazards).0 in
    record {
      threads = t;
      hazards = h;
      roots = leb-true z.roots 8 (and_parts (leb 1 z.roots) (leb z.roots 8) w.roots).1;
      cells = mul-le-mul t h;
      some = let few : 2 * 1 ≤ z.threads * z.hazards = mul-le-mul u i in omega arith;
    }

pub nodes_high : (z : Settings) → in_range z ≡ true → z.nodes ≤ 64
nodes_high z e = leb-true z.nodes 64 (and_parts (leb 1 z.nodes) (leb z.nodes 64) (within_range z e).nodes).1

-- the hazard cells stand below the lock's cells
pub hazard_below : (z : Settings) (t h : ℕ) → t < z.threads → h < z.hazards → hazard_cell z t h < lock_cell z
hazard_below z t h lt lh =
    let a : z.hazards * (t + 1) ≤ z.hazards * z.threads = mul-le-mul (omega arith) (omega arith) in
    let b = mul-add z.hazards t 1 in
    let c = mul_comm z.hazards z.threads in
    omega arith

-- and are cells
pub hazard_inside : (z : Settings) (t h : ℕ) → Ranges z → t < z.threads → h < z.hazards → hazard_cell z t h < 64
hazard_inside z t h g lt lh = let a = hazard_below z t h lt lh in let b = g.roots in let c = g.cells in omega arith

pub placed_below : (x : Tables) (m : Meaning) → Placed x m → Below x.settings.roots m m
placed_below x m p = record { cells = λ r lt. refl; writes = p.writes }

-- what does not touch the roots
pub memory_moves : (x : Tables) (m m' : Meaning) → Placed x m → Sound m' → Below x.settings.roots m m' → m.clock ≤ m'.clock → Placed x m'
memory_moves x m m' p s b later =
    record {
      shape = p.shape;
      sound = s;
      writes = b.writes;
      none = p.none;
      rooted = λ r lt pos. rw (b.cells r lt) (p.rooted r lt (rw (b.cells r lt) at pos));
      published = λ n r e. let q = p.published n r e in (q.0, b.cells r q.0 ∙ q.1);
      taking = p.taking;
      removing = p.removing;
      listed = p.listed;
      real = p.real;
      dates = λ t. All-weaker (λ (e : Retired). e.date ≤ m.clock) (λ (e : Retired). e.date ≤ m'.clock) (λ e h. omega arith) (thread_of x t).retired (p.dates t);
    }

pub landed_placed : (x : Tables) (t : ℕ) (m : Meaning) → Placed x m → Placed x (landed t m)
landed_placed x t m p =
    memory_moves x m (landed t m) p (landed_sound t m p.sound) (below_landed x.settings.roots m t m (placed_below x m p)) (onward_landed t m).clock

pub lands_placed : (x : Tables) {m m' : Meaning} → Lands m m' → Placed x m → Placed x m'
lands_placed x l p = lands_keep (Placed x) (landed_placed x) l p

-- a store to a cell that is no root
pub stored_placed : (x : Tables) (t c v : ℕ) (m : Meaning) → t < 8 → x.settings.roots ≤ c → c < 64 → length (queue m t) < 8 → Placed x m → Placed x (stored t c v m)
stored_placed x t c v m lt off inside few p =
    let within : t < length m.waiting = let e = p.sound.threads in omega arith in
    memory_moves x m (stored t c v m) p (stored_sound t c v m lt inside few p.sound) (below_stored x.settings.roots m t c v m within off (placed_below x m p))
    (onward_stored t c v m).clock

-- an exchange of a cell that is no root
pub exchanged_placed : (x : Tables) (c old new : ℕ) (m : Meaning) → x.settings.roots ≤ c → Placed x m → Placed x (exchanged c old new m)
exchanged_placed x c old new m off p =
    memory_moves x m (exchanged c old new m) p (exchanged_sound c old new m p.sound) (below_exchanged x.settings.roots m c old new m off (placed_below x m p)) (onward_exchanged c old new m).clock

pub ticked_placed : (x : Tables) (m : Meaning) → m.clock < 1000000 → Placed x m → Placed x (ticked m)
ticked_placed x m lt p = memory_moves x m (ticked m) p (ticked_sound m lt p.sound) (below_ticked x.settings.roots m m (placed_below x m p)) (onward_ticked m).clock
