-- The tables of a machine that has just been set up. Assumes nothing.
use Rattle.std.proofs.Common.{◌≡◌, ◌+◌, ◌≤◌, List, take, replicate, refl}
use Rattle.std.proofs.lemmas.List.{take-replicate}
use Rattle.protocol.specs.declared.node.NodeState.{NodeState}
use Rattle.protocol.specs.declared.node.NodeState.TheVariants.{Free}
use Rattle.protocol.specs.declared.settings.Settings.{Settings}
use Rattle.protocol.specs.Tables.{Tables, Thread, idle_thread, first_tables}

abbrev fresh : Settings → List Thread → List NodeState → Tables
fresh z ts ns = record { settings = z; threads = ts; nodes = ns; accepted = 0 }

pub first_tables_lem : (z : Settings) (row : Thread) (ns : List NodeState) → z.threads ≤ 8 → row ≡ idle_thread z.hazards → ns ≡ replicate (z.nodes + 1) Free → fresh z (take z.threads (replicate 8 row)) ns ≡ first_tables z
first_tables_lem z row ns le e f =
    rw (e, f, take-replicate z.threads 8 (idle_thread z.hazards) le) refl
