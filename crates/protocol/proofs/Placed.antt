-- The invariant of the tables for nodes: where each node is, over the tables and the memory alone. Assumes nothing.
use Rattle.std.proofs.Common.{◌≡◌, ℕ, ◌+◌, ◌<◌, ◌≤◌, true, cond, length, Some}
use Rattle.std.specs.List.{AllByRecursion}
use Rattle.memory.specs.declared.write.Write.{Write}
use Rattle.memory.specs.Calls.{Sound}
use Rattle.memory.specs.Meaning.{Meaning, queue, cell}
use Rattle.protocol.specs.declared.node.NodeState.TheVariants.{Free, Taken, Published, Removed}
use Rattle.protocol.specs.declared.retired.Retired.{Retired}
use Rattle.protocol.specs.declared.settings.Settings.{Settings}
use Rattle.protocol.specs.Guarantees.{retired_in}
use Rattle.protocol.specs.History.{names}
use Rattle.protocol.specs.Settings.{in_range, hazard_cells}
use Rattle.protocol.specs.Tables.{Point, Tables, State, thread_of, node_of, idle, protect1, protect2, protect3, protect4, copy1, release1, publish1, remove1, remove2, remove3, reclaim1, reclaim2, reclaim3, owner_lock1, owner_lock2, owner_lock3, owner_lock4, owner_lock5, owner_unlock1, owner_unlock2, owner_unlock3, owner_unlock4, other_lock1, other_lock2, other_lock3, other_lock4, other_lock5, other_lock6, other_lock7, other_lock8, other_unlock1, other_unlock2, other_unlock3}

-- the arguments and registers of a point are in range
abbrev pub FitsAt : Settings → Point → Type 0
FitsAt s idle = Unit {0}
FitsAt s (protect1 r h) = (r < s.roots) × (h < s.hazards)
FitsAt s (protect2 r h n) = (r < s.roots) × (h < s.hazards) × (0 < n)
FitsAt s (protect3 r h n) = (r < s.roots) × (h < s.hazards) × (0 < n)
FitsAt s (protect4 r h) = (r < s.roots) × (h < s.hazards)
FitsAt s (copy1 a b) = (a < b) × (b < s.hazards)
FitsAt s (release1 a) = a < s.hazards
FitsAt s (publish1 r n) = (r < s.roots) × (0 < n) × (n ≤ s.nodes)
FitsAt s (remove1 r) = r < s.roots
FitsAt s (remove2 r n) = (r < s.roots) × (0 < n)
FitsAt s (remove3 r n) = (r < s.roots) × (0 < n) × (n ≤ s.nodes)
FitsAt s reclaim1 = Unit {0}
FitsAt s (reclaim2 now seen) = length seen < hazard_cells s
FitsAt s (reclaim3 now seen) = length seen ≡ hazard_cells s
FitsAt s owner_lock1 = Unit {0}
FitsAt s owner_lock2 = Unit {0}
FitsAt s (owner_lock3 v) = Unit {0}
FitsAt s owner_lock4 = Unit {0}
FitsAt s owner_lock5 = Unit {0}
FitsAt s owner_unlock1 = Unit {0}
FitsAt s owner_unlock2 = Unit {0}
FitsAt s owner_unlock3 = Unit {0}
FitsAt s owner_unlock4 = Unit {0}
FitsAt s other_lock1 = Unit {0}
FitsAt s other_lock2 = Unit {0}
FitsAt s (other_lock3 v) = Unit {0}
FitsAt s (other_lock4 v) = Unit {0}
FitsAt s (other_lock5 v) = Unit {0}
FitsAt s (other_lock6 v note) = Unit {0}
FitsAt s (other_lock7 v note) = Unit {0}
FitsAt s (other_lock8 v) = Unit {0}
FitsAt s other_unlock1 = Unit {0}
FitsAt s (other_unlock2 v) = Unit {0}
FitsAt s other_unlock3 = Unit {0}

-- the shape of the tables
pub record Shaped (x : Tables) : Type 0 where
  pub range : in_range x.settings ≡ true
  pub threads : length x.threads ≡ x.settings.threads
  pub nodes : length x.nodes ≡ x.settings.nodes + 1
  pub guards : (t : ℕ) → t < x.settings.threads → length (thread_of x t).guards ≡ x.settings.hazards
  pub fits : (t : ℕ) → FitsAt x.settings (thread_of x t).point

pub record Placed (x : Tables) (m : Meaning) : Type 0 where
  pub shape : Shaped x
  pub sound : Sound m
  -- roots are written by exchanges alone
  pub writes : (t : ℕ) → AllByRecursion (λ (w : Write). x.settings.roots ≤ w.cell) (queue m t)
  pub none : node_of x 0 ≡ Free
  pub rooted : (r : ℕ) → r < x.settings.roots → 0 < cell m r → node_of x (cell m r) ≡ Published r
  pub published : (n r : ℕ) → node_of x n ≡ Published r → (r < x.settings.roots) × (cell m r ≡ n)
  pub taking : (t r n : ℕ) → (thread_of x t).point ≡ publish1 r n → node_of x n ≡ Taken t
  pub removing : (t r n : ℕ) → (thread_of x t).point ≡ remove3 r n → node_of x n ≡ Removed t
  pub listed : (n t : ℕ) → 0 < n → names n (thread_of x t).retired ≡ cond (retired_in (node_of x n) t) 1 0
  pub real : (t : ℕ) → AllByRecursion (λ (e : Retired). 0 < e.node) (thread_of x t).retired
  pub dates : (t : ℕ) → AllByRecursion (λ (e : Retired). e.date ≤ m.clock) (thread_of x t).retired

-- the invariant of a state: nothing is asked of the tables before set-up
pub record Inv (s : State) : Type 0 where
  pub sound : Sound s.memory
  pub placed : (x : Tables) → s.tables ≡ Some x → Placed x s.memory
