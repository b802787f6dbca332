-- The machine's tables. Assumes nothing.
use Rattle.std.specs.Prelude.{ℕ, ◌+◌, Bool, false, List, [], replicate, Option, slice_index_or}
use Rattle.memory.specs.Meaning.{Meaning}
use Rattle.protocol.specs.declared.node.NodeState.{NodeState}
use Rattle.protocol.specs.declared.node.NodeState.TheVariants.{Free}
use Rattle.protocol.specs.declared.operation.Operation.{Operation}
use Rattle.protocol.specs.declared.operation.Operation.TheVariants.{Protect, Copy, Release, Publish, Remove, Reclaim, OwnerLock, OwnerUnlock, OtherLock, OtherUnlock}
use Rattle.protocol.specs.declared.retired.Retired.{Retired}
use Rattle.protocol.specs.declared.settings.Settings.{Settings}

-- Where a thread is: its operation, its next step, and what it has kept so far.
--   r a root, h, a and b hazard indices, n a node, v a version, now and note clocks, seen the hazard cells loaded so far
pub data Point : Type 0 where
  idle : Point
  protect1 : (r h : ℕ) → Point
  protect2 : (r h n : ℕ) → Point
  protect3 : (r h n : ℕ) → Point
  protect4 : (r h : ℕ) → Point
  copy1 : (a b : ℕ) → Point
  release1 : (a : ℕ) → Point
  publish1 : (r n : ℕ) → Point
  remove1 : (r : ℕ) → Point
  remove2 : (r n : ℕ) → Point
  remove3 : (r n : ℕ) → Point
  reclaim1 : Point
  reclaim2 : (now : ℕ) (seen : List ℕ) → Point
  reclaim3 : (now : ℕ) (seen : List ℕ) → Point
  owner_lock1 : Point
  owner_lock2 : Point
  owner_lock3 : (v : ℕ) → Point
  owner_lock4 : Point
  owner_lock5 : Point
  owner_unlock1 : Point
  owner_unlock2 : Point
  owner_unlock3 : Point
  owner_unlock4 : Point
  other_lock1 : Point
  other_lock2 : Point
  other_lock3 : (v : ℕ) → Point
  other_lock4 : (v : ℕ) → Point
  other_lock5 : (v : ℕ) → Point
  other_lock6 : (v note : ℕ) → Point
  other_lock7 : (v note : ℕ) → Point
  other_lock8 : (v : ℕ) → Point
  other_unlock1 : Point
  other_unlock2 : (v : ℕ) → Point
  other_unlock3 : Point

-- an operation with its next step, or none
pub data Doing : Type 0 where
  nothing : Doing
  busy : (o : Operation) (step : ℕ) → Doing

abbrev pub doing_at : Point → Doing
doing_at idle = nothing
doing_at (protect1 r h) = busy (Protect r h) 1
doing_at (protect2 r h n) = busy (Protect r h) 2
doing_at (protect3 r h n) = busy (Protect r h) 3
doing_at (protect4 r h) = busy (Protect r h) 4
doing_at (copy1 a b) = busy (Copy a b) 1
doing_at (release1 a) = busy (Release a) 1
doing_at (publish1 r n) = busy (Publish r n) 1
doing_at (remove1 r) = busy (Remove r) 1
doing_at (remove2 r n) = busy (Remove r) 2
doing_at (remove3 r n) = busy (Remove r) 3
doing_at reclaim1 = busy Reclaim 1
doing_at (reclaim2 now seen) = busy Reclaim 2
doing_at (reclaim3 now seen) = busy Reclaim 3
doing_at owner_lock1 = busy OwnerLock 1
doing_at owner_lock2 = busy OwnerLock 2
doing_at (owner_lock3 v) = busy OwnerLock 3
doing_at owner_lock4 = busy OwnerLock 4
doing_at owner_lock5 = busy OwnerLock 5
doing_at owner_unlock1 = busy OwnerUnlock 1
doing_at owner_unlock2 = busy OwnerUnlock 2
doing_at owner_unlock3 = busy OwnerUnlock 3
doing_at owner_unlock4 = busy OwnerUnlock 4
doing_at other_lock1 = busy OtherLock 1
doing_at other_lock2 = busy OtherLock 2
doing_at (other_lock3 v) = busy OtherLock 3
doing_at (other_lock4 v) = busy OtherLock 4
doing_at (other_lock5 v) = busy OtherLock 5
doing_at (other_lock6 v note) = busy OtherLock 6
doing_at (other_lock7 v note) = busy OtherLock 7
doing_at (other_lock8 v) = busy OtherLock 8
doing_at other_unlock1 = busy OtherUnlock 1
doing_at (other_unlock2 v) = busy OtherUnlock 2
doing_at other_unlock3 = busy OtherUnlock 3

pub record Thread : Type 0 where
  pub point : Point
  -- the node that each hazard index guards, 0 for none
  pub guards : List ℕ
  -- retired nodes with their dates, oldest first
  pub retired : List Retired
  pub inside : Bool

pub record Tables : Type 0 where
  pub settings : Settings
  pub threads : List Thread
  -- by number; place 0 stands for no node and stays free
  pub nodes : List NodeState
  -- accepted calls, set-up not counted
  pub accepted : ℕ

-- a machine: its tables once it is set up, and what its memory means
pub record State : Type 0 where
  pub tables : Option Tables
  pub memory : Meaning

abbrev pub idle_thread : ℕ → Thread
idle_thread hazards = record { point = idle; guards = replicate hazards 0; retired = []; inside = false }

-- a thread out of range is idle
abbrev pub thread_of : Tables → ℕ → Thread
thread_of x t = slice_index_or x.threads t (idle_thread 0)

abbrev pub node_of : Tables → ℕ → NodeState
node_of x n = slice_index_or x.nodes n Free

-- all nodes free, all threads idle, no guard, every list empty, nobody inside
abbrev pub first_tables : Settings → Tables
first_tables s =
    record {
      settings = s;
      threads = replicate s.threads (idle_thread s.hazards);
      nodes = replicate (s.nodes + 1) Free;
      accepted = 0;
    }
