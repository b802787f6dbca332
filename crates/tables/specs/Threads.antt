-- What a thread's row means, and when it fits the settings. Assumes nothing.
use Rattle.std.specs.Prelude.{ℕ, Bool, true, cond, ◌&&◌, List, length, Some, None, Option, ◌==◌, nat_lt}
use Rattle.protocol.specs.declared.answer.Answer.{Answer}
use Rattle.protocol.specs.declared.node.NodeState.{NodeState}
use Rattle.protocol.specs.declared.operation.Operation.{Operation}
use Rattle.protocol.specs.declared.operation.Operation.TheVariants.{Protect, Copy, Release, Publish, Remove, Reclaim, OwnerLock, OwnerUnlock, OtherLock, OtherUnlock}
use Rattle.protocol.specs.declared.settings.Settings.{Settings}
use Rattle.protocol.specs.Begin.{fits}
use Rattle.protocol.specs.Settings.{hazard_cells}
use Rattle.protocol.specs.Steps.{Here, Outcome}
use Rattle.protocol.specs.Tables.{Point, Thread as Row, idle, protect1, protect2, protect3, protect4, copy1, release1, publish1, remove1, remove2, remove3, reclaim1, reclaim2, reclaim3, owner_lock1, owner_lock2, owner_lock3, owner_lock4, owner_lock5, owner_unlock1, owner_unlock2, owner_unlock3, owner_unlock4, other_lock1, other_lock2, other_lock3, other_lock4, other_lock5, other_lock6, other_lock7, other_lock8, other_unlock1, other_unlock2, other_unlock3}
use Rattle.tables.specs.declared.context.Context.{Context}
use Rattle.dated.specs.declared.fixed_row.FixedRow.{FixedRow}
use Rattle.tables.specs.declared.thread.Thread.{Thread}
use Rattle.tables.specs.Rows.{guards_of, list_of, loaded_of, states_of}

-- The point at which a thread is: its operation and step, with what it has kept. A number beyond the last step stands for the last.
abbrev pub point_of : Option Operation → (step node version clock : ℕ) → List ℕ → Point
point_of None s n v c l = idle
point_of (Some (Protect r h)) s n v c l = cond (s == 1) (protect1 r h) (cond (s == 2) (protect2 r h n) (cond (s == 3) (protect3 r h n) (protect4 r h)))
point_of (Some (Copy a b)) s n v c l = copy1 a b
point_of (Some (Release a)) s n v c l = release1 a
point_of (Some (Publish r m)) s n v c l = publish1 r m
point_of (Some (Remove r)) s n v c l = cond (s == 1) (remove1 r) (cond (s == 2) (remove2 r n) (remove3 r n))
point_of (Some Reclaim) s n v c l = cond (s == 1) reclaim1 (cond (s == 2) (reclaim2 c l) (reclaim3 c l))
point_of (Some OwnerLock) s n v c l = cond (s == 1) owner_lock1 (cond (s == 2) owner_lock2 (cond (s == 3) (owner_lock3 v) (cond (s == 4) owner_lock4 owner_lock5)))
point_of (Some OwnerUnlock) s n v c l = cond (s == 1) owner_unlock1 (cond (s == 2) owner_unlock2 (cond (s == 3) owner_unlock3 owner_unlock4))
point_of (Some OtherLock) s n v c l =
    cond (s == 1) other_lock1
    (cond (s == 2) other_lock2
    (cond (s == 3) (other_lock3 v)
    (cond (s == 4) (other_lock4 v)
    (cond (s == 5) (other_lock5 v)
    (cond (s == 6) (other_lock6 v c)
    (cond (s == 7) (other_lock7 v c) (other_lock8 v)))))))
point_of (Some OtherUnlock) s n v c l = cond (s == 1) other_unlock1 (cond (s == 2) (other_unlock2 v) other_unlock3)

abbrev pub last_step : Operation → ℕ
last_step (Protect r h) = 4
last_step (Copy a b) = 1
last_step (Release a) = 1
last_step (Publish r m) = 1
last_step (Remove r) = 3
last_step Reclaim = 3
last_step OwnerLock = 5
last_step OwnerUnlock = 4
last_step OtherLock = 8
last_step OtherUnlock = 3

abbrev pub at : Thread → Point
at t = point_of t.operation t.step t.node t.version t.clock (loaded_of t.loaded)

abbrev pub row_of : Thread → Row
row_of t = record { point = at t; guards = guards_of t.guards; retired = list_of t.retired; inside = t.inside }

abbrev pub here_at : Context → Thread → List NodeState → Here
here_at x t ns = record { settings = x.layout.settings; bound = x.bound; thread = x.thread; own = row_of t; nodes = ns }

abbrev pub outcome_of : Thread → FixedRow NodeState 65 → Answer → Outcome
outcome_of t ns a = record { own = row_of t; nodes = states_of ns; answer = a }

-- a step that goes on, and one that ends
abbrev pub on_step : ℕ → Thread → Thread
on_step n t =
    record {
      operation = t.operation;
      step = n;
      node = t.node;
      version = t.version;
      clock = t.clock;
      loaded = t.loaded;
      guards = t.guards;
      retired = t.retired;
      inside = t.inside;
    }

abbrev pub ended : Thread → Thread
ended t =
    record {
      operation = None;
      step = t.step;
      node = t.node;
      version = t.version;
      clock = t.clock;
      loaded = t.loaded;
      guards = t.guards;
      retired = t.retired;
      inside = t.inside;
    }

-- the operation's first step comes next
abbrev pub begins : Operation → Thread → Thread
begins o t =
    record {
      operation = Some o;
      step = 1;
      node = t.node;
      version = t.version;
      clock = t.clock;
      loaded = t.loaded;
      guards = t.guards;
      retired = t.retired;
      inside = t.inside;
    }

-- Fitting: the arguments are in range, a remove has a place in the list, and a reclaim that loads has a cell left to load.

abbrev pub room_for : Settings → ℕ → Operation → Bool
room_for z n (Protect r h) = true
room_for z n (Copy a b) = true
room_for z n (Release a) = true
room_for z n (Publish r m) = true
room_for z n (Remove r) = nat_lt n z.places
room_for z n Reclaim = true
room_for z n OwnerLock = true
room_for z n OwnerUnlock = true
room_for z n OtherLock = true
room_for z n OtherUnlock = true

abbrev pub cell_left : Settings → ℕ → ℕ → Operation → Bool
cell_left z s n (Protect r h) = true
cell_left z s n (Copy a b) = true
cell_left z s n (Release a) = true
cell_left z s n (Publish r m) = true
cell_left z s n (Remove r) = true
cell_left z s n Reclaim = cond (s == 2) (nat_lt n (hazard_cells z)) true
cell_left z s n OwnerLock = true
cell_left z s n OwnerUnlock = true
cell_left z s n OtherLock = true
cell_left z s n OtherUnlock = true

abbrev pub fitting_of : Settings → Option Operation → (step loaded listed : ℕ) → Bool
fitting_of z None s k n = true
fitting_of z (Some o) s k n = fits z o && (room_for z n o && cell_left z s k o)

abbrev pub fitting : Settings → Thread → Bool
fitting z t = fitting_of z t.operation t.step (length (loaded_of t.loaded)) (length (list_of t.retired))
