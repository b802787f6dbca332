-- The ten operations, step by step: what each step asks of the memory, and what it does with what the memory told. One
-- definition for each step. Assumes nothing.
use Rattle.std.specs.Prelude.{ℕ, ◌+◌, ◌*◌, ◌/◌, ◌%◌, ◌^◌, Bool, true, false, cond, not, ◌||◌, List, [], ◌∷◌, ◌++◌, length, filter, ◌==◌, nat_eq, nat_lt, slice_index, slice_set}
use Rattle.memory.specs.Meaning.{any_of}
use Rattle.protocol.specs.declared.answer.Answer.{Answer}
use Rattle.protocol.specs.declared.answer.Answer.TheVariants.{Done, GoingOn, Ended, Empty, Moved, Occupied}
use Rattle.protocol.specs.declared.node.NodeState.{NodeState}
use Rattle.protocol.specs.declared.node.NodeState.TheVariants.{Free, Published, Removed, Retired as RetiredBy}
use Rattle.protocol.specs.declared.retired.Retired.{Retired}
use Rattle.protocol.specs.declared.settings.Settings.{Settings}
use Rattle.protocol.specs.Settings.{hazard_cells, root_cell, hazard_cell, lock_cell, flag0_cell, flag1_cell}
use Rattle.protocol.specs.Tables.{Point, Thread, idle, protect1, protect2, protect3, protect4, copy1, release1, publish1, remove1, remove2, remove3, reclaim1, reclaim2, reclaim3, owner_lock1, owner_lock2, owner_lock3, owner_lock4, owner_lock5, owner_unlock1, owner_unlock2, owner_unlock3, owner_unlock4, other_lock1, other_lock2, other_lock3, other_lock4, other_lock5, other_lock6, other_lock7, other_lock8, other_unlock1, other_unlock2, other_unlock3}

-- what a step asks of the memory
pub data Request : Type 0 where
  asks_load : (c : ℕ) → Request
  asks_store : (c v : ℕ) → Request
  asks_exchange : (c old new : ℕ) → Request
  asks_clock : Request
  asks_fence : Request
  asks_nothing : Request

-- what the memory told in a call
pub data Told : Type 0 where
  told_nothing : Told
  told_clock : (n : ℕ) → Told
  told_value : (v : ℕ) → Told
  told_done : (b : Bool) → Told

abbrev pub clock_told : Told → ℕ
clock_told told_nothing = 0
clock_told (told_clock n) = n
clock_told (told_value v) = 0
clock_told (told_done b) = 0

abbrev pub value_told : Told → ℕ
value_told told_nothing = 0
value_told (told_clock n) = 0
value_told (told_value v) = v
value_told (told_done b) = 0

abbrev pub done_told : Told → Bool
done_told told_nothing = false
done_told (told_clock n) = false
done_told (told_value v) = false
done_told (told_done b) = b

-- what a step sees: the settings, the memory's bound, the thread's number and row, and the nodes
pub record Here : Type 0 where
  pub settings : Settings
  pub bound : ℕ
  pub thread : ℕ
  pub own : Thread
  pub nodes : List NodeState

-- what a step leaves
pub record Outcome : Type 0 where
  pub own : Thread
  pub nodes : List NodeState
  pub answer : Answer

-- Changes of a thread's row.

abbrev pub moved_to : Point → Thread → Thread
moved_to p r = record { point = p; guards = r.guards; retired = r.retired; inside = r.inside }

abbrev pub guarding : ℕ → ℕ → Thread → Thread
guarding i n r = record { point = r.point; guards = slice_set r.guards i n; retired = r.retired; inside = r.inside }

abbrev pub listing : List Retired → Thread → Thread
listing l r = record { point = r.point; guards = r.guards; retired = l; inside = r.inside }

abbrev pub entering : Thread → Thread
entering r = record { point = r.point; guards = r.guards; retired = r.retired; inside = true }

abbrev pub leaving : Thread → Thread
leaving r = record { point = r.point; guards = r.guards; retired = r.retired; inside = false }

-- the operation goes on at the point, which is this step of it
abbrev pub goes_on : Here → Thread → List NodeState → Point → ℕ → Outcome
goes_on x r ns p n = record { own = moved_to p r; nodes = ns; answer = GoingOn n }

abbrev pub ends : Here → Thread → List NodeState → Answer → Outcome
ends x r ns a = record { own = moved_to idle r; nodes = ns; answer = a }

abbrev pub stays : Here → Point → ℕ → Outcome
stays x p n = goes_on x x.own x.nodes p n

abbrev pub stops : Here → Answer → Outcome
stops x a = ends x x.own x.nodes a

abbrev pub marked : ℕ → NodeState → List NodeState → List NodeState
marked n z ns = slice_set ns n z

abbrev pub guard_of : Thread → ℕ → ℕ
guard_of r i = slice_index r.guards i

-- a flag holds 2 × version + f
abbrev pub version_of : ℕ → ℕ
version_of w = w / 2

abbrev pub lowered : ℕ → Bool
lowered w = w % 2 == 0

-- a word of the memory has 64 bits
abbrev pub word : ℕ → ℕ
word n = n % 2 ^ 64

-- Protect root r in hazard h.

abbrev pub after_protect1 : Here → ℕ → ℕ → ℕ → Outcome
after_protect1 x r h v = cond (v == 0) (stops x Empty) (stays x (protect2 r h v) 2)

abbrev pub after_protect2 : Here → ℕ → ℕ → ℕ → Outcome
after_protect2 x r h n = stays x (protect3 r h n) 3

abbrev pub after_protect3 : Here → ℕ → ℕ → ℕ → ℕ → Outcome
after_protect3 x r h n v = cond (v == n) (ends x (guarding h n x.own) x.nodes (Ended n)) (stays x (protect4 r h) 4)

abbrev pub after_protect4 : Here → ℕ → ℕ → Outcome
after_protect4 x r h = stops x Moved

-- Copy guard a to hazard b, and release guard a.

abbrev pub after_copy1 : Here → ℕ → ℕ → Outcome
after_copy1 x a b = ends x (guarding b (guard_of x.own a) x.own) x.nodes (Ended (guard_of x.own a))

abbrev pub after_release1 : Here → ℕ → Outcome
after_release1 x a = ends x (guarding a 0 x.own) x.nodes (Ended 0)

-- Publish node n at root r.

abbrev pub after_publish1 : Here → ℕ → ℕ → Bool → Outcome
after_publish1 x r n done = cond done (ends x x.own (marked n (Published r) x.nodes) (Ended n)) (ends x x.own (marked n Free x.nodes) (Occupied n))

-- Remove from root r.

abbrev pub after_remove1 : Here → ℕ → ℕ → Outcome
after_remove1 x r v = cond (v == 0) (stops x Empty) (stays x (remove2 r v) 2)

abbrev pub after_remove2 : Here → ℕ → ℕ → Bool → Outcome
after_remove2 x r n done = cond done (goes_on x x.own (marked n (Removed x.thread) x.nodes) (remove3 r n) 3) (stops x Moved)

abbrev pub after_remove3 : Here → ℕ → ℕ → ℕ → Outcome
after_remove3 x r n d = ends x (listing (x.own.retired ++ record { node = n; date = d } ∷ []) x.own) (marked n (RetiredBy x.thread) x.nodes) (Ended n)

-- Reclaim.

-- a retirement is old enough at this clock
abbrev pub old : ℕ → ℕ → ℕ → Bool
old bound now date = nat_lt (date + bound) now

-- a sweep at the clock `now` that has loaded these cells keeps an entry that is not old, or that a cell named
abbrev pub keeps : ℕ → ℕ → List ℕ → Retired → Bool
keeps bound now seen e = not (old bound now e.date) || any_of (λ v. nat_eq v e.node) seen

abbrev pub kept : ℕ → ℕ → List ℕ → List Retired → List Retired
kept bound now seen l = filter (keeps bound now seen) l

abbrev pub freed : ℕ → ℕ → List ℕ → List Retired → List Retired
freed bound now seen l = filter (λ e. not (keeps bound now seen e)) l

abbrev pub freeing : List Retired → List NodeState → List NodeState
freeing [] ns = ns
freeing (e ∷ l) ns = freeing l (marked e.node Free ns)

abbrev pub after_reclaim1 : Here → ℕ → Outcome
after_reclaim1 x now = stays x (reclaim2 now []) 2

abbrev pub after_reclaim2 : Here → ℕ → List ℕ → ℕ → Outcome
after_reclaim2 x now seen v =
    cond
    (nat_lt (length seen + 1) (hazard_cells x.settings))
    (stays x (reclaim2 now (seen ++ v ∷ [])) 2)
    (stays x (reclaim3 now (seen ++ v ∷ [])) 3)

abbrev pub after_reclaim3 : Here → ℕ → List ℕ → Outcome
after_reclaim3 x now seen =
    ends x
    (listing (kept x.bound now seen x.own.retired) x.own)
    (freeing (freed x.bound now seen x.own.retired) x.nodes)
    (Ended (length (freed x.bound now seen x.own.retired)))

-- The owner's lock.

abbrev pub after_owner_lock1 : Here → Outcome
after_owner_lock1 x = stays x owner_lock2 2

abbrev pub after_owner_lock2 : Here → ℕ → Outcome
after_owner_lock2 x w = cond (lowered w) (ends x (entering x.own) x.nodes (Ended 0)) (stays x (owner_lock3 (version_of w)) 3)

abbrev pub after_owner_lock3 : Here → Outcome
after_owner_lock3 x = stays x owner_lock4 4

abbrev pub after_owner_lock4 : Here → Bool → Outcome
after_owner_lock4 x done = cond done (ends x (entering x.own) x.nodes (Ended 1)) (stays x owner_lock5 5)

abbrev pub after_owner_lock5 : Here → ℕ → Outcome
after_owner_lock5 x w = stays x (owner_lock3 (version_of w)) 3

abbrev pub after_owner_unlock1 : Here → ℕ → Outcome
after_owner_unlock1 x w = cond (lowered w) (stays x owner_unlock3 3) (stays x owner_unlock2 2)

abbrev pub after_owner_unlock2 : Here → Outcome
after_owner_unlock2 x = ends x (leaving x.own) x.nodes (Ended 0)

abbrev pub after_owner_unlock3 : Here → Outcome
after_owner_unlock3 x = goes_on x (leaving x.own) x.nodes owner_unlock4 4

abbrev pub after_owner_unlock4 : Here → Outcome
after_owner_unlock4 x = stops x (Ended 1)

-- The others' lock.

-- the wait of step 6 is over
abbrev pub waited : ℕ → ℕ → ℕ → Bool
waited bound note now = nat_lt (note + bound) now

abbrev pub after_other_lock1 : Here → Bool → Outcome
after_other_lock1 x done = cond done (stays x other_lock2 2) (stays x other_lock1 1)

abbrev pub after_other_lock2 : Here → ℕ → Outcome
after_other_lock2 x w = stays x (other_lock3 (version_of w + 1)) 3

abbrev pub after_other_lock3 : Here → ℕ → Outcome
after_other_lock3 x v = stays x (other_lock4 v) 4

abbrev pub after_other_lock4 : Here → ℕ → Outcome
after_other_lock4 x v = stays x (other_lock5 v) 5

abbrev pub after_other_lock5 : Here → ℕ → ℕ → Outcome
after_other_lock5 x v note = stays x (other_lock6 v note) 6

abbrev pub after_other_lock6 : Here → ℕ → ℕ → ℕ → Outcome
after_other_lock6 x v note now = cond (waited x.bound note now) (stays x (other_lock8 v) 8) (stays x (other_lock7 v note) 7)

abbrev pub after_other_lock7 : Here → ℕ → ℕ → ℕ → Outcome
after_other_lock7 x v note w = cond (version_of w == v) (stays x (other_lock8 v) 8) (stays x (other_lock6 v note) 6)

abbrev pub after_other_lock8 : Here → ℕ → ℕ → Outcome
after_other_lock8 x v w = cond (lowered w) (ends x (entering x.own) x.nodes (Ended 0)) (stays x (other_lock8 v) 8)

abbrev pub after_other_unlock1 : Here → ℕ → Outcome
after_other_unlock1 x w = stays x (other_unlock2 (version_of w)) 2

abbrev pub after_other_unlock2 : Here → Outcome
after_other_unlock2 x = goes_on x (leaving x.own) x.nodes other_unlock3 3

abbrev pub after_other_unlock3 : Here → Outcome
after_other_unlock3 x = stops x (Ended 0)

-- What the step at a point asks.
abbrev pub request : Here → Point → Request
request x idle = asks_nothing
request x (protect1 r h) = asks_load (root_cell x.settings r)
request x (protect2 r h n) = asks_store (hazard_cell x.settings x.thread h) n
request x (protect3 r h n) = asks_load (root_cell x.settings r)
request x (protect4 r h) = asks_store (hazard_cell x.settings x.thread h) 0
request x (copy1 a b) = asks_store (hazard_cell x.settings x.thread b) (guard_of x.own a)
request x (release1 a) = asks_store (hazard_cell x.settings x.thread a) 0
request x (publish1 r n) = asks_exchange (root_cell x.settings r) 0 n
request x (remove1 r) = asks_load (root_cell x.settings r)
request x (remove2 r n) = asks_exchange (root_cell x.settings r) n 0
request x (remove3 r n) = asks_clock
request x reclaim1 = asks_clock
request x (reclaim2 now seen) = asks_load (x.settings.roots + length seen)
request x (reclaim3 now seen) = asks_nothing
request x owner_lock1 = asks_store (flag0_cell x.settings) 1
request x owner_lock2 = asks_load (flag1_cell x.settings)
request x (owner_lock3 v) = asks_store (flag0_cell x.settings) (word (2 * v))
request x owner_lock4 = asks_exchange (lock_cell x.settings) 0 1
request x owner_lock5 = asks_load (flag1_cell x.settings)
request x owner_unlock1 = asks_load (flag0_cell x.settings)
request x owner_unlock2 = asks_store (flag0_cell x.settings) 0
request x owner_unlock3 = asks_store (flag0_cell x.settings) 0
request x owner_unlock4 = asks_store (lock_cell x.settings) 0
request x other_lock1 = asks_exchange (lock_cell x.settings) 0 (x.thread + 1)
request x other_lock2 = asks_load (flag1_cell x.settings)
request x (other_lock3 v) = asks_store (flag1_cell x.settings) (word (2 * v + 1))
request x (other_lock4 v) = asks_fence
request x (other_lock5 v) = asks_clock
request x (other_lock6 v note) = asks_clock
request x (other_lock7 v note) = asks_load (flag0_cell x.settings)
request x (other_lock8 v) = asks_load (flag0_cell x.settings)
request x other_unlock1 = asks_load (flag1_cell x.settings)
request x (other_unlock2 v) = asks_store (flag1_cell x.settings) (word (2 * (v + 1)))
request x other_unlock3 = asks_store (lock_cell x.settings) 0

-- What it does with what the memory told.
abbrev pub after : Here → Point → Told → Outcome
after x idle k = stops x Done
after x (protect1 r h) k = after_protect1 x r h (value_told k)
after x (protect2 r h n) k = after_protect2 x r h n
after x (protect3 r h n) k = after_protect3 x r h n (value_told k)
after x (protect4 r h) k = after_protect4 x r h
after x (copy1 a b) k = after_copy1 x a b
after x (release1 a) k = after_release1 x a
after x (publish1 r n) k = after_publish1 x r n (done_told k)
after x (remove1 r) k = after_remove1 x r (value_told k)
after x (remove2 r n) k = after_remove2 x r n (done_told k)
after x (remove3 r n) k = after_remove3 x r n (clock_told k)
after x reclaim1 k = after_reclaim1 x (clock_told k)
after x (reclaim2 now seen) k = after_reclaim2 x now seen (value_told k)
after x (reclaim3 now seen) k = after_reclaim3 x now seen
after x owner_lock1 k = after_owner_lock1 x
after x owner_lock2 k = after_owner_lock2 x (value_told k)
after x (owner_lock3 v) k = after_owner_lock3 x
after x owner_lock4 k = after_owner_lock4 x (done_told k)
after x owner_lock5 k = after_owner_lock5 x (value_told k)
after x owner_unlock1 k = after_owner_unlock1 x (value_told k)
after x owner_unlock2 k = after_owner_unlock2 x
after x owner_unlock3 k = after_owner_unlock3 x
after x owner_unlock4 k = after_owner_unlock4 x
after x other_lock1 k = after_other_lock1 x (done_told k)
after x other_lock2 k = after_other_lock2 x (value_told k)
after x (other_lock3 v) k = after_other_lock3 x v
after x (other_lock4 v) k = after_other_lock4 x v
after x (other_lock5 v) k = after_other_lock5 x v (clock_told k)
after x (other_lock6 v note) k = after_other_lock6 x v note (clock_told k)
after x (other_lock7 v note) k = after_other_lock7 x v note (value_told k)
after x (other_lock8 v) k = after_other_lock8 x v (value_told k)
after x other_unlock1 k = after_other_unlock1 x (value_told k)
after x (other_unlock2 v) k = after_other_unlock2 x
after x other_unlock3 k = after_other_unlock3 x
