-- Histories: the calls with their answers and with what the memory told, and what they tell by themselves. The tables are not
-- mentioned here. A history is a list of events, newest first. Assumes nothing.
use Rattle.std.specs.Prelude.{ℕ, ◌+◌, Bool, true, false, cond, ◌&&◌, ◌||◌, List, [], ◌∷◌, ◌++◌, Some, None, Option, ◌==◌, nat_lt}
use Rattle.protocol.specs.declared.answer.Answer.{Answer}
use Rattle.protocol.specs.declared.answer.Answer.TheVariants.{Done, GoingOn, Ended, Empty, Moved, Occupied, Refused}
use Rattle.protocol.specs.declared.call.Call.{Call}
use Rattle.protocol.specs.declared.call.Call.TheVariants.{SetUp, Tick, Land, Begin, Step}
use Rattle.protocol.specs.declared.node.NodeState.{NodeState}
use Rattle.protocol.specs.declared.node.NodeState.TheVariants.{Free, Taken, Published, Removed, Retired as RetiredBy}
use Rattle.protocol.specs.declared.operation.Operation.{Operation}
use Rattle.protocol.specs.declared.operation.Operation.TheVariants.{Protect, Copy, Release, Publish, Remove, Reclaim, OwnerLock, OwnerUnlock, OtherLock, OtherUnlock}
use Rattle.protocol.specs.declared.retired.Retired.{Retired}
use Rattle.protocol.specs.declared.settings.Settings.{Settings}
use Rattle.protocol.specs.Begin.{named}
use Rattle.protocol.specs.Settings.{hazard_cells}
use Rattle.protocol.specs.Steps.{Told, clock_told, value_told, kept, freed}
use Rattle.protocol.specs.Tables.{Doing, nothing, busy}

pub record Event : Type 0 where
  pub call : Call
  pub answer : Answer
  -- what the memory told the machine in this call: a clock, a value, whether an exchange was done, or nothing
  pub told : Told

abbrev pub event : Call → Answer → Told → Event
event c a k = record { call = c; answer = a; told = k }

abbrev pub accepted : Answer → Bool
accepted Done = true
accepted (GoingOn n) = true
accepted (Ended v) = true
accepted Empty = true
accepted Moved = true
accepted (Occupied n) = true
accepted (Refused e) = false

-- the operation ended well
abbrev pub ended_well : Answer → Bool
ended_well Done = false
ended_well (GoingOn n) = false
ended_well (Ended v) = true
ended_well Empty = false
ended_well Moved = false
ended_well (Occupied n) = false
ended_well (Refused e) = false

-- the operation goes on
abbrev pub going_on : Answer → Bool
going_on Done = false
going_on (GoingOn n) = true
going_on (Ended v) = false
going_on Empty = false
going_on Moved = false
going_on (Occupied n) = false
going_on (Refused e) = false

-- the root was occupied
abbrev pub was_occupied : Answer → Bool
was_occupied Done = false
was_occupied (GoingOn n) = false
was_occupied (Ended v) = false
was_occupied Empty = false
was_occupied Moved = false
was_occupied (Occupied n) = true
was_occupied (Refused e) = false

abbrev pub answered : Answer → ℕ
answered Done = 0
answered (GoingOn n) = n
answered (Ended v) = v
answered Empty = 0
answered Moved = 0
answered (Occupied n) = n
answered (Refused e) = 0

-- What a thread is doing: the operation that it last began and has not ended, with its next step.

abbrev pub doing_by : Answer → Doing → Doing
doing_by Done d = d
doing_by (GoingOn n) nothing = nothing
doing_by (GoingOn n) (busy o k) = busy o n
doing_by (Ended v) d = nothing
doing_by Empty d = nothing
doing_by Moved d = nothing
doing_by (Occupied n) d = nothing
doing_by (Refused e) d = d

abbrev pub beginning : Option Operation → Doing
beginning None = nothing
beginning (Some o) = busy o 1

abbrev pub doing_after : Call → Answer → ℕ → Doing → Doing
doing_after (SetUp z) a t d = d
doing_after Tick a t d = d
doing_after (Land u) a t d = d
doing_after (Begin u o x y) a t d = cond (accepted a && u == t) (beginning (named o x y)) d
doing_after (Step u) a t d = cond (u == t) (doing_by a d) d

abbrev pub doing_in : List Event → ℕ → Doing
doing_in [] t = nothing
doing_in (e ∷ h) t = doing_after e.call e.answer t (doing_in h t)

-- Each notion below changes only at an accepted step of its thread, by what the thread was doing.

abbrev pub at_step : {X : Type 0} → Call → Answer → ℕ → X → X → X
at_step (SetUp z) a t new was = was
at_step Tick a t new was = was
at_step (Land u) a t new was = was
at_step (Begin u o x y) a t new was = was
at_step (Step u) a t new was = cond (accepted a && u == t) new was

-- Guards: from code 2 to a protect or copy, on the node answered, until the step of its release.

abbrev pub guard_by : Operation → Answer → ℕ → ℕ → ℕ
guard_by (Protect r h) a i was = cond (ended_well a && h == i) (answered a) was
guard_by (Copy x h) a i was = cond (ended_well a && h == i) (answered a) was
guard_by (Release h) a i was = cond (h == i) 0 was
guard_by (Publish r n) a i was = was
guard_by (Remove r) a i was = was
guard_by Reclaim a i was = was
guard_by OwnerLock a i was = was
guard_by OwnerUnlock a i was = was
guard_by OtherLock a i was = was
guard_by OtherUnlock a i was = was

abbrev pub guard_step : Doing → Answer → ℕ → ℕ → ℕ
guard_step nothing a i was = was
guard_step (busy o n) a i was = guard_by o a i was

-- the node on which hazard index i of the thread stands, 0 for none
abbrev pub guard_in : List Event → ℕ → ℕ → ℕ
guard_in [] t i = 0
guard_in (e ∷ h) t i = at_step e.call e.answer t (guard_step (doing_in h t) e.answer i (guard_in h t i)) (guard_in h t i)

-- Inside: from code 2 to a lock until the second step of the unlock.

-- the step that leaves: the owner's second step is its step 2 or 3, the others' is step 2
abbrev pub inside_by : Operation → ℕ → Answer → Bool → Bool
inside_by (Protect r h) n a was = was
inside_by (Copy x h) n a was = was
inside_by (Release h) n a was = was
inside_by (Publish r m) n a was = was
inside_by (Remove r) n a was = was
inside_by Reclaim n a was = was
inside_by OwnerLock n a was = ended_well a || was
inside_by OwnerUnlock n a was = cond (n == 2 || n == 3) false was
inside_by OtherLock n a was = ended_well a || was
inside_by OtherUnlock n a was = cond (n == 2) false was

abbrev pub inside_step : Doing → Answer → Bool → Bool
inside_step nothing a was = was
inside_step (busy o n) a was = inside_by o n a was

abbrev pub inside_in : List Event → ℕ → Bool
inside_in [] t = false
inside_in (e ∷ h) t = at_step e.call e.answer t (inside_step (doing_in h t) e.answer (inside_in h t)) (inside_in h t)

-- Sweeps: the clock told at the thread's latest step 1 of a reclaim, and the values told at its steps 2 since then.

abbrev pub is_reclaim : ℕ → Doing → Bool
is_reclaim n nothing = false
is_reclaim n (busy (Protect r h) k) = false
is_reclaim n (busy (Copy a b) k) = false
is_reclaim n (busy (Release a) k) = false
is_reclaim n (busy (Publish r m) k) = false
is_reclaim n (busy (Remove r) k) = false
is_reclaim n (busy Reclaim k) = k == n
is_reclaim n (busy OwnerLock k) = false
is_reclaim n (busy OwnerUnlock k) = false
is_reclaim n (busy OtherLock k) = false
is_reclaim n (busy OtherUnlock k) = false

abbrev pub is_remove : ℕ → Doing → Bool
is_remove n nothing = false
is_remove n (busy (Protect r h) k) = false
is_remove n (busy (Copy a b) k) = false
is_remove n (busy (Release a) k) = false
is_remove n (busy (Publish r m) k) = false
is_remove n (busy (Remove r) k) = k == n
is_remove n (busy Reclaim k) = false
is_remove n (busy OwnerLock k) = false
is_remove n (busy OwnerUnlock k) = false
is_remove n (busy OtherLock k) = false
is_remove n (busy OtherUnlock k) = false

abbrev pub sweep_clock_in : List Event → ℕ → ℕ
sweep_clock_in [] t = 0
sweep_clock_in (e ∷ h) t = at_step e.call e.answer t (cond (is_reclaim 1 (doing_in h t)) (clock_told e.told) (sweep_clock_in h t)) (sweep_clock_in h t)

abbrev pub loaded_in : List Event → ℕ → List ℕ
loaded_in [] t = []
loaded_in (e ∷ h) t =
    at_step e.call e.answer t
    (cond (is_reclaim 1 (doing_in h t)) [] (cond (is_reclaim 2 (doing_in h t)) (loaded_in h t ++ value_told e.told ∷ []) (loaded_in h t)))
    (loaded_in h t)

-- the node that the thread's latest remove found, by what was told at its step 1
abbrev pub removing_in : List Event → ℕ → ℕ
removing_in [] t = 0
removing_in (e ∷ h) t = at_step e.call e.answer t (cond (is_remove 1 (doing_in h t)) (value_told e.told) (removing_in h t)) (removing_in h t)

-- Retire lists, under a bound: step 3 of a remove appends its node with the clock told there; step 3 of a reclaim takes out
-- what the sweep does not keep.

abbrev pub list_in : ℕ → List Event → ℕ → List Retired
list_in b [] t = []
list_in b (e ∷ h) t =
    at_step e.call e.answer t
    (cond (is_remove 3 (doing_in h t)) (list_in b h t ++ record { node = answered e.answer; date = clock_told e.told } ∷ [])
    (cond (is_reclaim 3 (doing_in h t)) (kept b (sweep_clock_in h t) (loaded_in h t) (list_in b h t)) (list_in b h t)))
    (list_in b h t)

-- what the event frees: a step 3 of a reclaim frees what its sweep does not keep
abbrev pub freed_by : ℕ → Call → Answer → List Event → List Retired
freed_by b (SetUp z) a h = []
freed_by b Tick a h = []
freed_by b (Land u) a h = []
freed_by b (Begin u o x y) a h = []
freed_by b (Step u) a h = cond (accepted a && is_reclaim 3 (doing_in h u)) (freed b (sweep_clock_in h u) (loaded_in h u) (list_in b h u)) []

-- the node that the event retires, 0 for none
abbrev pub retired_by : Call → Answer → List Event → ℕ
retired_by (SetUp z) a h = 0
retired_by Tick a h = 0
retired_by (Land u) a h = 0
retired_by (Begin u o x y) a h = 0
retired_by (Step u) a h = cond (accepted a && is_remove 3 (doing_in h u)) (answered a) 0

abbrev pub names : ℕ → List Retired → ℕ
names n [] = 0
names n (e ∷ l) = cond (e.node == n) 1 0 + names n l

abbrev pub times_freed : ℕ → List Event → ℕ → ℕ
times_freed b [] n = 0
times_freed b (e ∷ h) n = times_freed b h n + names n (freed_by b e.call e.answer h)

abbrev pub times_retired : List Event → ℕ → ℕ
times_retired [] n = 0
times_retired (e ∷ h) n = times_retired h n + cond (retired_by e.call e.answer h == n) 1 0

-- Node states.

abbrev pub state_by : ℕ → Operation → ℕ → Answer → ℕ → ℕ → NodeState → NodeState
state_by t (Protect r h) k a found n was = was
state_by t (Copy x y) k a found n was = was
state_by t (Release h) k a found n was = was
state_by t (Publish r m) k a found n was = cond (m == n) (cond (was_occupied a) Free (Published r)) was
state_by t (Remove r) k a found n was =
    cond (k == 2 && (going_on a && found == n)) (Removed t) (cond (k == 3 && answered a == n) (RetiredBy t) was)
state_by t Reclaim k a found n was = was
state_by t OwnerLock k a found n was = was
state_by t OwnerUnlock k a found n was = was
state_by t OtherLock k a found n was = was
state_by t OtherUnlock k a found n was = was

abbrev pub state_step : ℕ → Doing → Answer → ℕ → ℕ → NodeState → NodeState
state_step t nothing a found n was = was
state_step t (busy o k) a found n was = state_by t o k a found n was

-- a begun publish takes its node
abbrev pub taken_by : ℕ → Option Operation → ℕ → NodeState → NodeState
taken_by t None n was = was
taken_by t (Some (Protect r h)) n was = was
taken_by t (Some (Copy x y)) n was = was
taken_by t (Some (Release h)) n was = was
taken_by t (Some (Publish r m)) n was = cond (m == n) (Taken t) was
taken_by t (Some (Remove r)) n was = was
taken_by t (Some Reclaim) n was = was
taken_by t (Some OwnerLock) n was = was
taken_by t (Some OwnerUnlock) n was = was
taken_by t (Some OtherLock) n was = was
taken_by t (Some OtherUnlock) n was = was

abbrev pub state_after : ℕ → Call → Answer → List Event → ℕ → NodeState → NodeState
state_after b (SetUp z) a h n was = was
state_after b Tick a h n was = was
state_after b (Land u) a h n was = was
state_after b (Begin u o x y) a h n was = cond (accepted a) (taken_by u (named o x y) n was) was
state_after b (Step u) a h n was =
    cond (accepted a)
    (cond (nat_lt 0 (names n (freed_by b (Step u) a h))) Free (state_step u (doing_in h u) a (removing_in h u) n was))
    was

-- where a node is: free at first, and once a publish found the root occupied or a sweep freed it, until its next publish begins
abbrev pub state_in : ℕ → List Event → ℕ → NodeState
state_in b [] n = Free
state_in b (e ∷ h) n = state_after b e.call e.answer h n (state_in b h n)

-- Which nodes are free: every node at first; not from the begin of its publish on; again after code 5 to that publish, and once a
-- sweep has freed it.

abbrev pub is_publish_of : ℕ → Operation → Bool
is_publish_of n (Protect r h) = false
is_publish_of n (Copy x y) = false
is_publish_of n (Release h) = false
is_publish_of n (Publish r m) = m == n
is_publish_of n (Remove r) = false
is_publish_of n Reclaim = false
is_publish_of n OwnerLock = false
is_publish_of n OwnerUnlock = false
is_publish_of n OtherLock = false
is_publish_of n OtherUnlock = false

abbrev pub publish_begun : ℕ → Option Operation → Bool
publish_begun n None = false
publish_begun n (Some o) = is_publish_of n o

abbrev pub publishing : ℕ → Doing → Bool
publishing n nothing = false
publishing n (busy o k) = is_publish_of n o

abbrev pub free_after : ℕ → Call → Answer → List Event → ℕ → Bool → Bool
free_after b (SetUp z) a h n was = was
free_after b Tick a h n was = was
free_after b (Land u) a h n was = was
free_after b (Begin u o x y) a h n was = cond (accepted a && publish_begun n (named o x y)) false was
free_after b (Step u) a h n was = cond (nat_lt 0 (names n (freed_by b (Step u) a h)) || (was_occupied a && publishing n (doing_in h u))) true was

abbrev pub free_in : ℕ → List Event → ℕ → Bool
free_in b [] n = true
free_in b (e ∷ h) n = free_after b e.call e.answer h n (free_in b h n)

-- Roots: a publish that ended well puts its node there, and step 2 of a remove that goes on takes it away.

abbrev pub root_by : Operation → ℕ → Answer → ℕ → ℕ → ℕ
root_by (Protect x h) k a r was = was
root_by (Copy x y) k a r was = was
root_by (Release h) k a r was = was
root_by (Publish x n) k a r was = cond (ended_well a && x == r) n was
root_by (Remove x) k a r was = cond (k == 2 && (going_on a && x == r)) 0 was
root_by Reclaim k a r was = was
root_by OwnerLock k a r was = was
root_by OwnerUnlock k a r was = was
root_by OtherLock k a r was = was
root_by OtherUnlock k a r was = was

abbrev pub root_step : Doing → Answer → ℕ → ℕ → ℕ
root_step nothing a r was = was
root_step (busy o k) a r was = root_by o k a r was

abbrev pub root_after : Call → Answer → List Event → ℕ → ℕ → ℕ
root_after (SetUp z) a h r was = was
root_after Tick a h r was = was
root_after (Land u) a h r was = was
root_after (Begin u o x y) a h r was = was
root_after (Step u) a h r was = root_step (doing_in h u) a r was

-- the node that is published at the root, 0 for none
abbrev pub root_in : List Event → ℕ → ℕ
root_in [] r = 0
root_in (e ∷ h) r = root_after e.call e.answer h r (root_in h r)

-- Accepted calls, set-up not counted.

abbrev pub counts : Call → Answer → Bool
counts (SetUp z) a = false
counts Tick a = accepted a
counts (Land u) a = accepted a
counts (Begin u o x y) a = accepted a
counts (Step u) a = accepted a

abbrev pub accepted_in : List Event → ℕ
accepted_in [] = 0
accepted_in (e ∷ h) = cond (counts e.call e.answer) (accepted_in h + 1) (accepted_in h)

-- Set-up, and a thread's latest retirement.

abbrev pub settings_after : Call → Answer → Option Settings → Option Settings
settings_after (SetUp z) a was = cond (accepted a) (Some z) was
settings_after Tick a was = was
settings_after (Land u) a was = was
settings_after (Begin u o x y) a was = was
settings_after (Step u) a was = was

-- the settings of the accepted set-up
abbrev pub settings_in : List Event → Option Settings
settings_in [] = None
settings_in (e ∷ h) = settings_after e.call e.answer (settings_in h)

abbrev pub cells_of : Option Settings → ℕ
cells_of None = 0
cells_of (Some z) = hazard_cells z

-- the date of the thread's latest retirement
abbrev pub last_retired_in : List Event → ℕ → Option ℕ
last_retired_in [] t = None
last_retired_in (e ∷ h) t = at_step e.call e.answer t (cond (is_remove 3 (doing_in h t)) (Some (clock_told e.told)) (last_retired_in h t)) (last_retired_in h t)
