-- What is promised of every history. Assumes nothing.
use Rattle.std.specs.Prelude.{◌≡◌, ℕ, ◌+◌, ◌<◌, ◌≤◌, Bool, true, false, cond, ◌&&◌, List, [], ◌∷◌, length, Some, None, Option, ◌==◌}
use Rattle.std.specs.List.Sorted.{IsNonDecreasingBy}
use Rattle.memory.specs.Calls.{Sound}
use Rattle.protocol.specs.declared.call.Call.{Call}
use Rattle.protocol.specs.declared.call.Call.TheVariants.{SetUp, Tick, Land, Begin, Step}
use Rattle.protocol.specs.declared.node.NodeState.{NodeState}
use Rattle.protocol.specs.declared.node.NodeState.TheVariants.{Free, Taken, Published, Removed, Retired as RetiredBy}
use Rattle.protocol.specs.declared.operation.Operation.TheVariants.{Publish}
use Rattle.protocol.specs.declared.retired.Retired.{Retired}
use Rattle.protocol.specs.Begin.{is_free}
use Rattle.protocol.specs.History.{Event, accepted, doing_in, guard_in, inside_in, is_reclaim, is_remove, sweep_clock_in, removing_in, list_in, names, times_freed, times_retired, state_in, free_in, root_in, settings_in, cells_of, last_retired_in}
use Rattle.protocol.specs.Steps.{guard_of}
use Rattle.protocol.specs.Tables.{busy, doing_at, Tables, State, thread_of, node_of}
use Rattle.protocol.specs.Transition.{Trans}

-- The history leads from a machine begun new, over whatever lawful memory, to the state. Set-up, accepted or refused, is a call
-- of the history like the others.
abbrev pub Explains : List Event → State → Type 0
Explains [] s = (s.tables ≡ None) × Sound s.memory
Explains (e ∷ h) s' = (s : State) × Explains h s × Trans s s' e.call e.answer e.told

-- The tables show exactly what the history gives.
pub record Shows (b : ℕ) (h : List Event) (x : Tables) : Type 0 where
  pub doing : (t : ℕ) → doing_at (thread_of x t).point ≡ doing_in h t
  pub guards : (t i : ℕ) → guard_of (thread_of x t) i ≡ guard_in h t i
  pub lists : (t : ℕ) → (thread_of x t).retired ≡ list_in b h t
  pub inside : (t : ℕ) → (thread_of x t).inside ≡ inside_in h t
  pub nodes : (n : ℕ) → node_of x n ≡ state_in b h n
  pub settings : Some x.settings ≡ settings_in h

abbrev pub TablesShowTheHistory : Type 0
TablesShowTheHistory = (h : List Event) (s : State) (x : Tables) → Explains h s → s.tables ≡ Some x → Shows s.memory.bound h x

-- Every node is in one place.

abbrev pub retired_in : NodeState → ℕ → Bool
retired_in Free t = false
retired_in (Taken u) t = false
retired_in (Published r) t = false
retired_in (Removed u) t = false
retired_in (RetiredBy u) t = u == t

abbrev pub is_retired : NodeState → Bool
is_retired Free = false
is_retired (Taken u) = false
is_retired (Published r) = false
is_retired (Removed u) = false
is_retired (RetiredBy u) = true

pub record InOnePlace (b : ℕ) (h : List Event) (n : ℕ) : Type 0 where
  -- its place is "free" exactly while it is free
  pub free : free_in b h n ≡ is_free (state_in b h n)
  -- a thread in whose publish the node is has taken it (so no two threads publish it at once)
  pub taken : (t r : ℕ) → doing_in h t ≡ busy (Publish r n) 1 → state_in b h n ≡ Taken t
  -- the root at which it is published holds it, and no other does
  pub published : (r : ℕ) → root_in h r ≡ n → state_in b h n ≡ Published r
  pub rooted : (r : ℕ) → state_in b h n ≡ Published r → root_in h r ≡ n
  -- a thread that is to retire it has removed it (so no two threads are to retire it)
  pub removed : (t : ℕ) → is_remove 3 (doing_in h t) ≡ true → removing_in h t ≡ n → state_in b h n ≡ Removed t
  -- the list of the thread that retired it names it once, and no other list names it
  pub listed : (t : ℕ) → names n (list_in b h t) ≡ cond (retired_in (state_in b h n) t) 1 0
  -- it was retired as often as it was freed, and once more while a list names it
  pub counts : times_retired h n ≡ times_freed b h n + cond (is_retired (state_in b h n)) 1 0

abbrev pub EveryNodeInOnePlace : Type 0
EveryNodeInOnePlace = (h : List Event) (s : State) → Explains h s → (n : ℕ) → 0 < n → InOnePlace s.memory.bound h n

-- A late sweep leaves a short list.

-- the reclaim read its clock more than the bound after the thread's last retirement, or the thread has retired nothing
abbrev pub LateAfter : ℕ → ℕ → Option ℕ → Type 0
LateAfter b now None = Unit {0}
LateAfter b now (Some d) = d + b < now

abbrev pub ShortAfter : ℕ → Call → Event → List Event → Type 0
ShortAfter b (SetUp z) e h = Unit {0}
ShortAfter b Tick e h = Unit {0}
ShortAfter b (Land t) e h = Unit {0}
ShortAfter b (Begin t o x y) e h = Unit {0}
ShortAfter b (Step t) e h =
    (accepted e.answer && is_reclaim 3 (doing_in h t)) ≡ true → LateAfter b (sweep_clock_in h t) (last_retired_in h t) → length (list_in b (e ∷ h) t) ≤ cells_of (settings_in h)

-- at each moment of the history at which a reclaim ended
abbrev pub ShortLists : ℕ → List Event → Type 0
ShortLists b [] = Unit {0}
ShortLists b (e ∷ h) = ShortAfter b e.call e h × ShortLists b h

abbrev pub ALateSweepLeavesAShortList : Type 0
ALateSweepLeavesAShortList = (h : List Event) (s : State) → Explains h s → ShortLists s.memory.bound h

-- At most one thread is inside the lock.
abbrev pub AtMostOneInside : Type 0
AtMostOneInside = (h : List Event) (s : State) → Explains h s → (t u : ℕ) → inside_in h t ≡ true → inside_in h u ≡ true → t ≡ u

-- No node is free while a guard on it stands.
abbrev pub NoNodeFreeWhileGuarded : Type 0
NoNodeFreeWhileGuarded = (h : List Event) (s : State) → Explains h s → (t i : ℕ) → 0 < guard_in h t i → free_in s.memory.bound h (guard_in h t i) ≡ false

-- Along a retire list the dates never fall.
abbrev pub ListsInOrder : Type 0
ListsInOrder = (h : List Event) (s : State) → Explains h s → (t : ℕ) → IsNonDecreasingBy (λ (e : Retired). e.date) (list_in s.memory.bound h t)

-- The whole guarantee of a history over a memory with bound b, for nodes, lock and lists.
pub record Guarantees (b : ℕ) (h : List Event) : Type 0 where
  -- no node is free while a guard on it stands
  pub guarded : (t i : ℕ) → 0 < guard_in h t i → free_in b h (guard_in h t i) ≡ false
  -- every node is in one place
  pub placed : (n : ℕ) → 0 < n → InOnePlace b h n
  -- at most one thread is inside the lock
  pub alone : (t u : ℕ) → inside_in h t ≡ true → inside_in h u ≡ true → t ≡ u
  -- along a retire list the dates never fall
  pub ordered : (t : ℕ) → IsNonDecreasingBy (λ (e : Retired). e.date) (list_in b h t)
  -- every late sweep left a short list
  pub short : ShortLists b h

abbrev pub TheGuarantees : Type 0
TheGuarantees = (h : List Event) (s : State) → Explains h s → Guarantees s.memory.bound h
