-- What is promised of every history beyond the guarantees: the number of accepted calls, whose a taken or removed node is, and that
-- numbers fit. Assumes nothing.
use Rattle.std.specs.Prelude.{◌≡◌, ℕ, ◌+◌, ◌*◌, ◌<◌, ◌≤◌, true, List, Some, None, Option}
use Rattle.std.specs.List.{AllByRecursion}
use Rattle.protocol.specs.declared.node.NodeState.TheVariants.{Taken, Removed}
use Rattle.protocol.specs.declared.operation.Operation.TheVariants.{Publish}
use Rattle.protocol.specs.Codes.{code_of, value_of}
use Rattle.protocol.specs.Guarantees.{Explains, Shows, Guarantees}
use Rattle.protocol.specs.History.{Event, accepted_in, doing_in, is_remove, removing_in, settings_in, state_in}
use Rattle.protocol.specs.Steps.{value_told, word}
use Rattle.protocol.specs.Tables.{busy, Point, owner_lock3, other_lock3, other_unlock2, Tables, State, thread_of}

-- The tables show exactly what the history gives, and count its accepted calls.
pub record ShowsAll (b : ℕ) (h : List Event) (x : Tables) : Type 0 where
  pub shows : Shows b h x
  pub accepted : x.accepted ≡ accepted_in h

-- Tables stand exactly from the accepted set-up on, and show the history.
abbrev pub ShownBy : ℕ → List Event → Option Tables → Type 0
ShownBy b h None = settings_in h ≡ None
ShownBy b h (Some x) = ShowsAll b h x

abbrev pub TablesStandFromSetUp : Type 0
TablesStandFromSetUp = (h : List Event) (s : State) → Explains h s → ShownBy s.memory.bound h s.tables

-- A thread has taken a node only while the node is in a publish of that thread, and has removed it only while that thread is to
-- retire it.
pub record HasItsThread (b : ℕ) (h : List Event) (n : ℕ) : Type 0 where
  pub taking : (t : ℕ) → state_in b h n ≡ Taken t → (r : ℕ) × (doing_in h t ≡ busy (Publish r n) 1)
  pub removing : (t : ℕ) → state_in b h n ≡ Removed t → (is_remove 3 (doing_in h t) ≡ true) × (removing_in h t ≡ n)

abbrev pub EveryNodeHasItsThread : Type 0
EveryNodeHasItsThread = (h : List Event) (s : State) → Explains h s → (n : ℕ) → 0 < n → HasItsThread s.memory.bound h n

-- What an event tells fits: the code and the value of the answer into a byte, and the value that the memory told is at most 64 (a
-- node) plus 2 for each of at most 8000 accepted calls.
pub record NumbersFit (e : Event) : Type 0 where
  pub code : code_of e.answer ≤ 255
  pub value : value_of e.answer ≤ 255
  pub told : value_told e.told ≤ 64 + 2 * 8000

-- every event fits, and at most 8000 calls are accepted
abbrev pub EveryNumberFits : Type 0
EveryNumberFits = (h : List Event) (s : State) → Explains h s → AllByRecursion NumbersFit h × (accepted_in h ≤ 8000)

-- A step that stores a flag of the lock stores its whole value: none is cut off at the size of a word.
pub record FlagsWhole (p : Point) : Type 0 where
  pub echoed : (v : ℕ) → p ≡ owner_lock3 v → word (2 * v) ≡ 2 * v
  pub raised : (v : ℕ) → p ≡ other_lock3 v → word (2 * v + 1) ≡ 2 * v + 1
  pub lowered : (v : ℕ) → p ≡ other_unlock2 v → word (2 * (v + 1)) ≡ 2 * (v + 1)

abbrev pub FlagsAreWhole : Type 0
FlagsAreWhole = (h : List Event) (s : State) (x : Tables) → Explains h s → s.tables ≡ Some x → (t : ℕ) → FlagsWhole (thread_of x t).point

-- All that is promised of a history over a memory with bound b, for nodes, lock, lists and numbers.
pub record AllGuarantees (b : ℕ) (h : List Event) : Type 0 where
  pub guarantees : Guarantees b h
  -- a taken or removed node is its thread's
  pub threads : (n : ℕ) → 0 < n → HasItsThread b h n
  -- every number fits, and at most 8000 calls are accepted
  pub fits : AllByRecursion NumbersFit h
  pub few : accepted_in h ≤ 8000

abbrev pub AllTheGuarantees : Type 0
AllTheGuarantees = (h : List Event) (s : State) → Explains h s → AllGuarantees s.memory.bound h
