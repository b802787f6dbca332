-- What each call of the machine answers and leaves. A memory may land writes of its own in a call, which is the only choice
-- left open. Assumes nothing.
use Rattle.std.specs.Prelude.{◌≡◌, ℕ, ◌+◌, Bool, true, false, not, List, [], ◌∷◌, is_some, Some, None, Option, ◌==◌, nat_lt, slice_set}
use Rattle.memory.specs.Calls.{Loaded, Exchanged, Ticked}
use Rattle.memory.specs.Checks.{Check, check, first_no, tick_checks}
use Rattle.memory.specs.Landings.{Lands}
use Rattle.memory.specs.Meaning.{Meaning, waiting_count, stored, landed, is_new}
use Rattle.protocol.specs.declared.answer.Answer.{Answer}
use Rattle.protocol.specs.declared.answer.Answer.TheVariants.{Done, Refused}
use Rattle.protocol.specs.declared.answer.Refusal.{Refusal}
use Rattle.protocol.specs.declared.answer.Refusal.TheVariants.{AlreadySetUp, SettingsOutOfRange, MemoryNotNew, NotSetUp, CallsUsedUp, NoSuchThread, TickRefused, NothingWaiting, ThreadBusy, BadOperation, GuardOrNode, ListFull, WrongSide, ThreadIdle, BufferFull, WritesWaiting}
use Rattle.protocol.specs.declared.call.Call.{Call}
use Rattle.protocol.specs.declared.call.Call.TheVariants.{SetUp, Tick, Land, Begin, Step}
use Rattle.protocol.specs.declared.operation.Operation.{Operation}
use Rattle.protocol.specs.declared.settings.Settings.{Settings}
use Rattle.protocol.specs.Begin.{named, fits, ready, roomy, sided, begun}
use Rattle.protocol.specs.Settings.{in_range}
use Rattle.protocol.specs.Steps.{Request, asks_load, asks_store, asks_exchange, asks_clock, asks_fence, asks_nothing, Told, told_nothing, told_clock, told_value, told_done, Here, Outcome, request, after}
use Rattle.protocol.specs.Tables.{Doing, nothing, busy, doing_at, Tables, State, thread_of, first_tables}

-- The checks of each call, in their order.

abbrev pub set_up_checks : State → Settings → List (Check Refusal)
set_up_checks s z = check (not (is_some s.tables)) AlreadySetUp ∷ check (in_range z) SettingsOutOfRange ∷ check (is_new s.memory) MemoryNotNew ∷ []

-- what is asked of every other call, before the rest
abbrev pub first : Option Tables → (Tables → List (Check Refusal)) → List (Check Refusal)
first None rest = check false NotSetUp ∷ []
first (Some x) rest = check (nat_lt x.accepted 8000) CallsUsedUp ∷ rest x

abbrev pub thread_check : ℕ → Tables → Check Refusal
thread_check t x = check (nat_lt t x.settings.threads) NoSuchThread

abbrev pub tick_asks : Meaning → List (Check Refusal)
tick_asks m = check (not (is_some (first_no (tick_checks m)))) TickRefused ∷ []

abbrev pub land_asks : ℕ → Meaning → Tables → List (Check Refusal)
land_asks t m x = thread_check t x ∷ check (nat_lt 0 (waiting_count m t)) NothingWaiting ∷ []

abbrev pub is_idle : Doing → Bool
is_idle nothing = true
is_idle (busy o n) = false

-- a question about the operation that was named; where none was, check 20 has said no
abbrev pub asked : Option Operation → (Operation → Bool) → Bool → Bool
asked None test otherwise = otherwise
asked (Some o) test otherwise = test o

abbrev pub begin_asks : ℕ → Option Operation → Tables → List (Check Refusal)
begin_asks t o x =
    thread_check t x
    ∷ check (is_idle (doing_at (thread_of x t).point)) ThreadBusy
    ∷ check (asked o (fits x.settings) false) BadOperation
    ∷ check (asked o (ready x (thread_of x t)) true) GuardOrNode
    ∷ check (asked o (roomy x (thread_of x t)) true) ListFull
    ∷ check (asked o (sided t (thread_of x t)) true) WrongSide
    ∷ []

-- a storing step wants room in the store buffer; an exchange and a fence want it empty
abbrev pub request_checks : ℕ → Meaning → Request → List (Check Refusal)
request_checks t m (asks_load c) = []
request_checks t m (asks_store c v) = check (nat_lt (waiting_count m t) 8) BufferFull ∷ []
request_checks t m (asks_exchange c old new) = check (waiting_count m t == 0) WritesWaiting ∷ []
request_checks t m asks_clock = []
request_checks t m asks_fence = check (waiting_count m t == 0) WritesWaiting ∷ []
request_checks t m asks_nothing = []

abbrev pub here : Tables → Meaning → ℕ → Here
here x m t = record { settings = x.settings; bound = m.bound; thread = t; own = thread_of x t; nodes = x.nodes }

abbrev pub step_asks : ℕ → Meaning → Tables → List (Check Refusal)
step_asks t m x =
    thread_check t x
    ∷ check (not (is_idle (doing_at (thread_of x t).point))) ThreadIdle
    ∷ request_checks t m (request (here x m t) (thread_of x t).point)

abbrev pub checks_of : Call → State → List (Check Refusal)
checks_of (SetUp z) s = set_up_checks s z
checks_of Tick s = first s.tables (λ x. tick_asks s.memory)
checks_of (Land t) s = first s.tables (land_asks t s.memory)
checks_of (Begin t o a b) s = first s.tables (begin_asks t (named o a b))
checks_of (Step t) s = first s.tables (step_asks t s.memory)

-- What an accepted call does.

-- the memory does what a step asks, and tells
abbrev pub Meets : ℕ → Request → Meaning → Meaning → Told → Type 0
Meets t (asks_load c) m m' k = (v : ℕ) × (k ≡ told_value v) × Loaded Lands t c m m' v
Meets t (asks_store c v) m m' k = (k ≡ told_nothing) × Lands (stored t c v m) m'
Meets t (asks_exchange c old new) m m' k = (b : Bool) × (k ≡ told_done b) × Exchanged Lands c old new m m' b
Meets t asks_clock m m' k = (k ≡ told_clock m.clock) × (m' ≡ m)
Meets t asks_fence m m' k = (k ≡ told_nothing) × (m' ≡ m)
Meets t asks_nothing m m' k = (k ≡ told_nothing) × (m' ≡ m)

abbrev pub counted : Tables → Tables
counted x = record { settings = x.settings; threads = x.threads; nodes = x.nodes; accepted = x.accepted + 1 }

abbrev pub stepped : Tables → ℕ → Outcome → Tables
stepped x t o = record { settings = x.settings; threads = slice_set x.threads t o.own; nodes = o.nodes; accepted = x.accepted }

pub record Ticks (x : Tables) (m : Meaning) (s' : State) : Type 0 where
  pub memory : Ticked Lands m s'.memory
  pub tables : s'.tables ≡ Some (counted x)

pub record LandsOne (t : ℕ) (x : Tables) (m : Meaning) (s' : State) : Type 0 where
  pub memory : Lands (landed t m) s'.memory
  pub tables : s'.tables ≡ Some (counted x)

pub record Begins (t : ℕ) (o : Operation) (x : Tables) (m : Meaning) (s' : State) : Type 0 where
  pub memory : s'.memory ≡ m
  pub tables : s'.tables ≡ Some (counted (begun x t o))

pub record Steps (t : ℕ) (x : Tables) (m : Meaning) (s' : State) (a : Answer) (k : Told) : Type 0 where
  pub memory : Meets t (request (here x m t) (thread_of x t).point) m s'.memory k
  pub tables : s'.tables ≡ Some (counted (stepped x t (after (here x m t) (thread_of x t).point k)))
  pub answer : a ≡ (after (here x m t) (thread_of x t).point k).answer

-- The call answers a, the memory tells k in it, and it leads from s to s'.
pub data Trans (s s' : State) : Call → Answer → Told → Type 0 where
  refuses : {c : Call} {e : Refusal} → first_no (checks_of c s) ≡ Some e → s' ≡ s → Trans s s' c (Refused e) told_nothing
  sets_up : {z : Settings} → first_no (checks_of (SetUp z) s) ≡ None → s'.memory ≡ s.memory → s'.tables ≡ Some (first_tables z) → Trans s s' (SetUp z) Done told_nothing
  ticks : {x : Tables} → s.tables ≡ Some x → first_no (checks_of Tick s) ≡ None → Ticks x s.memory s' → Trans s s' Tick Done told_nothing
  lands : {t : ℕ} {x : Tables} → s.tables ≡ Some x → first_no (checks_of (Land t) s) ≡ None → LandsOne t x s.memory s' → Trans s s' (Land t) Done told_nothing
  begins : {t o a b : ℕ} {p : Operation} {x : Tables} → s.tables ≡ Some x → named o a b ≡ Some p → first_no (checks_of (Begin t o a b) s) ≡ None → Begins t p x s.memory s' → Trans s s' (Begin t o a b) Done told_nothing
  steps : {t : ℕ} {x : Tables} {a : Answer} {k : Told} → s.tables ≡ Some x → first_no (checks_of (Step t) s) ≡ None → Steps t x s.memory s' a k → Trans s s' (Step t) a k
