-- What each call of a machine promises, and a whole list of calls. Assumes nothing.
use Rattle.std.specs.Prelude.{◌≡◌, List, [], ◌∷◌, map, reverse, None}
use Rattle.memory.specs.Meaning.{Meaning}
use Rattle.protocol.specs.declared.answer.Answer.{Answer}
use Rattle.protocol.specs.declared.call.Call.{Call}
use Rattle.protocol.specs.AllGuarantees.{AllGuarantees}
use Rattle.protocol.specs.Guarantees.{Explains}
use Rattle.protocol.specs.History.{Event, event}
use Rattle.protocol.specs.Steps.{Told}
use Rattle.protocol.specs.Tables.{State}
use Rattle.protocol.specs.Transition.{Trans}

-- the call answers a and leads from s to s'
pub record Moves (s s' : State) (c : Call) (a : Answer) : Type 0 where
  -- what the memory told in the call
  pub told : Told
  pub trans : Trans s s' c a told

-- What a call promises: it answers and leaves what is defined, and every history that explains the state at entry explains, with
-- this call at its end, the state at exit, and has the whole guarantee.
unfoldable pub Leads : State → State → Call → Answer → Told → Type 0
Leads s s' c a k = (h : List Event) → Explains h s → Explains (event c a k ∷ h) s' × AllGuarantees s'.memory.bound (event c a k ∷ h)

pub record Performs (s s' : State) (c : Call) (a : Answer) : Type 0 where
  pub told : Told
  pub moves : Trans s s' c a told
  pub leads : Leads s s' c a told

-- the events, newest first, lead from s to s'
abbrev pub Follows : State → List Event → State → Type 0
Follows s [] s' = s' ≡ s
Follows s (e ∷ h) s'' = (s' : State) × Follows s h s' × Trans s' s'' e.call e.answer e.told

-- a machine begun new over a memory
abbrev pub begun_over : Meaning → State
begun_over m = record { tables = None; memory = m }

-- What a run promises: its history has the calls that were handed in and the answers that were handed out, one by one; it leads from
-- a machine begun new over the memory that was handed in to the machine that is handed out; and it has the whole guarantee.
pub record Runs (m : Meaning) (cs : List Call) (rs : List Answer) (s' : State) : Type 0 where
  -- newest first
  pub history : List Event
  pub calls : map (λ (e : Event). e.call) history ≡ reverse cs
  pub answers : map (λ (e : Event). e.answer) history ≡ reverse rs
  pub follows : Follows (begun_over m) history s'
  pub explains : Explains history s'
  pub guarantees : AllGuarantees s'.memory.bound history
