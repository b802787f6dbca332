-- Whole runs of a memory: what happened, call by call, and the laws that every run keeps. A history is the list of its
-- events, newest first. Assumes nothing.
use Rattle.std.specs.Prelude.{◌≡◌, ℕ, ◌+◌, ◌≤◌, Bool, true, false, cond, ◌&&◌, List, [], ◌∷◌, ◌++◌, map, reverse, length, drop, Some, None, Ok, Err, vec_items, Result, Vec, ◌==◌}
use Rattle.std.specs.List.{AllByRecursion}
use Rattle.std.specs.List.Sorted.{IsNonDecreasingBy}
use Rattle.memory.specs.declared.write.Write.{Write}
use Rattle.memory.specs.declared.refusal.Refusal.{Refusal}
use Rattle.memory.specs.declared.run.Call.{Call}
use Rattle.memory.specs.declared.run.Call.TheVariants.{Store, Load, Land, Exchange, Tick}
use Rattle.memory.specs.declared.run.Answer.{Answer}
use Rattle.memory.specs.declared.run.Answer.TheVariants.{Done, Value, Swapped}
use Rattle.memory.specs.declared.run.RunFault.{RunFault}
use Rattle.memory.specs.declared.run.RunFault.TheVariants.{NotNew, NoMemory}
use Rattle.memory.specs.Meaning.{Meaning, queue, cell, fresh, is_new, newest, value_or, loaded, stored, exchanged, ticked, due}
use Rattle.memory.specs.Landings.{Landing, LandsAs}
use Rattle.memory.specs.Checks.{Check, first_no, store_checks, load_checks, land_checks, exchange_checks, tick_checks}

-- what a call is answered: an answer, or why it was refused
abbrev pub Outcome : Type 0
Outcome = Result Answer Refusal

-- one call with its answer, and the writes that landed in it, in their order, told or by the memory itself
pub record Event : Type 0 where
  pub call : Call
  pub answer : Outcome
  pub landings : List Landing

abbrev pub event : Call → Outcome → List Landing → Event
event c a ls = record { call = c; answer = a; landings = ls }

abbrev pub checks_of : Call → Meaning → List (Check Refusal)
checks_of (Store t c v) m = store_checks t c m
checks_of (Load t c) m = load_checks t c
checks_of (Land t) m = land_checks t m
checks_of (Exchange t c old new) m = exchange_checks t c m
checks_of Tick m = tick_checks m

-- only a self-landing memory lands writes of its own
abbrev pub Own : Meaning → List Landing → Type 0
Own m ls = m.self_landing ≡ false → ls ≡ []

-- the event leads from m to m'
pub data Happens (m m' : Meaning) : Event → Type 0 where
  refuses : {c : Call} {e : Refusal} → first_no (checks_of c m) ≡ Some e → m' ≡ m → Happens m m' (event c (Err e) [])
  stores : {t c v : ℕ} {ls : List Landing} → first_no (store_checks t c m) ≡ None → LandsAs ls (stored t c v m) m' → Own m ls → Happens m m' (event (Store t c v) (Ok Done) ls)
  loads : {t c v : ℕ} {ls : List Landing} → first_no (load_checks t c) ≡ None → LandsAs ls m m' → Own m ls → v ≡ loaded m' t c → Happens m m' (event (Load t c) (Ok (Value v)) ls)
  lands : {t : ℕ} {l : Landing} {ls : List Landing} → first_no (land_checks t m) ≡ None → l.thread ≡ t → LandsAs (l ∷ ls) m m' → Own m ls → Happens m m' (event (Land t) (Ok Done) (l ∷ ls))
  exchanges : {t c old new : ℕ} {done : Bool} {ls : List Landing} → (between : Meaning) → first_no (exchange_checks t c m) ≡ None → LandsAs ls m between → Own m ls → done ≡ (cell between c == old) → m' ≡ exchanged c old new between → Happens m m' (event (Exchange t c old new) (Ok (Swapped done)) ls)
  ticks : {ls : List Landing} → (between : Meaning) → first_no (tick_checks m) ≡ None → LandsAs ls m between → Own m ls → due between ≡ false → m' ≡ ticked between → Happens m m' (event Tick (Ok Done) ls)

-- what a call answers and leaves
pub record Performs (c : Call) (m m' : Meaning) (a : Outcome) : Type 0 where
  pub landings : List Landing
  pub happens : Happens m m' (event c a landings)

-- nothing has happened in m
abbrev pub New : Meaning → Type 0
New m = m ≡ fresh m.bound m.self_landing

-- the events of the history lead from m to m'
abbrev pub Run : Meaning → List Event → Meaning → Type 0
Run m [] m' = m' ≡ m
Run m (e ∷ h) m'' = (m' : Meaning) × Run m h m' × Happens m' m'' e

-- What the history tells by itself.

abbrev pub accepted : Outcome → Bool
accepted (Ok a) = true
accepted (Err e) = false

abbrev pub ticks_of : Call → Outcome → ℕ
ticks_of (Store t c v) a = 0
ticks_of (Load t c) a = 0
ticks_of (Land t) a = 0
ticks_of (Exchange t c old new) a = 0
ticks_of Tick a = cond (accepted a) 1 0

-- the accepted ticks
abbrev pub clock_in : List Event → ℕ
clock_in [] = 0
clock_in (e ∷ h) = clock_in h + ticks_of e.call e.answer

abbrev pub store_of : ℕ → ℕ → Call → Outcome → List Write
store_of t d (Store u c v) a = cond (accepted a && u == t) (record { cell = c; value = v; date = d } ∷ []) []
store_of t d (Load u c) a = []
store_of t d (Land u) a = []
store_of t d (Exchange u c old new) a = []
store_of t d Tick a = []

-- the thread's accepted stores, in their order
abbrev pub stores_in : List Event → ℕ → List Write
stores_in [] t = []
stores_in (e ∷ h) t = stores_in h t ++ store_of t (clock_in h) e.call e.answer

abbrev pub writes_of : ℕ → List Landing → List Write
writes_of t [] = []
writes_of t (l ∷ ls) = cond (l.thread == t) (l.write ∷ writes_of t ls) (writes_of t ls)

-- the thread's writes that landed, in their order
abbrev pub landed_in : List Event → ℕ → List Write
landed_in [] t = []
landed_in (e ∷ h) t = landed_in h t ++ writes_of t e.landings

abbrev pub after_landings : List Landing → ℕ → ℕ → ℕ
after_landings [] c v = v
after_landings (l ∷ ls) c v = after_landings ls c (cond (l.write.cell == c) l.write.value v)

abbrev pub swapped : Outcome → Bool
swapped (Ok Done) = false
swapped (Ok (Value v)) = false
swapped (Ok (Swapped b)) = b
swapped (Err e) = false

abbrev pub after_exchange : Call → Outcome → ℕ → ℕ → ℕ
after_exchange (Store t d w) a c v = v
after_exchange (Load t d) a c v = v
after_exchange (Land t) a c v = v
after_exchange (Exchange t d old new) a c v = cond (swapped a && d == c) new v
after_exchange Tick a c v = v

-- the last value to reach the cell by a landing or an exchange, else 0
abbrev pub value_in : List Event → ℕ → ℕ
value_in [] c = 0
value_in (e ∷ h) c = after_exchange e.call e.answer c (after_landings e.landings c (value_in h c))

-- what a load shall answer after the history and these landings: the newest of the thread's stores for that cell that have
-- not landed, else the last value to reach the cell
abbrev pub seen_in : List Event → List Landing → ℕ → ℕ → ℕ
seen_in h ls t c = value_or (newest (drop (length (landed_in h t ++ writes_of t ls)) (stores_in h t)) c) (after_landings ls c (value_in h c))

-- whether an exchange shall write, after the history and these landings: the cell holds the old value then
abbrev pub swaps_in : List Event → List Landing → ℕ → ℕ → Bool
swaps_in h ls c old = after_landings ls c (value_in h c) == old

abbrev pub TrueAnswer : List Event → List Landing → Call → Outcome → Type 0
TrueAnswer h ls (Store t c v) a = Unit {0}
TrueAnswer h ls (Load t c) (Ok Done) = ⊥
TrueAnswer h ls (Load t c) (Ok (Value v)) = v ≡ seen_in h ls t c
TrueAnswer h ls (Load t c) (Ok (Swapped b)) = ⊥
TrueAnswer h ls (Load t c) (Err e) = Unit {0}
TrueAnswer h ls (Land t) a = Unit {0}
TrueAnswer h ls (Exchange t c old new) (Ok Done) = ⊥
TrueAnswer h ls (Exchange t c old new) (Ok (Value v)) = ⊥
TrueAnswer h ls (Exchange t c old new) (Ok (Swapped b)) = b ≡ swaps_in h ls c old
TrueAnswer h ls (Exchange t c old new) (Err e) = Unit {0}
TrueAnswer h ls Tick a = Unit {0}

-- The laws of a history that leads to m.
pub record Lawful (h : List Event) (m : Meaning) : Type 0 where
  -- the clock counts the ticks, and no write waits beyond the bound
  pub clock : m.clock ≡ clock_in h
  pub timely : (t : ℕ) → AllByRecursion (λ (w : Write). (w.date ≤ m.clock) × (m.clock ≤ w.date + m.bound)) (queue m t)
  pub rises : (t : ℕ) → IsNonDecreasingBy (λ (w : Write). w.date) (queue m t)
  -- nothing is lost, made up or reordered
  pub complete : (t : ℕ) → stores_in h t ≡ landed_in h t ++ queue m t
  -- a cell holds the last value to reach it
  pub reached : (c : ℕ) → cell m c ≡ value_in h c

-- the laws at every moment of a run, and every load and exchange true
abbrev pub Always : (m : Meaning) (h : List Event) (m' : Meaning) → Run m h m' → Type 0
Always m [] m' r = Lawful [] m'
Always m (e ∷ h) m'' r = Lawful (e ∷ h) m'' × TrueAnswer h e.landings e.call e.answer × Always m h r.0 r.1

-- The calls were carried out in their order from a new memory, each with its answer, and the run keeps the laws.
pub record Ran (asked : List Call) (told : List Outcome) (m m' : Meaning) : Type 0 where
  pub new : New m
  pub events : List Event
  pub calls : map (λ (e : Event). e.call) events ≡ reverse asked
  pub answers : map (λ (e : Event). e.answer) events ≡ reverse told
  pub run : Run m events m'
  pub laws : Always m events m' run

abbrev pub FaultOf : RunFault → Meaning → Type 0
FaultOf NotNew m = is_new m ≡ false
FaultOf NoMemory m = is_new m ≡ true

-- what carrying out a list of calls promises; a refusal changes nothing
abbrev pub Carries : {Z : Type 0} → List Call → Meaning → Meaning → Result (Vec Outcome Z) RunFault → Type 0
Carries asked m m' (Ok told) = Ran asked (vec_items told) m m'
Carries asked m m' (Err e) = FaultOf e m × (m' ≡ m)
