-- Ticks and landings: what the memory's answer makes of them. Assumes nothing.
use Rattle.std.proofs.Common.{◌≡◌, [], ◌∷◌, Result, Ok, Err, ℕ, ◌<◌, ◌≤◌, Bool, true, false, cond, ltb, ◌⊎◌, Some, None, refl, ◌∙◌, inl, inr}
use Rattle.std.proofs.lemmas.Bool.{cases_lt, lt-ltb, le-ltb}
use Rattle.memory.specs.declared.refusal.Refusal.{Refusal as No}
use Rattle.std.specs.Result.{IsErrAnd, result_or}
use Rattle.memory.specs.Calls.{Ticks, LandsOne as MemoryLands}
use Rattle.memory.specs.Checks.{check, first_no, land_checks}
use Rattle.memory.specs.Landings.{Lands}
use Rattle.memory.specs.Meaning.{Meaning, waiting_count}
use Rattle.memory.proofs.Passing.{land_passed, land_passes}
use Rattle.protocol.specs.declared.answer.Answer.{Answer}
use Rattle.protocol.specs.declared.answer.Answer.TheVariants.{Done}
use Rattle.protocol.specs.declared.answer.Refusal.{Refusal}
use Rattle.protocol.specs.declared.answer.Refusal.TheVariants.{NoSuchThread, NothingWaiting, TickRefused}
use Rattle.protocol.specs.declared.call.Call.TheVariants.{Land, Tick}
use Rattle.protocol.specs.Calls.{Performs}
use Rattle.protocol.specs.Steps.{told_nothing}
use Rattle.protocol.specs.Tables.{Tables, State}
use Rattle.protocol.specs.Transition.{checks_of, counted, land_asks, tick_asks, ticks, lands}
use Rattle.protocol.proofs.CallsKept.{performed}
use Rattle.tables.specs.Asked.{answer_of}
use Rattle.tables.proofs.Admission.{calls_left, exits, no_such_thread}

abbrev at : Tables → Meaning → State
at x m = record { tables = Some x; memory = m }

module _ (x : Tables) (m m' : Meaning) (few : x.accepted < 8000) where
  pub tick_done : (o : Result (Unit {0}) No) (u : Unit {0}) → Ticks Lands m m' o → Ok u ≡ result_or o (Err TickRefused) → Performs (at x m) (at (counted x) m') Tick Done
  tick_done (Err e) u h is = absurd (cc)
  tick_done (Ok v) u h is =
      let passes : first_no (checks_of Tick (at x m)) ≡ None = calls_left x (λ _. tick_asks m) few ∙ rw h.passes refl in
      performed (record { told = told_nothing; trans = ticks refl passes (record { memory = h.does; tables = refl }) })

  pub tick_refused : (o : Result (Unit {0}) No) (e : Refusal) (r : Result Answer Refusal) → Ticks Lands m m' o → Err e ≡ result_or o (Err TickRefused) → IsErrAnd r (λ y. y ≡ e) → Performs (at x m) (at x m') Tick (answer_of r)
  tick_refused (Ok v) e r h is back = absurd (cc)
  tick_refused (Err n) e r h is back =
      let same : e ≡ TickRefused = cc in
      rw h.same (exits r e back (calls_left x (λ _. tick_asks m) few ∙ rw (h.fails, same) refl))

pub land_no_thread : (x : Tables) (m : Meaning) (t : ℕ) (e : Refusal) → x.accepted < 8000 → (x.settings.threads ≤ t) × (e ≡ NoSuchThread) → first_no (checks_of (Land t) (at x m)) ≡ Some e
land_no_thread x m t e few h = calls_left x (land_asks t m) few ∙ no_such_thread t x (check (ltb 0 (waiting_count m t)) NothingWaiting ∷ []) e h

-- the thread is one of the machine's, so the memory asks only whether a write waits
module _ (x : Tables) (m m' : Meaning) (t : ℕ) (few : x.accepted < 8000) (lt : t < x.settings.threads) (low : t < 8) where
  land_checks_lem : (b : Bool) → ltb 0 (waiting_count m t) ≡ b → first_no (checks_of (Land t) (at x m)) ≡ cond b None (Some NothingWaiting)
  land_checks_lem b e = rw (lt-ltb x.accepted 8000 few, lt-ltb t x.settings.threads lt, e) refl

  pub land_done : (o : Result (Unit {0}) No) (u : Unit {0}) → MemoryLands Lands t m m' o → Ok u ≡ result_or o (Err NothingWaiting) → Performs (at x m) (at (counted x) m') (Land t) Done
  land_done (Err e) u h is = absurd (cc)
  land_done (Ok v) u h is =
      let passes = land_checks_lem true (lt-ltb 0 (waiting_count m t) (land_passed t m h.passes).1) in
      performed (record { told = told_nothing; trans = lands refl passes (record { memory = h.does; tables = refl }) })

  pub land_refused : (o : Result (Unit {0}) No) (e : Refusal) (r : Result Answer Refusal) → MemoryLands Lands t m m' o → Err e ≡ result_or o (Err NothingWaiting) → IsErrAnd r (λ y. y ≡ e) → Performs (at x m) (at x m') (Land t) (answer_of r)
  land_refused (Ok v) e r h is back = absurd (cc)
  land_refused (Err n) e r h is back = rw h.same (exits r e back (land_checks_lem false (none h.fails (cases_lt 0 (waiting_count m t))) ∙ cc))
    where
      none : first_no (land_checks t m) ≡ Some n → (0 < waiting_count m t) ⊎ (waiting_count m t ≤ 0) → ltb 0 (waiting_count m t) ≡ false
      none f (inl some) = let p = land_passes t m low some in absurd (cc)
      none f (inr le) = le-ltb 0 (waiting_count m t) le
