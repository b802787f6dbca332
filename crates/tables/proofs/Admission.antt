-- The checks that calls on a thread have in common, and what a step leaves. Assumes nothing.
use Rattle.std.proofs.Common.{◌≡◌, Bool, cond, Result, Ok, Err, ℕ, ◌+◌, ◌<◌, ◌≤◌, true, false, not, List, ◌∷◌, set, Some, None, sym, refl, ap, ◌∙◌, subst, arith}
use Rattle.std.proofs.lemmas.Bool.{le-ltb, lt-ltb}
use Rattle.std.proofs.lemmas.Result.{err_from_is_err_and}
use Rattle.std.specs.Result.{IsErrAnd}
use Rattle.memory.specs.Checks.{Check, check, first_no}
use Rattle.memory.specs.Meaning.{Meaning}
use Rattle.protocol.specs.declared.answer.Answer.{Answer}
use Rattle.protocol.specs.declared.answer.Answer.TheVariants.{Refused}
use Rattle.protocol.specs.declared.answer.Refusal.{Refusal}
use Rattle.protocol.specs.declared.answer.Refusal.TheVariants.{CallsUsedUp, NoSuchThread, ThreadIdle}
use Rattle.protocol.specs.declared.call.Call.{Call}
use Rattle.protocol.specs.declared.call.Call.TheVariants.{Begin, Step}
use Rattle.protocol.specs.declared.operation.Operation.{Operation}
use Rattle.protocol.specs.declared.node.NodeState.{NodeState}
use Rattle.protocol.specs.Calls.{Performs}
use Rattle.protocol.specs.Steps.{told_nothing, Told, Here, Outcome, request, after}
use Rattle.protocol.specs.Tables.{Tables, Thread, State, thread_of, doing_at}
use Rattle.protocol.specs.Transition.{checks_of, first, thread_check, step_asks, request_checks, is_idle, counted, stepped, Meets, refuses, steps}
use Rattle.protocol.proofs.CallsKept.{performed}
use Rattle.tables.specs.Asked.{Admits, answer_of}

pub refused : {s : State} {c : Call} {e : Refusal} → first_no (checks_of c s) ≡ Some e → Performs s s c (Refused e)
refused f = performed (record { told = told_nothing; trans = refuses f refl })

-- where a `?` hands a refusal on
pub admits_none : (s : State) (t n a b : ℕ) (r : Result Operation Refusal) (e : Refusal) → IsErrAnd r (λ y. y ≡ e) → first_no (checks_of (Begin t n a b) s) ≡ Some e → Admits s t n a b r
admits_none s t n a b r e is f = let p = err_from_is_err_and r is in rw p.1 (f ∙ ap Some (sym p.2))

pub exits : {s : State} {c : Call} (r : Result Answer Refusal) (e : Refusal) → IsErrAnd r (λ y. y ≡ e) → first_no (checks_of c s) ≡ Some e → Performs s s c (answer_of r)
exits r e is f = let p = err_from_is_err_and r is in rw p.1 (refused (f ∙ ap Some (sym p.2)))

-- what the code's `check` gives
abbrev pub checked : Bool → Refusal → Result (Unit {0}) Refusal
checked b n = cond b (Ok tt) (Err n)

-- what it has answered says how the check went
pub said_no : (b b' : Bool) (n e : Refusal) → b ≡ b' → Err e ≡ checked b n → (b' ≡ false) × (Some n ≡ Some e)
said_no b b' n e same h = (grind (arith, same, h), grind (arith, same, h))

pub said_yes : (b b' : Bool) (n : Refusal) (u : Unit {0}) → b ≡ b' → Ok u ≡ checked b n → b' ≡ true
said_yes b b' n u same h = grind (arith, same, h)

pub calls_used_up : (x : Tables) (rest : Tables → List (Check Refusal)) (e : Refusal) → (8000 ≤ x.accepted) × (e ≡ CallsUsedUp) → first_no (first (Some x) rest) ≡ Some e
calls_used_up x rest e h = rw (le-ltb x.accepted 8000 h.0, h.1) refl

pub calls_left : (x : Tables) (rest : Tables → List (Check Refusal)) → x.accepted < 8000 → first_no (first (Some x) rest) ≡ first_no (rest x)
calls_left x rest lt = rw (lt-ltb x.accepted 8000 lt) refl

pub no_such_thread : (t : ℕ) (x : Tables) (rest : List (Check Refusal)) (e : Refusal) → (x.settings.threads ≤ t) × (e ≡ NoSuchThread) → first_no (thread_check t x ∷ rest) ≡ Some e
no_such_thread t x rest e h = rw (le-ltb t x.settings.threads h.0, h.1) refl

pub has_thread : (t : ℕ) (x : Tables) (rest : List (Check Refusal)) → t < x.settings.threads → first_no (thread_check t x ∷ rest) ≡ first_no rest
has_thread t x rest lt = rw (lt-ltb t x.settings.threads lt) refl

-- a step: what is asked after the thread is known, by the row of the thread
module _ (x : Tables) (m : Meaning) (t : ℕ) where
  abbrev pub site : Thread → Here
  site r = record { settings = x.settings; bound = m.bound; thread = t; own = r; nodes = x.nodes }

  abbrev pub later : Thread → List (Check Refusal)
  later r = check (not (is_idle (doing_at r.point))) ThreadIdle ∷ request_checks t m (request (site r) r.point)

  known : x.accepted < 8000 → t < x.settings.threads → first_no (checks_of (Step t) (record { tables = Some x; memory = m })) ≡ first_no (later (thread_of x t))
  known few lt = calls_left x (step_asks t m) few ∙ has_thread t x (later (thread_of x t)) lt

  pub step_no_thread : (e : Refusal) → x.accepted < 8000 → (x.settings.threads ≤ t) × (e ≡ NoSuchThread) → first_no (checks_of (Step t) (record { tables = Some x; memory = m })) ≡ Some e
  step_no_thread e few h = calls_left x (step_asks t m) few ∙ no_such_thread t x (later (thread_of x t)) e h

  module _ (row : Thread) (is : thread_of x t ≡ row) where
    by_row : first_no (later (thread_of x t)) ≡ first_no (later row)
    by_row = ap (λ (r : Thread). first_no (later r)) is

    pub idle_refused : is_idle (doing_at row.point) ≡ true → x.accepted < 8000 → t < x.settings.threads → first_no (checks_of (Step t) (record { tables = Some x; memory = m })) ≡ Some ThreadIdle
    idle_refused e few lt = known few lt ∙ by_row ∙ rw e refl

    pub asks_request : is_idle (doing_at row.point) ≡ false → x.accepted < 8000 → t < x.settings.threads
        → first_no (checks_of (Step t) (record { tables = Some x; memory = m })) ≡ first_no (request_checks t m (request (site row) row.point))
    asks_request e few lt = known few lt ∙ by_row ∙ rw e refl

    pub step_moves : (m' : Meaning) (row' : Thread) (ns' : List NodeState) (a : Answer) (k : Told)
        → first_no (checks_of (Step t) (record { tables = Some x; memory = m })) ≡ None
        → Meets t (request (site row) row.point) m m' k
        → record { own = row'; nodes = ns'; answer = a } ≡ after (site row) row.point k
        → Performs (record { tables = Some x; memory = m }) (record { tables = Some (record { settings = x.settings; threads = set x.threads t row'; nodes = ns'; accepted = x.accepted + 1 }); memory = m' }) (Step t) a
    step_moves m' row' ns' a k passes meets out =
        let P : Thread → Type 0 = λ r. Meets t (request (site r) r.point) m m' k in
        let Q : Thread → Type 0 = λ r. record { own = row'; nodes = ns'; answer = a } ≡ after (site r) r.point k in
        let out' : Q (thread_of x t) = subst Q (sym is) out in
        performed (record {
          told = k;
          trans = steps refl passes (record { memory = subst P (sym is) meets; tables = ap (λ (o : Outcome). Some (counted (stepped x t o))) out'; answer = ap (λ (o : Outcome). o.answer) out' });
        })
