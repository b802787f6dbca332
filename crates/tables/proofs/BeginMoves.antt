-- The checks of a begin, in their order, and what it leaves. Assumes nothing.
use Rattle.std.proofs.Common.{◌≡◌, Bool, Result, Ok, Err, length, arith, ℕ, ◌+◌, ◌<◌, true, false, List, [], ◌∷◌, map, get_or, take, set, Some, None, Option, sym, refl, ap, ◌∙◌}
use Rattle.std.proofs.lemmas.Bool.{and_from}
use Rattle.std.specs.Option.{ok_or}
use Rattle.std.specs.Result.{IsErrAnd}
use Rattle.memory.specs.Checks.{Check, check, first_no}
use Rattle.memory.specs.Meaning.{Meaning, fresh}
use Rattle.protocol.specs.declared.answer.Answer.TheVariants.{Done}
use Rattle.protocol.specs.declared.answer.Refusal.{Refusal}
use Rattle.protocol.specs.declared.answer.Refusal.TheVariants.{ThreadBusy, BadOperation, GuardOrNode, ListFull, WrongSide}
use Rattle.protocol.specs.declared.call.Call.TheVariants.{Begin}
use Rattle.protocol.specs.declared.node.NodeState.{NodeState}
use Rattle.protocol.specs.declared.operation.Operation.{Operation}
use Rattle.protocol.specs.declared.operation.Operation.TheVariants.{Protect, Copy, Release, Publish, Remove, Reclaim, OwnerLock, OwnerUnlock, OtherLock, OtherUnlock}
use Rattle.protocol.specs.Begin.{named, fits, ready, roomy, sided, start_of, takes}
use Rattle.protocol.specs.Calls.{Performs}
use Rattle.protocol.specs.Steps.{told_nothing, moved_to}
use Rattle.protocol.specs.Tables.{Tables as Table, Thread as Row, doing_at, thread_of}
use Rattle.protocol.specs.Transition.{checks_of, begin_asks, asked, is_idle, begins as begins_by}
use Rattle.protocol.proofs.CallsKept.{performed}
use Rattle.protocol.proofs.Passed.{begin_passed, begin_room, rest_passed, calls_left as few_left}
use Rattle.tables.specs.Asked.{Admits, Admitted}
use Rattle.tables.specs.declared.tables.Tables.{Tables}
use Rattle.tables.specs.declared.thread.Thread.{Thread}
use Rattle.tables.specs.Rows.{states_of}
use Rattle.tables.specs.State.{running, tables_of}
use Rattle.tables.specs.Threads.{at, begins, fitting, row_of}
use Rattle.tables.proofs.Admission.{admits_none, calls_left, checked, has_thread, said_no, said_yes}
use Rattle.tables.proofs.ThreadTable.{row_at, rows_set}

-- the first step of an operation
pub begins_row : (o : Operation) (t : Thread) → row_of (begins o t) ≡ moved_to (start_of o) (row_of t)
begins_row (Protect r h) t = refl
begins_row (Copy a b) t = refl
begins_row (Release a) t = refl
begins_row (Publish r n) t = refl
begins_row (Remove r) t = refl
begins_row Reclaim t = refl
begins_row OwnerLock t = refl
begins_row OwnerUnlock t = refl
begins_row OtherLock t = refl
begins_row OtherUnlock t = refl

pub begins_fitting : (x : Table) (o : Operation) (t : Thread) → fits x.settings o ≡ true → roomy x (row_of t) o ≡ true → fitting x.settings (begins o t) ≡ true
begins_fitting x (Protect r h) t f m = and_from _ _ f refl
begins_fitting x (Copy a b) t f m = and_from _ _ f refl
begins_fitting x (Release a) t f m = and_from _ _ f refl
begins_fitting x (Publish r n) t f m = and_from _ _ f refl
begins_fitting x (Remove r) t f m = and_from _ _ f (and_from _ _ m refl)
begins_fitting x Reclaim t f m = refl
begins_fitting x OwnerLock t f m = refl
begins_fitting x OwnerUnlock t f m = refl
begins_fitting x OtherLock t f m = refl
begins_fitting x OtherUnlock t f m = refl

-- what is asked of the operation, by the row of an idle thread
abbrev pub of_operation : Table → ℕ → Row → Option Operation → List (Check Refusal)
of_operation x t r o =
    check (asked o (fits x.settings) false) BadOperation
    ∷ check (asked o (ready x r) true) GuardOrNode
    ∷ check (asked o (roomy x r) true) ListFull
    ∷ check (asked o (sided t r) true) WrongSide
    ∷ []

abbrev pub of_thread : Table → ℕ → Row → Option Operation → List (Check Refusal)
of_thread x t r o = check (is_idle (doing_at r.point)) ThreadBusy ∷ of_operation x t r o

-- what a begin has left to ask, over any memory, as the checks before have passed
pub record Left (x : Tables) (t n a b : ℕ) (cs : List (Check Refusal)) : Type 0 where
  pub asks : (m : Meaning) → first_no (checks_of (Begin t n a b) (running x m)) ≡ first_no cs

-- the code's `check` passes, or refuses
pub passed : {x : Tables} {t n a b : ℕ} {cs : List (Check Refusal)} {p q : Bool} {k : Refusal} {u : Unit {0}} → Left x t n a b (check q k ∷ cs) → p ≡ q → Ok u ≡ checked p k → Left x t n a b cs
passed {p = p} {q = q} {k = k} {u = u} l same says = record { asks = λ m. l.asks m ∙ rw (said_yes p q k u same says) refl }

pub failed : {x : Tables} {t n a b : ℕ} {cs : List (Check Refusal)} {p q : Bool} {k e : Refusal} (r : Result Operation Refusal) → Left x t n a b (check q k ∷ cs) → p ≡ q → Err e ≡ checked p k → IsErrAnd r (λ y. y ≡ e) → (m : Meaning) → Admits (running x m) t n a b r
failed {x = x} {t = t} {n = n} {a = a} {b = b} {p = p} {q = q} {k = k} {e = e} r l same says is m =
    let h = said_no p q k e same says in
    admits_none (running x m) t n a b r e is (l.asks m ∙ rw h.0 h.1)

pub unnamed : {x : Tables} {t n a b : ℕ} {cs : List (Check Refusal)} {s : Option Operation} {e : Refusal} (r : Result Operation Refusal) → Left x t n a b (check (asked (named n a b) (fits x.layout.settings) false) BadOperation ∷ cs)
    → s ≡ named n a b → Err e ≡ ok_or s BadOperation → IsErrAnd r (λ y. y ≡ e) → (m : Meaning) → Admits (running x m) t n a b r
unnamed {x = x} {t = t} {n = n} {a = a} {b = b} {s = s} {e = e} r l same says is m =
    let none : s ≡ None = grind (arith, says) in
    let bad : ◌≡◌ {A = Option Refusal} (Some BadOperation) (Some e) = grind (arith, says) in
    admits_none (running x m) t n a b r e is (l.asks m ∙ rw (sym same ∙ none) bad)

pub all_passed : {x : Tables} {t n a b : ℕ} {o : Operation} → Left x t n a b [] → named n a b ≡ Some o → (m : Meaning) → Admitted (running x m) t n a b o
all_passed l is m = record { passes = l.asks m; is = is }

-- where the thread is known and calls are left
module _ (x : Tables) {t n a b : ℕ} {own : Thread} (few : x.accepted < 8000) (known : (t < x.layout.settings.threads) × ((d : Thread) → get_or x.threads t d ≡ own)) where
  pub known_asks : Left x t n a b (of_thread (tables_of x) t (row_of own) (named n a b))
  known_asks =
      let table = tables_of x in
      record {
        asks = λ m.
            calls_left table (begin_asks t (named n a b)) few
            ∙ has_thread t table (of_thread table t (thread_of table t) (named n a b)) known.0
            ∙ rw (row_at x t own known.0, known.1 own) refl;
      }

  -- once the thread is idle
  module _ {i : Bool} {u : Unit {0}} (same : i ≡ is_idle (doing_at (at own))) (free : Ok u ≡ checked i ThreadBusy) where
    pub idle_asks : Left x t n a b (of_operation (tables_of x) t (row_of own) (named n a b))
    idle_asks = passed known_asks same free

    pub named_asks : {s : Option Operation} {o : Operation} → s ≡ named n a b → Ok o ≡ ok_or s BadOperation → Left x t n a b (of_operation (tables_of x) t (row_of own) (Some o))
    named_asks {s} {o} is says =
        let found : s ≡ Some o = grind (arith, says) in
        record { asks = λ m. idle_asks.asks m ∙ rw (sym is ∙ found) refl }

-- what an admitted begin has passed, over any memory
pub record Granted (x : Tables) (t : ℕ) (o : Operation) : Type 0 where
  pub few : x.accepted < 8000
  pub thread : t < x.layout.settings.threads
  pub low : t < 8
  pub listed : t < length x.threads
  -- the row still fits
  pub fits : (d : Thread) → fitting x.layout.settings (begins o (get_or x.threads t d)) ≡ true

pub granted : (x : Tables) {t n a b : ℕ} {o : Operation} → ((m : Meaning) → Admitted (running x m) t n a b o) → Granted x t o
granted x {t} {n} {a} {b} {o} admits =
    let h = admits (fresh 1 false) in
    let passes = rw h.is at (rest_passed (Some (tables_of x)) (begin_asks t (named n a b)) (tables_of x) refl h.passes) in
    let p = begin_passed t o (tables_of x) passes in
    let room = begin_room t o (tables_of x) passes in
    let high = x.layout.threads_high in
    let long = x.eight in
    record {
      few = few_left (Some (tables_of x)) (begin_asks t (named n a b)) (tables_of x) refl h.passes;
      thread = p.thread;
      low = omega (arith, p.thread);
      listed = omega (arith, p.thread);
      fits = λ d. begins_fitting (tables_of x) o (get_or x.threads t d) p.fits (rw (row_at x t d p.thread) at room);
    }

-- and what it leaves
pub begin_done : (x : Tables) {t n a b : ℕ} {o : Operation} → ((m : Meaning) → Admitted (running x m) t n a b o) → (m : Meaning) (d row' : Thread) (ns' : List NodeState) → row' ≡ begins o (get_or x.threads t d) → ns' ≡ takes t o (states_of x.nodes)
    → Performs (running x m) (record { tables = Some (record { settings = x.layout.settings; threads = take x.layout.settings.threads (map row_of (set x.threads t row')); nodes = ns'; accepted = x.accepted + 1 }); memory = m }) (Begin t n a b) Done
begin_done x {t} {n} {a} {b} {o} admits m d row' ns' e f =
    let table = tables_of x in
    let own = get_or x.threads t d in
    let lt = (granted x admits).thread in
    let row : row_of row' ≡ moved_to (start_of o) (thread_of table t) = ap row_of e ∙ begins_row o own ∙ ap (moved_to (start_of o)) (sym (row_at x t d lt)) in
    rw (rows_set x.layout.settings.threads x.threads t row', row, f)
    (performed (record { told = told_nothing; trans = begins_by refl (admits m).is (admits m).passes (record { memory = refl; tables = refl }) }))
