-- Runs over a memory that lands nothing by itself are histories, and the eight marked ones answer as marked. Assumes nothing.
use Rattle.std.proofs.Common.{◌≡◌, ℕ, ◌≤◌, Bool, true, false, cond, eqb, List, [], ◌∷◌, Some, None, Option, refl, ◌∙◌}
use Rattle.std.proofs.lemmas.Bool.{not-true}
use Rattle.memory.specs.Checks.{first_no, tick_checks}
use Rattle.memory.specs.Meaning.{Meaning, cell, with_cell, loaded, stored, landed, exchanged, ticked, due}
use Rattle.memory.proofs.Passing.{tick_passed}
use Rattle.memory.proofs.Soundness.{fresh_sound}
use Rattle.memory.proofs.Views.{lands_none, landed_fixed}
use Rattle.protocol.specs.declared.answer.Refusal.{Refusal}
use Rattle.protocol.specs.declared.call.Call.{Call}
use Rattle.protocol.specs.declared.call.Call.TheVariants.{SetUp, Tick, Land, Begin, Step}
use Rattle.protocol.specs.declared.operation.Operation.{Operation}
use Rattle.protocol.specs.Begin.{named}
use Rattle.protocol.specs.Guarantees.{Explains}
use Rattle.protocol.specs.History.{Event, event}
use Rattle.protocol.specs.MarkedRuns.{MarkedRuns}
use Rattle.protocol.specs.Runs.{held_told, held_after, does, decided, performs, begun_new, state_after, history_after}
use Rattle.protocol.specs.Steps.{Request, asks_load, asks_store, asks_exchange, asks_clock, asks_fence, asks_nothing, request}
use Rattle.protocol.specs.Tables.{Tables, State, thread_of}
use Rattle.protocol.specs.Transition.{Trans, refuses, sets_up, ticks, lands, begins, steps, Meets, checks_of, first, tick_asks, begin_asks, here}
use Rattle.protocol.proofs.Passed.{all_pass, none_since, rest_passed}

meets : (t : ℕ) (q : Request) (m : Meaning) → Meets t q m (held_after t m q) (held_told t m q)
meets t (asks_load c) m = (loaded m t c, refl, record { lands = lands_none m; value = refl })
meets t (asks_store c v) m = (refl, lands_none (stored t c v m))
meets t (asks_exchange c old new) m = (eqb (cell m c) old, refl, record { between = m; lands = lands_none m; answer = refl; is = refl })
meets t asks_clock m = (refl, refl)
meets t asks_fence m = (refl, refl)
meets t asks_nothing m = (refl, refl)

-- the memory still lands nothing by itself
exchanged_self : (c old new : ℕ) (m : Meaning) → (exchanged c old new m).self_landing ≡ m.self_landing
unfolding exchanged
exchanged_self c old new m = go (eqb (cell m c) old)
  where
    go : (b : Bool) → (cond b (with_cell m c new) m).self_landing ≡ m.self_landing
    go true = refl
    go false = refl

after_self : (t : ℕ) (q : Request) (m : Meaning) → (held_after t m q).self_landing ≡ m.self_landing
unfolding stored
after_self t (asks_load c) m = refl
after_self t (asks_store c v) m = refl
after_self t (asks_exchange c old new) m = exchanged_self c old new m
after_self t asks_clock m = refl
after_self t asks_fence m = refl
after_self t asks_nothing m = refl

does_self : (c : Call) (o : Option Tables) (s : State) → (does c o s).state.memory.self_landing ≡ s.memory.self_landing
unfolding ticked
does_self (SetUp z) o s = refl
does_self Tick None s = refl
does_self Tick (Some x) s = refl
does_self (Land t) None s = refl
does_self (Land t) (Some x) s = (landed_fixed t s.memory).self_landing
does_self (Begin t o a b) None s = refl
does_self (Begin t o a b) (Some x) s = refl
does_self (Step t) None s = refl
does_self (Step t) (Some x) s = after_self t (request (here x s.memory t) (thread_of x t).point) s.memory

decided_self : (o : Option Refusal) (c : Call) (s : State) → (decided o c s).state.memory.self_landing ≡ s.memory.self_landing
decided_self (Some e) c s = refl
decided_self None c s = does_self c s.tables s

-- Each call is a transition.

none_due_lem : (m : Meaning) → m.self_landing ≡ false → first_no (tick_asks m) ≡ None → due m ≡ false
none_due_lem m self e =
    let passed = tick_passed m (none_since (first_no (tick_checks m)) (all_pass (tick_asks m) e).0) in
    not-true (due m) (rw self at passed.1)

begins_as : (s : State) (t o a b : ℕ) (x : Tables) → s.tables ≡ Some x → first_no (checks_of (Begin t o a b) s) ≡ None
    → Trans s (does (Begin t o a b) (Some x) s).state (Begin t o a b) (does (Begin t o a b) (Some x) s).answer (does (Begin t o a b) (Some x) s).told
begins_as s t o a b x e g = go (named o a b) refl
  where
    rest : first_no (begin_asks t (named o a b) x) ≡ None
    rest = rest_passed s.tables (begin_asks t (named o a b)) x e g

    go : (p : Option Operation) → named o a b ≡ p → Trans s (does (Begin t o a b) (Some x) s).state (Begin t o a b) (does (Begin t o a b) (Some x) s).answer (does (Begin t o a b) (Some x) s).told
    go None n =
        let y : false ≡ true = (all_pass (begin_asks t None x) (rw n at rest)).1.1.0 in
        absurd cc
    go (Some p) n = begins e n g (record { memory = refl; tables = rw n refl })

accepted_trans : (s : State) → s.memory.self_landing ≡ false → (c : Call) (o : Option Tables) → s.tables ≡ o → first_no (checks_of c s) ≡ None
    → Trans s (does c o s).state c (does c o s).answer (does c o s).told
accepted_trans s self (SetUp z) o e g = sets_up g refl refl
accepted_trans s self Tick None e g = absurd (let y : first_no (first None (λ (x : Tables). tick_asks s.memory)) ≡ None = rw e at g in absurd cc)
accepted_trans s self Tick (Some x) e g =
    ticks e g (record { memory = record { between = s.memory; lands = lands_none s.memory; none_due = none_due_lem s.memory self (rest_passed s.tables (λ (y : Tables). tick_asks s.memory) x e g); is = refl }; tables = refl })
accepted_trans s self (Land t) None e g = absurd (let y = rw e at g in absurd cc)
accepted_trans s self (Land t) (Some x) e g = lands e g (record { memory = lands_none (landed t s.memory); tables = refl })
accepted_trans s self (Begin t o a b) None e g = absurd (let y = rw e at g in absurd cc)
accepted_trans s self (Begin t o a b) (Some x) e g = begins_as s t o a b x e g
accepted_trans s self (Step t) None e g = absurd (let y = rw e at g in absurd cc)
accepted_trans s self (Step t) (Some x) e g = steps e g (record { memory = meets t (request (here x s.memory t) (thread_of x t).point) s.memory; tables = refl; answer = refl })

held_trans : (s : State) (c : Call) → s.memory.self_landing ≡ false → Trans s (performs s c).state c (performs s c).answer (performs s c).told
held_trans s c self = go (first_no (checks_of c s)) refl
  where
    go : (o : Option Refusal) → first_no (checks_of c s) ≡ o → Trans s (decided o c s).state c (decided o c s).answer (decided o c s).told
    go (Some e) g = refuses g refl
    go None g = accepted_trans s self c s.tables refl g

-- Each list of calls is a history.
run_explained : (s : State) (h : List Event) → Explains h s → s.memory.self_landing ≡ false → (cs : List Call) → Explains (history_after s h cs) (state_after s cs)
run_explained s h ex self [] = ex
run_explained s h ex self (c ∷ cs) =
    run_explained (performs s c).state (event c (performs s c).answer (performs s c).told ∷ h) (s, ex, held_trans s c self) (decided_self (first_no (checks_of c s)) c s ∙ self) cs

histories : (bound : ℕ) → 1 ≤ bound → bound ≤ 1000 → (cs : List Call) → Explains (history_after (begun_new bound) [] cs) (state_after (begun_new bound) cs)
histories bound low high cs = run_explained (begun_new bound) [] (refl, fresh_sound bound false low high) refl cs

pub marked_runs : MarkedRuns
unfolding loaded stored landed exchanged ticked
marked_runs =
    record {
      guarded = refl;
      freeing = refl;
      early = refl;
      short = refl;
      downward = refl;
      full = refl;
      waits = refl;
      enters = refl;
      histories = histories;
    }
