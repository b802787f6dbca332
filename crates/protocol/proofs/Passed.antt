-- What an accepted call has passed. Assumes nothing.
use Rattle.std.proofs.Common.{◌≡◌, ℕ, ◌<◌, true, not, ltb, List, [], ◌∷◌, is_some, Some, None, Option, refl, arith}
use Rattle.std.proofs.lemmas.Bool.{ltb-true}
use Rattle.memory.specs.Checks.{Check, check, first_no, tick_checks}
use Rattle.memory.specs.Meaning.{Meaning, is_new}
use Rattle.memory.proofs.Passing.{passed_head, passed_tail, tick_passed}
use Rattle.protocol.specs.declared.answer.Refusal.{Refusal}
use Rattle.protocol.specs.declared.answer.Refusal.TheVariants.{CallsUsedUp, NoSuchThread, ThreadIdle}
use Rattle.protocol.specs.declared.operation.Operation.{Operation}
use Rattle.protocol.specs.declared.settings.Settings.{Settings}
use Rattle.protocol.specs.Begin.{fits, ready, roomy, sided}
use Rattle.protocol.specs.Settings.{in_range}
use Rattle.protocol.specs.Steps.{request}
use Rattle.protocol.specs.Tables.{Tables, State, doing_at, thread_of}
use Rattle.protocol.specs.Transition.{is_idle, tick_asks, begin_asks, step_asks, request_checks, set_up_checks, first, here}

-- each of a list of checks that all pass
abbrev pub AllPass : {E : Type 0} → List (Check E) → Type 0
AllPass [] = Unit {0}
AllPass (c ∷ cs) = (c.passes ≡ true) × AllPass cs

pub all_pass : {E : Type 0} (cs : List (Check E)) → first_no cs ≡ None → AllPass cs
all_pass [] f = tt
all_pass (c ∷ cs) f = let g = passed_tail c.passes c.refusal cs f in (passed_head c.passes c.refusal cs f, all_pass cs g)

pub none_since : {A : Type 0} (o : Option A) → not (is_some o) ≡ true → o ≡ None
none_since None e = refl
none_since (Some a) e = cc

-- after the first check of a call on a machine that is set up
pub rest_passed : (o : Option Tables) (rest : Tables → List (Check Refusal)) (x : Tables) → o ≡ Some x → first_no (first o rest) ≡ None → first_no (rest x) ≡ None
rest_passed o rest x e f = passed_tail _ CallsUsedUp (rest x) (rw e at f)

pub calls_left : (o : Option Tables) (rest : Tables → List (Check Refusal)) (x : Tables) → o ≡ Some x → first_no (first o rest) ≡ None → x.accepted < 8000
calls_left o rest x e f = let less = ltb-true _ _ (passed_head _ CallsUsedUp (rest x) (rw e at f)) in omega arith

pub record SetUpPassed (z : Settings) (s : State) : Type 0 where
  pub first : s.tables ≡ None
  pub range : in_range z ≡ true
  pub new : is_new s.memory ≡ true

pub set_up_passed : (z : Settings) (s : State) → first_no (set_up_checks s z) ≡ None → SetUpPassed z s
set_up_passed z s e =
    let p = all_pass (set_up_checks s z) e in
    record { first = none_since s.tables p.0; range = p.1.0; new = p.1.1.0 }

pub clock_passed : (m : Meaning) → first_no (tick_asks m) ≡ None → m.clock < 1000000
clock_passed m e = (tick_passed m (none_since (first_no (tick_checks m)) (all_pass (tick_asks m) e).0)).0

pub record BeginPassed (t : ℕ) (o : Operation) (x : Tables) : Type 0 where
  pub thread : t < x.settings.threads
  pub idle : is_idle (doing_at (thread_of x t).point) ≡ true
  pub fits : fits x.settings o ≡ true
  pub ready : ready x (thread_of x t) o ≡ true
  pub sided : sided t (thread_of x t) o ≡ true

pub begin_passed : (t : ℕ) (o : Operation) (x : Tables) → first_no (begin_asks t (Some o) x) ≡ None → BeginPassed t o x
begin_passed t o x e =
    let p = all_pass (begin_asks t (Some o) x) e in
    record {
      thread = ltb-true t x.settings.threads p.0;
      idle = p.1.0;
      fits = p.1.1.0;
      ready = p.1.1.1.0;
      sided = p.1.1.1.1.1.0;
    }

-- a remove has a place in its list
pub begin_room : (t : ℕ) (o : Operation) (x : Tables) → first_no (begin_asks t (Some o) x) ≡ None → roomy x (thread_of x t) o ≡ true
begin_room t o x e = (all_pass (begin_asks t (Some o) x) e).1.1.1.1.0

pub record StepPassed (t : ℕ) (m : Meaning) (x : Tables) : Type 0 where
  pub thread : t < x.settings.threads
  pub memory : first_no (request_checks t m (request (here x m t) (thread_of x t).point)) ≡ None

pub step_passed : (t : ℕ) (m : Meaning) (x : Tables) → first_no (step_asks t m x) ≡ None → StepPassed t m x
step_passed t m x e =
    let p = all_pass (step_asks t m x) e in
    let a = ltb t x.settings.threads in
    let b = not (is_idle (doing_at (thread_of x t).point)) in
    let rest = request_checks t m (request (here x m t) (thread_of x t).point) in
    record {
      thread = ltb-true t x.settings.threads p.0;
      memory = passed_tail b ThreadIdle rest (passed_tail a NoSuchThread (check b ThreadIdle ∷ rest) e);
    }
