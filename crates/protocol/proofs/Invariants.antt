-- What holds right after set-up and is kept by every call holds in every explained state. Assumes nothing.
use Rattle.std.proofs.Common.{◌≡◌, ℕ, ◌<◌, true, List, [], ◌∷◌, Some, None, Option, refl, ap, ◌∙◌, subst}
use Rattle.memory.specs.Calls.{Sound, Ticked}
use Rattle.memory.specs.Landings.{Lands}
use Rattle.memory.specs.Meaning.{Meaning, landed, is_new}
use Rattle.protocol.specs.declared.answer.Answer.{Answer}
use Rattle.protocol.specs.declared.call.Call.{Call}
use Rattle.protocol.specs.declared.operation.Operation.{Operation}
use Rattle.protocol.specs.declared.settings.Settings.{Settings}
use Rattle.protocol.specs.Begin.{named, begun}
use Rattle.protocol.specs.Guarantees.{Explains}
use Rattle.protocol.specs.History.{Event}
use Rattle.protocol.specs.Settings.{in_range}
use Rattle.protocol.specs.Steps.{Told, request, after}
use Rattle.protocol.specs.Tables.{Tables, State, thread_of, first_tables}
use Rattle.protocol.specs.Transition.{Trans, refuses, sets_up, ticks, lands, begins, steps, Meets, tick_asks, land_asks, begin_asks, step_asks, counted, stepped, here}
use Rattle.protocol.proofs.Passed.{BeginPassed, StepPassed, rest_passed, calls_left, set_up_passed, begin_passed, step_passed}
use Rattle.protocol.proofs.Placed.{Placed, Inv}
use Rattle.protocol.proofs.ShownKeeps.{explains_reached}

-- no call changes the settings
pub settings_stay : (s s' : State) {c : Call} {a : Answer} {k : Told} (x x' : Tables) → Trans s s' c a k → s.tables ≡ Some x → s'.tables ≡ Some x' → x'.settings ≡ x.settings
settings_stay s s' x x' (refuses f h) e e' = let g : x' ≡ x = cc in ap (λ (y : Tables). y.settings) g
settings_stay s s' x x' (sets_up {z} f h g) e e' = let none = (set_up_passed z s f).first in absurd cc
settings_stay s s' x x' (ticks {x = y} h f w) e e' = let j = w.tables in let g : x' ≡ counted y = cc in let k : y ≡ x = cc in ap (λ (n : Tables). n.settings) g ∙ ap (λ (n : Tables). n.settings) k
settings_stay s s' x x' (lands {x = y} h f w) e e' = let j = w.tables in let g : x' ≡ counted y = cc in let k : y ≡ x = cc in ap (λ (n : Tables). n.settings) g ∙ ap (λ (n : Tables). n.settings) k
settings_stay s s' x x' (begins {t} {p = p} {x = y} h n f w) e e' = let j = w.tables in let g : x' ≡ counted (begun y t p) = cc in let k : y ≡ x = cc in ap (λ (n : Tables). n.settings) g ∙ ap (λ (n : Tables). n.settings) k
settings_stay s s' x x' (steps {t} {x = y} {k = q} h f w) e e' =
    let j = w.tables in
    let g : x' ≡ counted (stepped y t (after (here y s.memory t) (thread_of y t).point q)) = cc in
    let k : y ≡ x = cc in
    ap (λ (n : Tables). n.settings) g ∙ ap (λ (n : Tables). n.settings) k

abbrev pub FirstHolds : (Tables → Meaning → Type 0) → Type 0
FirstHolds P = (z : Settings) (m : Meaning) → is_new m ≡ true → Sound m → in_range z ≡ true → P (first_tables z) m

abbrev pub CallsKeep : (Tables → Meaning → Type 0) → Type 0
CallsKeep P =
    (s s' : State) (c : Call) (a : Answer) (k : Told) (x x' : Tables) → Trans s s' c a k → Inv s → s.tables ≡ Some x → s'.tables ≡ Some x' → P x s.memory → P x' s'.memory

-- what each accepted call leaves of P, where the machine is set up
pub record Kept (P : Tables → Meaning → Type 0) : Type 0 where
  pub ticks : (x : Tables) (m m' : Meaning) → Placed x m → x.accepted < 8000 → Ticked Lands m m' → P x m → P (counted x) m'
  pub lands : (x : Tables) (m m' : Meaning) (t : ℕ) → Placed x m → x.accepted < 8000 → Lands (landed t m) m' → P x m → P (counted x) m'
  pub begins : (x : Tables) (m : Meaning) (t : ℕ) (o : Operation) → Placed x m → x.accepted < 8000 → BeginPassed t o x → P x m → P (counted (begun x t o)) m
  pub steps : (x : Tables) (m m' : Meaning) (t : ℕ) (k : Told) → Placed x m → x.accepted < 8000 → StepPassed t m x → Meets t (request (here x m t) (thread_of x t).point) m m' k
      → P x m → P (counted (stepped x t (after (here x m t) (thread_of x t).point k))) m'

-- the tables of a call are those of the state
same_tables : (P Q : Tables → Type 0) {o o' : Option Tables} (x x' y y' : Tables) → o ≡ Some x → o' ≡ Some x' → o ≡ Some y → o' ≡ Some y' → (P y → Q y') → P x → Q x'
same_tables P Q x x' y y' e e' f f' go p = let a : x ≡ y = cc in let b : y' ≡ x' = cc in subst Q b (go (subst P a p))

module _ (P : Tables → Meaning → Type 0) (kept : Kept P) (s s' : State) (x x' : Tables) (i : Inv s) (e : s.tables ≡ Some x) (e' : s'.tables ≡ Some x') where
  to : (y y' : Tables) → s.tables ≡ Some y → s'.tables ≡ Some y' → (P y s.memory → P y' s'.memory) → P x s.memory → P x' s'.memory
  to y y' = same_tables (λ (n : Tables). P n s.memory) (λ (n : Tables). P n s'.memory) x x' y y' e e'

  call_keeps : {c : Call} {a : Answer} {k : Told} → Trans s s' c a k → P x s.memory → P x' s'.memory
  call_keeps (refuses f h) = to x x e (ap (λ (n : State). n.tables) h ∙ e) (λ p. rw h p)
  call_keeps (sets_up {z} f h g) = let none = (set_up_passed z s f).first in absurd cc
  call_keeps (ticks {x = y} h f w) = to y (counted y) h w.tables (kept.ticks y s.memory s'.memory (i.placed y h) (calls_left s.tables (λ n. tick_asks s.memory) y h f) w.memory)
  call_keeps (lands {t} {x = y} h f w) = to y (counted y) h w.tables (kept.lands y s.memory s'.memory t (i.placed y h) (calls_left s.tables (land_asks t s.memory) y h f) w.memory)
  call_keeps (begins {t} {o} {a} {b} {p} {x = y} h g f w) =
      to y (counted (begun y t p)) h w.tables
      (λ q. rw w.memory (kept.begins y s.memory t p (i.placed y h) (calls_left s.tables (begin_asks t (named o a b)) y h f) (begin_passed t p y (rw g at (rest_passed s.tables (begin_asks t (named o a b)) y h f))) q))
  call_keeps (steps {t} {x = y} {k = k} h f w) =
      to y (counted (stepped y t (after (here y s.memory t) (thread_of y t).point k))) h w.tables
      (kept.steps y s.memory s'.memory t k (i.placed y h) (calls_left s.tables (step_asks t s.memory) y h f) (step_passed t s.memory y (rest_passed s.tables (step_asks t s.memory) y h f)) w.memory)

pub calls_keep : (P : Tables → Meaning → Type 0) → Kept P → CallsKeep P
calls_keep P kept s s' c a k x x' w i e e' = call_keeps P kept s s' x x' i e e' w

-- tables come from set-up alone
set_up_holds : (P : Tables → Meaning → Type 0) → FirstHolds P → (s s' : State) {c : Call} {a : Answer} {k : Told} (x' : Tables) → Trans s s' c a k → Sound s.memory
    → s.tables ≡ None → s'.tables ≡ Some x' → P x' s'.memory
set_up_holds P first s s' x' (refuses f h) sound e e' = absurd cc
set_up_holds P first s s' x' (sets_up {z} f h g) sound e e' =
    let p = set_up_passed z s f in
    let is : first_tables z ≡ x' = cc in
    rw h (subst (λ (n : Tables). P n s.memory) is (first z s.memory p.new sound p.range))
set_up_holds P first s s' x' (ticks h f w) sound e e' = absurd cc
set_up_holds P first s s' x' (lands h f w) sound e e' = absurd cc
set_up_holds P first s s' x' (begins h n f w) sound e e' = absurd cc
set_up_holds P first s s' x' (steps h f w) sound e e' = absurd cc

pub always : (P : Tables → Meaning → Type 0) → FirstHolds P → CallsKeep P → (h : List Event) (s : State) → Explains h s → (x : Tables) → s.tables ≡ Some x → P x s.memory
always P first keep [] s (none, sound) x e = absurd cc
always P first keep (v ∷ h) s' (s, led, w) x' e' = at s.tables refl (always P first keep h s led)
  where
    inv : Inv s
    inv = (explains_reached h s led).inv

    at : (o : Option Tables) → s.tables ≡ o → ((x : Tables) → s.tables ≡ Some x → P x s.memory) → P x' s'.memory
    at None e before = set_up_holds P first s s' x' w inv.sound e e'
    at (Some x) e before = keep s s' v.call v.answer v.told x x' w inv e e' (before x e)
