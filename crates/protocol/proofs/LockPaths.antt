-- Every accepted call, seen from the lock, is a path. Assumes nothing.
use Rattle.std.proofs.Common.{◌≡◌, ℕ, ◌*◌, ◌<◌, Bool, true, false, not, eqb, length, Some, None, sym, refl, ap, ◌∙◌, subst, arith}
use Rattle.std.proofs.lemmas.Bool.{and_parts, not-true, eqb-true, eqb-false}
use Rattle.memory.specs.Calls.{Sound, Ticked}
use Rattle.memory.specs.Checks.{first_no}
use Rattle.memory.specs.Landings.{Lands}
use Rattle.memory.specs.Meaning.{Meaning, landed}
use Rattle.memory.proofs.Soundness.{landed_sound}
use Rattle.protocol.specs.declared.answer.Answer.{Answer}
use Rattle.protocol.specs.declared.call.Call.{Call}
use Rattle.protocol.specs.declared.call.Call.TheVariants.{SetUp}
use Rattle.protocol.specs.declared.operation.Operation.{Operation}
use Rattle.protocol.specs.declared.operation.Operation.TheVariants.{Protect, Copy, Release, Publish, Remove, Reclaim, OwnerLock, OwnerUnlock, OtherLock, OtherUnlock}
use Rattle.protocol.specs.declared.settings.Settings.{Settings}
use Rattle.protocol.specs.Begin.{named, sided, start_of, takes, begun}
use Rattle.protocol.specs.Steps.{Told, after, moved_to}
use Rattle.protocol.specs.Tables.{Point, Tables, State, doing_at, thread_of, idle, protect1, protect2, protect3, protect4, copy1, release1, publish1, remove1, remove2, remove3, reclaim1, reclaim2, reclaim3, owner_lock1, owner_lock2, owner_lock3, owner_lock4, owner_lock5, owner_unlock1, owner_unlock2, owner_unlock3, owner_unlock4, other_lock1, other_lock2, other_lock3, other_lock4, other_lock5, other_lock6, other_lock7, other_lock8, other_unlock1, other_unlock2, other_unlock3}
use Rattle.protocol.specs.Transition.{Trans, refuses, sets_up, ticks, lands, begins, steps, is_idle, begin_asks, step_asks, checks_of, here, counted, stepped}
use Rattle.protocol.proofs.LockMemory.{same_refl, still_refl, landed_then, lands_then, ticked_on}
use Rattle.protocol.proofs.LockSteps.{goes, step_path}
use Rattle.protocol.proofs.LockView.{sight_of, lock_state, Goes, Acts, node, begins_owner_lock, begins_owner_unlock, begins_other_lock, begins_other_unlock, Still, LockPath, rests, ticks as ticks_on, acts}
use Rattle.protocol.proofs.Passed.{rest_passed, calls_left, set_up_passed, begin_passed, step_passed}
use Rattle.protocol.proofs.Placed.{Inv}

-- Begin.

pub idle_is : (p : Point) → is_idle (doing_at p) ≡ true → p ≡ idle
idle_is idle e = refl
idle_is (protect1 r h) e = cc
idle_is (protect2 r h n) e = cc
idle_is (protect3 r h n) e = cc
idle_is (protect4 r h) e = cc
idle_is (copy1 a b) e = cc
idle_is (release1 a) e = cc
idle_is (publish1 r n) e = cc
idle_is (remove1 r) e = cc
idle_is (remove2 r n) e = cc
idle_is (remove3 r n) e = cc
idle_is reclaim1 e = cc
idle_is (reclaim2 now seen) e = cc
idle_is (reclaim3 now seen) e = cc
idle_is owner_lock1 e = cc
idle_is owner_lock2 e = cc
idle_is (owner_lock3 v) e = cc
idle_is owner_lock4 e = cc
idle_is owner_lock5 e = cc
idle_is owner_unlock1 e = cc
idle_is owner_unlock2 e = cc
idle_is owner_unlock3 e = cc
idle_is owner_unlock4 e = cc
idle_is other_lock1 e = cc
idle_is other_lock2 e = cc
idle_is (other_lock3 v) e = cc
idle_is (other_lock4 v) e = cc
idle_is (other_lock5 v) e = cc
idle_is (other_lock6 v note) e = cc
idle_is (other_lock7 v note) e = cc
idle_is (other_lock8 v) e = cc
idle_is other_unlock1 e = cc
idle_is (other_unlock2 v) e = cc
idle_is other_unlock3 e = cc

module _ (x : Tables) (m : Meaning) (t : ℕ) (lt : t < length x.threads) (e : (thread_of x t).point ≡ idle) where
  begin_goes : (o : Operation) → Goes t (lock_state x m) (lock_state (counted (begun x t o)) m) (start_of o) (thread_of x t).inside
  begin_goes o = goes x t (moved_to (start_of o) (thread_of x t)) (takes t o x.nodes) m m lt

  begin_goes_as : (o : Operation) (i : Bool) → (thread_of x t).inside ≡ i → Goes t (lock_state x m) (lock_state (counted (begun x t o)) m) (start_of o) i
  begin_goes_as o i f = subst (λ (j : Bool). Goes t (lock_state x m) (lock_state (counted (begun x t o)) m) (start_of o) j) f (begin_goes o)

  begin_acts : (o : Operation) → sided t (thread_of x t) o ≡ true → Acts x.settings t (lock_state x m) (lock_state (counted (begun x t o)) m)
  begin_acts (Protect r h) f = node e tt tt (begin_goes (Protect r h)) (same_refl (sight_of x.settings m))
  begin_acts (Copy a b) f = node e tt tt (begin_goes (Copy a b)) (same_refl (sight_of x.settings m))
  begin_acts (Release a) f = node e tt tt (begin_goes (Release a)) (same_refl (sight_of x.settings m))
  begin_acts (Publish r n) f = node e tt tt (begin_goes (Publish r n)) (same_refl (sight_of x.settings m))
  begin_acts (Remove r) f = node e tt tt (begin_goes (Remove r)) (same_refl (sight_of x.settings m))
  begin_acts Reclaim f = node e tt tt (begin_goes Reclaim) (same_refl (sight_of x.settings m))
  begin_acts OwnerLock f =
      let g = and_parts (eqb t 0) (not (thread_of x t).inside) f in
      let i = not-true (thread_of x t).inside g.1 in
      begins_owner_lock (eqb-true t 0 g.0) e i (begin_goes_as OwnerLock false i) (same_refl (sight_of x.settings m))
  begin_acts OwnerUnlock f =
      let g = and_parts (eqb t 0) (thread_of x t).inside f in
      begins_owner_unlock (eqb-true t 0 g.0) e g.1 (begin_goes_as OwnerUnlock true g.1) (same_refl (sight_of x.settings m))
  begin_acts OtherLock f =
      let g = and_parts (not (eqb t 0)) (not (thread_of x t).inside) f in
      let i = not-true (thread_of x t).inside g.1 in
      let ne : t ≡ 0 → ⊥ = eqb-false t 0 (not-true (eqb t 0) g.0) in
      begins_other_lock (grind arith) e i (begin_goes_as OtherLock false i) (same_refl (sight_of x.settings m))
  begin_acts OtherUnlock f =
      let g = and_parts (not (eqb t 0)) (thread_of x t).inside f in
      let ne : t ≡ 0 → ⊥ = eqb-false t 0 (not-true (eqb t 0) g.0) in
      begins_other_unlock (grind arith) e g.1 (begin_goes_as OtherUnlock true g.1) (same_refl (sight_of x.settings m))

  pub begin_path : (o : Operation) → sided t (thread_of x t) o ≡ true → LockPath x.settings (lock_state (counted (begun x t o)) m) (lock_state x m)
  begin_path o f =
      acts t (lock_state (counted (begun x t o)) m) (begin_acts o f) (rests (same_refl (sight_of x.settings m)) (still_refl (counted (begun x t o)) m m))

-- All calls.

-- the memory has moved, and a call was counted
still_counted : (x : Tables) (m m' : Meaning) → Still (lock_state x m) (lock_state (counted x) m')
still_counted x m m' = record { point = λ t. refl; inside = λ t. refl; count = omega arith }

tick_path : (x : Tables) (m m' : Meaning) → Sound m → Ticked Lands m m' → LockPath x.settings (lock_state (counted x) m') (lock_state x m)
tick_path x m m' s w =
    let l = w.between in
    lands_then x (lock_state (counted x) m') w.lands s
    (ticks_on (lock_state (counted x) m') (rw w.is (ticked_on x.settings l w.none_due)) (still_counted x l m')
    (rests (same_refl (sight_of x.settings m')) (still_refl (counted x) m' m')))

land_path : (x : Tables) (m m' : Meaning) (t : ℕ) → Sound m → Lands (landed t m) m' → LockPath x.settings (lock_state (counted x) m') (lock_state x m)
land_path x m m' t s l =
    let a' = lock_state (counted x) m' in
    landed_then x a' t m s (lands_then x a' l (landed_sound t m s) (rests (same_refl (sight_of x.settings m')) (still_counted x m' m')))

-- a machine is set up once
pub set_up_once : (z : Settings) (s : State) (x : Tables) → s.tables ≡ Some x → first_no (checks_of (SetUp z) s) ≡ None → ⊥
set_up_once z s x e f =
    let none = (set_up_passed z s f).first in
    absurd cc

-- what an owner about to echo a version stores fits into a word
abbrev pub SmallEcho : Tables → Type 0
SmallEcho x = (t v : ℕ) → (thread_of x t).point ≡ owner_lock3 v → 2 * v < 18446744073709551616

module _ (s s' : State) (x x' : Tables) (i : Inv s) (e : s.tables ≡ Some x) (e' : s'.tables ≡ Some x') where
  -- the tables before and after are those of the call
  between : (y y' : Tables) → s.tables ≡ Some y → s'.tables ≡ Some y' → LockPath y.settings (lock_state y' s'.memory) (lock_state y s.memory) → LockPath x.settings (lock_state x' s'.memory) (lock_state x s.memory)
  between y y' f f' path =
      let g : y ≡ x = cc in
      let g' : y' ≡ x' = cc in
      subst (λ (n : Tables). LockPath x.settings (lock_state n s'.memory) (lock_state x s.memory)) g'
      (subst (λ (n : Tables). LockPath n.settings (lock_state y' s'.memory) (lock_state n s.memory)) g path)

  pub lock_path_at : {c : Call} {a : Answer} {k : Told} → Trans s s' c a k → (x.accepted < 8000 → SmallEcho x) → LockPath x.settings (lock_state x' s'.memory) (lock_state x s.memory)
  lock_path_at (refuses f h) fit =
      between x x e (ap (λ (r : State). r.tables) h ∙ e)
      (rw h (rests (same_refl (sight_of x.settings s.memory)) (still_refl x s.memory s.memory)))
  lock_path_at (sets_up {z} f h g) fit = absurd (set_up_once z s x e f)
  lock_path_at (ticks {x = y} h f w) fit = between y (counted y) h w.tables (tick_path y s.memory s'.memory i.sound w.memory)
  lock_path_at (lands {t} {x = y} h f w) fit = between y (counted y) h w.tables (land_path y s.memory s'.memory t i.sound w.memory)
  lock_path_at (begins {t} {o} {a} {b} {p} {x = y} h g f w) fit =
      let q = rw g at (rest_passed s.tables (begin_asks t (named o a b)) y h f) in
      let r = begin_passed t p y q in
      let lt : t < length y.threads = let u = r.thread in let v = (i.placed y h).shape.threads in omega arith in
      between y (counted (begun y t p)) h w.tables
      (rw w.memory (begin_path y s.memory t lt (idle_is (thread_of y t).point r.idle) p r.sided))
  lock_path_at (steps {t} {x = y} {a} {k} h f w) fit =
      let q = step_passed t s.memory y (rest_passed s.tables (step_asks t s.memory) y h f) in
      let few = calls_left s.tables (step_asks t s.memory) y h f in
      let same : y ≡ x = cc in
      let fit' : SmallEcho y = subst (λ (n : Tables). n.accepted < 8000 → SmallEcho n) (sym same) fit few in
      between y (counted (stepped y t (after (here y s.memory t) (thread_of y t).point k))) h w.tables
      (step_path y s.memory s'.memory t k q.thread (i.placed y h) few (fit' t) q.memory w.memory)

-- An accepted call with its landings, and a refused one, is a path of the lock. The echo need be small only while calls are left.
pub lock_path : (s s' : State) {c : Call} {a : Answer} {k : Told} (x x' : Tables) → Trans s s' c a k → Inv s → s.tables ≡ Some x → s'.tables ≡ Some x' → (x.accepted < 8000 → SmallEcho x)
    → LockPath x.settings (lock_state x' s'.memory) (lock_state x s.memory)
lock_path s s' x x' w i e e' fit = lock_path_at s s' x x' i e e' w fit
