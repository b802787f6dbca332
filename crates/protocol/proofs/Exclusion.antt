-- At most one thread is inside the lock: the invariant along every history, and the theorem. Assumes nothing.
use Rattle.std.proofs.Common.{◌≡◌, ℕ, zero, suc, ◌+◌, ◌<◌, ◌≤◌, true, ◌≢◌, ◌⊎◌, List, Some, None, Option, sym, refl, ◌∙◌, subst, inl, inr, arith}
use Rattle.std.specs.List.{AllByRecursion}
use Rattle.std.proofs.ByRecursion.{All-push, All-weaker}
use Rattle.std.proofs.lemmas.Bool.{cases_eq}
use Rattle.memory.specs.declared.write.Write.{Write}
use Rattle.memory.specs.Meaning.{Meaning}
use Rattle.protocol.specs.declared.settings.Settings.{Settings}
use Rattle.protocol.specs.Guarantees.{Explains, AtMostOneInside}
use Rattle.protocol.specs.History.{Event}
use Rattle.protocol.specs.Tables.{Tables, State, thread_of, owner_lock3}
use Rattle.protocol.proofs.Invariants.{FirstHolds, CallsKeep, settings_stay, always}
use Rattle.protocol.proofs.LockFacts.{who_owner}
use Rattle.protocol.proofs.LockFirst.{first_untouched, set_up_first}
use Rattle.protocol.proofs.LockPaths.{SmallEcho, lock_path}
use Rattle.protocol.proofs.LockView.{Sight, LockState, lock_state, Same, LandsOne, StoresOne, TakesLock, TicksOn, Acts, LockPath, rests, acts, node, begins_owner_lock, begins_owner_unlock, begins_other_lock, begins_other_unlock, owner1, owner2in, owner2, owner3, owner4in, owner4, owner5, owner_u1low, owner_u1, owner_u2, owner_u3, owner_u4, other1in, other1, other2, other3, other4, other5, other6past, other6, other7echo, other7, other8in, other8, other_u1, other_u2, other_u3}
use Rattle.protocol.proofs.LockView as view
use Rattle.protocol.proofs.Locked.{Turns, Owned}
use Rattle.protocol.proofs.OwnedActs.{at_3, owned_acts}
use Rattle.protocol.proofs.OwnedFacts.{inside_odd}
use Rattle.protocol.proofs.OwnedKeep.{Timely, InTime, owned_same, owned_ticks, owned_lands}
use Rattle.protocol.proofs.ShownKeeps.{explains_reached}
use Rattle.protocol.proofs.TurnsActs.{turns_acts}
use Rattle.protocol.proofs.TurnsKeep.{turns_same, turns_ticks, turns_lands}

-- Waiting writes stay in time.

same_times : (v v' : Sight) → v'.clock ≡ v.clock → v'.bound ≡ v.bound → (t : ℕ) → v'.writes t ≡ v.writes t → AllByRecursion (λ (w : Write). v.clock ≤ w.date + v.bound) (v.writes t)
    → AllByRecursion (λ (w : Write). v'.clock ≤ w.date + v'.bound) (v'.writes t)
same_times v v' c b t e a = rw (e, c, b) a

times_same : (v v' : Sight) → Same v v' → Timely v → Timely v'
times_same v v' s a t = same_times v v' s.clock s.bound t (s.writes t) (a t)

times_takes : (t n : ℕ) (v v' : Sight) → TakesLock t n v v' → Timely v → Timely v'
times_takes t n v v' s a u = same_times v v' s.clock s.bound u (s.writes u) (a u)

times_stores : (z : Settings) (t c n : ℕ) (v v' : Sight) → StoresOne z t c n v v' → Timely v → Timely v'
times_stores z t c n v v' s a u = at (cases_eq u t)
  where
    at : (u ≡ t) ⊎ (u ≢ t) → AllByRecursion (λ (w : Write). v'.clock ≤ w.date + v'.bound) (v'.writes u)
    at (inl e) = rw (e, s.here, s.clock, s.bound) (All-push (λ (w : Write). v.clock ≤ w.date + v.bound) (v.writes t) _ (a t) (omega arith))
    at (inr ne) = same_times v v' s.clock s.bound u (s.others u ne) (a u)

times_lands : (z : Settings) (t : ℕ) (v v' : Sight) → LandsOne z t v v' → Timely v → Timely v'
times_lands z t v v' s a u = at (cases_eq u t)
  where
    at : (u ≡ t) ⊎ (u ≢ t) → AllByRecursion (λ (w : Write). v'.clock ≤ w.date + v'.bound) (v'.writes u)
    at (inl e) = rw (e, s.left, s.clock, s.bound) (rw s.was at (a t)).1
    at (inr ne) = same_times v v' s.clock s.bound u (s.others u ne) (a u)

times_ticks : (v v' : Sight) → TicksOn v v' → Timely v'
times_ticks v v' s u =
    rw (s.writes u, s.clock, s.bound) (All-weaker (λ (w : Write). v.clock < w.date + v.bound) (λ (w : Write). v.clock + 1 ≤ w.date + v.bound) (λ w h. omega arith) (v.writes u) (s.in_time u))

times_acts : (z : Settings) (t : ℕ) (a a' : LockState) → Acts z t a a' → InTime a → InTime a'
times_acts z t a a' (node e p q g s) i = times_same a.sight a'.sight s i
times_acts z t a a' (begins_owner_lock e f j g s) i = times_same a.sight a'.sight s i
times_acts z t a a' (begins_owner_unlock e f j g s) i = times_same a.sight a'.sight s i
times_acts z t a a' (begins_other_lock e f j g s) i = times_same a.sight a'.sight s i
times_acts z t a a' (begins_other_unlock e f j g s) i = times_same a.sight a'.sight s i
times_acts z t a a' (owner1 e g s) i = times_stores z t _ _ a.sight a'.sight s i
times_acts z t a a' (owner2in e f g s) i = times_same a.sight a'.sight s i
times_acts z t a a' (owner2 e f g s) i = times_same a.sight a'.sight s i
times_acts z t a a' (owner3 e f g s) i = times_stores z t _ _ a.sight a'.sight s i
times_acts z t a a' (owner4in e g s) i = times_takes t _ a.sight a'.sight s i
times_acts z t a a' (owner4 e f w g s) i = times_same a.sight a'.sight s i
times_acts z t a a' (owner5 e g s) i = times_same a.sight a'.sight s i
times_acts z t a a' (owner_u1low e f g s) i = times_same a.sight a'.sight s i
times_acts z t a a' (owner_u1 e f g s) i = times_same a.sight a'.sight s i
times_acts z t a a' (owner_u2 e g s) i = times_stores z t _ _ a.sight a'.sight s i
times_acts z t a a' (owner_u3 e g s) i = times_stores z t _ _ a.sight a'.sight s i
times_acts z t a a' (owner_u4 e g s) i = times_stores z t _ _ a.sight a'.sight s i
times_acts z t a a' (other1in e g s) i = times_takes t _ a.sight a'.sight s i
times_acts z t a a' (other1 e g s) i = times_same a.sight a'.sight s i
times_acts z t a a' (other2 e g s) i = times_same a.sight a'.sight s i
times_acts z t a a' (other3 e f n g s) i = times_stores z t _ _ a.sight a'.sight s i
times_acts z t a a' (other4 e w g s) i = times_same a.sight a'.sight s i
times_acts z t a a' (other5 e g s) i = times_same a.sight a'.sight s i
times_acts z t a a' (other6past e f g s) i = times_same a.sight a'.sight s i
times_acts z t a a' (other6 e g s) i = times_same a.sight a'.sight s i
times_acts z t a a' (other7echo e f g s) i = times_same a.sight a'.sight s i
times_acts z t a a' (other7 e g s) i = times_same a.sight a'.sight s i
times_acts z t a a' (other8in e f g s) i = times_same a.sight a'.sight s i
times_acts z t a a' (other8 e g s) i = times_same a.sight a'.sight s i
times_acts z t a a' (other_u1 e g s) i = times_same a.sight a'.sight s i
times_acts z t a a' (other_u2 e f n g s) i = times_stores z t _ _ a.sight a'.sight s i
times_acts z t a a' (other_u3 e g s) i = times_stores z t _ _ a.sight a'.sight s i

-- The whole invariant along a path.

pub record LockInv (z : Settings) (a : LockState) : Type 0 where
  pub turns : Turns z a
  pub owned : Owned z a
  pub times : InTime a

pub path_keeps : (z : Settings) (a' a : LockState) → LockPath z a' a → LockInv z a → LockInv z a'
path_keeps z a' a (rests s g) i =
    record { turns = turns_same z a a' s g i.turns; owned = owned_same z a a' s g i.owned; times = times_same a.sight a'.sight s i.times }
path_keeps z a' a (view.lands t b l g path) i =
    path_keeps z a' b path
    (record { turns = turns_lands z t a b l g i.turns i.owned; owned = owned_lands z t a b l g i.turns i.owned; times = times_lands z t a.sight b.sight l i.times })
path_keeps z a' a (view.ticks b l g path) i =
    path_keeps z a' b path (record { turns = turns_ticks z a b l g i.turns; owned = owned_ticks z a b l g i.owned; times = times_ticks a.sight b.sight l })
path_keeps z a' a (acts t b w path) i =
    path_keeps z a' b path
    (record { turns = turns_acts z t a b w i.turns i.owned; owned = owned_acts z t a b w i.times i.turns i.owned; times = times_acts z t a b w i.times })

-- Along every history.

-- what an echo stores fits into a word while calls are left
small_echo : (x : Tables) (m : Meaning) → LockInv x.settings (lock_state x m) → x.accepted < 8000 → SmallEcho x
small_echo x m i few t v e =
    let owner : t ≡ 0 = who_owner t i.turns e (omega arith) (omega arith) in
    let here : (thread_of x 0).point ≡ owner_lock3 v = subst (λ (u : ℕ). (thread_of x u).point ≡ owner_lock3 v) owner e in
    let le = (at_3 (rw here at i.owned.at)).1 in
    let small = i.turns.few in
    omega arith

-- the invariant of the lock, over tables and memory
abbrev LockHolds : Tables → Meaning → Type 0
LockHolds x m = LockInv x.settings (lock_state x m)

lock_starts : FirstHolds LockHolds
lock_starts z m new sound range =
    let first = set_up_first z m new sound range in
    record { turns = first.0; owned = first.1; times = λ t. rw ((first_untouched z m new sound).writes t) tt }

lock_stays : CallsKeep LockHolds
lock_stays s s' c a k x x' w inv e e' i =
    let path = lock_path s s' x x' w inv e e' (small_echo x s.memory i) in
    subst (λ (z : Settings). LockInv z (lock_state x' s'.memory)) (sym (settings_stay s s' x x' w e e'))
    (path_keeps x.settings (lock_state x' s'.memory) (lock_state x s.memory) path i)

pub explains_locked : (h : List Event) (s : State) → Explains h s → (x : Tables) → s.tables ≡ Some x → LockInv x.settings (lock_state x s.memory)
explains_locked = always LockHolds lock_starts lock_stays

-- The theorem.

alone : (z : Settings) (a : LockState) → LockInv z a → (t u : ℕ) → a.inside t ≡ true → a.inside u ≡ true → t ≡ u
alone z a i zero zero e f = refl
alone z a i zero (suc u) e f = let out = i.owned.alone (suc u) (omega arith) f in absurd cc
alone z a i (suc t) zero e f = let out = i.owned.alone (suc t) (omega arith) e in absurd cc
alone z a i (suc t) (suc u) e f =
    let one = (inside_odd (i.turns.others (suc t) (omega arith)) e).0 in
    let two = (inside_odd (i.turns.others (suc u) (omega arith)) f).0 in
    omega arith

pub at_most_one_inside : AtMostOneInside
at_most_one_inside h s w t u e f = go s.tables refl
  where
    go : (o : Option Tables) → s.tables ≡ o → t ≡ u
    go None n = let d = ((explains_reached h s w).before n).inside t in absurd cc
    go (Some x) n =
        let shown = ((explains_reached h s w).shown x n).shows in
        alone x.settings (lock_state x s.memory) (explains_locked h s w x n) t u (shown.inside t ∙ e) (shown.inside u ∙ f)
