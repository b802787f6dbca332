-- The half of the lock's invariant on L and flag1 is kept by every call of a thread. Assumes nothing.
use Rattle.std.proofs.Common.{◌≡◌, ℕ, ◌+◌, ◌*◌, ◌/◌, ◌%◌, ◌<◌, ◌≤◌, Bool, true, false, eqb, ◌≢◌, ◌⊎◌, List, [], ◌∷◌, ◌++◌, refl, ◌∙◌, subst, inl, inr, arith}
use Rattle.std.proofs.lemmas.Bool.{cases_eq, true≢false, false≢true}
use Rattle.memory.specs.declared.write.Write.{Write}
use Rattle.memory.specs.Meaning.{newest, value_or}
use Rattle.protocol.specs.declared.settings.Settings.{Settings}
use Rattle.protocol.specs.Settings.{lock_cell, flag1_cell}
use Rattle.protocol.specs.Tables.{Point, idle, owner_lock1, owner_lock2, owner_lock3, owner_lock4, owner_lock5, owner_unlock1, owner_unlock2, owner_unlock3, owner_unlock4, other_lock1, other_lock2, other_lock3, other_lock4, other_lock5, other_lock6, other_lock7, other_lock8, other_unlock1, other_unlock2, other_unlock3}
use Rattle.protocol.proofs.LockFacts.{side, node_side, raised_side, who_owner, who_other, not_third, not_last}
use Rattle.protocol.proofs.LockView.{LockState, NodePoint, sees0, sees1, Same, StoresOne, TakesLock, Goes, Acts, node, begins_owner_lock, begins_owner_unlock, begins_other_lock, begins_other_unlock, owner1, owner2in, owner2, owner3, owner4in, owner4, owner5, owner_u1low, owner_u1, owner_u2, owner_u3, owner_u4, other1in, other1, other2, other3, other4, other5, other6past, other6, other7echo, other7, other8in, other8, other_u1, other_u2, other_u3}
use Rattle.protocol.proofs.Locked.{flag1_write, release_write, Away, elsewhere, asks, RaisedAt, raised5, raised6, raised7, raised8, InsideAt, leaves1, leaves2, Other, away, enters2, enters3, raising, raised, within, lowering, lowered, releasing2, releasing, OwnerLock, without, has, gives, Holds, slow, last, release_count, OwnerAt, locks1, locks2, locks3, locks4, locks5, unlocks2, unlocks3, unlocks4, Turns, Owned}
use Rattle.protocol.proofs.TurnsCarry.{owner_here, place_here, stays_takes, owner_goes, other_goes, other_same, other_stores, owner_same, owner_flags, owner_frees}
use Rattle.protocol.proofs.TurnsParts.{away_of, owner_without, At, on_node, at2, at3, at4waits, at4, at5, at6, at7, at8, unlock1, unlock2, unlock3waits, unlock3, at_of}

-- The owner.

pub relocks : {L own own' n n' : ℕ} {p p' : Point} {i i' : Bool} → (Holds own p i → Holds own' p' i') → (Holds own' p' i' → Holds own p i) → n' ≡ n → OwnerLock L own p i n → OwnerLock L own' p' i' n'
relocks f g e (without l w k) = without l (e ∙ w) (λ x. k (g x))
relocks f g e (has l w k) = has l (e ∙ w) (f k)
relocks f g e (gives l w k) = gives l (e ∙ w) (λ x. k (g x))

-- before and after, the owner has not L
pub relocks_none : {L own own' n : ℕ} {p p' : Point} {i i' : Bool} → (Holds own p i → ⊥) → (Holds own' p' i' → ⊥) → OwnerLock L own p i n → OwnerLock L own' p' i' n
relocks_none f g o = relocks (λ x. absurd (f x)) (λ x. absurd (g x)) refl o

holds_on : {own : ℕ} (p p' : Point) {i : Bool} → eqb (side p) 2 ≡ false → Holds own p i → Holds own p' i
holds_on p p' k (slow w e f) = slow w e f
holds_on p p' k (last e) = absurd (not_last p k e)

free_outside : {own : ℕ} (p : Point) → eqb (side p) 2 ≡ false → Holds own p false → ⊥
free_outside p k (slow w e f) = absurd cc
free_outside p k (last e) = not_last p k e

free_fast : {own : ℕ} (p : Point) {i : Bool} → eqb (side p) 2 ≡ false → own ≡ 1 → Holds own p i → ⊥
free_fast p k o (slow w e f) = omega arith
free_fast p k o (last e) = not_last p k e

outside_both : {L own own' n : ℕ} (p p' : Point) → eqb (side p) 2 ≡ false → eqb (side p') 2 ≡ false → OwnerLock L own p false n → OwnerLock L own' p' false n
outside_both p p' k k' o = relocks_none (free_outside p k) (free_outside p' k') o

-- from a point of the owner to its next, as it is not inside
starts : {L f1 own own' n : ℕ} {i : Bool} (p' : Point) → eqb (side p') 2 ≡ false → OwnerAt f1 own owner_lock1 i → OwnerLock L own owner_lock1 i n → OwnerLock L own' p' i n
starts p' k (OwnerAt.works x) o = absurd x
starts p' k locks1 o = outside_both owner_lock1 p' refl k o

looks : {L f1 own own' n : ℕ} {i : Bool} (p' : Point) → eqb (side p') 2 ≡ false → OwnerAt f1 own owner_lock2 i → OwnerLock L own owner_lock2 i n → OwnerLock L own' p' i n
looks p' k (OwnerAt.works x) o = absurd x
looks p' k (locks2 e) o = outside_both owner_lock2 p' refl k o

enters_fast : {L f1 own n : ℕ} {i : Bool} → OwnerAt f1 own owner_lock2 i → OwnerLock L own owner_lock2 i n → OwnerLock L own idle true n
enters_fast (OwnerAt.works x) o = absurd x
enters_fast (locks2 e) o = relocks_none (free_outside owner_lock2 refl) (free_fast idle refl e) o

echoes : {L f1 own own' v n : ℕ} {i : Bool} (p' : Point) → eqb (side p') 2 ≡ false → OwnerAt f1 own (owner_lock3 v) i → OwnerLock L own (owner_lock3 v) i n → OwnerLock L own' p' i n
echoes {v = v} p' k (OwnerAt.works x) o = absurd x
echoes {v = v} p' k (locks3 e) o = outside_both (owner_lock3 v) p' refl k o

misses : {L f1 own own' n : ℕ} {i : Bool} (p' : Point) → eqb (side p') 2 ≡ false → OwnerAt f1 own owner_lock4 i → OwnerLock L own owner_lock4 i n → OwnerLock L own' p' i n
misses p' k (OwnerAt.works x) o = absurd x
misses p' k (locks4 w e) o = outside_both owner_lock4 p' refl k o

-- L was free, and is the owner's
enters_slow : {L f1 own n : ℕ} {i : Bool} → L ≡ 0 → OwnerAt f1 own owner_lock4 i → OwnerLock L own owner_lock4 i n → OwnerLock 1 own idle true n
enters_slow z (OwnerAt.works x) o = absurd x
enters_slow z (locks4 w e) (without l k no-hold) = has refl k (slow w refl e)
enters_slow z (locks4 w e) (has l k hold) = absurd (omega arith)
enters_slow z (locks4 w e) (gives l k no-hold) = absurd (omega arith)

tries : {L f1 own own' n : ℕ} {i : Bool} (p' : Point) → eqb (side p') 2 ≡ false → OwnerAt f1 own owner_lock5 i → OwnerLock L own owner_lock5 i n → OwnerLock L own' p' i n
tries p' k (OwnerAt.works x) o = absurd x
tries p' k (locks5 w e) o = outside_both owner_lock5 p' refl k o

leaves_fast : {L f1 own n : ℕ} {i : Bool} → OwnerAt f1 own owner_unlock2 i → OwnerLock L own owner_unlock2 i n → OwnerLock L 0 idle false n
leaves_fast (OwnerAt.works x) o = absurd x
leaves_fast (unlocks2 e) o = relocks_none (free_fast owner_unlock2 refl e) (free_outside idle refl) o

leaves_slow : {L f1 own n : ℕ} {i : Bool} → OwnerAt f1 own owner_unlock3 i → OwnerLock L own owner_unlock3 i n → OwnerLock L 0 owner_unlock4 false n
leaves_slow (OwnerAt.works x) o = absurd x
leaves_slow (unlocks3 w e) o = relocks (λ _. last refl) (λ _. slow w refl e) refl o

frees : {L f1 own n : ℕ} {i : Bool} → OwnerAt f1 own owner_unlock4 i → OwnerLock L own owner_unlock4 i n → OwnerLock L own idle i (n + 1)
frees (OwnerAt.works x) o = absurd x
frees unlocks4 (without l k no-hold) = absurd (no-hold (last refl))
frees unlocks4 (has l k hold) = gives l (omega arith) (free_outside idle refl)
frees unlocks4 (gives l k no-hold) = absurd (no-hold (last refl))

-- Another thread.

-- from a point on nodes to another point, by whether it is inside
from_node : {z : Settings} {L f1 u : ℕ} {p p' : Point} {i : Bool} {ws : List Write} → NodePoint p → (i ≡ false → Away p') → ((v : ℕ) → i ≡ true → InsideAt v p')
    → Other z L f1 u p i ws → Other z L f1 u p' i ws
from_node k out ins (away n a e f) = away n (out e) e f
from_node k out ins (enters2 w l e i ws f) = absurd (rw e at k)
from_node k out ins (enters3 w l e i ws f) = absurd (rw e at k)
from_node k out ins (raising w d l e i ws f) = absurd (rw e at k)
from_node {p = p} k out ins (raised w l r i ws f) = let s = raised_side r in let n = node_side p k in absurd (omega arith)
from_node k out ins (within w l r i ws f) = within w l (ins (w + 1) i) i ws f
from_node k out ins (lowering w d l e i ws f) = absurd (rw e at k)
from_node k out ins (lowered w l e i ws f) = absurd (rw e at k)
from_node k out ins (releasing2 w d e l a i ws f) = releasing2 w d e l (out i) i ws f
from_node k out ins (releasing w e l a i ws f) = releasing w e l (out i) i ws f

module _ {z : Settings} {L f1 u : ℕ} where
  sees_flag1 : {i : Bool} {ws : List Write} → (c : ℕ) → At z L f1 u other_lock2 i ws → value_or (newest ws c) f1 ≡ f1
  sees_flag1 c (on_node x) = absurd x
  sees_flag1 c (at2 w l f) = refl

  step2 : {i : Bool} {ws : List Write} → At z L f1 u other_lock2 i ws → Other z L f1 u (other_lock3 (value_or (newest ws (flag1_cell z)) f1 / 2 + 1)) i ws
  step2 (on_node x) = absurd x
  step2 (at2 w l f) = let e : f1 / 2 ≡ w = omega arith in enters3 w l (rw e refl) refl refl f

  step3 : {i : Bool} {ws : List Write} → (v n d : ℕ) → n ≡ 2 * v + 1 → At z L f1 u (other_lock3 v) i ws → Other z L f1 u (other_lock4 v) i (ws ++ flag1_write z n d ∷ [])
  step3 v n d e (on_node x) = absurd x
  step3 v n d e (at3 w l f) = raising w d l refl refl (rw e refl) f

  step4 : {i : Bool} {ws : List Write} → (v : ℕ) → ws ≡ [] → At z L f1 u (other_lock4 v) i ws → Other z L f1 u (other_lock5 v) i ws
  step4 v e (on_node x) = absurd x
  step4 v e (at4waits w d) = absurd cc
  step4 v e (at4 w l f) = raised w l raised5 refl refl f

  step5 : {i : Bool} {ws : List Write} → (v : ℕ) {p' : Point} → RaisedAt v p' → At z L f1 u (other_lock5 v) i ws → Other z L f1 u p' i ws
  step5 v r (on_node x) = absurd x
  step5 v r (at5 w l f) = raised w l r refl refl f

  step6 : {i : Bool} {ws : List Write} → (v note : ℕ) {p' : Point} → RaisedAt v p' → At z L f1 u (other_lock6 v note) i ws → Other z L f1 u p' i ws
  step6 v note r (on_node x) = absurd x
  step6 v note r (at6 w l f) = raised w l r refl refl f

  step7 : {i : Bool} {ws : List Write} → (v note : ℕ) {p' : Point} → RaisedAt v p' → At z L f1 u (other_lock7 v note) i ws → Other z L f1 u p' i ws
  step7 v note r (on_node x) = absurd x
  step7 v note r (at7 w l f) = raised w l r refl refl f

  step8in : {i : Bool} {ws : List Write} → (v : ℕ) → At z L f1 u (other_lock8 v) i ws → Other z L f1 u idle true ws
  step8in v (on_node x) = absurd x
  step8in v (at8 w l f) = within w l (InsideAt.works tt) refl refl f

  step_u1 : {i : Bool} {ws : List Write} → At z L f1 u other_unlock1 i ws → Other z L f1 u (other_unlock2 (value_or (newest ws (flag1_cell z)) f1 / 2)) i ws
  step_u1 (on_node x) = absurd x
  step_u1 (unlock1 w l f) = let e : f1 / 2 ≡ w + 1 = omega arith in within w l (rw e leaves2) refl refl f

  version : {i : Bool} {ws : List Write} → (v : ℕ) → At z L f1 u (other_unlock2 v) i ws → f1 ≡ 2 * v + 1
  version v (on_node x) = absurd x
  version v (unlock2 w l f) = f

  step_u2 : {i : Bool} {ws : List Write} → (v n d : ℕ) → n ≡ 2 * (v + 1) → At z L f1 u (other_unlock2 v) i ws → Other z L f1 u other_unlock3 false (ws ++ flag1_write z n d ∷ [])
  step_u2 v n d e (on_node x) = absurd x
  step_u2 v n d e (unlock2 w l f) = let k : n ≡ 2 * (w + 2) = omega arith in lowering w d l refl refl (rw k refl) f

  step_u3 : {i : Bool} {ws : List Write} → (d : ℕ) → At z L f1 u other_unlock3 i ws → Other z L f1 u idle i (ws ++ release_write z d ∷ [])
  step_u3 d (on_node x) = absurd x
  step_u3 d (unlock3waits w b l f) = releasing2 w b d l (elsewhere tt) refl refl f
  step_u3 d (unlock3 w l f) = releasing w d l (elsewhere tt) refl refl f

-- What is known of the thread that acts.

module _ {z : Settings} {a : LockState} (t : ℕ) where
  lock_at : {p : Point} → Turns z a → t ≡ 0 → a.point t ≡ p → OwnerLock a.sight.lock (sees0 z a.sight t) p (a.inside t) (release_count z (a.sight.writes t))
  lock_at h e0 e = rw e at (owner_here t e0 h)

  place_at : {p : Point} → Owned z a → t ≡ 0 → a.point t ≡ p → OwnerAt a.sight.flag1 (sees0 z a.sight t) p (a.inside t)
  place_at o e0 e = rw e at (place_here t e0 o)

  other_at : {p : Point} → Turns z a → 1 ≤ t → a.point t ≡ p → At z a.sight.lock a.sight.flag1 t p (a.inside t) (a.sight.writes t)
  other_at h pos e = rw e at (at_of (h.others t pos))

  other_here : {p : Point} → Turns z a → 1 ≤ t → a.point t ≡ p → Other z a.sight.lock a.sight.flag1 t p (a.inside t) (a.sight.writes t)
  other_here h pos e = rw e at (h.others t pos)

-- L is free, and t asks for it
takes_other : {z : Settings} {a a' : LockState} (t : ℕ) → 1 ≤ t → Goes t a a' other_lock2 (a.inside t) → TakesLock t (t + 1) a.sight a'.sight → Turns z a → Turns z a'
takes_other {z} {a} {a'} t pos g k h =
    let gone = away_of (λ e. omega arith) (h.others t pos) in
    let even = h.quiet (inl k.was) in
    let ne : 0 ≢ t = λ e. omega arith in
    other_goes t g h pos (stays_takes t g h k) (rw (k.flag0, k.writes 0, g.points 0 ne, g.insides 0 ne) (owner_without (λ e. omega arith) (λ e. omega arith) h.owner)) (not_third other_lock2 refl)
    (rw (k.writes t, k.none) tt)
    (rw (k.lock, k.flag1, k.writes t) (enters2 even.0 refl refl gone.1 gone.2 even.1))

takes_owner : {z : Settings} {a a' : LockState} (t : ℕ) → t ≡ 0 → a.point t ≡ owner_lock4 → Goes t a a' idle true → TakesLock t 1 a.sight a'.sight → Turns z a → Owned z a → Turns z a'
takes_owner {z} {a} {a'} t e0 e g k h o =
    owner_goes t g h e0 (stays_takes t g h (subst (λ n. TakesLock t n a.sight a'.sight) one k)) refl
    (rw (k.lock, k.flag0, k.writes t) (enters_slow k.was (place_at t o e0 e) (lock_at t h e0 e)))
  where
    one : 1 ≡ t + 1
    one = omega arith

turns_node : {z : Settings} {a a' : LockState} (t : ℕ) {p p' : Point} → a.point t ≡ p → NodePoint p → NodePoint p' → Goes t a a' p' (a.inside t) → Same a.sight a'.sight → Turns z a → Turns z a'
turns_node {z} {a} {a'} t {p} {p'} e n n' g s h = go (cases_eq t 0)
  where
    go : (t ≡ 0) ⊎ (t ≢ 0) → Turns z a'
    go (inl e0) =
        owner_same t g h e0 s (rw (node_side p' n') refl)
        (relocks (holds_on p p' (rw (node_side p n) refl)) (holds_on p' p (rw (node_side p' n') refl)) refl (lock_at t h e0 e))
    go (inr ne) =
        let pos : 1 ≤ t = omega arith in
        other_same t g h pos s (not_third p' (rw (node_side p' n') refl)) (from_node n (λ _. elsewhere n') (λ v _. InsideAt.works n') (other_here t h pos e))

-- the version that t is to raise flag1 to
version_kept : {z : Settings} {a : LockState} (t : ℕ) → Turns z a → 1 ≤ t → a.point t ≡ other_lock2 → (v : ℕ) → other_lock3 (sees1 z a.sight t / 2 + 1) ≡ other_lock3 v → v ≤ a.count + 1
version_kept {z} {a} t h pos e v k =
    let f = sees_flag1 (flag1_cell z) (other_at t h pos e) in
    let le = h.few in
    let m : sees1 z a.sight t / 2 + 1 ≡ v = cc in
    omega arith

turns_other3 : {z : Settings} {a a' : LockState} (t v n : ℕ) → 1 ≤ t → a.point t ≡ other_lock3 v → a.count < 8000 → n ≡ (2 * v + 1) % 18446744073709551616
    → Goes t a a' (other_lock4 v) (a.inside t) → StoresOne z t (flag1_cell z) n a.sight a'.sight → Turns z a → Turns z a'
turns_other3 {z} {a} t v n pos e c m g s h =
    let le = h.few_kept t v e in
    let k : n ≡ 2 * v + 1 = omega arith in
    other_stores t g h (flag1_cell z) n pos s refl (omega arith) (step3 v n a.sight.clock k (other_at t h pos e))

turns_other_u2 : {z : Settings} {a a' : LockState} (t v n : ℕ) → 1 ≤ t → a.point t ≡ other_unlock2 v → a.count < 8000 → n ≡ 2 * (v + 1) % 18446744073709551616
    → Goes t a a' other_unlock3 false → StoresOne z t (flag1_cell z) n a.sight a'.sight → Turns z a → Turns z a'
turns_other_u2 {z} {a} t v n pos e c m g s h =
    let f = version v (other_at t h pos e) in
    let le = h.few in
    let k : n ≡ 2 * (v + 1) = omega arith in
    other_stores t g h (flag1_cell z) n pos s refl (omega arith) (step_u2 v n a.sight.clock k (other_at t h pos e))

pub turns_acts : (z : Settings) (t : ℕ) (a a' : LockState) → Acts z t a a' → Turns z a → Owned z a → Turns z a'
turns_acts z t a a' (node e n n' g s) h o = turns_node t e n n' g s h
turns_acts z t a a' (begins_owner_lock e0 e i g s) h o =
    owner_same t g h e0 s refl (outside_both idle owner_lock1 refl refl (rw i at (lock_at t h e0 e)))
turns_acts z t a a' (begins_owner_unlock e0 e i g s) h o =
    owner_same t g h e0 s refl (relocks (holds_on idle owner_unlock1 refl) (holds_on owner_unlock1 idle refl) refl (rw i at (lock_at t h e0 e)))
turns_acts z t a a' (begins_other_lock pos e i g s) h o =
    other_same t g h pos s (not_third other_lock1 refl) (from_node tt (λ _. asks) (λ v f. absurd (false≢true f)) (rw i at (other_here t h pos e)))
turns_acts z t a a' (begins_other_unlock pos e i g s) h o =
    other_same t g h pos s (not_third other_unlock1 refl) (from_node tt (λ f. absurd (true≢false f)) (λ v _. leaves1) (rw i at (other_here t h pos e)))
turns_acts z t a a' (owner1 e g s) h o =
    let e0 = who_owner t h e (omega arith) (omega arith) in
    owner_flags t g h 1 e0 s refl (starts owner_lock2 refl (place_at t o e0 e) (lock_at t h e0 e))
turns_acts z t a a' (owner2in e b g s) h o =
    let e0 = who_owner t h e (omega arith) (omega arith) in
    owner_same t g h e0 s refl (enters_fast (place_at t o e0 e) (lock_at t h e0 e))
turns_acts z t a a' (owner2 e b g s) h o =
    let e0 = who_owner t h e (omega arith) (omega arith) in
    owner_same t g h e0 s refl (looks _ refl (place_at t o e0 e) (lock_at t h e0 e))
turns_acts z t a a' (owner3 {v} e b g s) h o =
    let e0 = who_owner t h e (omega arith) (omega arith) in
    owner_flags t g h (2 * v) e0 s refl (echoes owner_lock4 refl (place_at t o e0 e) (lock_at t h e0 e))
turns_acts z t a a' (owner4in e g k) h o = takes_owner t (who_owner t h e (omega arith) (omega arith)) e g k h o
turns_acts z t a a' (owner4 e b c g s) h o =
    let e0 = who_owner t h e (omega arith) (omega arith) in
    owner_same t g h e0 s refl (misses owner_lock5 refl (place_at t o e0 e) (lock_at t h e0 e))
turns_acts z t a a' (owner5 e g s) h o =
    let e0 = who_owner t h e (omega arith) (omega arith) in
    owner_same t g h e0 s refl (tries _ refl (place_at t o e0 e) (lock_at t h e0 e))
turns_acts z t a a' (owner_u1low e b g s) h o =
    let e0 = who_owner t h e (omega arith) (omega arith) in
    owner_same t g h e0 s refl (relocks (holds_on owner_unlock1 owner_unlock3 refl) (holds_on owner_unlock3 owner_unlock1 refl) refl (lock_at t h e0 e))
turns_acts z t a a' (owner_u1 e b g s) h o =
    let e0 = who_owner t h e (omega arith) (omega arith) in
    owner_same t g h e0 s refl (relocks (holds_on owner_unlock1 owner_unlock2 refl) (holds_on owner_unlock2 owner_unlock1 refl) refl (lock_at t h e0 e))
turns_acts z t a a' (owner_u2 e g s) h o =
    let e0 = who_owner t h e (omega arith) (omega arith) in
    owner_flags t g h 0 e0 s refl (leaves_fast (place_at t o e0 e) (lock_at t h e0 e))
turns_acts z t a a' (owner_u3 e g s) h o =
    let e0 = who_owner t h e (omega arith) (omega arith) in
    owner_flags t g h 0 e0 s refl (leaves_slow (place_at t o e0 e) (lock_at t h e0 e))
turns_acts z t a a' (owner_u4 e g s) h o =
    let e0 = who_owner t h e (omega arith) (omega arith) in
    owner_frees t g h e0 s refl (frees (place_at t o e0 e) (lock_at t h e0 e))
turns_acts z t a a' (other1in e g k) h o = takes_other t (who_other t o e (omega arith)) g k h
turns_acts z t a a' (other1 e g s) h o =
    let pos = who_other t o e (omega arith) in
    other_same t g h pos s (not_third other_lock1 refl) (other_here t h pos e)
turns_acts z t a a' (other2 e g s) h o =
    let pos = who_other t o e (omega arith) in
    other_same t g h pos s (λ v k. version_kept t h pos e v k) (step2 (other_at t h pos e))
turns_acts z t a a' (other3 {v} e c {n} m g s) h o = turns_other3 t v n (who_other t o e (omega arith)) e c m g s h
turns_acts z t a a' (other4 {v} e none g s) h o =
    let pos = who_other t o e (omega arith) in
    other_same t g h pos s (not_third (other_lock5 v) refl) (step4 v none (other_at t h pos e))
turns_acts z t a a' (other5 {v} e g s) h o =
    let pos = who_other t o e (omega arith) in
    other_same t g h pos s (not_third (other_lock6 v a.sight.clock) refl) (step5 v raised6 (other_at t h pos e))
turns_acts z t a a' (other6past {v} {note} e late g s) h o =
    let pos = who_other t o e (omega arith) in
    other_same t g h pos s (not_third (other_lock8 v) refl) (step6 v note raised8 (other_at t h pos e))
turns_acts z t a a' (other6 {v} {note} e g s) h o =
    let pos = who_other t o e (omega arith) in
    other_same t g h pos s (not_third (other_lock7 v note) refl) (step6 v note raised7 (other_at t h pos e))
turns_acts z t a a' (other7echo {v} {note} e f g s) h o =
    let pos = who_other t o e (omega arith) in
    other_same t g h pos s (not_third (other_lock8 v) refl) (step7 v note raised8 (other_at t h pos e))
turns_acts z t a a' (other7 {v} {note} e g s) h o =
    let pos = who_other t o e (omega arith) in
    other_same t g h pos s (not_third (other_lock6 v note) refl) (step7 v note raised6 (other_at t h pos e))
turns_acts z t a a' (other8in {v} e f g s) h o =
    let pos = who_other t o e (omega arith) in
    other_same t g h pos s (not_third idle refl) (step8in v (other_at t h pos e))
turns_acts z t a a' (other8 {v} e g s) h o =
    let pos = who_other t o e (omega arith) in
    other_same t g h pos s (not_third (other_lock8 v) refl) (other_here t h pos e)
turns_acts z t a a' (other_u1 e g s) h o =
    let pos = who_other t o e (omega arith) in
    other_same t g h pos s (not_third _ refl) (step_u1 (other_at t h pos e))
turns_acts z t a a' (other_u2 {v} e c {n} m g s) h o = turns_other_u2 t v n (who_other t o e (omega arith)) e c m g s h
turns_acts z t a a' (other_u3 e g s) h o =
    let pos = who_other t o e (omega arith) in
    other_stores t g h (lock_cell z) 0 pos s refl (omega arith) (step_u3 a.sight.clock (other_at t h pos e))
