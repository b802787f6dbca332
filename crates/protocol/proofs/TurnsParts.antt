-- What the half of the lock's invariant on L and flag1 says of a thread that stands at a given point, or has not L. Assumes nothing.
use Rattle.std.proofs.Common.{◌≡◌, ℕ, ◌+◌, ◌*◌, Bool, true, false, cond, eqb, List, [], ◌∷◌, ◌++◌, arith}
use Rattle.memory.specs.declared.write.Write.{Write}
use Rattle.protocol.specs.declared.settings.Settings.{Settings}
use Rattle.protocol.specs.Settings.{lock_cell}
use Rattle.protocol.specs.Tables.{Point, other_lock1, other_lock2, other_lock3, other_lock4, other_lock5, other_lock6, other_lock7, other_lock8, other_unlock1, other_unlock2, other_unlock3}
use Rattle.protocol.proofs.LockView.{Sight, NodePoint, StoresOne}
use Rattle.protocol.proofs.Locked.{flag1_write, Away, elsewhere, asks, RaisedAt, raised4, raised5, raised6, raised7, raised8, InsideAt, leaves1, leaves2, Other, away, enters2, enters3, raising, raised, within, lowering, lowered, releasing2, releasing, OwnerLock, without, has, gives, release_count}

-- the releases that wait
releases_stored : (z : Settings) (ws : List Write) (w : Write) → release_count z (ws ++ w ∷ []) ≡ release_count z ws + cond (eqb w.cell (lock_cell z)) 1 0
releases_stored z [] w = omega arith
releases_stored z (x ∷ ws) w = let h = releases_stored z ws w in omega arith

pub count_stored : (z : Settings) (t c n : ℕ) (v v' : Sight) → StoresOne z t c n v v' → release_count z (v'.writes t) ≡ release_count z (v.writes t) + cond (eqb c (lock_cell z)) 1 0
count_stored z t c n v v' s = rw s.here (releases_stored z (v.writes t) (record { cell = c; value = n; date = v.clock }))

-- Who has L.

-- while L is not u's, u is away
pub away_of : {z : Settings} {L f1 u : ℕ} {p : Point} {i : Bool} {ws : List Write} → (L ≡ u + 1 → ⊥) → Other z L f1 u p i ws → Away p × (i ≡ false) × (ws ≡ [])
away_of n (away m a e f) = (a, e, f)
away_of n (enters2 w l p i ws f) = absurd (n l)
away_of n (enters3 w l p i ws f) = absurd (n l)
away_of n (raising w d l p i ws f) = absurd (n l)
away_of n (raised w l p i ws f) = absurd (n l)
away_of n (within w l p i ws f) = absurd (n l)
away_of n (lowering w d l p i ws f) = absurd (n l)
away_of n (lowered w l p i ws f) = absurd (n l)
away_of n (releasing2 w d e l p i ws f) = absurd (n l)
away_of n (releasing w e l p i ws f) = absurd (n l)

-- it stays so, whatever L and flag1 become, if L does not become u's
pub still_away : {z : Settings} {L L' f1 f1' u : ℕ} {p : Point} {i : Bool} {ws : List Write} → (L ≡ u + 1 → ⊥) → (L' ≡ u + 1 → ⊥) → Other z L f1 u p i ws → Other z L' f1' u p i ws
still_away n n' o = let a = away_of n o in away n' a.0 a.1 a.2

-- and so for the owner
pub owner_without : {L L' own n : ℕ} {p : Point} {i : Bool} → (L ≡ 1 → ⊥) → (L' ≡ 1 → ⊥) → OwnerLock L own p i n → OwnerLock L' own p i n
owner_without a b (without l w k) = without b w k
owner_without a b (has l w k) = absurd (a l)
owner_without a b (gives l w k) = absurd (a l)

-- What a thread from 1 on is about, by its point.

pub data At (z : Settings) (L f1 u : ℕ) : Point → Bool → List Write → Type 0 where
  on_node : {p : Point} {i : Bool} {ws : List Write} → NodePoint p → At z L f1 u p i ws
  asking : {i : Bool} {ws : List Write} → At z L f1 u other_lock1 i ws
  at2 : (w : ℕ) → L ≡ u + 1 → f1 ≡ 2 * w → At z L f1 u other_lock2 false []
  at3 : (w : ℕ) → L ≡ u + 1 → f1 ≡ 2 * w → At z L f1 u (other_lock3 (w + 1)) false []
  at4waits : (w d : ℕ) → At z L f1 u (other_lock4 (w + 1)) false (flag1_write z (2 * (w + 1) + 1) d ∷ [])
  at4 : (w : ℕ) → L ≡ u + 1 → f1 ≡ 2 * (w + 1) + 1 → At z L f1 u (other_lock4 (w + 1)) false []
  at5 : (w : ℕ) → L ≡ u + 1 → f1 ≡ 2 * (w + 1) + 1 → At z L f1 u (other_lock5 (w + 1)) false []
  at6 : (w : ℕ) {note : ℕ} → L ≡ u + 1 → f1 ≡ 2 * (w + 1) + 1 → At z L f1 u (other_lock6 (w + 1) note) false []
  at7 : (w : ℕ) {note : ℕ} → L ≡ u + 1 → f1 ≡ 2 * (w + 1) + 1 → At z L f1 u (other_lock7 (w + 1) note) false []
  at8 : (w : ℕ) → L ≡ u + 1 → f1 ≡ 2 * (w + 1) + 1 → At z L f1 u (other_lock8 (w + 1)) false []
  unlock1 : (w : ℕ) → L ≡ u + 1 → f1 ≡ 2 * (w + 1) + 1 → At z L f1 u other_unlock1 true []
  unlock2 : (w : ℕ) → L ≡ u + 1 → f1 ≡ 2 * (w + 1) + 1 → At z L f1 u (other_unlock2 (w + 1)) true []
  unlock3waits : (w d : ℕ) → L ≡ u + 1 → f1 ≡ 2 * (w + 1) + 1 → At z L f1 u other_unlock3 false (flag1_write z (2 * (w + 2)) d ∷ [])
  unlock3 : (w : ℕ) → L ≡ u + 1 → f1 ≡ 2 * w → At z L f1 u other_unlock3 false []

at_away : {z : Settings} {L f1 u : ℕ} {p : Point} {i : Bool} {ws : List Write} → Away p → At z L f1 u p i ws
at_away (elsewhere n) = on_node n
at_away asks = asking

at_raised : {z : Settings} {L f1 u : ℕ} (w : ℕ) {p : Point} → L ≡ u + 1 → RaisedAt (w + 1) p → f1 ≡ 2 * (w + 1) + 1 → At z L f1 u p false []
at_raised w l raised4 f = at4 w l f
at_raised w l raised5 f = at5 w l f
at_raised w l raised6 f = at6 w l f
at_raised w l raised7 f = at7 w l f
at_raised w l raised8 f = at8 w l f

at_inside : {z : Settings} {L f1 u : ℕ} (w : ℕ) {p : Point} → L ≡ u + 1 → InsideAt (w + 1) p → f1 ≡ 2 * (w + 1) + 1 → At z L f1 u p true []
at_inside w l (InsideAt.works n) f = on_node n
at_inside w l leaves1 f = unlock1 w l f
at_inside w l leaves2 f = unlock2 w l f

pub at_of : {z : Settings} {L f1 u : ℕ} {p : Point} {i : Bool} {ws : List Write} → Other z L f1 u p i ws → At z L f1 u p i ws
at_of (away n a e f) = at_away a
at_of (enters2 w l e i ws f) = rw (e, i, ws) (at2 w l f)
at_of (enters3 w l e i ws f) = rw (e, i, ws) (at3 w l f)
at_of (raising w d l e i ws f) = rw (e, i, ws) (at4waits w d)
at_of (raised w l r i ws f) = rw (i, ws) (at_raised w l r f)
at_of (within w l r i ws f) = rw (i, ws) (at_inside w l r f)
at_of (lowering w d l e i ws f) = rw (e, i, ws) (unlock3waits w d l f)
at_of (lowered w l e i ws f) = rw (e, i, ws) (unlock3 w l f)
at_of (releasing2 w d e l a i ws f) = at_away a
at_of (releasing w e l a i ws f) = at_away a
