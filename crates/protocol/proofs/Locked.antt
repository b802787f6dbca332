-- The invariant of the lock. Assumes nothing.
use Rattle.std.proofs.Common.{◌≡◌, ℕ, ◌+◌, ◌*◌, ◌≤◌, Bool, true, false, cond, eqb, ◌⊎◌, List, [], ◌∷◌}
use Rattle.std.specs.List.{AllByRecursion}
use Rattle.memory.specs.declared.write.Write.{Write}
use Rattle.protocol.specs.declared.settings.Settings.{Settings}
use Rattle.protocol.specs.Settings.{lock_cell, flag0_cell, flag1_cell}
use Rattle.protocol.proofs.LockView.{LockState, NodePoint, sees0}
use Rattle.protocol.specs.Tables.{Point, idle, protect1, protect2, protect3, protect4, copy1, release1, publish1, remove1, remove2, remove3, reclaim1, reclaim2, reclaim3, owner_lock1, owner_lock2, owner_lock3, owner_lock4, owner_lock5, owner_unlock1, owner_unlock2, owner_unlock3, owner_unlock4, other_lock1, other_lock2, other_lock3, other_lock4, other_lock5, other_lock6, other_lock7, other_lock8, other_unlock1, other_unlock2, other_unlock3}

abbrev pub release_write : Settings → ℕ → Write
release_write z d = record { cell = lock_cell z; value = 0; date = d }

abbrev pub flag1_write : Settings → ℕ → ℕ → Write
flag1_write z v d = record { cell = flag1_cell z; value = v; date = d }

-- flag1 has been raised to version v, and the fence may have been passed
pub data RaisedAt (v : ℕ) : Point → Type 0 where
  raised4 : RaisedAt v (other_lock4 v)
  raised5 : RaisedAt v (other_lock5 v)
  raised6 : {note : ℕ} → RaisedAt v (other_lock6 v note)
  raised7 : {note : ℕ} → RaisedAt v (other_lock7 v note)
  raised8 : RaisedAt v (other_lock8 v)

-- a thread that is inside, with flag1 at version v
pub data InsideAt (v : ℕ) : Point → Type 0 where
  works : {p : Point} → NodePoint p → InsideAt v p
  leaves1 : InsideAt v other_unlock1
  leaves2 : InsideAt v (other_unlock2 v)

-- a thread that neither has L nor is about to leave it
pub data Away : Point → Type 0 where
  elsewhere : {p : Point} → NodePoint p → Away p
  asks : Away other_lock1

-- Thread u from 1 on: L, flag1, its point, whether it is inside, and its writes that wait.
pub data Other (z : Settings) (L f1 u : ℕ) (p : Point) (i : Bool) (ws : List Write) : Type 0 where
  away : (L ≡ u + 1 → ⊥) → Away p → i ≡ false → ws ≡ [] → Other z L f1 u p i ws
  -- it has L
  enters2 : (w : ℕ) → L ≡ u + 1 → p ≡ other_lock2 → i ≡ false → ws ≡ [] → f1 ≡ 2 * w → Other z L f1 u p i ws
  enters3 : (w : ℕ) → L ≡ u + 1 → p ≡ other_lock3 (w + 1) → i ≡ false → ws ≡ [] → f1 ≡ 2 * w → Other z L f1 u p i ws
  -- flag1 is raised, and the write waits, or has landed
  raising : (w d : ℕ) → L ≡ u + 1 → p ≡ other_lock4 (w + 1) → i ≡ false → ws ≡ flag1_write z (2 * (w + 1) + 1) d ∷ [] → f1 ≡ 2 * w → Other z L f1 u p i ws
  raised : (w : ℕ) → L ≡ u + 1 → RaisedAt (w + 1) p → i ≡ false → ws ≡ [] → f1 ≡ 2 * (w + 1) + 1 → Other z L f1 u p i ws
  within : (w : ℕ) → L ≡ u + 1 → InsideAt (w + 1) p → i ≡ true → ws ≡ [] → f1 ≡ 2 * (w + 1) + 1 → Other z L f1 u p i ws
  -- flag1 is lowered, and the write waits, or has landed
  lowering : (w d : ℕ) → L ≡ u + 1 → p ≡ other_unlock3 → i ≡ false → ws ≡ flag1_write z (2 * (w + 2)) d ∷ [] → f1 ≡ 2 * (w + 1) + 1 → Other z L f1 u p i ws
  lowered : (w : ℕ) → L ≡ u + 1 → p ≡ other_unlock3 → i ≡ false → ws ≡ [] → f1 ≡ 2 * w → Other z L f1 u p i ws
  -- L is released, and the write waits
  releasing2 : (w d e : ℕ) → L ≡ u + 1 → Away p → i ≡ false → ws ≡ flag1_write z (2 * (w + 2)) d ∷ release_write z e ∷ [] → f1 ≡ 2 * (w + 1) + 1 → Other z L f1 u p i ws
  releasing : (w e : ℕ) → L ≡ u + 1 → Away p → i ≡ false → ws ≡ release_write z e ∷ [] → f1 ≡ 2 * w → Other z L f1 u p i ws

-- The owner, thread 0.

-- a value of flag0: 1, or an echo of a version of flag1 so far
pub data Flag0 (f1 : ℕ) : ℕ → Type 0 where
  up : Flag0 f1 1
  echo : (w : ℕ) → 2 * w ≤ f1 → Flag0 f1 (2 * w)

-- a waiting write of the owner to the lock's cells
pub data OwnerWrite (z : Settings) (f1 : ℕ) (w : Write) : Type 0 where
  flags : w.cell ≡ flag0_cell z → Flag0 f1 w.value → OwnerWrite z f1 w
  releases : w.cell ≡ lock_cell z → w.value ≡ 0 → OwnerWrite z f1 w

-- how many waiting writes release L
abbrev pub release_count : Settings → List Write → ℕ
release_count z [] = 0
release_count z (w ∷ ws) = cond (eqb w.cell (lock_cell z)) 1 0 + release_count z ws

-- where the owner is, whether it is inside, and what it sees in flag0 (own)
pub data OwnerAt (f1 own : ℕ) : Point → Bool → Type 0 where
  works : {p : Point} {i : Bool} → NodePoint p → OwnerAt f1 own p i
  locks1 : OwnerAt f1 own owner_lock1 false
  locks2 : own ≡ 1 → OwnerAt f1 own owner_lock2 false
  locks3 : {v : ℕ} → 2 * v ≤ f1 → OwnerAt f1 own (owner_lock3 v) false
  locks4 : (w : ℕ) → own ≡ 2 * w → OwnerAt f1 own owner_lock4 false
  locks5 : (w : ℕ) → own ≡ 2 * w → OwnerAt f1 own owner_lock5 false
  unlocks1 : OwnerAt f1 own owner_unlock1 true
  unlocks2 : own ≡ 1 → OwnerAt f1 own owner_unlock2 true
  unlocks3 : (w : ℕ) → own ≡ 2 * w → OwnerAt f1 own owner_unlock3 true
  unlocks4 : OwnerAt f1 own owner_unlock4 false

-- the owner has L
pub data Holds (own : ℕ) (p : Point) (i : Bool) : Type 0 where
  slow : (w : ℕ) → i ≡ true → own ≡ 2 * w → Holds own p i
  last : p ≡ owner_unlock4 → Holds own p i

pub data OwnerLock (L own : ℕ) (p : Point) (i : Bool) (waiting : ℕ) : Type 0 where
  without : (L ≡ 1 → ⊥) → waiting ≡ 0 → (Holds own p i → ⊥) → OwnerLock L own p i waiting
  has : L ≡ 1 → waiting ≡ 0 → Holds own p i → OwnerLock L own p i waiting
  gives : L ≡ 1 → waiting ≡ 1 → (Holds own p i → ⊥) → OwnerLock L own p i waiting

-- the owner's loop of a lock that found flag1 raised
pub data InLoop : Point → Type 0 where
  loop3 : {v : ℕ} → InLoop (owner_lock3 v)
  loop4 : InLoop owner_lock4
  loop5 : InLoop owner_lock5

-- no value of flag0, landed or waiting, echoes the version v
pub record NoEcho (z : Settings) (v f0 : ℕ) (ws : List Write) : Type 0 where
  pub landed : f0 ≡ 2 * v → ⊥
  pub waiting : AllByRecursion (λ (w : Write). w.cell ≡ flag0_cell z → w.value ≡ 2 * v → ⊥) ws

-- while the owner is inside by flag0 = 1: a thread that waits has noted a clock no earlier than the owner's writes of flag0, and one
-- that has waited finds flag0 landed
abbrev pub TimedAt : Settings → ℕ → List Write → Point → Type 0
TimedAt z f0 ws idle = Unit {0}
TimedAt z f0 ws (protect1 r h) = Unit {0}
TimedAt z f0 ws (protect2 r h n) = Unit {0}
TimedAt z f0 ws (protect3 r h n) = Unit {0}
TimedAt z f0 ws (protect4 r h) = Unit {0}
TimedAt z f0 ws (copy1 a b) = Unit {0}
TimedAt z f0 ws (release1 a) = Unit {0}
TimedAt z f0 ws (publish1 r n) = Unit {0}
TimedAt z f0 ws (remove1 r) = Unit {0}
TimedAt z f0 ws (remove2 r n) = Unit {0}
TimedAt z f0 ws (remove3 r n) = Unit {0}
TimedAt z f0 ws reclaim1 = Unit {0}
TimedAt z f0 ws (reclaim2 now seen) = Unit {0}
TimedAt z f0 ws (reclaim3 now seen) = Unit {0}
TimedAt z f0 ws owner_lock1 = Unit {0}
TimedAt z f0 ws owner_lock2 = Unit {0}
TimedAt z f0 ws (owner_lock3 v) = Unit {0}
TimedAt z f0 ws owner_lock4 = Unit {0}
TimedAt z f0 ws owner_lock5 = Unit {0}
TimedAt z f0 ws owner_unlock1 = Unit {0}
TimedAt z f0 ws owner_unlock2 = Unit {0}
TimedAt z f0 ws owner_unlock3 = Unit {0}
TimedAt z f0 ws owner_unlock4 = Unit {0}
TimedAt z f0 ws other_lock1 = Unit {0}
TimedAt z f0 ws other_lock2 = Unit {0}
TimedAt z f0 ws (other_lock3 v) = Unit {0}
TimedAt z f0 ws (other_lock4 v) = Unit {0}
TimedAt z f0 ws (other_lock5 v) = Unit {0}
TimedAt z f0 ws (other_lock6 v note) = AllByRecursion (λ (w : Write). w.cell ≡ flag0_cell z → w.date ≤ note) ws
TimedAt z f0 ws (other_lock7 v note) = AllByRecursion (λ (w : Write). w.cell ≡ flag0_cell z → w.date ≤ note) ws
TimedAt z f0 ws (other_lock8 v) = (f0 ≡ 1) × AllByRecursion (λ (w : Write). w.cell ≡ flag0_cell z → ⊥) ws
TimedAt z f0 ws other_unlock1 = Unit {0}
TimedAt z f0 ws (other_unlock2 v) = Unit {0}
TimedAt z f0 ws other_unlock3 = Unit {0}

-- The half of L and flag1.
pub record Turns (z : Settings) (a : LockState) : Type 0 where
  pub others : (u : ℕ) → 1 ≤ u → Other z a.sight.lock a.sight.flag1 u (a.point u) (a.inside u) (a.sight.writes u)
  pub owner : OwnerLock a.sight.lock (sees0 z a.sight 0) (a.point 0) (a.inside 0) (release_count z (a.sight.writes 0))
  -- flag1 is lowered while L is free or the owner's
  pub quiet : (a.sight.lock ≡ 0) ⊎ (a.sight.lock ≡ 1) → (w : ℕ) × (a.sight.flag1 ≡ 2 * w)
  -- versions stay below the number of calls
  pub few : a.sight.flag1 ≤ 2 * a.count + 1
  pub few_kept : (u v : ℕ) → a.point u ≡ other_lock3 v → v ≤ a.count
  pub few_waiting : (u : ℕ) → 1 ≤ u → AllByRecursion (λ (w : Write). w.value ≤ 2 * a.count + 1) (a.sight.writes u)

-- The half of flag0, echoes and time.
pub record Owned (z : Settings) (a : LockState) : Type 0 where
  pub writes : AllByRecursion (OwnerWrite z a.sight.flag1) (a.sight.writes 0)
  pub flag0 : Flag0 a.sight.flag1 a.sight.flag0
  pub at : OwnerAt a.sight.flag1 (sees0 z a.sight 0) (a.point 0) (a.inside 0)
  pub dates : AllByRecursion (λ (w : Write). w.date ≤ a.sight.clock) (a.sight.writes 0)
  pub echoes : (v : ℕ) → a.sight.flag1 ≡ 2 * (v + 1) + 1 → InLoop (a.point 0) ⊎ NoEcho z (v + 1) a.sight.flag0 (a.sight.writes 0)
  pub timed : (u : ℕ) → 1 ≤ u → a.inside 0 ≡ true → sees0 z a.sight 0 ≡ 1 → TimedAt z a.sight.flag0 (a.sight.writes 0) (a.point u)
  pub alone : (u : ℕ) → 1 ≤ u → a.inside u ≡ true → a.inside 0 ≡ false
