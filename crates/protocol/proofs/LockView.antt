-- The machine as the lock sees it: the lock word L, flag0, flag1, the waiting writes to them, where each thread is and whether it
-- is inside; and how each action looks from there. Assumes nothing.
use Rattle.std.proofs.Common.{◌≡◌, ℕ, ◌+◌, ◌*◌, ◌/◌, ◌%◌, ◌<◌, ◌≤◌, Bool, true, false, cond, eqb, leb, ◌≢◌, List, [], ◌∷◌, ◌++◌, filter}
use Rattle.std.specs.List.{AllByRecursion}
use Rattle.memory.specs.declared.write.Write.{Write}
use Rattle.memory.specs.Meaning.{Meaning, queue, cell, newest, value_or}
use Rattle.protocol.specs.declared.settings.Settings.{Settings}
use Rattle.protocol.specs.Settings.{lock_cell, flag0_cell, flag1_cell}
use Rattle.protocol.specs.Tables.{Point, Tables, thread_of, idle, protect1, protect2, protect3, protect4, copy1, release1, publish1, remove1, remove2, remove3, reclaim1, reclaim2, reclaim3, owner_lock1, owner_lock2, owner_lock3, owner_lock4, owner_lock5, owner_unlock1, owner_unlock2, owner_unlock3, owner_unlock4, other_lock1, other_lock2, other_lock3, other_lock4, other_lock5, other_lock6, other_lock7, other_lock8, other_unlock1, other_unlock2, other_unlock3}

pub record Sight : Type 0 where
  pub lock : ℕ
  pub flag0 : ℕ
  pub flag1 : ℕ
  pub clock : ℕ
  pub bound : ℕ
  -- the writes of each thread to these cells that wait, oldest first
  pub writes : ℕ → List Write

abbrev pub lock_writes : Settings → Meaning → ℕ → List Write
lock_writes z m t = filter (λ w. leb (lock_cell z) w.cell) (queue m t)

abbrev pub sight_of : Settings → Meaning → Sight
sight_of z m =
    record {
      lock = cell m (lock_cell z);
      flag0 = cell m (flag0_cell z);
      flag1 = cell m (flag1_cell z);
      clock = m.clock;
      bound = m.bound;
      writes = lock_writes z m;
    }

-- a state as the lock sees it
pub record LockState : Type 0 where
  pub sight : Sight
  pub point : ℕ → Point
  pub inside : ℕ → Bool
  pub count : ℕ

abbrev pub lock_state : Tables → Meaning → LockState
lock_state x m =
    record {
      sight = sight_of x.settings m;
      point = λ t. (thread_of x t).point;
      inside = λ t. (thread_of x t).inside;
      count = x.accepted;
    }

-- what thread t loads from a flag
abbrev pub sees0 : Settings → Sight → ℕ → ℕ
sees0 z v t = value_or (newest (v.writes t) (flag0_cell z)) v.flag0

abbrev pub sees1 : Settings → Sight → ℕ → ℕ
sees1 z v t = value_or (newest (v.writes t) (flag1_cell z)) v.flag1

-- How an action of the memory looks.

pub record Same (v v' : Sight) : Type 0 where
  pub lock : v'.lock ≡ v.lock
  pub flag0 : v'.flag0 ≡ v.flag0
  pub flag1 : v'.flag1 ≡ v.flag1
  pub clock : v'.clock ≡ v.clock
  pub bound : v'.bound ≡ v.bound
  pub writes : (t : ℕ) → v'.writes t ≡ v.writes t

-- a waiting write of t to one of these cells lands
pub record LandsOne (z : Settings) (t : ℕ) (v v' : Sight) : Type 0 where
  pub write : Write
  pub rest : List Write
  pub was : v.writes t ≡ write ∷ rest
  pub left : v'.writes t ≡ rest
  pub others : (u : ℕ) → u ≢ t → v'.writes u ≡ v.writes u
  pub lock : v'.lock ≡ cond (eqb write.cell (lock_cell z)) write.value v.lock
  pub flag0 : v'.flag0 ≡ cond (eqb write.cell (flag0_cell z)) write.value v.flag0
  pub flag1 : v'.flag1 ≡ cond (eqb write.cell (flag1_cell z)) write.value v.flag1
  pub clock : v'.clock ≡ v.clock
  pub bound : v'.bound ≡ v.bound

-- t stores n to cell c, one of these
pub record StoresOne (z : Settings) (t c n : ℕ) (v v' : Sight) : Type 0 where
  pub here : v'.writes t ≡ v.writes t ++ record { cell = c; value = n; date = v.clock } ∷ []
  pub others : (u : ℕ) → u ≢ t → v'.writes u ≡ v.writes u
  pub lock : v'.lock ≡ v.lock
  pub flag0 : v'.flag0 ≡ v.flag0
  pub flag1 : v'.flag1 ≡ v.flag1
  pub clock : v'.clock ≡ v.clock
  pub bound : v'.bound ≡ v.bound

-- an exchange puts n into L; the thread had no write waiting
pub record TakesLock (t n : ℕ) (v v' : Sight) : Type 0 where
  pub none : v.writes t ≡ []
  pub was : v.lock ≡ 0
  pub lock : v'.lock ≡ n
  pub flag0 : v'.flag0 ≡ v.flag0
  pub flag1 : v'.flag1 ≡ v.flag1
  pub clock : v'.clock ≡ v.clock
  pub bound : v'.bound ≡ v.bound
  pub writes : (u : ℕ) → v'.writes u ≡ v.writes u

-- the clock moves, and no write that waits is due
pub record TicksOn (v v' : Sight) : Type 0 where
  pub clock : v'.clock ≡ v.clock + 1
  pub in_time : (t : ℕ) → AllByRecursion (λ (w : Write). v.clock < w.date + v.bound) (v.writes t)
  pub lock : v'.lock ≡ v.lock
  pub flag0 : v'.flag0 ≡ v.flag0
  pub flag1 : v'.flag1 ≡ v.flag1
  pub bound : v'.bound ≡ v.bound
  pub writes : (t : ℕ) → v'.writes t ≡ v.writes t

-- How a call looks.

-- thread t has come to p' and is inside or not as i' says; one call more was accepted
pub record Goes (t : ℕ) (a a' : LockState) (p' : Point) (i' : Bool) : Type 0 where
  pub point : a'.point t ≡ p'
  pub inside : a'.inside t ≡ i'
  pub points : (u : ℕ) → u ≢ t → a'.point u ≡ a.point u
  pub insides : (u : ℕ) → u ≢ t → a'.inside u ≡ a.inside u
  pub count : a'.count ≡ a.count + 1

-- Points, by what they mean for the lock.

-- a point of the operations on nodes, or no operation
abbrev pub NodePoint : Point → Type 0
NodePoint idle = Unit {0}
NodePoint (protect1 r h) = Unit {0}
NodePoint (protect2 r h n) = Unit {0}
NodePoint (protect3 r h n) = Unit {0}
NodePoint (protect4 r h) = Unit {0}
NodePoint (copy1 a b) = Unit {0}
NodePoint (release1 a) = Unit {0}
NodePoint (publish1 r n) = Unit {0}
NodePoint (remove1 r) = Unit {0}
NodePoint (remove2 r n) = Unit {0}
NodePoint (remove3 r n) = Unit {0}
NodePoint reclaim1 = Unit {0}
NodePoint (reclaim2 now seen) = Unit {0}
NodePoint (reclaim3 now seen) = Unit {0}
NodePoint owner_lock1 = ⊥
NodePoint owner_lock2 = ⊥
NodePoint (owner_lock3 v) = ⊥
NodePoint owner_lock4 = ⊥
NodePoint owner_lock5 = ⊥
NodePoint owner_unlock1 = ⊥
NodePoint owner_unlock2 = ⊥
NodePoint owner_unlock3 = ⊥
NodePoint owner_unlock4 = ⊥
NodePoint other_lock1 = ⊥
NodePoint other_lock2 = ⊥
NodePoint (other_lock3 v) = ⊥
NodePoint (other_lock4 v) = ⊥
NodePoint (other_lock5 v) = ⊥
NodePoint (other_lock6 v note) = ⊥
NodePoint (other_lock7 v note) = ⊥
NodePoint (other_lock8 v) = ⊥
NodePoint other_unlock1 = ⊥
NodePoint (other_unlock2 v) = ⊥
NodePoint other_unlock3 = ⊥

-- An accepted begin or step of thread t, but for landings. Only the cases at lock points matter; all others are `node`.
pub data Acts (z : Settings) (t : ℕ) (a a' : LockState) : Type 0 where
  node : {p p' : Point} → a.point t ≡ p → NodePoint p → NodePoint p' → Goes t a a' p' (a.inside t) → Same a.sight a'.sight → Acts z t a a'
  begins_owner_lock : t ≡ 0 → a.point t ≡ idle → a.inside t ≡ false → Goes t a a' owner_lock1 false → Same a.sight a'.sight → Acts z t a a'
  begins_owner_unlock : t ≡ 0 → a.point t ≡ idle → a.inside t ≡ true → Goes t a a' owner_unlock1 true → Same a.sight a'.sight → Acts z t a a'
  begins_other_lock : 1 ≤ t → a.point t ≡ idle → a.inside t ≡ false → Goes t a a' other_lock1 false → Same a.sight a'.sight → Acts z t a a'
  begins_other_unlock : 1 ≤ t → a.point t ≡ idle → a.inside t ≡ true → Goes t a a' other_unlock1 true → Same a.sight a'.sight → Acts z t a a'
  owner1 : a.point t ≡ owner_lock1 → Goes t a a' owner_lock2 (a.inside t) → StoresOne z t (flag0_cell z) 1 a.sight a'.sight → Acts z t a a'
  owner2in : a.point t ≡ owner_lock2 → sees1 z a.sight t % 2 ≡ 0 → Goes t a a' idle true → Same a.sight a'.sight → Acts z t a a'
  owner2 : a.point t ≡ owner_lock2 → sees1 z a.sight t % 2 ≡ 1 → Goes t a a' (owner_lock3 (sees1 z a.sight t / 2)) (a.inside t) → Same a.sight a'.sight → Acts z t a a'
  owner3 : {v : ℕ} → a.point t ≡ owner_lock3 v → 2 * v < 18446744073709551616 → Goes t a a' owner_lock4 (a.inside t) → StoresOne z t (flag0_cell z) (2 * v) a.sight a'.sight → Acts z t a a'
  owner4in : a.point t ≡ owner_lock4 → Goes t a a' idle true → TakesLock t 1 a.sight a'.sight → Acts z t a a'
  owner4 : a.point t ≡ owner_lock4 → a.sight.lock ≢ 0 → a.sight.writes t ≡ [] → Goes t a a' owner_lock5 (a.inside t) → Same a.sight a'.sight → Acts z t a a'
  owner5 : a.point t ≡ owner_lock5 → Goes t a a' (owner_lock3 (sees1 z a.sight t / 2)) (a.inside t) → Same a.sight a'.sight → Acts z t a a'
  owner_u1low : a.point t ≡ owner_unlock1 → sees0 z a.sight t % 2 ≡ 0 → Goes t a a' owner_unlock3 (a.inside t) → Same a.sight a'.sight → Acts z t a a'
  owner_u1 : a.point t ≡ owner_unlock1 → sees0 z a.sight t % 2 ≡ 1 → Goes t a a' owner_unlock2 (a.inside t) → Same a.sight a'.sight → Acts z t a a'
  owner_u2 : a.point t ≡ owner_unlock2 → Goes t a a' idle false → StoresOne z t (flag0_cell z) 0 a.sight a'.sight → Acts z t a a'
  owner_u3 : a.point t ≡ owner_unlock3 → Goes t a a' owner_unlock4 false → StoresOne z t (flag0_cell z) 0 a.sight a'.sight → Acts z t a a'
  owner_u4 : a.point t ≡ owner_unlock4 → Goes t a a' idle (a.inside t) → StoresOne z t (lock_cell z) 0 a.sight a'.sight → Acts z t a a'
  other1in : a.point t ≡ other_lock1 → Goes t a a' other_lock2 (a.inside t) → TakesLock t (t + 1) a.sight a'.sight → Acts z t a a'
  other1 : a.point t ≡ other_lock1 → Goes t a a' other_lock1 (a.inside t) → Same a.sight a'.sight → Acts z t a a'
  other2 : a.point t ≡ other_lock2 → Goes t a a' (other_lock3 (sees1 z a.sight t / 2 + 1)) (a.inside t) → Same a.sight a'.sight → Acts z t a a'
  other3 : {v : ℕ} → a.point t ≡ other_lock3 v → a.count < 8000 → {n : ℕ} → n ≡ (2 * v + 1) % 18446744073709551616 → Goes t a a' (other_lock4 v) (a.inside t) → StoresOne z t (flag1_cell z) n a.sight a'.sight → Acts z t a a'
  other4 : {v : ℕ} → a.point t ≡ other_lock4 v → a.sight.writes t ≡ [] → Goes t a a' (other_lock5 v) (a.inside t) → Same a.sight a'.sight → Acts z t a a'
  other5 : {v : ℕ} → a.point t ≡ other_lock5 v → Goes t a a' (other_lock6 v a.sight.clock) (a.inside t) → Same a.sight a'.sight → Acts z t a a'
  other6past : {v note : ℕ} → a.point t ≡ other_lock6 v note → note + a.sight.bound < a.sight.clock → Goes t a a' (other_lock8 v) (a.inside t) → Same a.sight a'.sight → Acts z t a a'
  other6 : {v note : ℕ} → a.point t ≡ other_lock6 v note → Goes t a a' (other_lock7 v note) (a.inside t) → Same a.sight a'.sight → Acts z t a a'
  other7echo : {v note : ℕ} → a.point t ≡ other_lock7 v note → sees0 z a.sight t / 2 ≡ v → Goes t a a' (other_lock8 v) (a.inside t) → Same a.sight a'.sight → Acts z t a a'
  other7 : {v note : ℕ} → a.point t ≡ other_lock7 v note → Goes t a a' (other_lock6 v note) (a.inside t) → Same a.sight a'.sight → Acts z t a a'
  other8in : {v : ℕ} → a.point t ≡ other_lock8 v → sees0 z a.sight t % 2 ≡ 0 → Goes t a a' idle true → Same a.sight a'.sight → Acts z t a a'
  other8 : {v : ℕ} → a.point t ≡ other_lock8 v → Goes t a a' (other_lock8 v) (a.inside t) → Same a.sight a'.sight → Acts z t a a'
  other_u1 : a.point t ≡ other_unlock1 → Goes t a a' (other_unlock2 (sees1 z a.sight t / 2)) (a.inside t) → Same a.sight a'.sight → Acts z t a a'
  other_u2 : {v : ℕ} → a.point t ≡ other_unlock2 v → a.count < 8000 → {n : ℕ} → n ≡ 2 * (v + 1) % 18446744073709551616 → Goes t a a' other_unlock3 false → StoresOne z t (flag1_cell z) n a.sight a'.sight → Acts z t a a'
  other_u3 : a.point t ≡ other_unlock3 → Goes t a a' idle (a.inside t) → StoresOne z t (lock_cell z) 0 a.sight a'.sight → Acts z t a a'

-- only the memory has moved
pub record Still (a a' : LockState) : Type 0 where
  pub point : (t : ℕ) → a'.point t ≡ a.point t
  pub inside : (t : ℕ) → a'.inside t ≡ a.inside t
  pub count : a.count ≤ a'.count

-- an accepted call with its landings, as the lock sees it: it leads from the state given last to a'
pub data LockPath (z : Settings) (a' : LockState) : LockState → Type 0 where
  rests : {a : LockState} → Same a.sight a'.sight → Still a a' → LockPath z a' a
  lands : {a : LockState} (t : ℕ) (b : LockState) → LandsOne z t a.sight b.sight → Still a b → LockPath z a' b → LockPath z a' a
  ticks : {a : LockState} (b : LockState) → TicksOn a.sight b.sight → Still a b → LockPath z a' b → LockPath z a' a
  acts : {a : LockState} (t : ℕ) (b : LockState) → Acts z t a b → LockPath z a' b → LockPath z a' a
