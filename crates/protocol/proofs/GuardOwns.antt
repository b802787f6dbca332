-- Every transition keeps that a thread writes no hazard cells but its own. Assumes nothing.
use Rattle.std.proofs.Common.{◌≡◌, ℕ, ◌+◌, ◌*◌, ◌<◌, ◌≤◌, true, length, Some, refl, arith}
use Rattle.memory.specs.Calls.{Sound}
use Rattle.memory.specs.Meaning.{Meaning, written, is_new}
use Rattle.protocol.specs.declared.answer.Answer.{Answer}
use Rattle.protocol.specs.declared.call.Call.{Call}
use Rattle.protocol.specs.declared.settings.Settings.{Settings}
use Rattle.protocol.specs.Settings.{hazard_cell, hazard_cells}
use Rattle.protocol.specs.Steps.{Request, asks_load, asks_store, asks_exchange, asks_clock, asks_fence, asks_nothing, Told, guard_of, word, request}
use Rattle.protocol.specs.Tables.{Point, Tables, State, thread_of, idle, protect1, protect2, protect3, protect4, copy1, release1, publish1, remove1, remove2, remove3, reclaim1, reclaim2, reclaim3, owner_lock1, owner_lock2, owner_lock3, owner_lock4, owner_lock5, owner_unlock1, owner_unlock2, owner_unlock3, owner_unlock4, other_lock1, other_lock2, other_lock3, other_lock4, other_lock5, other_lock6, other_lock7, other_lock8, other_unlock1, other_unlock2, other_unlock3}
use Rattle.protocol.specs.Transition.{Meets, Trans, refuses, sets_up, ticks, lands, begins, steps, step_asks, here}
use Rattle.protocol.proofs.FirstState.{new_empty}
use Rattle.protocol.proofs.GuardMemory.{OwnWrite, Owns, is_hazard_lem, owns_landed, owns_lands, owns_stored, owns_exchanged, owns_ticked, owns_empty}
use Rattle.protocol.proofs.Passed.{rest_passed, step_passed}
use Rattle.protocol.proofs.Placed.{FitsAt, Placed, Inv}
use Rattle.protocol.proofs.PlacedMemory.{ranges}

-- what a step stores
abbrev pub OwnStore : Settings → ℕ → Meaning → Request → Type 0
OwnStore z t m (asks_load c) = Unit {0}
OwnStore z t m (asks_store c v) = OwnWrite z t (written m c v)
OwnStore z t m (asks_exchange c old new) = Unit {0}
OwnStore z t m asks_clock = Unit {0}
OwnStore z t m asks_fence = Unit {0}
OwnStore z t m asks_nothing = Unit {0}

module _ (x : Tables) (m : Meaning) (t : ℕ) where
  hazards : (h v : ℕ) → h < x.settings.hazards → OwnWrite x.settings t (written m (hazard_cell x.settings t h) v)
  hazards h v lt inside = is_hazard_lem x.settings t h (written m (hazard_cell x.settings t h) v) refl lt

  -- the flags and the lock
  locks : (c v : ℕ) → x.settings.roots + hazard_cells x.settings ≤ c → OwnWrite x.settings t (written m c v)
  locks c v le inside = absurd (omega arith)

  pub request_owns : (p : Point) → FitsAt x.settings p → OwnStore x.settings t m (request (here x m t) p)
  request_owns idle f = tt
  request_owns (protect1 r h) f = tt
  request_owns (protect2 r h n) f = hazards h n f.1
  request_owns (protect3 r h n) f = tt
  request_owns (protect4 r h) f = hazards h 0 f.1
  request_owns (copy1 a b) f = hazards b (guard_of (thread_of x t) a) f.1
  request_owns (release1 a) f = hazards a 0 f
  request_owns (publish1 r n) f = tt
  request_owns (remove1 r) f = tt
  request_owns (remove2 r n) f = tt
  request_owns (remove3 r n) f = tt
  request_owns reclaim1 f = tt
  request_owns (reclaim2 now seen) f = tt
  request_owns (reclaim3 now seen) f = tt
  request_owns owner_lock1 f = locks _ 1 (omega arith)
  request_owns owner_lock2 f = tt
  request_owns (owner_lock3 v) f = locks _ (word (2 * v)) (omega arith)
  request_owns owner_lock4 f = tt
  request_owns owner_lock5 f = tt
  request_owns owner_unlock1 f = tt
  request_owns owner_unlock2 f = locks _ 0 (omega arith)
  request_owns owner_unlock3 f = locks _ 0 (omega arith)
  request_owns owner_unlock4 f = locks _ 0 (omega arith)
  request_owns other_lock1 f = tt
  request_owns other_lock2 f = tt
  request_owns (other_lock3 v) f = locks _ (word (2 * v + 1)) (omega arith)
  request_owns (other_lock4 v) f = tt
  request_owns (other_lock5 v) f = tt
  request_owns (other_lock6 v note) f = tt
  request_owns (other_lock7 v note) f = tt
  request_owns (other_lock8 v) f = tt
  request_owns other_unlock1 f = tt
  request_owns (other_unlock2 v) f = locks _ (word (2 * (v + 1))) (omega arith)
  request_owns other_unlock3 f = locks _ 0 (omega arith)

pub meets_owns : (z : Settings) (t : ℕ) (q : Request) (m m' : Meaning) (k : Told) → t < length m.waiting → t < z.threads → OwnStore z t m q → Meets t q m m' k → Owns z m → Owns z m'
meets_owns z t (asks_load c) m m' k lt in' f w o = owns_lands z w.2.lands o
meets_owns z t (asks_store c v) m m' k lt in' f w o = owns_lands z w.1 (owns_stored z t c v m lt in' f o)
meets_owns z t (asks_exchange c old new) m m' k lt in' f w o = rw w.2.is (owns_exchanged z c old new w.2.between (owns_lands z w.2.lands o))
meets_owns z t asks_clock m m' k lt in' f w o = rw w.1 o
meets_owns z t asks_fence m m' k lt in' f w o = rw w.1 o
meets_owns z t asks_nothing m m' k lt in' f w o = rw w.1 o

-- a thread of the machine is one of the memory
pub thread_waits : (x : Tables) (m : Meaning) (t : ℕ) → Placed x m → t < x.settings.threads → t < length m.waiting
thread_waits x m t p lt = let g = (ranges x.settings p.shape.range).threads in let e = p.sound.threads in omega arith

pub owns_keeps : (s s' : State) {c : Call} {a : Answer} {k : Told} (x x' : Tables) → Trans s s' c a k → Inv s → s.tables ≡ Some x → s'.tables ≡ Some x' → Owns x.settings s.memory → Owns x.settings s'.memory
owns_keeps s s' x x' (refuses f e) i g h o = rw e o
owns_keeps s s' x x' (sets_up f e j) i g h o = rw e o
owns_keeps s s' x x' (ticks e f w) i g h o = rw w.memory.is (owns_ticked x.settings w.memory.between (owns_lands x.settings w.memory.lands o))
owns_keeps s s' x x' (lands {t} e f w) i g h o = owns_lands x.settings w.memory (owns_landed x.settings t s.memory o)
owns_keeps s s' x x' (begins e j f w) i g h o = rw w.memory o
owns_keeps s s' x x' (steps {t} {x = y} {a} {k} e f w) i g h o =
    let j : x.settings ≡ y.settings = cc in
    let p = i.placed y e in
    let q = step_passed t s.memory y (rest_passed s.tables (step_asks t s.memory) y e f) in
    rw j
    (meets_owns y.settings t (request (here y s.memory t) (thread_of y t).point) s.memory s'.memory k (thread_waits y s.memory t p q.thread) q.thread
    (request_owns y s.memory t (thread_of y t).point (p.shape.fits t)) w.memory (rw j at o))

pub owns_first : (z : Settings) (m : Meaning) → Sound m → is_new m ≡ true → Owns z m
owns_first z m s new = owns_empty z m (new_empty m s new)
