-- No number grows past 64 + 2 × the accepted calls: in the cells, in the waiting writes, and in what threads keep. Assumes nothing.
use Rattle.std.proofs.Common.{◌≡◌, ℕ, ◌+◌, ◌*◌, ◌<◌, ◌≤◌, Bool, true, false, cond, eqb, ltb, ◌≢◌, ◌⊎◌, List, [], ◌∷◌, ◌++◌, length, get_or, set, Some, None, Option, sym, refl, inl, inr, arith}
use Rattle.std.specs.List.{AllByRecursion}
use Rattle.std.proofs.ByRecursion.{All-push, All-weaker}
use Rattle.std.proofs.lemmas.List.{get_or_past, get_or-set_same, get_or-set_other}
use Rattle.std.proofs.lemmas.Bool.{cases_eq, cases_lt, cond_both}
use Rattle.memory.specs.declared.write.Write.{Write}
use Rattle.memory.specs.Landings.{Lands}
use Rattle.memory.specs.Meaning.{Meaning, queue, cell, written, newest_or, value_or, loaded, stored, landed, exchanged, ticked}
use Rattle.memory.proofs.Views.{Popped, Pushed, Put, Moved, landed_cases, stored_pushes, exchanged_puts, exchanged_none, ticked_moves, lands_keep}
use Rattle.protocol.specs.declared.operation.Operation.{Operation}
use Rattle.protocol.specs.declared.operation.Operation.TheVariants.{Protect, Copy, Release, Publish, Remove, Reclaim, OwnerLock, OwnerUnlock, OtherLock, OtherUnlock}
use Rattle.protocol.specs.Begin.{start_of}
use Rattle.protocol.specs.Guarantees.{Explains}
use Rattle.protocol.specs.History.{Event}
use Rattle.protocol.specs.Settings.{hazard_cells}
use Rattle.protocol.specs.Steps.{Request, asks_load, asks_store, asks_exchange, asks_clock, asks_fence, asks_nothing, Told, clock_told, value_told, done_told, Outcome, moved_to, guarding, guard_of, lowered, version_of, waited, word, request, after}
use Rattle.protocol.specs.Tables.{Thread, Tables, State, thread_of, idle_thread, Point, idle, protect1, protect2, protect3, protect4, copy1, release1, publish1, remove1, remove2, remove3, reclaim1, reclaim2, reclaim3, owner_lock1, owner_lock2, owner_lock3, owner_lock4, owner_lock5, owner_unlock1, owner_unlock2, owner_unlock3, owner_unlock4, other_lock1, other_lock2, other_lock3, other_lock4, other_lock5, other_lock6, other_lock7, other_lock8, other_unlock1, other_unlock2, other_unlock3}
use Rattle.protocol.specs.Transition.{Meets, here}
use Rattle.protocol.proofs.FirstState.{replicated, same_all, new_empty, new_blank}
use Rattle.protocol.proofs.Invariants.{FirstHolds, Kept, calls_keep, always}
use Rattle.protocol.proofs.Placed.{FitsAt, Placed}
use Rattle.protocol.proofs.PlacedMemory.{Ranges, ranges, nodes_high}

-- The memory.

pub record SmallMemory (b : ℕ) (m : Meaning) : Type 0 where
  pub cells : (c : ℕ) → cell m c ≤ b
  pub waiting : (t : ℕ) → AllByRecursion (λ (w : Write). w.value ≤ b) (queue m t)

memory_more : (b b' : ℕ) (m : Meaning) → b ≤ b' → SmallMemory b m → SmallMemory b' m
memory_more b b' m le s =
    record {
      cells = λ c. let h = s.cells c in omega arith;
      waiting = λ t. All-weaker (λ (w : Write). w.value ≤ b) (λ (w : Write). w.value ≤ b') (λ w h. omega arith) (queue m t) (s.waiting t);
    }

-- a cell past the end holds 0
past_end : (b : ℕ) (m m' : Meaning) (c : ℕ) → length m'.cells ≡ length m.cells → length m.cells ≤ c → cell m' c ≤ b
past_end b m m' c e le = let f = get_or_past m'.cells c 0 (omega arith) in omega arith

memory_landed : (b t : ℕ) (m : Meaning) → SmallMemory b m → SmallMemory b (landed t m)
memory_landed b t m s = elim (landed_cases t m) [ inl e ↦ rw e s | inr p ↦ popped p ]
  where
    popped : Popped t m (landed t m) → SmallMemory b (landed t m)
    popped p = record { cells = λ c. at c (cases_eq c p.write.cell); waiting = λ u. left u (cases_eq u t) }
      where
        all : AllByRecursion (λ (w : Write). w.value ≤ b) (p.write ∷ p.rest)
        all = rw p.was at (s.waiting t)

        at : (c : ℕ) → (c ≡ p.write.cell) ⊎ (c ≢ p.write.cell) → cell (landed t m) c ≤ b
        at c (inl e) = elim (cases_lt p.write.cell (length m.cells)) [
          | inl lt ↦ rw (e, p.here lt) all.0
          | inr le ↦ past_end b m (landed t m) c p.fixed.places (omega arith)
        ]
        at c (inr ne) = rw (p.elsewhere c ne) (s.cells c)

        left : (u : ℕ) → (u ≡ t) ⊎ (u ≢ t) → AllByRecursion (λ (w : Write). w.value ≤ b) (queue (landed t m) u)
        left u (inl e) = rw (e, p.left) all.1
        left u (inr ne) = rw (p.others u ne) (s.waiting u)

memory_lands : (b : ℕ) {m m' : Meaning} → Lands m m' → SmallMemory b m → SmallMemory b m'
memory_lands b l s = lands_keep (SmallMemory b) (memory_landed b) l s

memory_stored : (b t c v : ℕ) (m : Meaning) → t < length m.waiting → v ≤ b → SmallMemory b m → SmallMemory b (stored t c v m)
memory_stored b t c v m lt le s = go (stored_pushes t c v m lt)
  where
    go : Pushed t c v m (stored t c v m) → SmallMemory b (stored t c v m)
    go p = record { cells = λ d. rw p.cells (s.cells d); waiting = λ u. at u (cases_eq u t) }
      where
        at : (u : ℕ) → (u ≡ t) ⊎ (u ≢ t) → AllByRecursion (λ (w : Write). w.value ≤ b) (queue (stored t c v m) u)
        at u (inl e) = rw (e, p.here) (All-push (λ (w : Write). w.value ≤ b) (queue m t) (written m c v) (s.waiting t) le)
        at u (inr ne) = rw (p.others u ne) (s.waiting u)

memory_exchanged : (b c old new : ℕ) (m : Meaning) → new ≤ b → SmallMemory b m → SmallMemory b (exchanged c old new m)
memory_exchanged b c old new m le s = go (eqb (cell m c) old) refl
  where
    put : Put c new m (exchanged c old new m) → SmallMemory b (exchanged c old new m)
    put p = record { cells = λ d. at d (cases_eq d c); waiting = λ u. rw p.waiting (s.waiting u) }
      where
        at : (d : ℕ) → (d ≡ c) ⊎ (d ≢ c) → cell (exchanged c old new m) d ≤ b
        at d (inl e) = elim (cases_lt c (length m.cells)) [
          | inl lt ↦ rw (e, p.here lt) le
          | inr past ↦ past_end b m (exchanged c old new m) d p.fixed.places (omega arith)
        ]
        at d (inr ne) = rw (p.elsewhere d ne) (s.cells d)

    go : (d : Bool) → eqb (cell m c) old ≡ d → SmallMemory b (exchanged c old new m)
    go true e = put (exchanged_puts c old new m e)
    go false e = rw (exchanged_none c old new m e) s

memory_ticked : (b : ℕ) (m : Meaning) → SmallMemory b m → SmallMemory b (ticked m)
memory_ticked b m s = go (ticked_moves m)
  where
    go : Moved m (ticked m) → SmallMemory b (ticked m)
    go p = record { cells = λ c. rw p.cells (s.cells c); waiting = λ u. rw p.waiting (s.waiting u) }

newest_small : (b : ℕ) (o : Option ℕ) (ws : List Write) (c d : ℕ) → value_or o d ≤ b → AllByRecursion (λ (w : Write). w.value ≤ b) ws → value_or (newest_or o ws c) d ≤ b
newest_small b o [] c d le all = le
newest_small b o (w ∷ ws) c d le all = newest_small b (cond (eqb w.cell c) (Some w.value) o) ws c d (at (eqb w.cell c)) all.1
  where
    at : (y : Bool) → value_or (cond y (Some w.value) o) d ≤ b
    at true = all.0
    at false = le

loaded_small : (b t c : ℕ) (m : Meaning) → SmallMemory b m → loaded m t c ≤ b
unfolding loaded
loaded_small b t c m s = newest_small b None (queue m t) c (cell m c) (s.cells c) (s.waiting t)

-- what a step asks to be written
abbrev Writes : ℕ → Request → Type 0
Writes b (asks_load c) = Unit {0}
Writes b (asks_store c v) = v ≤ b
Writes b (asks_exchange c old new) = new ≤ b
Writes b asks_clock = Unit {0}
Writes b asks_fence = Unit {0}
Writes b asks_nothing = Unit {0}

meets_small : (b t : ℕ) (q : Request) (m m' : Meaning) (k : Told) → t < length m.waiting → Writes b q → Meets t q m m' k → SmallMemory b m → SmallMemory b m'
meets_small b t (asks_load c) m m' k lt q w s = memory_lands b w.2.lands s
meets_small b t (asks_store c v) m m' k lt q w s = memory_lands b w.1 (memory_stored b t c v m lt q s)
meets_small b t (asks_exchange c old new) m m' k lt q w s = rw w.2.is (memory_exchanged b c old new w.2.between q (memory_lands b w.2.lands s))
meets_small b t asks_clock m m' k lt q w s = rw w.1 s
meets_small b t asks_fence m m' k lt q w s = rw w.1 s
meets_small b t asks_nothing m m' k lt q w s = rw w.1 s

pub told_small : (b t : ℕ) (q : Request) (m m' : Meaning) (k : Told) → Meets t q m m' k → SmallMemory b m → value_told k ≤ b
told_small b t (asks_load c) m m' k w s = rw (w.1, w.2.value) (loaded_small b t c m' (memory_lands b w.2.lands s))
told_small b t (asks_store c v) m m' k w s = rw w.0 (omega arith)
told_small b t (asks_exchange c old new) m m' k w s = rw w.1 (omega arith)
told_small b t asks_clock m m' k w s = rw w.0 (omega arith)
told_small b t asks_fence m m' k w s = rw w.0 (omega arith)
told_small b t asks_nothing m m' k w s = rw w.0 (omega arith)

-- The threads.

-- a node to be stored into a hazard cell, or a version of which a flag is to be made
abbrev pub SmallAt : ℕ → Point → Type 0
SmallAt b idle = Unit {0}
SmallAt b (protect1 r h) = Unit {0}
SmallAt b (protect2 r h n) = n ≤ b
SmallAt b (protect3 r h n) = n ≤ b
SmallAt b (protect4 r h) = Unit {0}
SmallAt b (copy1 i j) = Unit {0}
SmallAt b (release1 i) = Unit {0}
SmallAt b (publish1 r n) = Unit {0}
SmallAt b (remove1 r) = Unit {0}
SmallAt b (remove2 r n) = Unit {0}
SmallAt b (remove3 r n) = Unit {0}
SmallAt b reclaim1 = Unit {0}
SmallAt b (reclaim2 now seen) = Unit {0}
SmallAt b (reclaim3 now seen) = Unit {0}
SmallAt b owner_lock1 = Unit {0}
SmallAt b owner_lock2 = Unit {0}
SmallAt b (owner_lock3 v) = 2 * v ≤ b
SmallAt b owner_lock4 = Unit {0}
SmallAt b owner_lock5 = Unit {0}
SmallAt b owner_unlock1 = Unit {0}
SmallAt b owner_unlock2 = Unit {0}
SmallAt b owner_unlock3 = Unit {0}
SmallAt b owner_unlock4 = Unit {0}
SmallAt b other_lock1 = Unit {0}
SmallAt b other_lock2 = Unit {0}
SmallAt b (other_lock3 v) = 2 * v ≤ b
SmallAt b (other_lock4 v) = Unit {0}
SmallAt b (other_lock5 v) = Unit {0}
SmallAt b (other_lock6 v note) = Unit {0}
SmallAt b (other_lock7 v note) = Unit {0}
SmallAt b (other_lock8 v) = Unit {0}
SmallAt b other_unlock1 = Unit {0}
SmallAt b (other_unlock2 v) = 2 * v ≤ b
SmallAt b other_unlock3 = Unit {0}

at_more : (b b' : ℕ) → b ≤ b' → (p : Point) → SmallAt b p → SmallAt b' p
at_more b b' le idle s = tt
at_more b b' le (protect1 r h) s = tt
at_more b b' le (protect2 r h n) s = omega arith
at_more b b' le (protect3 r h n) s = omega arith
at_more b b' le (protect4 r h) s = tt
at_more b b' le (copy1 i j) s = tt
at_more b b' le (release1 i) s = tt
at_more b b' le (publish1 r n) s = tt
at_more b b' le (remove1 r) s = tt
at_more b b' le (remove2 r n) s = tt
at_more b b' le (remove3 r n) s = tt
at_more b b' le reclaim1 s = tt
at_more b b' le (reclaim2 now seen) s = tt
at_more b b' le (reclaim3 now seen) s = tt
at_more b b' le owner_lock1 s = tt
at_more b b' le owner_lock2 s = tt
at_more b b' le (owner_lock3 v) s = omega arith
at_more b b' le owner_lock4 s = tt
at_more b b' le owner_lock5 s = tt
at_more b b' le owner_unlock1 s = tt
at_more b b' le owner_unlock2 s = tt
at_more b b' le owner_unlock3 s = tt
at_more b b' le owner_unlock4 s = tt
at_more b b' le other_lock1 s = tt
at_more b b' le other_lock2 s = tt
at_more b b' le (other_lock3 v) s = omega arith
at_more b b' le (other_lock4 v) s = tt
at_more b b' le (other_lock5 v) s = tt
at_more b b' le (other_lock6 v note) s = tt
at_more b b' le (other_lock7 v note) s = tt
at_more b b' le (other_lock8 v) s = tt
at_more b b' le other_unlock1 s = tt
at_more b b' le (other_unlock2 v) s = omega arith
at_more b b' le other_unlock3 s = tt

pub record SmallRow (b : ℕ) (r : Thread) : Type 0 where
  pub point : SmallAt b r.point
  pub guards : (i : ℕ) → guard_of r i ≤ b

row_more : (b b' : ℕ) (r : Thread) → b ≤ b' → SmallRow b r → SmallRow b' r
row_more b b' r le s = record { point = at_more b b' le r.point s.point; guards = λ i. let h = s.guards i in omega arith }

-- Steps.

word_less : (n : ℕ) → word n ≤ n
word_less n = omega arith

module _ (x : Tables) (m : Meaning) (t : ℕ) (lt : t < x.settings.threads) (p : Placed x m) (b : ℕ) (base : 64 ≤ b) (own : SmallRow b (thread_of x t)) where
  small : Ranges x.settings
  small = ranges x.settings p.shape.range

  asks_small : (q : Point) → FitsAt x.settings q → SmallAt b q → Writes (b + 2) (request (here x m t) q)
  asks_small idle f s = tt
  asks_small (protect1 r h) f s = tt
  asks_small (protect2 r h n) f s = omega arith
  asks_small (protect3 r h n) f s = tt
  asks_small (protect4 r h) f s = omega arith
  asks_small (copy1 i j) f s = let g = own.guards i in omega arith
  asks_small (release1 i) f s = omega arith
  asks_small (publish1 r n) f s = let g = f.2 in let n64 = nodes_high x.settings p.shape.range in omega arith
  asks_small (remove1 r) f s = tt
  asks_small (remove2 r n) f s = omega arith
  asks_small (remove3 r n) f s = tt
  asks_small reclaim1 f s = tt
  asks_small (reclaim2 now seen) f s = tt
  asks_small (reclaim3 now seen) f s = tt
  asks_small owner_lock1 f s = omega arith
  asks_small owner_lock2 f s = tt
  asks_small (owner_lock3 v) f s = let w = word_less (2 * v) in omega arith
  asks_small owner_lock4 f s = omega arith
  asks_small owner_lock5 f s = tt
  asks_small owner_unlock1 f s = tt
  asks_small owner_unlock2 f s = omega arith
  asks_small owner_unlock3 f s = omega arith
  asks_small owner_unlock4 f s = omega arith
  asks_small other_lock1 f s = let t8 = small.threads in omega arith
  asks_small other_lock2 f s = tt
  asks_small (other_lock3 v) f s = let w = word_less (2 * v + 1) in omega arith
  asks_small (other_lock4 v) f s = tt
  asks_small (other_lock5 v) f s = tt
  asks_small (other_lock6 v note) f s = tt
  asks_small (other_lock7 v note) f s = tt
  asks_small (other_lock8 v) f s = tt
  asks_small other_unlock1 f s = tt
  asks_small (other_unlock2 v) f s = let w = word_less (2 * (v + 1)) in omega arith
  asks_small other_unlock3 f s = omega arith

  -- what a step leaves of the row: another point, and perhaps a guard
  guards_more : (i : ℕ) → guard_of (thread_of x t) i ≤ b + 2
  guards_more i = let g = own.guards i in omega arith

  to : (q : Point) (i : Bool) → SmallAt (b + 2) q → SmallRow (b + 2) (record { point = q; guards = (thread_of x t).guards; retired = (thread_of x t).retired; inside = i })
  to q i s = record { point = s; guards = guards_more }

  on : (q : Point) → SmallAt (b + 2) q → SmallRow (b + 2) (moved_to q (thread_of x t))
  on q s = to q (thread_of x t).inside s

  guards : (h n : ℕ) → h < x.settings.hazards → n ≤ b + 2 → SmallRow (b + 2) (moved_to idle (guarding h n (thread_of x t)))
  guards h n lh le = record { point = tt; guards = λ i. at i (cases_eq i h) }
    where
      at : (i : ℕ) → (i ≡ h) ⊎ (i ≢ h) → get_or (set (thread_of x t).guards h n) i 0 ≤ b + 2
      at i (inl e) = rw (e, get_or-set_same (thread_of x t).guards h n 0 (let l = p.shape.guards t lt in omega arith)) le
      at i (inr ne) = rw (get_or-set_other (thread_of x t).guards h i n 0 ne) (guards_more i)

  abbrev Good : Outcome → Type 0
  Good o = SmallRow (b + 2) o.own

  after_small : (k : Told) → value_told k ≤ b → (q : Point) → FitsAt x.settings q → SmallAt b q → Good (after (here x m t) q k)
  after_small k v idle f s = on idle tt
  after_small k v (protect1 r h) f s = cond_both (eqb (value_told k) 0) _ _ Good (λ _. on idle tt) (λ _. on (protect2 r h (value_told k)) (omega arith))
  after_small k v (protect2 r h n) f s = on (protect3 r h n) (omega arith)
  after_small k v (protect3 r h n) f s = cond_both (eqb (value_told k) n) _ _ Good (λ _. guards h n f.1 (omega arith)) (λ _. on (protect4 r h) tt)
  after_small k v (protect4 r h) f s = on idle tt
  after_small k v (copy1 i j) f s = guards j (guard_of (thread_of x t) i) f.1 (guards_more i)
  after_small k v (release1 i) f s = guards i _ f (omega arith)
  after_small k v (publish1 r n) f s = cond_both (done_told k) _ _ Good (λ _. on idle tt) (λ _. on idle tt)
  after_small k v (remove1 r) f s = cond_both (eqb (value_told k) 0) _ _ Good (λ _. on idle tt) (λ _. on (remove2 r (value_told k)) tt)
  after_small k v (remove2 r n) f s = cond_both (done_told k) _ _ Good (λ _. on (remove3 r n) tt) (λ _. on idle tt)
  after_small k v (remove3 r n) f s = record { point = tt; guards = guards_more }
  after_small k v reclaim1 f s = on (reclaim2 (clock_told k) []) tt
  after_small k v (reclaim2 now seen) f s =
      cond_both (ltb (length seen + 1) (hazard_cells x.settings)) _ _ Good (λ _. on (reclaim2 now (seen ++ value_told k ∷ [])) tt) (λ _. on (reclaim3 now (seen ++ value_told k ∷ [])) tt)
  after_small k v (reclaim3 now seen) f s = record { point = tt; guards = guards_more }
  after_small k v owner_lock1 f s = on owner_lock2 tt
  after_small k v owner_lock2 f s = cond_both (lowered (value_told k)) _ _ Good (λ _. to idle true tt) (λ _. on (owner_lock3 (version_of (value_told k))) (omega arith))
  after_small k v (owner_lock3 n) f s = on owner_lock4 tt
  after_small k v owner_lock4 f s = cond_both (done_told k) _ _ Good (λ _. to idle true tt) (λ _. on owner_lock5 tt)
  after_small k v owner_lock5 f s = on (owner_lock3 (version_of (value_told k))) (omega arith)
  after_small k v owner_unlock1 f s = cond_both (lowered (value_told k)) _ _ Good (λ _. on owner_unlock3 tt) (λ _. on owner_unlock2 tt)
  after_small k v owner_unlock2 f s = to idle false tt
  after_small k v owner_unlock3 f s = to owner_unlock4 false tt
  after_small k v owner_unlock4 f s = on idle tt
  after_small k v other_lock1 f s = cond_both (done_told k) _ _ Good (λ _. on other_lock2 tt) (λ _. on other_lock1 tt)
  after_small k v other_lock2 f s = on (other_lock3 (version_of (value_told k) + 1)) (omega arith)
  after_small k v (other_lock3 n) f s = on (other_lock4 n) tt
  after_small k v (other_lock4 n) f s = on (other_lock5 n) tt
  after_small k v (other_lock5 n) f s = on (other_lock6 n (clock_told k)) tt
  after_small k v (other_lock6 n note) f s = cond_both (waited m.bound note (clock_told k)) _ _ Good (λ _. on (other_lock8 n) tt) (λ _. on (other_lock7 n note) tt)
  after_small k v (other_lock7 n note) f s = cond_both (eqb (version_of (value_told k)) n) _ _ Good (λ _. on (other_lock8 n) tt) (λ _. on (other_lock6 n note) tt)
  after_small k v (other_lock8 n) f s = cond_both (lowered (value_told k)) _ _ Good (λ _. to idle true tt) (λ _. on (other_lock8 n) tt)
  after_small k v other_unlock1 f s = on (other_unlock2 (version_of (value_told k))) (omega arith)
  after_small k v (other_unlock2 n) f s = to other_unlock3 false tt
  after_small k v other_unlock3 f s = on idle tt

-- The invariant.

abbrev pub limit : Tables → ℕ
limit x = 64 + 2 * x.accepted

pub record Small (x : Tables) (m : Meaning) : Type 0 where
  pub memory : SmallMemory (limit x) m
  pub rows : (t : ℕ) → SmallRow (limit x) (thread_of x t)

-- one row is set, and the limit has grown
rows_set : (b b' : ℕ) (ps : List Thread) (t : ℕ) (r : Thread) → t < length ps → b ≤ b' → ((u : ℕ) → SmallRow b (get_or ps u (idle_thread 0))) → SmallRow b' r → (u : ℕ) → SmallRow b' (get_or (set ps t r) u (idle_thread 0))
rows_set b b' ps t r lt le rows own u = at (cases_eq u t)
  where
    at : (u ≡ t) ⊎ (u ≢ t) → SmallRow b' (get_or (set ps t r) u (idle_thread 0))
    at (inl e) = rw (e, get_or-set_same ps t r (idle_thread 0) lt) own
    at (inr ne) = rw (get_or-set_other ps t u r (idle_thread 0) ne) (row_more b b' (get_or ps u (idle_thread 0)) le (rows u))

start_small : (b : ℕ) (o : Operation) → SmallAt b (start_of o)
start_small b (Protect r h) = tt
start_small b (Copy i j) = tt
start_small b (Release i) = tt
start_small b (Publish r n) = tt
start_small b (Remove r) = tt
start_small b Reclaim = tt
start_small b OwnerLock = tt
start_small b OwnerUnlock = tt
start_small b OtherLock = tt
start_small b OtherUnlock = tt

small_starts : FirstHolds Small
small_starts z m new sound range =
    record {
      memory = record { cells = λ c. rw (new_blank m sound new c) (omega arith); waiting = λ t. rw (new_empty m sound new t) tt };
      rows = λ t. replicated (SmallRow 64) z.threads t (idle_thread z.hazards) (idle_thread 0) (row z.hazards) (row 0);
    }
  where
    row : (h : ℕ) → SmallRow 64 (idle_thread h)
    row h = record { point = tt; guards = λ i. rw (same_all {A = ℕ} h i 0) (omega arith) }

small_kept : Kept Small
small_kept =
    record {
      ticks = λ x m m' p few w s. record {
        memory = rw w.is (memory_more (limit x) (64 + 2 * (x.accepted + 1)) (ticked w.between) (omega arith) (memory_ticked (limit x) w.between (memory_lands (limit x) w.lands s.memory)));
        rows = λ t. row_more (limit x) (64 + 2 * (x.accepted + 1)) (thread_of x t) (omega arith) (s.rows t);
      };
      lands = λ x m m' t p few w s. record {
        memory = memory_more (limit x) (64 + 2 * (x.accepted + 1)) m' (omega arith) (memory_lands (limit x) w (memory_landed (limit x) t m s.memory));
        rows = λ u. row_more (limit x) (64 + 2 * (x.accepted + 1)) (thread_of x u) (omega arith) (s.rows u);
      };
      begins = λ x m t o p few q s. record {
        memory = memory_more (limit x) (64 + 2 * (x.accepted + 1)) m (omega arith) s.memory;
        rows = rows_set (limit x) (64 + 2 * (x.accepted + 1)) x.threads t (moved_to (start_of o) (thread_of x t)) (rw p.shape.threads q.thread) (omega arith) s.rows
            (record { point = start_small (64 + 2 * (x.accepted + 1)) o; guards = λ i. let g = (s.rows t).guards i in omega arith });
      };
      steps = λ x m m' t k p few q w s.
          let b = limit x in
          let at = (thread_of x t).point in
          let grown : b + 2 ≡ 64 + 2 * (x.accepted + 1) = omega arith in
          let row : t < length m.waiting = let f = p.sound.threads in let g = (ranges x.settings p.shape.range).threads in let h = q.thread in omega arith in
          let asks = asks_small x m t q.thread p b (omega arith) (s.rows t) at (p.shape.fits t) (s.rows t).point in
          let told = told_small b t (request (here x m t) at) m m' k w s.memory in
          let own = after_small x m t q.thread p b (omega arith) (s.rows t) k told at (p.shape.fits t) (s.rows t).point in
          record {
            memory = rw (sym grown) (meets_small (b + 2) t (request (here x m t) at) m m' k row asks w (memory_more b (b + 2) m (omega arith) s.memory));
            rows = rw (sym grown) (rows_set b (b + 2) x.threads t (after (here x m t) at k).own (rw p.shape.threads q.thread) (omega arith) s.rows own);
          };
    }

pub explains_small : (h : List Event) (s : State) → Explains h s → (x : Tables) → s.tables ≡ Some x → Small x s.memory
explains_small = always Small small_starts (calls_keep Small small_kept)
