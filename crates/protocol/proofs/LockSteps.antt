-- Every accepted step, seen from the lock, is a path. Assumes nothing.
use Rattle.std.proofs.Common.{◌≡◌, ℕ, ◌+◌, ◌*◌, ◌%◌, ◌<◌, ◌≤◌, Bool, true, false, cond, eqb, ltb, ◌≢◌, List, [], ◌∷◌, length, None, sym, refl, ap, ◌∙◌, subst, mod-lt, mod-eq_of_lt, arith}
use Rattle.std.proofs.lemmas.List.{get_or-set_same, get_or-set_other}
use Rattle.std.proofs.lemmas.Bool.{eqb-true, eqb-false, ltb-true, cond_both}
use Rattle.memory.specs.Calls.{Loaded, Exchanged}
use Rattle.memory.specs.Checks.{check, first_no}
use Rattle.memory.specs.Landings.{Lands}
use Rattle.memory.specs.Meaning.{Meaning, cell, waiting_count, stored, exchanged}
use Rattle.memory.proofs.Passing.{passed_head}
use Rattle.memory.proofs.Soundness.{stored_sound, lands_sound}
use Rattle.memory.proofs.Views.{Pushed, stored_pushes, exchanged_puts, exchanged_none, lands_shorter}
use Rattle.protocol.specs.declared.answer.Answer.TheVariants.{Ended}
use Rattle.protocol.specs.declared.answer.Refusal.TheVariants.{BufferFull, WritesWaiting}
use Rattle.protocol.specs.declared.node.NodeState.{NodeState}
use Rattle.protocol.specs.declared.settings.Settings.{Settings}
use Rattle.protocol.specs.Settings.{hazard_cells, lock_cell, flag0_cell, flag1_cell}
use Rattle.protocol.specs.Steps.{Request, asks_load, asks_store, asks_exchange, asks_clock, asks_fence, asks_nothing, Told, clock_told, value_told, done_told, Outcome, lowered, version_of, waited, word, request, after, stays, ends, entering, after_owner_lock2, after_owner_lock4, after_owner_lock5, after_owner_unlock1, after_other_lock1, after_other_lock2, after_other_lock5, after_other_lock6, after_other_lock7, after_other_lock8, after_other_unlock1}
use Rattle.protocol.specs.Tables.{Point, Thread, Tables, thread_of, idle_thread, idle, protect1, protect2, protect3, protect4, copy1, release1, publish1, remove1, remove2, remove3, reclaim1, reclaim2, reclaim3, owner_lock1, owner_lock2, owner_lock3, owner_lock4, owner_lock5, owner_unlock1, owner_unlock2, owner_unlock3, owner_unlock4, other_lock1, other_lock2, other_lock3, other_lock4, other_lock5, other_lock6, other_lock7, other_lock8, other_unlock1, other_unlock2, other_unlock3}
use Rattle.protocol.specs.Transition.{Meets, request_checks, here, counted, stepped}
use Rattle.protocol.proofs.LockMemory.{same_refl, still_refl, lands_then, pushed_aside, pushed_one, exchanged_aside, none_waits, put_lock, loads_flag0, loads_flag1}
use Rattle.protocol.proofs.LockView.{lock_writes, sight_of, lock_state, sees0, sees1, Same, StoresOne, TakesLock, Goes, NodePoint, Acts, node, owner1, owner2in, owner2, owner3, owner4in, owner4, owner5, owner_u1low, owner_u1, owner_u2, owner_u3, owner_u4, other1in, other1, other2, other3, other4, other5, other6past, other6, other7echo, other7, other8in, other8, other_u1, other_u2, other_u3, LockPath, rests, acts}
use Rattle.protocol.proofs.Placed.{FitsAt, Placed}
use Rattle.protocol.proofs.PlacedMemory.{Ranges, ranges, hazard_below}
use Rattle.protocol.proofs.PlacedRows.{changed}

-- one row is set, and a call is counted
pub goes : (x : Tables) (t : ℕ) (row : Thread) (ns : List NodeState) (m m' : Meaning) → t < length x.threads → Goes t (lock_state x m) (lock_state (changed x t row ns) m') row.point row.inside
goes x t row ns m m' lt =
    record {
      point = rw (get_or-set_same x.threads t row (idle_thread 0) lt) refl;
      inside = rw (get_or-set_same x.threads t row (idle_thread 0) lt) refl;
      points = λ u ne. rw (get_or-set_other x.threads t u row (idle_thread 0) ne) refl;
      insides = λ u ne. rw (get_or-set_other x.threads t u row (idle_thread 0) ne) refl;
      count = refl;
    }

-- a flag that is not lowered is odd
odd : (n : ℕ) → lowered n ≡ false → n % 2 ≡ 1
odd n e =
    let ne : n % 2 ≡ 0 → ⊥ = eqb-false (n % 2) 0 e in
    let b : n % 2 < 2 = mod-lt n (omega arith) in
    grind arith

abbrev pub StepPath : Tables → ℕ → Meaning → Meaning → Outcome → Type 0
StepPath x t m m' o = LockPath x.settings (lock_state (counted (stepped x t o)) m') (lock_state x m)

-- the step but for landings
abbrev pub StepActs : Tables → ℕ → Meaning → Meaning → Outcome → Type 0
StepActs x t m m' o = Acts x.settings t (lock_state x m) (lock_state (counted (stepped x t o)) m')

-- an outcome of the operations on nodes
abbrev pub NodeOutcome : Thread → Outcome → Type 0
NodeOutcome r o = NodePoint o.own.point × (o.own.inside ≡ r.inside)

-- a request that writes no cell of the lock
abbrev pub Aside : Settings → Request → Type 0
Aside z (asks_load c) = Unit {0}
Aside z (asks_store c v) = c < lock_cell z
Aside z (asks_exchange c old new) = c < lock_cell z
Aside z asks_clock = Unit {0}
Aside z asks_fence = Unit {0}
Aside z asks_nothing = Unit {0}

module _ (x : Tables) (m m' : Meaning) (t : ℕ) (lt : t < x.settings.threads) (p : Placed x m) where
  small : Ranges x.settings
  small = ranges x.settings p.shape.range

  lock_inside : lock_cell x.settings + 2 < 64
  lock_inside = let a = small.roots in let b = small.cells in omega arith

  row_inside : t < length x.threads
  row_inside = let e = p.shape.threads in omega arith

  moves : (o : Outcome) (l l' : Meaning) → Goes t (lock_state x l) (lock_state (counted (stepped x t o)) l') o.own.point o.own.inside
  moves o l l' = goes x t o.own o.nodes l l' row_inside

  -- What the memory does in a step, around what the step does.

  finish : (o : Outcome) → StepActs x t m' m' o → LockPath x.settings (lock_state (counted (stepped x t o)) m') (lock_state x m')
  finish o a = acts t (lock_state (counted (stepped x t o)) m') a (rests (same_refl (sight_of x.settings m')) (still_refl (counted (stepped x t o)) m' m'))

  on_same : (o : Outcome) → m' ≡ m → StepActs x t m' m' o → StepPath x t m m' o
  on_same o e a = subst (λ (l : Meaning). StepPath x t l m' o) e (finish o a)

  on_load : (o : Outcome) {c v : ℕ} → Loaded Lands t c m m' v → StepActs x t m' m' o → StepPath x t m m' o
  on_load o l a = lands_then x (lock_state (counted (stepped x t o)) m') l.lands p.sound (finish o a)

  on_store : (o : Outcome) (c v : ℕ) → c < 64 → first_no (check (ltb (waiting_count m t) 8) BufferFull ∷ []) ≡ None → Lands (stored t c v m) m'
      → (Pushed t c v m (stored t c v m) → StepActs x t m (stored t c v m) o) → StepPath x t m m' o
  on_store o c v inside room l a =
      let few : waiting_count m t < 8 = ltb-true (waiting_count m t) 8 (passed_head (ltb (waiting_count m t) 8) BufferFull [] room) in
      let t8 : t < 8 = let g = small.threads in omega arith in
      let y = counted (stepped x t o) in
      acts t (lock_state y (stored t c v m)) (a (stored_pushes t c v m (let e = p.sound.threads in omega arith)))
      (lands_then y (lock_state y m') l (stored_sound t c v m t8 inside few p.sound) (rests (same_refl (sight_of x.settings m')) (still_refl y m' m')))

  on_exchange : (o : Outcome) {c old new : ℕ} {b : Bool} (w : Exchanged Lands c old new m m' b) → StepActs x t w.between m' o → StepPath x t m m' o
  on_exchange o w a =
      let y = counted (stepped x t o) in
      lands_then x (lock_state y m') w.lands p.sound
      (acts t (lock_state y m') a (rests (same_refl (sight_of x.settings m')) (still_refl y m' m')))

  -- Steps of the operations on nodes.

  node_acts : {q : Point} → (thread_of x t).point ≡ q → NodePoint q → (o : Outcome) → NodeOutcome (thread_of x t) o → (l l' : Meaning) → Same (sight_of x.settings l) (sight_of x.settings l') → StepActs x t l l' o
  node_acts e n o f l l' s =
      node e n f.0 (subst (λ (i : Bool). Goes t (lock_state x l) (lock_state (counted (stepped x t o)) l') o.own.point i) f.1 (moves o l l')) s

  node_path : {q : Point} (r : Request) (k : Told) → (thread_of x t).point ≡ q → NodePoint q → Aside x.settings r → first_no (request_checks t m r) ≡ None → Meets t r m m' k
      → (o : Outcome) → NodeOutcome (thread_of x t) o → StepPath x t m m' o
  node_path (asks_load c) k e n a r w o f = on_load o w.2 (node_acts e n o f m' m' (same_refl (sight_of x.settings m')))
  node_path (asks_store c v) k e n a r w o f =
      on_store o c v (let b = lock_inside in omega arith) r w.1
      (λ b. node_acts e n o f m (stored t c v m) (pushed_aside x.settings t c v m (stored t c v m) b a))
  node_path (asks_exchange c old new) k e n a r w o f =
      let l = w.2.between in
      on_exchange o w.2
      (node_acts e n o f l m' (rw w.2.is (exchanged_aside x.settings c old new l a)))
  node_path asks_clock k e n a r w o f = on_same o w.1 (node_acts e n o f m' m' (same_refl (sight_of x.settings m')))
  node_path asks_fence k e n a r w o f = on_same o w.1 (node_acts e n o f m' m' (same_refl (sight_of x.settings m')))
  node_path asks_nothing k e n a r w o f = on_same o w.1 (node_acts e n o f m' m' (same_refl (sight_of x.settings m')))

  node_step : (k : Told) (q : Point) → (thread_of x t).point ≡ q → NodePoint q → Aside x.settings (request (here x m t) q) → first_no (request_checks t m (request (here x m t) q)) ≡ None
      → Meets t (request (here x m t) q) m m' k → NodeOutcome (thread_of x t) (after (here x m t) q k) → StepPath x t m m' (after (here x m t) q k)
  node_step k q e n a c w f = node_path (request (here x m t) q) k e n a c w (after (here x m t) q k) f

  both : (b : Bool) (o o' : Outcome) → NodeOutcome (thread_of x t) o → NodeOutcome (thread_of x t) o' → NodeOutcome (thread_of x t) (cond b o o')
  both true o o' f g = f
  both false o o' f g = g

  root_below : (r : ℕ) → r < x.settings.roots → r < lock_cell x.settings
  root_below r h = omega arith

  -- Steps of the lock that store.

  stores : (o : Outcome) (c v : ℕ) → lock_cell x.settings ≤ c → c ≤ lock_cell x.settings + 2 → first_no (check (ltb (waiting_count m t) 8) BufferFull ∷ []) ≡ None → Lands (stored t c v m) m'
      → ((l : Meaning) → StoresOne x.settings t c v (sight_of x.settings m) (sight_of x.settings l) → StepActs x t m l o) → StepPath x t m m' o
  stores o c v low high room l a =
      on_store o c v (let b = lock_inside in omega arith) room l (λ b. a (stored t c v m) (pushed_one x.settings t c v m (stored t c v m) b low))

  -- Steps of the lock that exchange.

  still_none : {l : Meaning} → Lands m l → first_no (check (eqb (waiting_count m t) 0) WritesWaiting ∷ []) ≡ None → waiting_count l t ≡ 0
  still_none l c =
      let e = eqb-true (waiting_count m t) 0 (passed_head (eqb (waiting_count m t) 0) WritesWaiting [] c) in
      let h = lands_shorter t l in
      omega arith

  takes : (o : Outcome) (new : ℕ) (w : Exchanged Lands (lock_cell x.settings) 0 new m m' true) → first_no (check (eqb (waiting_count m t) 0) WritesWaiting ∷ []) ≡ None
      → (TakesLock t new (sight_of x.settings w.between) (sight_of x.settings m') → StepActs x t w.between m' o) → StepPath x t m m' o
  takes o new w c a =
      let l = w.between in
      let put = exchanged_puts (lock_cell x.settings) 0 new l (sym w.answer) in
      let inside : lock_cell x.settings < length l.cells = let e = (lands_sound w.lands p.sound).cells in let b = lock_inside in omega arith in
      let free : cell l (lock_cell x.settings) ≡ 0 = eqb-true (cell l (lock_cell x.settings)) 0 (sym w.answer) in
      on_exchange o w (a (rw w.is (put_lock x.settings t new l (exchanged (lock_cell x.settings) 0 new l) put inside free (still_none w.lands c))))

  fails : (o : Outcome) (new : ℕ) (w : Exchanged Lands (lock_cell x.settings) 0 new m m' false) → first_no (check (eqb (waiting_count m t) 0) WritesWaiting ∷ []) ≡ None
      → (cell w.between (lock_cell x.settings) ≢ 0 → lock_writes x.settings w.between t ≡ [] → Same (sight_of x.settings w.between) (sight_of x.settings m') → StepActs x t w.between m' o)
      → StepPath x t m m' o
  fails o new w c a =
      let l = w.between in
      let e : m' ≡ l = w.is ∙ exchanged_none (lock_cell x.settings) 0 new l (sym w.answer) in
      on_exchange o w
      (a (eqb-false (cell l (lock_cell x.settings)) 0 (sym w.answer)) (none_waits x.settings t l (still_none w.lands c)) (rw e (same_refl (sight_of x.settings l))))

  owner4_path : (b : Bool) → (thread_of x t).point ≡ owner_lock4 → first_no (check (eqb (waiting_count m t) 0) WritesWaiting ∷ []) ≡ None → Exchanged Lands (lock_cell x.settings) 0 1 m m' b
      → StepPath x t m m' (after_owner_lock4 (here x m t) b)
  owner4_path true e c w = takes (after_owner_lock4 (here x m t) true) 1 w c (λ k. owner4in e (moves (after_owner_lock4 (here x m t) true) w.between m') k)
  owner4_path false e c w = fails (after_owner_lock4 (here x m t) false) 1 w c (λ ne none k. owner4 e ne none (moves (after_owner_lock4 (here x m t) false) w.between m') k)

  other1_path : (b : Bool) → (thread_of x t).point ≡ other_lock1 → first_no (check (eqb (waiting_count m t) 0) WritesWaiting ∷ []) ≡ None → Exchanged Lands (lock_cell x.settings) 0 (t + 1) m m' b
      → StepPath x t m m' (after_other_lock1 (here x m t) b)
  other1_path true e c w = takes (after_other_lock1 (here x m t) true) (t + 1) w c (λ k. other1in e (moves (after_other_lock1 (here x m t) true) w.between m') k)
  other1_path false e c w = fails (after_other_lock1 (here x m t) false) (t + 1) w c (λ ne none k. other1 e (moves (after_other_lock1 (here x m t) false) w.between m') k)

  -- Steps of the lock that load a flag.

  loads0 : (o : ℕ → Outcome) (k : Told) → Meets t (asks_load (flag0_cell x.settings)) m m' k → StepActs x t m' m' (o (sees0 x.settings (sight_of x.settings m') t)) → StepPath x t m m' (o (value_told k))
  loads0 o k w a =
      let e : sees0 x.settings (sight_of x.settings m') t ≡ value_told k = rw w.1 (sym (w.2.value ∙ loads_flag0 x.settings t m')) in
      subst (λ (v : ℕ). StepPath x t m m' (o v)) e (on_load (o (sees0 x.settings (sight_of x.settings m') t)) w.2 a)

  loads1 : (o : ℕ → Outcome) (k : Told) → Meets t (asks_load (flag1_cell x.settings)) m m' k → StepActs x t m' m' (o (sees1 x.settings (sight_of x.settings m') t)) → StepPath x t m m' (o (value_told k))
  loads1 o k w a =
      let e : sees1 x.settings (sight_of x.settings m') t ≡ value_told k = rw w.1 (sym (w.2.value ∙ loads_flag1 x.settings t m')) in
      subst (λ (v : ℕ). StepPath x t m m' (o v)) e (on_load (o (sees1 x.settings (sight_of x.settings m') t)) w.2 a)

  unseen : Same (sight_of x.settings m') (sight_of x.settings m')
  unseen = same_refl (sight_of x.settings m')

  -- at an outcome, with the memory as it is after the landings
  here_moves : (o : Outcome) → Goes t (lock_state x m') (lock_state (counted (stepped x t o)) m') o.own.point o.own.inside
  here_moves o = moves o m' m'

  owner2_acts : (thread_of x t).point ≡ owner_lock2 → StepActs x t m' m' (after_owner_lock2 (here x m t) (sees1 x.settings (sight_of x.settings m') t))
  owner2_acts e =
      let h = here x m t in
      let s = sees1 x.settings (sight_of x.settings m') t in
      let o = ends h (entering h.own) h.nodes (Ended 0) in
      let o' = stays h (owner_lock3 (version_of s)) 3 in
      cond_both (lowered s) o o' (StepActs x t m' m') (λ g. owner2in e (eqb-true (s % 2) 0 g) (here_moves o) unseen) (λ g. owner2 e (odd s g) (here_moves o') unseen)

  owner_u1_acts : (thread_of x t).point ≡ owner_unlock1 → StepActs x t m' m' (after_owner_unlock1 (here x m t) (sees0 x.settings (sight_of x.settings m') t))
  owner_u1_acts e =
      let h = here x m t in
      let s = sees0 x.settings (sight_of x.settings m') t in
      let o = stays h owner_unlock3 3 in
      let o' = stays h owner_unlock2 2 in
      cond_both (lowered s) o o' (StepActs x t m' m') (λ g. owner_u1low e (eqb-true (s % 2) 0 g) (here_moves o) unseen) (λ g. owner_u1 e (odd s g) (here_moves o') unseen)

  other7_acts : (v note : ℕ) → (thread_of x t).point ≡ other_lock7 v note → StepActs x t m' m' (after_other_lock7 (here x m t) v note (sees0 x.settings (sight_of x.settings m') t))
  other7_acts v note e =
      let h = here x m t in
      let s = sees0 x.settings (sight_of x.settings m') t in
      let o = stays h (other_lock8 v) 8 in
      let o' = stays h (other_lock6 v note) 6 in
      cond_both (eqb (version_of s) v) o o' (StepActs x t m' m') (λ g. other7echo e (eqb-true (version_of s) v g) (here_moves o) unseen) (λ g. other7 e (here_moves o') unseen)

  other8_acts : (v : ℕ) → (thread_of x t).point ≡ other_lock8 v → StepActs x t m' m' (after_other_lock8 (here x m t) v (sees0 x.settings (sight_of x.settings m') t))
  other8_acts v e =
      let h = here x m t in
      let s = sees0 x.settings (sight_of x.settings m') t in
      let o = ends h (entering h.own) h.nodes (Ended 0) in
      let o' = stays h (other_lock8 v) 8 in
      cond_both (lowered s) o o' (StepActs x t m' m') (λ g. other8in e (eqb-true (s % 2) 0 g) (here_moves o) unseen) (λ g. other8 e (here_moves o') unseen)

  -- Steps of the lock that read the clock.

  clocks : (o : ℕ → Outcome) (k : Told) → Meets t asks_clock m m' k → StepActs x t m' m' (o m'.clock) → StepPath x t m m' (o (clock_told k))
  clocks o k w a =
      let e : m'.clock ≡ clock_told k = rw (w.0, w.1) refl in
      subst (λ (v : ℕ). StepPath x t m m' (o v)) e (on_same (o m'.clock) w.1 a)

  other6_acts : (v note : ℕ) → m' ≡ m → (thread_of x t).point ≡ other_lock6 v note → StepActs x t m' m' (after_other_lock6 (here x m t) v note m'.clock)
  other6_acts v note f e =
      let h = here x m t in
      let o = stays h (other_lock8 v) 8 in
      let o' = stays h (other_lock7 v note) 7 in
      let b : m'.bound ≡ m.bound = ap (λ (l : Meaning). l.bound) f in
      cond_both (waited m.bound note m'.clock) o o' (StepActs x t m' m')
      (λ g. other6past e (let a = ltb-true _ _ g in omega arith) (here_moves o) unseen)
      (λ g. other6 e (here_moves o') unseen)

  -- All points.

  step_at : (k : Told) (q : Point) → x.accepted < 8000 → ((v : ℕ) → (thread_of x t).point ≡ owner_lock3 v → 2 * v < 18446744073709551616) → (thread_of x t).point ≡ q → FitsAt x.settings q
      → first_no (request_checks t m (request (here x m t) q)) ≡ None → Meets t (request (here x m t) q) m m' k → StepPath x t m m' (after (here x m t) q k)
  step_at k idle few word3 e f c w = node_step k idle e tt tt c w (tt, refl)
  step_at k (protect1 r h) few word3 e f c w = node_step k (protect1 r h) e tt tt c w (both (eqb (value_told k) 0) _ _ (tt, refl) (tt, refl))
  step_at k (protect2 r h n) few word3 e f c w = node_step k (protect2 r h n) e tt (hazard_below x.settings t h lt f.1) c w (tt, refl)
  step_at k (protect3 r h n) few word3 e f c w = node_step k (protect3 r h n) e tt tt c w (both (eqb (value_told k) n) _ _ (tt, refl) (tt, refl))
  step_at k (protect4 r h) few word3 e f c w = node_step k (protect4 r h) e tt (hazard_below x.settings t h lt f.1) c w (tt, refl)
  step_at k (copy1 a b) few word3 e f c w = node_step k (copy1 a b) e tt (hazard_below x.settings t b lt f.1) c w (tt, refl)
  step_at k (release1 a) few word3 e f c w = node_step k (release1 a) e tt (hazard_below x.settings t a lt f) c w (tt, refl)
  step_at k (publish1 r n) few word3 e f c w = node_step k (publish1 r n) e tt (root_below r f.0) c w (both (done_told k) _ _ (tt, refl) (tt, refl))
  step_at k (remove1 r) few word3 e f c w = node_step k (remove1 r) e tt tt c w (both (eqb (value_told k) 0) _ _ (tt, refl) (tt, refl))
  step_at k (remove2 r n) few word3 e f c w = node_step k (remove2 r n) e tt (root_below r f.0) c w (both (done_told k) _ _ (tt, refl) (tt, refl))
  step_at k (remove3 r n) few word3 e f c w = node_step k (remove3 r n) e tt tt c w (tt, refl)
  step_at k reclaim1 few word3 e f c w = node_step k reclaim1 e tt tt c w (tt, refl)
  step_at k (reclaim2 now seen) few word3 e f c w =
      node_step k (reclaim2 now seen) e tt tt c w (both (ltb (length seen + 1) (hazard_cells x.settings)) _ _ (tt, refl) (tt, refl))
  step_at k (reclaim3 now seen) few word3 e f c w = node_step k (reclaim3 now seen) e tt tt c w (tt, refl)
  step_at k owner_lock1 few word3 e f c w =
      let o = after (here x m t) owner_lock1 k in
      stores o (flag0_cell x.settings) 1 (omega arith) (omega arith) c w.1 (λ l s. owner1 e (moves o m l) s)
  step_at k owner_lock2 few word3 e f c w = loads1 (after_owner_lock2 (here x m t)) k w (owner2_acts e)
  step_at k (owner_lock3 v) few word3 e f c w =
      let o = after (here x m t) (owner_lock3 v) k in
      let fit = word3 v e in
      let same : word (2 * v) ≡ 2 * v = mod-eq_of_lt fit in
      stores o (flag0_cell x.settings) (2 * v) (omega arith) (omega arith) c (subst (λ (n : ℕ). Lands (stored t (flag0_cell x.settings) n m) m') same w.1) (λ l s. owner3 e fit (moves o m l) s)
  step_at k owner_lock4 few word3 e f c w = rw w.1 (owner4_path w.0 e c w.2)
  step_at k owner_lock5 few word3 e f c w =
      loads1 (after_owner_lock5 (here x m t)) k w (owner5 e (here_moves (after_owner_lock5 (here x m t) (sees1 x.settings (sight_of x.settings m') t))) unseen)
  step_at k owner_unlock1 few word3 e f c w = loads0 (after_owner_unlock1 (here x m t)) k w (owner_u1_acts e)
  step_at k owner_unlock2 few word3 e f c w =
      let o = after (here x m t) owner_unlock2 k in
      stores o (flag0_cell x.settings) 0 (omega arith) (omega arith) c w.1 (λ l s. owner_u2 e (moves o m l) s)
  step_at k owner_unlock3 few word3 e f c w =
      let o = after (here x m t) owner_unlock3 k in
      stores o (flag0_cell x.settings) 0 (omega arith) (omega arith) c w.1 (λ l s. owner_u3 e (moves o m l) s)
  step_at k owner_unlock4 few word3 e f c w =
      let o = after (here x m t) owner_unlock4 k in
      stores o (lock_cell x.settings) 0 (omega arith) (omega arith) c w.1 (λ l s. owner_u4 e (moves o m l) s)
  step_at k other_lock1 few word3 e f c w = rw w.1 (other1_path w.0 e c w.2)
  step_at k other_lock2 few word3 e f c w =
      loads1 (after_other_lock2 (here x m t)) k w (other2 e (here_moves (after_other_lock2 (here x m t) (sees1 x.settings (sight_of x.settings m') t))) unseen)
  step_at k (other_lock3 v) few word3 e f c w =
      let o = after (here x m t) (other_lock3 v) k in
      stores o (flag1_cell x.settings) (word (2 * v + 1)) (omega arith) (omega arith) c w.1 (λ l s. other3 e few refl (moves o m l) s)
  step_at k (other_lock4 v) few word3 e f c w =
      let o = after (here x m t) (other_lock4 v) k in
      let none : waiting_count m' t ≡ 0 = rw w.1 (eqb-true (waiting_count m t) 0 (passed_head (eqb (waiting_count m t) 0) WritesWaiting [] c)) in
      on_same o w.1 (other4 e (none_waits x.settings t m' none) (here_moves o) unseen)
  step_at k (other_lock5 v) few word3 e f c w = clocks (after_other_lock5 (here x m t) v) k w (other5 e (here_moves (after_other_lock5 (here x m t) v m'.clock)) unseen)
  step_at k (other_lock6 v note) few word3 e f c w = clocks (after_other_lock6 (here x m t) v note) k w (other6_acts v note w.1 e)
  step_at k (other_lock7 v note) few word3 e f c w = loads0 (after_other_lock7 (here x m t) v note) k w (other7_acts v note e)
  step_at k (other_lock8 v) few word3 e f c w = loads0 (after_other_lock8 (here x m t) v) k w (other8_acts v e)
  step_at k other_unlock1 few word3 e f c w =
      loads1 (after_other_unlock1 (here x m t)) k w (other_u1 e (here_moves (after_other_unlock1 (here x m t) (sees1 x.settings (sight_of x.settings m') t))) unseen)
  step_at k (other_unlock2 v) few word3 e f c w =
      let o = after (here x m t) (other_unlock2 v) k in
      stores o (flag1_cell x.settings) (word (2 * (v + 1))) (omega arith) (omega arith) c w.1 (λ l s. other_u2 e few refl (moves o m l) s)
  step_at k other_unlock3 few word3 e f c w =
      let o = after (here x m t) other_unlock3 k in
      stores o (lock_cell x.settings) 0 (omega arith) (omega arith) c w.1 (λ l s. other_u3 e (moves o m l) s)

-- the step of a thread, whatever it is
pub step_path : (x : Tables) (m m' : Meaning) (t : ℕ) (k : Told) → t < x.settings.threads → Placed x m → x.accepted < 8000
    → ((v : ℕ) → (thread_of x t).point ≡ owner_lock3 v → 2 * v < 18446744073709551616) → first_no (request_checks t m (request (here x m t) (thread_of x t).point)) ≡ None
    → Meets t (request (here x m t) (thread_of x t).point) m m' k → StepPath x t m m' (after (here x m t) (thread_of x t).point k)
step_path x m m' t k lt p few word3 c w = step_at x m m' t lt p k (thread_of x t).point few word3 refl (p.shape.fits t) c w
