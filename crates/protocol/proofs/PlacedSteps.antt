-- Every accepted step keeps the invariant of the tables for nodes. Assumes nothing.
use Rattle.std.proofs.Common.{◌≡◌, ℕ, ◌+◌, ◌*◌, ◌<◌, ◌≤◌, Bool, true, false, eqb, ltb, [], ◌∷◌, ◌++◌, length, None, sym, refl, ◌∙◌, arith}
use Rattle.std.proofs.lemmas.List.{length-set, length_push}
use Rattle.std.proofs.lemmas.Bool.{eqb-true, ltb-true, ltb-false, cond_both}
use Rattle.std.proofs.lemmas.Bool.Decides.{nat_tests}
use Rattle.memory.specs.Calls.{Loaded, Exchanged}
use Rattle.memory.specs.Checks.{check, first_no}
use Rattle.memory.specs.Landings.{Lands}
use Rattle.memory.specs.Meaning.{Meaning, cell, waiting_count, stored, exchanged}
use Rattle.memory.proofs.Passing.{passed_head}
use Rattle.memory.proofs.Soundness.{exchanged_sound}
use Rattle.memory.proofs.Views.{Put, exchanged_puts, exchanged_none}
use Rattle.protocol.specs.declared.answer.Refusal.TheVariants.{BufferFull}
use Rattle.protocol.specs.declared.node.NodeState.TheVariants.{Taken}
use Rattle.protocol.specs.Settings.{hazard_cells, hazard_cell, lock_cell}
use Rattle.protocol.specs.Steps.{Told, clock_told, value_told, done_told, Outcome, moved_to, guarding, guard_of, lowered, version_of, waited, word, request, after, after_publish1, after_remove2}
use Rattle.protocol.specs.Tables.{Point, Tables, thread_of, node_of, idle, protect1, protect2, protect3, protect4, copy1, release1, publish1, remove1, remove2, remove3, reclaim1, reclaim2, reclaim3, owner_lock1, owner_lock2, owner_lock3, owner_lock4, owner_lock5, owner_unlock1, owner_unlock2, owner_unlock3, owner_unlock4, other_lock1, other_lock2, other_lock3, other_lock4, other_lock5, other_lock6, other_lock7, other_lock8, other_unlock1, other_unlock2, other_unlock3}
use Rattle.protocol.specs.Transition.{Meets, request_checks, here, counted, stepped}
use Rattle.protocol.proofs.Placed.{FitsAt, Placed}
use Rattle.protocol.proofs.PlacedMemory.{Ranges, ranges, hazard_inside, lands_placed, stored_placed, exchanged_placed}
use Rattle.protocol.proofs.PlacedMoves.{plain_at, plain_moves, publish_fails, publish_ends, remove_takes, retires, sweeps}
use Rattle.protocol.proofs.PlacedRows.{Steady, changed}

-- the outcome of a step of t keeps the invariant
abbrev pub Good : Tables → ℕ → Meaning → Outcome → Type 0
Good x t m o = Placed (counted (stepped x t o)) m

positive : (v : ℕ) → eqb v 0 ≡ false → 0 < v
positive v e = grind (arith, nat_tests)

module _ (x : Tables) (m m' : Meaning) (t : ℕ) (lt : t < x.settings.threads) (p : Placed x m) where
  small : Ranges x.settings
  small = ranges x.settings p.shape.range

  -- What the memory does in a step.

  on_same : m' ≡ m → Placed x m'
  on_same e = rw e p

  on_load : {c v : ℕ} → Loaded Lands t c m m' v → Placed x m'
  on_load l = lands_placed x l.lands p

  on_store : (c v : ℕ) → x.settings.roots ≤ c → c < 64 → first_no (check (ltb (waiting_count m t) 8) BufferFull ∷ []) ≡ None → Lands (stored t c v m) m' → Placed x m'
  on_store c v off inside room l =
      let few : waiting_count m t < 8 = ltb-true (waiting_count m t) 8 (passed_head (ltb (waiting_count m t) 8) BufferFull [] room) in
      let t8 : t < 8 = let g = small.threads in omega arith in
      lands_placed x l (stored_placed x t c v m t8 off inside few p)

  on_exchange : {c old new : ℕ} {b : Bool} → x.settings.roots ≤ c → Exchanged Lands c old new m m' b → Placed x m'
  on_exchange {c} {old} {new} off w = rw w.is (exchanged_placed x c old new w.between off (lands_placed x w.lands p))

  -- What the tables do in it.

  to : Placed x m' → (q : Point) (i : Bool) → FitsAt x.settings q → plain_at q ≡ true
      → Placed (changed x t (record { point = q; guards = (thread_of x t).guards; retired = (thread_of x t).retired; inside = i }) x.nodes) m'
  to p' q i fits plain =
      plain_moves x m' t (record { point = q; guards = (thread_of x t).guards; retired = (thread_of x t).retired; inside = i }) lt p' fits plain refl (p.shape.guards t lt)

  guards : Placed x m' → (i n : ℕ) → Placed (changed x t (moved_to idle (guarding i n (thread_of x t))) x.nodes) m'
  guards p' i n = plain_moves x m' t (moved_to idle (guarding i n (thread_of x t))) lt p' tt refl refl (length-set (thread_of x t).guards i n ∙ p.shape.guards t lt)

  -- Exchanges of a root.

  steady : (c old new : ℕ) (l : Meaning) → Placed x l → Put c new l (exchanged c old new l) → Steady l (exchanged c old new l)
  steady c old new l p' put = record { sound = exchanged_sound c old new l p'.sound; waiting = put.waiting; clock = put.clock }

  inside : (l : Meaning) (r : ℕ) → Placed x l → r < x.settings.roots → r < length l.cells
  inside l r p' lr = let e = p'.sound.cells in let g = small.roots in omega arith

  publish_steps : (r n : ℕ) (b : Bool) → r < x.settings.roots → 0 < n → n ≤ x.settings.nodes → node_of x n ≡ Taken t → Exchanged Lands r 0 n m m' b → Good x t m' (after_publish1 (here x m t) r n b)
  publish_steps r n true lr pos le is w =
      let l = w.between in
      let p' = lands_placed x w.lands p in
      let put = exchanged_puts r 0 n l (sym w.answer) in
      rw w.is
      (publish_ends x l t r n lt p' pos lr (exchanged r 0 n l) (steady r 0 n l p' put) (inside l r p' lr) (eqb-true (cell l r) 0 (sym w.answer)) put le is)
  publish_steps r n false lr pos le is w =
      let l = w.between in
      rw (w.is, exchanged_none r 0 n l (sym w.answer))
      (publish_fails x l t r n lt (lands_placed x w.lands p) pos lr le is)

  remove_steps : (r n : ℕ) (b : Bool) → r < x.settings.roots → 0 < n → Exchanged Lands r n 0 m m' b → Good x t m' (after_remove2 (here x m t) r n b)
  remove_steps r n true lr pos w =
      let l = w.between in
      let p' = lands_placed x w.lands p in
      let put = exchanged_puts r n 0 l (sym w.answer) in
      rw w.is
      (remove_takes x l t r n lt p' pos lr (exchanged r n 0 l) (steady r n 0 l p' put) (inside l r p' lr) (eqb-true (cell l r) n (sym w.answer)) put)
  remove_steps r n false lr pos w =
      let l = w.between in
      let e : m' ≡ l = w.is ∙ exchanged_none r n 0 l (sym w.answer) in
      to (rw e (lands_placed x w.lands p)) idle (thread_of x t).inside tt refl

  hazards : (h v : ℕ) → h < x.settings.hazards → first_no (check (ltb (waiting_count m t) 8) BufferFull ∷ []) ≡ None → Lands (stored t (hazard_cell x.settings t h) v m) m' → Placed x m'
  hazards h v lh room l = on_store (hazard_cell x.settings t h) v (omega arith) (hazard_inside x.settings t h small lt lh) room l

  -- the flags, and the lock
  locks : (i v : ℕ) → i ≤ 2 → first_no (check (ltb (waiting_count m t) 8) BufferFull ∷ []) ≡ None → Lands (stored t (x.settings.roots + (hazard_cells x.settings + i)) v m) m' → Placed x m'
  locks i v le room l = on_store (x.settings.roots + (hazard_cells x.settings + i)) v (omega arith) (let a = small.roots in let b = small.cells in omega arith) room l

  lock : (v : ℕ) → first_no (check (ltb (waiting_count m t) 8) BufferFull ∷ []) ≡ None → Lands (stored t (lock_cell x.settings) v m) m' → Placed x m'
  lock v room l = on_store (lock_cell x.settings) v (omega arith) (let a = small.roots in let b = small.cells in omega arith) room l

  -- the step does not change what the thread is inside of
  on : Placed x m' → (q : Point) → FitsAt x.settings q → plain_at q ≡ true → Placed (changed x t (moved_to q (thread_of x t)) x.nodes) m'
  on p' q fits plain = to p' q (thread_of x t).inside fits plain

  step_at : (k : Told) (q : Point) → (thread_of x t).point ≡ q → FitsAt x.settings q → first_no (request_checks t m (request (here x m t) q)) ≡ None
      → Meets t (request (here x m t) q) m m' k → Good x t m' (after (here x m t) q k)
  step_at k idle e f c w = on (on_same w.1) idle tt refl
  step_at k (protect1 r h) e f c w =
      let p' = on_load w.2 in
      let v = value_told k in
      cond_both (eqb v 0) _ _ (Good x t m') (λ _. on p' idle tt refl) (λ g. on p' (protect2 r h v) (f.0, f.1, positive v g) refl)
  step_at k (protect2 r h n) e f c w = on (hazards h n f.1 c w.1) (protect3 r h n) f refl
  step_at k (protect3 r h n) e f c w =
      let p' = on_load w.2 in
      cond_both (eqb (value_told k) n) _ _ (Good x t m') (λ _. guards p' h n) (λ _. on p' (protect4 r h) (f.0, f.1) refl)
  step_at k (protect4 r h) e f c w = on (hazards h 0 f.1 c w.1) idle tt refl
  step_at k (copy1 a b) e f c w = guards (hazards b (guard_of (thread_of x t) a) f.1 c w.1) b (guard_of (thread_of x t) a)
  step_at k (release1 a) e f c w = guards (hazards a 0 f c w.1) a _
  step_at k (publish1 r n) e f c w = rw w.1 (publish_steps r n w.0 f.0 f.1 f.2 (p.taking t r n e) w.2)
  step_at k (remove1 r) e f c w =
      let p' = on_load w.2 in
      let v = value_told k in
      cond_both (eqb v 0) _ _ (Good x t m') (λ _. on p' idle tt refl) (λ g. on p' (remove2 r v) (f, positive v g) refl)
  step_at k (remove2 r n) e f c w = rw w.1 (remove_steps r n w.0 f.0 f.1 w.2)
  step_at k (remove3 r n) e f c w = rw (w.0, w.1) (retires x m t n m.clock lt p f.1 f.2 (omega arith) (p.removing t r n e))
  step_at k reclaim1 e f c w = on (on_same w.1) (reclaim2 (clock_told k) []) small.some refl
  step_at k (reclaim2 now seen) e f c w =
      let p' = on_load w.2 in
      let v = value_told k in
      let l = length_push seen v in
      cond_both (ltb (length seen + 1) (hazard_cells x.settings)) _ _ (Good x t m')
      (λ g. on p' (reclaim2 now (seen ++ v ∷ [])) (let a = ltb-true (length seen + 1) (hazard_cells x.settings) g in omega arith) refl)
      (λ g. on p' (reclaim3 now (seen ++ v ∷ [])) (let a = ltb-false (length seen + 1) (hazard_cells x.settings) g in omega arith) refl)
  step_at k (reclaim3 now seen) e f c w = rw w.1 (sweeps x m t m.bound now seen lt p)
  step_at k owner_lock1 e f c w = on (locks 1 1 (omega arith) c w.1) owner_lock2 tt refl
  step_at k owner_lock2 e f c w =
      let p' = on_load w.2 in
      cond_both (lowered (value_told k)) _ _ (Good x t m') (λ _. to p' idle true tt refl) (λ _. on p' (owner_lock3 (version_of (value_told k))) tt refl)
  step_at k (owner_lock3 v) e f c w = on (locks 1 (word (2 * v)) (omega arith) c w.1) owner_lock4 tt refl
  step_at k owner_lock4 e f c w =
      let p' = on_exchange (omega arith) w.2 in
      cond_both (done_told k) _ _ (Good x t m') (λ _. to p' idle true tt refl) (λ _. on p' owner_lock5 tt refl)
  step_at k owner_lock5 e f c w = on (on_load w.2) (owner_lock3 (version_of (value_told k))) tt refl
  step_at k owner_unlock1 e f c w =
      let p' = on_load w.2 in
      cond_both (lowered (value_told k)) _ _ (Good x t m') (λ _. on p' owner_unlock3 tt refl) (λ _. on p' owner_unlock2 tt refl)
  step_at k owner_unlock2 e f c w = to (locks 1 0 (omega arith) c w.1) idle false tt refl
  step_at k owner_unlock3 e f c w = to (locks 1 0 (omega arith) c w.1) owner_unlock4 false tt refl
  step_at k owner_unlock4 e f c w = on (lock 0 c w.1) idle tt refl
  step_at k other_lock1 e f c w =
      let p' = on_exchange (omega arith) w.2 in
      cond_both (done_told k) _ _ (Good x t m') (λ _. on p' other_lock2 tt refl) (λ _. on p' other_lock1 tt refl)
  step_at k other_lock2 e f c w = on (on_load w.2) (other_lock3 (version_of (value_told k) + 1)) tt refl
  step_at k (other_lock3 v) e f c w = on (locks 2 (word (2 * v + 1)) (omega arith) c w.1) (other_lock4 v) tt refl
  step_at k (other_lock4 v) e f c w = on (on_same w.1) (other_lock5 v) tt refl
  step_at k (other_lock5 v) e f c w = on (on_same w.1) (other_lock6 v (clock_told k)) tt refl
  step_at k (other_lock6 v note) e f c w =
      let p' = on_same w.1 in
      cond_both (waited m.bound note (clock_told k)) _ _ (Good x t m') (λ _. on p' (other_lock8 v) tt refl) (λ _. on p' (other_lock7 v note) tt refl)
  step_at k (other_lock7 v note) e f c w =
      let p' = on_load w.2 in
      cond_both (eqb (version_of (value_told k)) v) _ _ (Good x t m') (λ _. on p' (other_lock8 v) tt refl) (λ _. on p' (other_lock6 v note) tt refl)
  step_at k (other_lock8 v) e f c w =
      let p' = on_load w.2 in
      cond_both (lowered (value_told k)) _ _ (Good x t m') (λ _. to p' idle true tt refl) (λ _. on p' (other_lock8 v) tt refl)
  step_at k other_unlock1 e f c w = on (on_load w.2) (other_unlock2 (version_of (value_told k))) tt refl
  step_at k (other_unlock2 v) e f c w = to (locks 2 (word (2 * (v + 1))) (omega arith) c w.1) other_unlock3 false tt refl
  step_at k other_unlock3 e f c w = on (lock 0 c w.1) idle tt refl

-- the step of a thread, whatever it is
pub step_placed : (x : Tables) (m m' : Meaning) (t : ℕ) (k : Told) → t < x.settings.threads → Placed x m → first_no (request_checks t m (request (here x m t) (thread_of x t).point)) ≡ None
    → Meets t (request (here x m t) (thread_of x t).point) m m' k → Placed (counted (stepped x t (after (here x m t) (thread_of x t).point k))) m'
step_placed x m m' t k lt p c w = step_at x m m' t lt p k (thread_of x t).point refl (p.shape.fits t) c w
