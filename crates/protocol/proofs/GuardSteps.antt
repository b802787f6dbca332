-- Every step, seen from the hazard pointers: landings and one act of the thread. Assumes nothing.
use Rattle.std.proofs.Common.{◌≡◌, ℕ, ◌+◌, ◌*◌, ◌<◌, ◌≤◌, Bool, true, false, eqb, ltb, ◌≢◌, ◌⊎◌, List, [], ◌∷◌, ◌++◌, length, set, None, sym, refl, ◌∙◌, inl, inr, arith}
use Rattle.std.proofs.ByRecursion.{All-weaker}
use Rattle.std.proofs.lemmas.List.{length_push}
use Rattle.std.proofs.lemmas.Bool.{cond_both, eqb-true, ltb-true, ltb-false}
use Rattle.memory.specs.declared.write.Write.{Write}
use Rattle.memory.specs.Calls.{Loaded, Exchanged}
use Rattle.memory.specs.Checks.{check, first_no}
use Rattle.memory.specs.Landings.{Lands}
use Rattle.memory.specs.Meaning.{Meaning, queue, cell, waiting_count, written, loaded, stored, exchanged}
use Rattle.memory.proofs.Passing.{passed_head}
use Rattle.memory.proofs.Soundness.{stored_sound}
use Rattle.protocol.specs.declared.answer.Refusal.TheVariants.{BufferFull}
use Rattle.protocol.specs.declared.node.NodeState.{NodeState}
use Rattle.protocol.specs.declared.node.NodeState.TheVariants.{Free, Taken, Published, Removed, Retired as RetiredBy}
use Rattle.protocol.specs.Settings.{hazard_cells, hazard_cell}
use Rattle.protocol.specs.Steps.{Told, clock_told, value_told, done_told, Outcome, moved_to, guarding, listing, guard_of, kept, freed, freeing, version_of, lowered, word, waited, after_publish1, after_protect3, after_remove2, after_reclaim2, request, after}
use Rattle.protocol.specs.Tables.{Point, Thread, Tables, thread_of, node_of, idle, protect1, protect2, protect3, protect4, copy1, release1, publish1, remove1, remove2, remove3, reclaim1, reclaim2, reclaim3, owner_lock1, owner_lock2, owner_lock3, owner_lock4, owner_lock5, owner_unlock1, owner_unlock2, owner_unlock3, owner_unlock4, other_lock1, other_lock2, other_lock3, other_lock4, other_lock5, other_lock6, other_lock7, other_lock8, other_unlock1, other_unlock2, other_unlock3}
use Rattle.protocol.specs.Transition.{request_checks, Meets, here, counted, stepped}
use Rattle.protocol.proofs.GuardMemory.{OwnWrite, Owns, is_hazard_lem, owns_lands, owns_stored, same_cells, stored_slot, stored_off, exchanged_view, loaded_cell, loads_hazard, lands_first, rested}
use Rattle.protocol.proofs.GuardOwns.{thread_waits}
use Rattle.protocol.proofs.GuardTables.{cells_then, slot_then, marks, same_nodes, goes, same_guards, sets_guard, same_lists, lists}
use Rattle.protocol.proofs.GuardView.{guard_state, SameCells, ReadyAt, PlainAt, SweepAt, scans, scanned, Acts, plain, protects2, protects3, protects4, copies, releases, publishes, occupied, removes, retires, scans1, scans2, sweeps, GuardPath, acts}
use Rattle.protocol.proofs.Placed.{FitsAt, Placed}
use Rattle.protocol.proofs.PlacedMemory.{ranges, hazard_inside, lands_placed}
use Rattle.protocol.proofs.PlacedNodes.{in_range_lem, freeing_at}
use Rattle.protocol.proofs.PlacedRows.{changed}
use Rattle.protocol.proofs.RootCells.{OffRoots}

-- the outcome of a step of t, as a path
abbrev pub Leads : Tables → Meaning → Meaning → ℕ → Outcome → Type 0
Leads x m m' t o = GuardPath x.settings (guard_state (counted (stepped x t o)) m') (guard_state x m)

-- the row of t at another point
abbrev row_at : Tables → ℕ → Point → Bool → Thread
row_at x t q i = record { point = q; guards = (thread_of x t).guards; retired = (thread_of x t).retired; inside = i }

-- what the thread's guards must be at a point
abbrev pub Ready : Tables → ℕ → Point → Type 0
Ready x t q = ReadyAt x.settings (λ i. guard_of (thread_of x t) i) q

-- only the point changes
pub plain_act : (x : Tables) (m m' : Meaning) (t : ℕ) (q : Point) (i : Bool) → t < length x.threads → PlainAt q → Ready x t q → SameCells (guard_state x m) (guard_state x m')
    → Acts x.settings t (guard_state x m) (guard_state (changed x t (row_at x t q i) x.nodes) m')
plain_act x m m' t q i lt pl rd c =
    plain {p' = q} pl rd (goes x m m' t (row_at x t q i) x.nodes lt) (cells_then x m m' t (row_at x t q i) x.nodes c)
    (same_guards x m m' t (row_at x t q i) x.nodes lt refl) (same_nodes x m m' t (row_at x t q i) x.nodes refl) (same_lists x m m' t (row_at x t q i) x.nodes lt refl)

module _ (x : Tables) (m m' : Meaning) (t : ℕ) (lt : t < x.settings.threads) (p : Placed x m) (o : Owns x.settings m) where
  row : t < length x.threads
  row = let e = p.shape.threads in omega arith

  waits : t < length m.waiting
  waits = thread_waits x m t p lt

  -- What the memory does in a step.

  module _ (r : Thread) (ns : List NodeState) where
    on_same : m' ≡ m → Acts x.settings t (guard_state x m) (guard_state (changed x t r ns) m) → GuardPath x.settings (guard_state (changed x t r ns) m') (guard_state x m)
    on_same e a = rw e (acts t (guard_state (changed x t r ns) m) lt a (rested x.settings (changed x t r ns) m))

    on_load : {c v : ℕ} → Loaded Lands t c m m' v → Acts x.settings t (guard_state x m') (guard_state (changed x t r ns) m') → GuardPath x.settings (guard_state (changed x t r ns) m') (guard_state x m)
    on_load l a = lands_first x l.lands p.sound o (acts t (guard_state (changed x t r ns) m') lt a (rested x.settings (changed x t r ns) m'))

    on_store : (c v : ℕ) → c < 64 → OwnWrite x.settings t (written m c v) → first_no (check (ltb (waiting_count m t) 8) BufferFull ∷ []) ≡ None → Lands (stored t c v m) m'
        → Acts x.settings t (guard_state x m) (guard_state (changed x t r ns) (stored t c v m)) → GuardPath x.settings (guard_state (changed x t r ns) m') (guard_state x m)
    on_store c v inside own room l a =
        let few : waiting_count m t < 8 = ltb-true (waiting_count m t) 8 (passed_head (ltb (waiting_count m t) 8) BufferFull [] room) in
        let t8 : t < 8 = let g = (ranges x.settings p.shape.range).threads in omega arith in
        acts t (guard_state (changed x t r ns) (stored t c v m)) lt a
        (lands_first (changed x t r ns) l (stored_sound t c v m t8 inside few p.sound) (owns_stored x.settings t c v m waits lt own o) (rested x.settings (changed x t r ns) m'))

    on_exchange : {c old new : ℕ} {b : Bool} (w : Exchanged Lands c old new m m' b) → Acts x.settings t (guard_state x w.between) (guard_state (changed x t r ns) (exchanged c old new w.between))
        → GuardPath x.settings (guard_state (changed x t r ns) m') (guard_state x m)
    on_exchange {c} {old} {new} w a =
        rw w.is
        (lands_first x w.lands p.sound o (acts t (guard_state (changed x t r ns) (exchanged c old new w.between)) lt a (rested x.settings (changed x t r ns) (exchanged c old new w.between))))

  -- Steps in which only the point changes.

  module _ (q : Point) (i : Bool) (pl : PlainAt q) (rd : Ready x t q) where
    to_same : m' ≡ m → GuardPath x.settings (guard_state (changed x t (row_at x t q i) x.nodes) m') (guard_state x m)
    to_same e = on_same (row_at x t q i) x.nodes e (plain_act x m m t q i row pl rd (same_cells x m))

    to_load : {c v : ℕ} → Loaded Lands t c m m' v → GuardPath x.settings (guard_state (changed x t (row_at x t q i) x.nodes) m') (guard_state x m)
    to_load l = on_load (row_at x t q i) x.nodes l (plain_act x m' m' t q i row pl rd (same_cells x m'))

    -- the flags and the lock
    to_store : (c v : ℕ) → x.settings.roots + hazard_cells x.settings ≤ c → c ≤ x.settings.roots + (hazard_cells x.settings + 2) → first_no (check (ltb (waiting_count m t) 8) BufferFull ∷ []) ≡ None
        → Lands (stored t c v m) m' → GuardPath x.settings (guard_state (changed x t (row_at x t q i) x.nodes) m') (guard_state x m)
    to_store c v off le room l =
        let g = ranges x.settings p.shape.range in
        let a = g.roots in
        let b = g.cells in
        on_store (row_at x t q i) x.nodes c v (omega arith) (λ h. absurd (omega arith)) room l (plain_act x m (stored t c v m) t q i row pl rd (stored_off x t m waits c v off lt))

    to_exchange : {c old new : ℕ} {b : Bool} → (c < x.settings.roots) ⊎ (x.settings.roots + hazard_cells x.settings ≤ c) → Exchanged Lands c old new m m' b
        → GuardPath x.settings (guard_state (changed x t (row_at x t q i) x.nodes) m') (guard_state x m)
    to_exchange {c} {old} {new} off w = on_exchange (row_at x t q i) x.nodes w (plain_act x w.between (exchanged c old new w.between) t q i row pl rd (exchanged_view x c old new w.between off))

  -- Stores to hazard cells.

  hazards : (r : Thread) (h v : ℕ) → h < x.settings.hazards → first_no (check (ltb (waiting_count m t) 8) BufferFull ∷ []) ≡ None → Lands (stored t (hazard_cell x.settings t h) v m) m'
      → Acts x.settings t (guard_state x m) (guard_state (changed x t r x.nodes) (stored t (hazard_cell x.settings t h) v m))
      → GuardPath x.settings (guard_state (changed x t r x.nodes) m') (guard_state x m)
  hazards r h v lh room l a =
      on_store r x.nodes (hazard_cell x.settings t h) v (hazard_inside x.settings t h (ranges x.settings p.shape.range) lt lh)
      (λ _. is_hazard_lem x.settings t h (written m (hazard_cell x.settings t h) v) refl lh) room l a

  guards_long : length (thread_of x t).guards ≡ x.settings.hazards
  guards_long = p.shape.guards t lt

  protect2_acts : (r h n : ℕ) → (thread_of x t).point ≡ protect2 r h n → h < x.settings.hazards
      → Acts x.settings t (guard_state x m) (guard_state (changed x t (moved_to (protect3 r h n) (thread_of x t)) x.nodes) (stored t (hazard_cell x.settings t h) n m))
  protect2_acts r h n e lh =
      let to = moved_to (protect3 r h n) (thread_of x t) in
      let n' = stored t (hazard_cell x.settings t h) n m in
      protects2 {r = r} {h = h} {n = n} e lh (goes x m n' t to x.nodes row) (slot_then x m n' t to x.nodes h n (stored_slot x t m waits h n lh))
      (same_guards x m n' t to x.nodes row refl) (same_nodes x m n' t to x.nodes refl) (same_lists x m n' t to x.nodes row refl)

  protect4_acts : (r h : ℕ) → (thread_of x t).point ≡ protect4 r h → h < x.settings.hazards
      → Acts x.settings t (guard_state x m) (guard_state (changed x t (moved_to idle (thread_of x t)) x.nodes) (stored t (hazard_cell x.settings t h) 0 m))
  protect4_acts r h e lh =
      let to = moved_to idle (thread_of x t) in
      let n' = stored t (hazard_cell x.settings t h) 0 m in
      protects4 {r = r} {h = h} e lh (goes x m n' t to x.nodes row) (slot_then x m n' t to x.nodes h 0 (stored_slot x t m waits h 0 lh))
      (same_guards x m n' t to x.nodes row refl) (same_nodes x m n' t to x.nodes refl) (same_lists x m n' t to x.nodes row refl)

  copy_acts : (a b : ℕ) → (thread_of x t).point ≡ copy1 a b → b < x.settings.hazards
      → Acts x.settings t (guard_state x m) (guard_state (changed x t (moved_to idle (guarding b (guard_of (thread_of x t) a) (thread_of x t))) x.nodes) (stored t (hazard_cell x.settings t b) (guard_of (thread_of x t) a) m))
  copy_acts a b e lb =
      let v = guard_of (thread_of x t) a in
      let to = moved_to idle (guarding b v (thread_of x t)) in
      let n' = stored t (hazard_cell x.settings t b) v m in
      copies {c = a} {b = b} e (goes x m n' t to x.nodes row) (slot_then x m n' t to x.nodes b v (stored_slot x t m waits b v lb))
      (sets_guard x m n' t to x.nodes row b v refl (rw guards_long lb)) (same_nodes x m n' t to x.nodes refl) (same_lists x m n' t to x.nodes row refl)

  release_acts : (a : ℕ) → (thread_of x t).point ≡ release1 a → a < x.settings.hazards
      → Acts x.settings t (guard_state x m) (guard_state (changed x t (moved_to idle (guarding a 0 (thread_of x t))) x.nodes) (stored t (hazard_cell x.settings t a) 0 m))
  release_acts a e la =
      let to = moved_to idle (guarding a 0 (thread_of x t)) in
      let n' = stored t (hazard_cell x.settings t a) 0 m in
      releases {c = a} e la (goes x m n' t to x.nodes row) (slot_then x m n' t to x.nodes a 0 (stored_slot x t m waits a 0 la))
      (sets_guard x m n' t to x.nodes row a 0 refl (rw guards_long la)) (same_nodes x m n' t to x.nodes refl) (same_lists x m n' t to x.nodes row refl)

  -- Loads.

  -- what is loaded from a root is published there
  pub published_at : (r n : ℕ) → Lands m m' → r < x.settings.roots → 0 < n → loaded m' t r ≡ n → node_of x n ≡ Published r
  published_at r n l lr pos e =
      let p' = lands_placed x l p in
      let c : loaded m' t r ≡ cell m' r = loaded_cell m' t r (All-weaker (OffRoots x.settings.roots) (λ (w : Write). w.cell ≢ r) (λ w h f. omega arith) (queue m' t) (p'.writes t)) in
      let d : cell m' r ≡ n = sym c ∙ e in
      rw d at (p'.rooted r lr (rw d pos))

  protect3_steps : (r h n v : ℕ) → (thread_of x t).point ≡ protect3 r h n → r < x.settings.roots → h < x.settings.hazards → 0 < n → Ready x t (protect3 r h n) → Loaded Lands t r m m' v
      → Leads x m m' t (after_protect3 (here x m t) r h n v)
  protect3_steps r h n v e lr lh pos rd l =
      cond_both (eqb v n) _ _ (Leads x m m' t)
      (λ g. on_load to x.nodes l
      (protects3 {r = r} {h = h} {n = n} e lh pos (published_at r n l.lands lr pos (sym l.value ∙ eqb-true v n g)) (goes x m' m' t to x.nodes row) (cells_then x m' m' t to x.nodes (same_cells x m'))
      (sets_guard x m' m' t to x.nodes row h n refl (rw guards_long lh)) (same_nodes x m' m' t to x.nodes refl) (same_lists x m' m' t to x.nodes row refl)))
      (λ g. to_load (protect4 r h) (thread_of x t).inside tt rd l)
    where
      to : Thread
      to = moved_to idle (guarding h n (thread_of x t))

  scan_acts : (now v : ℕ) (seen : List ℕ) (q : Point) → (thread_of x t).point ≡ reclaim2 now seen → length seen < hazard_cells x.settings → Loaded Lands t (x.settings.roots + length seen) m m' v
      → SweepAt x.settings now (seen ++ v ∷ []) q → GuardPath x.settings (guard_state (changed x t (moved_to q (thread_of x t)) x.nodes) m') (guard_state x m)
  scan_acts now v seen q e few l at =
      let to = moved_to q (thread_of x t) in
      on_load to x.nodes l
      (scans2 {now = now} {v = v} {seen = seen} {p' = q} e few (rw l.value (loads_hazard x m' t (length seen) (owns_lands x.settings l.lands o) few)) at (goes x m' m' t to x.nodes row)
      (cells_then x m' m' t to x.nodes (same_cells x m')) (same_guards x m' m' t to x.nodes row refl) (same_nodes x m' m' t to x.nodes refl) (same_lists x m' m' t to x.nodes row refl))

  reclaim2_steps : (now v : ℕ) (seen : List ℕ) → (thread_of x t).point ≡ reclaim2 now seen → length seen < hazard_cells x.settings → Loaded Lands t (x.settings.roots + length seen) m m' v
      → Leads x m m' t (after_reclaim2 (here x m t) now seen v)
  reclaim2_steps now v seen e few l =
      let len = length_push seen v in
      cond_both (ltb (length seen + 1) (hazard_cells x.settings)) _ _ (Leads x m m' t)
      (λ g. scan_acts now v seen (reclaim2 now (seen ++ v ∷ [])) e few l (scans (let a = ltb-true (length seen + 1) (hazard_cells x.settings) g in omega arith)))
      (λ g. scan_acts now v seen (reclaim3 now (seen ++ v ∷ [])) e few l (scanned (let a = ltb-false (length seen + 1) (hazard_cells x.settings) g in omega arith)))

  -- Exchanges of a root.

  publish_steps : (r n : ℕ) (b : Bool) → r < x.settings.roots → n ≤ x.settings.nodes → node_of x n ≡ Taken t → Exchanged Lands r 0 n m m' b → Leads x m m' t (after_publish1 (here x m t) r n b)
  publish_steps r n true lr le is w =
      let l = w.between in
      let l' = exchanged r 0 n l in
      let to = moved_to idle (thread_of x t) in
      let ns = set x.nodes n (Published r) in
      on_exchange to ns w
      (publishes {r = r} {n = n} is (goes x l l' t to ns row) (cells_then x l l' t to ns (exchanged_view x r 0 n l (inl lr))) (same_guards x l l' t to ns row refl)
      (marks x l l' t to ns n (Published r) refl (let e = p.shape.nodes in omega arith)) (same_lists x l l' t to ns row refl))
  publish_steps r n false lr le is w =
      let l = w.between in
      let l' = exchanged r 0 n l in
      let to = moved_to idle (thread_of x t) in
      let ns = set x.nodes n Free in
      on_exchange to ns w
      (occupied {n = n} is (goes x l l' t to ns row) (cells_then x l l' t to ns (exchanged_view x r 0 n l (inl lr))) (same_guards x l l' t to ns row refl)
      (marks x l l' t to ns n Free refl (let e = p.shape.nodes in omega arith)) (same_lists x l l' t to ns row refl))

  remove_steps : (r n : ℕ) (b : Bool) → r < x.settings.roots → 0 < n → Exchanged Lands r n 0 m m' b → Leads x m m' t (after_remove2 (here x m t) r n b)
  remove_steps r n true lr pos w =
      let l = w.between in
      let l' = exchanged r n 0 l in
      let to = moved_to (remove3 r n) (thread_of x t) in
      let ns = set x.nodes n (Removed t) in
      let held : cell l r ≡ n = eqb-true (cell l r) n (sym w.answer) in
      let is : node_of x n ≡ Published r = rw held at ((lands_placed x w.lands p).rooted r lr (rw held pos)) in
      let ln : n < length x.nodes = in_range_lem x.nodes n (λ e. absurd cc) in
      on_exchange to ns w
      (removes {r = r} {n = n} is (goes x l l' t to ns row) (cells_then x l l' t to ns (exchanged_view x r n 0 l (inl lr))) (same_guards x l l' t to ns row refl)
      (marks x l l' t to ns n (Removed t) refl ln) (same_lists x l l' t to ns row refl))
  remove_steps r n false lr pos w = to_exchange idle (thread_of x t).inside tt tt (inl lr) w

  -- Steps that leave the memory.

  remove3_acts : (n : ℕ) → node_of x n ≡ Removed t → n ≤ x.settings.nodes
      → Acts x.settings t (guard_state x m) (guard_state (changed x t (moved_to idle (listing ((thread_of x t).retired ++ record { node = n; date = m.clock } ∷ []) (thread_of x t))) (set x.nodes n (RetiredBy t))) m)
  remove3_acts n is le =
      let l = (thread_of x t).retired ++ record { node = n; date = m.clock } ∷ [] in
      let to = moved_to idle (listing l (thread_of x t)) in
      let ns = set x.nodes n (RetiredBy t) in
      retires {n = n} is (goes x m m t to ns row) (cells_then x m m t to ns (same_cells x m)) (same_guards x m m t to ns row refl)
      (marks x m m t to ns n (RetiredBy t) refl (let e = p.shape.nodes in omega arith)) (lists x m m t to ns row l refl)

  reclaim1_acts : Acts x.settings t (guard_state x m) (guard_state (changed x t (moved_to (reclaim2 m.clock []) (thread_of x t)) x.nodes) m)
  reclaim1_acts =
      let to = moved_to (reclaim2 m.clock []) (thread_of x t) in
      scans1 (goes x m m t to x.nodes row) (cells_then x m m t to x.nodes (same_cells x m)) (same_guards x m m t to x.nodes row refl)
      (same_nodes x m m t to x.nodes refl) (same_lists x m m t to x.nodes row refl)

  reclaim3_acts : (now : ℕ) (seen : List ℕ) → (thread_of x t).point ≡ reclaim3 now seen → length seen ≡ hazard_cells x.settings
      → Acts x.settings t (guard_state x m) (guard_state (changed x t (moved_to idle (listing (kept m.bound now seen (thread_of x t).retired) (thread_of x t))) (freeing (freed m.bound now seen (thread_of x t).retired) x.nodes)) m)
  reclaim3_acts now seen e all =
      let l = kept m.bound now seen (thread_of x t).retired in
      let to = moved_to idle (listing l (thread_of x t)) in
      let ns = freeing (freed m.bound now seen (thread_of x t).retired) x.nodes in
      sweeps {now = now} {seen = seen} e all (goes x m m t to ns row) (cells_then x m m t to ns (same_cells x m)) (same_guards x m m t to ns row refl)
      (λ n. freeing_at (freed m.bound now seen (thread_of x t).retired) x.nodes n) (lists x m m t to ns row l refl)

  -- the step leaves what the thread is inside of
  on : (q : Point) → PlainAt q → Ready x t q → {c v : ℕ} → Loaded Lands t c m m' v → GuardPath x.settings (guard_state (changed x t (moved_to q (thread_of x t)) x.nodes) m') (guard_state x m)
  on q pl rd l = to_load q (thread_of x t).inside pl rd l

  step_at : (k : Told) (q : Point) → (thread_of x t).point ≡ q → FitsAt x.settings q → Ready x t q → first_no (request_checks t m (request (here x m t) q)) ≡ None
      → Meets t (request (here x m t) q) m m' k → Leads x m m' t (after (here x m t) q k)
  step_at k idle e f rd c w = to_same idle (thread_of x t).inside tt tt w.1
  step_at k (protect1 r h) e f rd c w =
      cond_both (eqb (value_told k) 0) _ _ (Leads x m m' t) (λ _. on idle tt tt w.2) (λ _. on (protect2 r h (value_told k)) tt rd w.2)
  step_at k (protect2 r h n) e f rd c w = hazards (moved_to (protect3 r h n) (thread_of x t)) h n f.1 c w.1 (protect2_acts r h n e f.1)
  step_at k (protect3 r h n) e f rd c w = rw w.1 (protect3_steps r h n w.0 e f.0 f.1 f.2 rd w.2)
  step_at k (protect4 r h) e f rd c w = hazards (moved_to idle (thread_of x t)) h 0 f.1 c w.1 (protect4_acts r h e f.1)
  step_at k (copy1 a b) e f rd c w =
      hazards (moved_to idle (guarding b (guard_of (thread_of x t) a) (thread_of x t))) b (guard_of (thread_of x t) a) f.1 c w.1 (copy_acts a b e f.1)
  step_at k (release1 a) e f rd c w = hazards (moved_to idle (guarding a 0 (thread_of x t))) a 0 f c w.1 (release_acts a e f)
  step_at k (publish1 r n) e f rd c w = rw w.1 (publish_steps r n w.0 f.0 f.2 (p.taking t r n e) w.2)
  step_at k (remove1 r) e f rd c w =
      cond_both (eqb (value_told k) 0) _ _ (Leads x m m' t) (λ _. on idle tt tt w.2) (λ _. on (remove2 r (value_told k)) tt tt w.2)
  step_at k (remove2 r n) e f rd c w = rw w.1 (remove_steps r n w.0 f.0 f.1 w.2)
  step_at k (remove3 r n) e f rd c w =
      rw w.0
      (on_same (moved_to idle (listing ((thread_of x t).retired ++ record { node = n; date = m.clock } ∷ []) (thread_of x t))) (set x.nodes n (RetiredBy t)) w.1
      (remove3_acts n (p.removing t r n e) f.2))
  step_at k reclaim1 e f rd c w = rw w.0 (on_same (moved_to (reclaim2 m.clock []) (thread_of x t)) x.nodes w.1 reclaim1_acts)
  step_at k (reclaim2 now seen) e f rd c w = rw w.1 (reclaim2_steps now w.0 seen e f w.2)
  step_at k (reclaim3 now seen) e f rd c w =
      on_same (moved_to idle (listing (kept m.bound now seen (thread_of x t).retired) (thread_of x t))) (freeing (freed m.bound now seen (thread_of x t).retired) x.nodes) w.1
      (reclaim3_acts now seen e f)
  step_at k owner_lock1 e f rd c w = to_store owner_lock2 (thread_of x t).inside tt tt _ 1 (omega arith) (omega arith) c w.1
  step_at k owner_lock2 e f rd c w =
      cond_both (lowered (value_told k)) _ _ (Leads x m m' t) (λ _. to_load idle true tt tt w.2) (λ _. on (owner_lock3 (version_of (value_told k))) tt tt w.2)
  step_at k (owner_lock3 v) e f rd c w = to_store owner_lock4 (thread_of x t).inside tt tt _ (word (2 * v)) (omega arith) (omega arith) c w.1
  step_at k owner_lock4 e f rd c w =
      cond_both (done_told k) _ _ (Leads x m m' t) (λ _. to_exchange idle true tt tt (inr (omega arith)) w.2) (λ _. to_exchange owner_lock5 (thread_of x t).inside tt tt (inr (omega arith)) w.2)
  step_at k owner_lock5 e f rd c w = on (owner_lock3 (version_of (value_told k))) tt tt w.2
  step_at k owner_unlock1 e f rd c w =
      cond_both (lowered (value_told k)) _ _ (Leads x m m' t) (λ _. on owner_unlock3 tt tt w.2) (λ _. on owner_unlock2 tt tt w.2)
  step_at k owner_unlock2 e f rd c w = to_store idle false tt tt _ 0 (omega arith) (omega arith) c w.1
  step_at k owner_unlock3 e f rd c w = to_store owner_unlock4 false tt tt _ 0 (omega arith) (omega arith) c w.1
  step_at k owner_unlock4 e f rd c w = to_store idle (thread_of x t).inside tt tt _ 0 (omega arith) (omega arith) c w.1
  step_at k other_lock1 e f rd c w =
      cond_both (done_told k) _ _ (Leads x m m' t) (λ _. to_exchange other_lock2 (thread_of x t).inside tt tt (inr (omega arith)) w.2) (λ _. to_exchange other_lock1 (thread_of x t).inside tt tt (inr (omega arith)) w.2)
  step_at k other_lock2 e f rd c w = on (other_lock3 (version_of (value_told k) + 1)) tt tt w.2
  step_at k (other_lock3 v) e f rd c w = to_store (other_lock4 v) (thread_of x t).inside tt tt _ (word (2 * v + 1)) (omega arith) (omega arith) c w.1
  step_at k (other_lock4 v) e f rd c w = to_same (other_lock5 v) (thread_of x t).inside tt tt w.1
  step_at k (other_lock5 v) e f rd c w = to_same (other_lock6 v (clock_told k)) (thread_of x t).inside tt tt w.1
  step_at k (other_lock6 v note) e f rd c w =
      cond_both (waited m.bound note (clock_told k)) _ _ (Leads x m m' t) (λ _. to_same (other_lock8 v) (thread_of x t).inside tt tt w.1) (λ _. to_same (other_lock7 v note) (thread_of x t).inside tt tt w.1)
  step_at k (other_lock7 v note) e f rd c w =
      cond_both (eqb (version_of (value_told k)) v) _ _ (Leads x m m' t) (λ _. on (other_lock8 v) tt tt w.2) (λ _. on (other_lock6 v note) tt tt w.2)
  step_at k (other_lock8 v) e f rd c w =
      cond_both (lowered (value_told k)) _ _ (Leads x m m' t) (λ _. to_load idle true tt tt w.2) (λ _. on (other_lock8 v) tt tt w.2)
  step_at k other_unlock1 e f rd c w = on (other_unlock2 (version_of (value_told k))) tt tt w.2
  step_at k (other_unlock2 v) e f rd c w = to_store other_unlock3 false tt tt _ (word (2 * (v + 1))) (omega arith) (omega arith) c w.1
  step_at k other_unlock3 e f rd c w = to_store idle (thread_of x t).inside tt tt _ 0 (omega arith) (omega arith) c w.1

-- the step of a thread, whatever it is
pub step_leads : (x : Tables) (m m' : Meaning) (t : ℕ) (k : Told) → t < x.settings.threads → Placed x m → Owns x.settings m → Ready x t (thread_of x t).point
    → first_no (request_checks t m (request (here x m t) (thread_of x t).point)) ≡ None → Meets t (request (here x m t) (thread_of x t).point) m m' k → Leads x m m' t (after (here x m t) (thread_of x t).point k)
step_leads x m m' t k lt p o rd c w = step_at x m m' t lt p o k (thread_of x t).point refl (p.shape.fits t) rd c w
