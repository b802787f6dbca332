-- What a step leaves of its thread's row and of the nodes is what the history then says. Assumes nothing.
use Rattle.std.proofs.Common.{◌≡◌, ℕ, ◌+◌, ◌<◌, ◌≤◌, Bool, true, false, cond, eqb, ltb, ◌⊎◌, List, [], ◌∷◌, ◌++◌, length, get_or, set, sym, refl, ap, ◌∙◌, inl, inr, arith}
use Rattle.std.proofs.lemmas.List.{get_or-set_same, get_or-set_other}
use Rattle.std.proofs.lemmas.Bool.{cases_eq, eq-eqb, ne_eqb}
use Rattle.protocol.specs.declared.answer.Answer.{Answer}
use Rattle.protocol.specs.declared.answer.Answer.TheVariants.{GoingOn, Ended, Empty, Moved, Occupied}
use Rattle.protocol.specs.declared.node.NodeState.{NodeState}
use Rattle.protocol.specs.declared.node.NodeState.TheVariants.{Free, Published, Removed, Retired as RetiredBy}
use Rattle.protocol.specs.declared.call.Call.TheVariants.{Step}
use Rattle.protocol.specs.declared.retired.Retired.{Retired}
use Rattle.protocol.specs.History.{Event, event, accepted, answered, doing_by, doing_in, guard_step, guard_in, inside_step, inside_in, is_reclaim, is_remove, sweep_clock_in, loaded_in, removing_in, list_in, names, state_step, state_in}
use Rattle.protocol.specs.Settings.{hazard_cells}
use Rattle.protocol.specs.Steps.{Told, clock_told, value_told, done_told, Here, Outcome, goes_on, ends, stays, stops, guarding, entering, guard_of, marked, kept, freed, version_of, lowered, waited, after}
use Rattle.protocol.specs.Tables.{Point, Doing, doing_at, idle, protect1, protect2, protect3, protect4, copy1, release1, publish1, remove1, remove2, remove3, reclaim1, reclaim2, reclaim3, owner_lock1, owner_lock2, owner_lock3, owner_lock4, owner_lock5, owner_unlock1, owner_unlock2, owner_unlock3, owner_unlock4, other_lock1, other_lock2, other_lock3, other_lock4, other_lock5, other_lock6, other_lock7, other_lock8, other_unlock1, other_unlock2, other_unlock3}
use Rattle.protocol.proofs.Placed.{FitsAt}
use Rattle.protocol.proofs.PlacedNodes.{freeing_at}
use Rattle.protocol.proofs.Shown.{KnownAt}
use Rattle.protocol.proofs.ThreadRows.{Row}

-- Places of a list that was set.

pub get_d_set : {A : Type 0} (l : List A) (i j : ℕ) (a d : A) → i < length l → get_or (set l i a) j d ≡ cond (eqb i j) a (get_or l j d)
get_d_set l i j a d lt = at (cases_eq i j)
  where
    at : (i ≡ j) ⊎ (i ≡ j → ⊥) → get_or (set l i a) j d ≡ cond (eqb i j) a (get_or l j d)
    at (inl e) = rw (eq-eqb i j e, ← e) (get_or-set_same l i a d lt)
    at (inr ne) = rw (ne_eqb i j ne) (get_or-set_other l i j a d (λ e. ne (sym e)))

-- what a step leaves, against the history with the step
pub record Leaves (h : List Event) (k : Told) (x : Here) (o : Outcome) : Type 0 where
  pub row : Row x.bound (event (Step x.thread) o.answer k ∷ h) x.thread o.own
  pub nodes : (n : ℕ) → get_or o.nodes n Free ≡ state_in x.bound (event (Step x.thread) o.answer k ∷ h) n

pub leaves_either : (h : List Event) (k : Told) (x : Here) (c : Bool) (o p : Outcome) → Leaves h k x o → Leaves h k x p → Leaves h k x (cond c o p)
leaves_either h k x true o p a b = a
leaves_either h k x false o p a b = b

-- what the history keeps of the sweep and of the remove, after a step of the thread that was doing d
module _ (h : List Event) (u : ℕ) (a : Answer) (k : Told) (d : Doing) (e : doing_in h u ≡ d) (ok : accepted a ≡ true) where
  clock_then : sweep_clock_in (event (Step u) a k ∷ h) u ≡ cond (is_reclaim 1 d) (clock_told k) (sweep_clock_in h u)
  clock_then = rw (ok, eq-eqb u u refl, e) refl

  loaded_then : loaded_in (event (Step u) a k ∷ h) u ≡ cond (is_reclaim 1 d) [] (cond (is_reclaim 2 d) (loaded_in h u ++ value_told k ∷ []) (loaded_in h u))
  loaded_then = rw (ok, eq-eqb u u refl, e) refl

  removing_then : removing_in (event (Step u) a k ∷ h) u ≡ cond (is_remove 1 d) (value_told k) (removing_in h u)
  removing_then = rw (ok, eq-eqb u u refl, e) refl

-- a step of a thread that was doing d, by what the history says of d
leaves_by : (h : List Event) (k : Told) (x : Here) (d : Doing) → doing_in h x.thread ≡ d → (o : Outcome) → accepted o.answer ≡ true
    → doing_at o.own.point ≡ doing_by o.answer d
    → ((i : ℕ) → guard_of o.own i ≡ guard_step d o.answer i (guard_in h x.thread i))
    → o.own.retired ≡ cond (is_remove 3 d) (list_in x.bound h x.thread ++ record { node = answered o.answer; date = clock_told k } ∷ []) (cond (is_reclaim 3 d) (kept x.bound (sweep_clock_in h x.thread) (loaded_in h x.thread) (list_in x.bound h x.thread)) (list_in x.bound h x.thread))
    → o.own.inside ≡ inside_step d o.answer (inside_in h x.thread)
    → KnownAt (event (Step x.thread) o.answer k ∷ h) x.thread o.own.point
    → ((n : ℕ) → get_or o.nodes n Free ≡ cond (ltb 0 (names n (cond (is_reclaim 3 d) (freed x.bound (sweep_clock_in h x.thread) (loaded_in h x.thread) (list_in x.bound h x.thread)) []))) Free (state_step x.thread d o.answer (removing_in h x.thread) n (state_in x.bound h n)))
    → Leaves h k x o
leaves_by h k x d e o ok doing guards lists inside known nodes =
    record {
      row =
          record {
            doing = rw (eq-eqb x.thread x.thread refl, e) doing;
            guards = λ i. rw (ok, eq-eqb x.thread x.thread refl, e) (guards i);
            lists = rw (ok, eq-eqb x.thread x.thread refl, e) lists;
            inside = rw (ok, eq-eqb x.thread x.thread refl, e) inside;
            known = known;
          };
      nodes = λ n. rw (ok, e) (nodes n);
    }

-- Each step, of a thread whose row and whose nodes the history tells.
module _ (h : List Event) (k : Told) (x : Here)
    (w : Row x.bound h x.thread x.own)
    (ns : (n : ℕ) → get_or x.nodes n Free ≡ state_in x.bound h n)
    (hazards : length x.own.guards ≡ x.settings.hazards)
    (count : length x.nodes ≡ x.settings.nodes + 1) where
  at : (p : Point) → x.own.point ≡ p → doing_in h x.thread ≡ doing_at p
  at p q = sym w.doing ∙ ap doing_at q

  by : (p : Point) → x.own.point ≡ p → (o : Outcome) → accepted o.answer ≡ true
      → doing_at o.own.point ≡ doing_by o.answer (doing_at p)
      → ((i : ℕ) → guard_of o.own i ≡ guard_step (doing_at p) o.answer i (guard_in h x.thread i))
      → o.own.retired ≡ cond (is_remove 3 (doing_at p)) (list_in x.bound h x.thread ++ record { node = answered o.answer; date = clock_told k } ∷ []) (cond (is_reclaim 3 (doing_at p)) (kept x.bound (sweep_clock_in h x.thread) (loaded_in h x.thread) (list_in x.bound h x.thread)) (list_in x.bound h x.thread))
      → o.own.inside ≡ inside_step (doing_at p) o.answer (inside_in h x.thread)
      → KnownAt (event (Step x.thread) o.answer k ∷ h) x.thread o.own.point
      → ((n : ℕ) → get_or o.nodes n Free ≡ cond (ltb 0 (names n (cond (is_reclaim 3 (doing_at p)) (freed x.bound (sweep_clock_in h x.thread) (loaded_in h x.thread) (list_in x.bound h x.thread)) []))) Free (state_step x.thread (doing_at p) o.answer (removing_in h x.thread) n (state_in x.bound h n)))
      → Leaves h k x o
  by p q o = leaves_by h k x (doing_at p) (at p q) o

  -- a guard that is set, and a node that is marked
  guarded : (i v j : ℕ) → i < x.settings.hazards → guard_of (guarding i v x.own) j ≡ cond (eqb i j) v (guard_in h x.thread j)
  guarded i v j lt = get_d_set x.own.guards i j v 0 (omega arith) ∙ ap (cond (eqb i j) v) (w.guards j)

  marked_at : (m : ℕ) (z : NodeState) (n : ℕ) → m < length x.nodes → get_or (marked m z x.nodes) n Free ≡ cond (eqb m n) z (state_in x.bound h n)
  marked_at m z n lt = get_d_set x.nodes m n z Free lt ∙ ap (cond (eqb m n) z) (ns n)

  leaves_protect1 : (r i : ℕ) → x.own.point ≡ protect1 r i → Leaves h k x (after x (protect1 r i) k)
  leaves_protect1 r i q =
      leaves_either h k x (eqb (value_told k) 0) (stops x Empty) (stays x (protect2 r i (value_told k)) 2)
      (by (protect1 r i) q (stops x Empty) refl refl w.guards w.lists w.inside tt ns)
      (by (protect1 r i) q (stays x (protect2 r i (value_told k)) 2) refl refl w.guards w.lists w.inside tt ns)

  leaves_protect3 : (r i n : ℕ) → i < x.settings.hazards → x.own.point ≡ protect3 r i n → Leaves h k x (after x (protect3 r i n) k)
  leaves_protect3 r i n lt q =
      leaves_either h k x (eqb (value_told k) n) (ends x (guarding i n x.own) x.nodes (Ended n)) (stays x (protect4 r i) 4)
      (by (protect3 r i n) q (ends x (guarding i n x.own) x.nodes (Ended n)) refl refl (λ j. guarded i n j lt) w.lists w.inside tt ns)
      (by (protect3 r i n) q (stays x (protect4 r i) 4) refl refl w.guards w.lists w.inside tt ns)

  leaves_publish1 : (r m : ℕ) → m ≤ x.settings.nodes → x.own.point ≡ publish1 r m → Leaves h k x (after x (publish1 r m) k)
  leaves_publish1 r m le q =
      leaves_either h k x (done_told k) (ends x x.own (marked m (Published r) x.nodes) (Ended m)) (ends x x.own (marked m Free x.nodes) (Occupied m))
      (by (publish1 r m) q (ends x x.own (marked m (Published r) x.nodes) (Ended m)) refl refl w.guards w.lists w.inside tt (λ n. marked_at m (Published r) n (omega arith)))
      (by (publish1 r m) q (ends x x.own (marked m Free x.nodes) (Occupied m)) refl refl w.guards w.lists w.inside tt (λ n. marked_at m Free n (omega arith)))

  leaves_remove1 : (r : ℕ) → x.own.point ≡ remove1 r → Leaves h k x (after x (remove1 r) k)
  leaves_remove1 r q =
      leaves_either h k x (eqb (value_told k) 0) (stops x Empty) (stays x (remove2 r (value_told k)) 2)
      (by (remove1 r) q (stops x Empty) refl refl w.guards w.lists w.inside tt ns)
      (by (remove1 r) q (stays x (remove2 r (value_told k)) 2) refl refl w.guards w.lists w.inside (removing_then h x.thread (GoingOn 2) k (doing_at (remove1 r)) (at (remove1 r) q) refl) ns)

  leaves_remove2 : (r m : ℕ) → x.own.point ≡ remove2 r m → (done_told k ≡ true → m < length x.nodes) → Leaves h k x (after x (remove2 r m) k)
  leaves_remove2 r m q inside = go (done_told k) refl
    where
      found : removing_in h x.thread ≡ m
      found = rw q at w.known

      go : (c : Bool) → done_told k ≡ c → Leaves h k x (cond c (goes_on x x.own (marked m (Removed x.thread) x.nodes) (remove3 r m) 3) (stops x Moved))
      go true e =
          by (remove2 r m) q (goes_on x x.own (marked m (Removed x.thread) x.nodes) (remove3 r m) 3) refl refl w.guards w.lists w.inside
          (removing_then h x.thread (GoingOn 3) k (doing_at (remove2 r m)) (at (remove2 r m) q) refl ∙ found)
          (λ n. rw found (marked_at m (Removed x.thread) n (inside e)))
      go false e = by (remove2 r m) q (stops x Moved) refl refl w.guards w.lists w.inside tt ns

  leaves_remove3 : (r m : ℕ) → m ≤ x.settings.nodes → x.own.point ≡ remove3 r m → Leaves h k x (after x (remove3 r m) k)
  leaves_remove3 r m le q =
      by (remove3 r m) q (after x (remove3 r m) k) refl refl w.guards (ap (λ (l : List Retired). l ++ record { node = m; date = clock_told k } ∷ []) w.lists) w.inside tt
      (λ n. marked_at m (RetiredBy x.thread) n (omega arith))

  leaves_reclaim1 : x.own.point ≡ reclaim1 → Leaves h k x (after x reclaim1 k)
  leaves_reclaim1 q =
      by reclaim1 q (after x reclaim1 k) refl refl w.guards w.lists w.inside
      (clock_then h x.thread (GoingOn 2) k (doing_at reclaim1) (at reclaim1 q) refl, loaded_then h x.thread (GoingOn 2) k (doing_at reclaim1) (at reclaim1 q) refl)
      ns

  leaves_reclaim2 : (now : ℕ) (seen : List ℕ) → x.own.point ≡ reclaim2 now seen → Leaves h k x (after x (reclaim2 now seen) k)
  leaves_reclaim2 now seen q =
      leaves_either h k x (ltb (length seen + 1) (hazard_cells x.settings)) (stays x (reclaim2 now (seen ++ value_told k ∷ [])) 2) (stays x (reclaim3 now (seen ++ value_told k ∷ [])) 3)
      (by (reclaim2 now seen) q (stays x (reclaim2 now (seen ++ value_told k ∷ [])) 2) refl refl w.guards w.lists w.inside (more (GoingOn 2) refl) ns)
      (by (reclaim2 now seen) q (stays x (reclaim3 now (seen ++ value_told k ∷ [])) 3) refl refl w.guards w.lists w.inside (more (GoingOn 3) refl) ns)
    where
      known : (sweep_clock_in h x.thread ≡ now) × (loaded_in h x.thread ≡ seen)
      known = rw q at w.known

      more : (a : Answer) → accepted a ≡ true → (sweep_clock_in (event (Step x.thread) a k ∷ h) x.thread ≡ now) × (loaded_in (event (Step x.thread) a k ∷ h) x.thread ≡ seen ++ value_told k ∷ [])
      more a ok = (
        clock_then h x.thread a k (doing_at (reclaim2 now seen)) (at (reclaim2 now seen) q) ok ∙ known.0,
        loaded_then h x.thread a k (doing_at (reclaim2 now seen)) (at (reclaim2 now seen) q) ok ∙ ap (λ (l : List ℕ). l ++ value_told k ∷ []) known.1,
      )

  leaves_reclaim3 : (now : ℕ) (seen : List ℕ) → x.own.point ≡ reclaim3 now seen → Leaves h k x (after x (reclaim3 now seen) k)
  leaves_reclaim3 now seen q =
      by (reclaim3 now seen) q (after x (reclaim3 now seen) k) refl refl w.guards
      (rw (known.0, known.1, ← w.lists) refl)
      w.inside tt
      (λ n. rw (known.0, known.1, ← w.lists, ← ns n) (freeing_at (freed x.bound now seen x.own.retired) x.nodes n))
    where
      known : (sweep_clock_in h x.thread ≡ now) × (loaded_in h x.thread ≡ seen)
      known = rw q at w.known

  leaves_owner_lock2 : x.own.point ≡ owner_lock2 → Leaves h k x (after x owner_lock2 k)
  leaves_owner_lock2 q =
      leaves_either h k x (lowered (value_told k)) (ends x (entering x.own) x.nodes (Ended 0)) (stays x (owner_lock3 (version_of (value_told k))) 3)
      (by owner_lock2 q (ends x (entering x.own) x.nodes (Ended 0)) refl refl w.guards w.lists refl tt ns)
      (by owner_lock2 q (stays x (owner_lock3 (version_of (value_told k))) 3) refl refl w.guards w.lists w.inside tt ns)

  leaves_owner_lock4 : x.own.point ≡ owner_lock4 → Leaves h k x (after x owner_lock4 k)
  leaves_owner_lock4 q =
      leaves_either h k x (done_told k) (ends x (entering x.own) x.nodes (Ended 1)) (stays x owner_lock5 5)
      (by owner_lock4 q (ends x (entering x.own) x.nodes (Ended 1)) refl refl w.guards w.lists refl tt ns)
      (by owner_lock4 q (stays x owner_lock5 5) refl refl w.guards w.lists w.inside tt ns)

  leaves_owner_unlock1 : x.own.point ≡ owner_unlock1 → Leaves h k x (after x owner_unlock1 k)
  leaves_owner_unlock1 q =
      leaves_either h k x (lowered (value_told k)) (stays x owner_unlock3 3) (stays x owner_unlock2 2)
      (by owner_unlock1 q (stays x owner_unlock3 3) refl refl w.guards w.lists w.inside tt ns)
      (by owner_unlock1 q (stays x owner_unlock2 2) refl refl w.guards w.lists w.inside tt ns)

  leaves_other_lock1 : x.own.point ≡ other_lock1 → Leaves h k x (after x other_lock1 k)
  leaves_other_lock1 q =
      leaves_either h k x (done_told k) (stays x other_lock2 2) (stays x other_lock1 1)
      (by other_lock1 q (stays x other_lock2 2) refl refl w.guards w.lists w.inside tt ns)
      (by other_lock1 q (stays x other_lock1 1) refl refl w.guards w.lists w.inside tt ns)

  leaves_other_lock6 : (v note : ℕ) → x.own.point ≡ (other_lock6 v note) → Leaves h k x (after x (other_lock6 v note) k)
  leaves_other_lock6 v note q =
      leaves_either h k x (waited x.bound note (clock_told k)) (stays x (other_lock8 v) 8) (stays x (other_lock7 v note) 7)
      (by (other_lock6 v note) q (stays x (other_lock8 v) 8) refl refl w.guards w.lists w.inside tt ns)
      (by (other_lock6 v note) q (stays x (other_lock7 v note) 7) refl refl w.guards w.lists w.inside tt ns)

  leaves_other_lock7 : (v note : ℕ) → x.own.point ≡ (other_lock7 v note) → Leaves h k x (after x (other_lock7 v note) k)
  leaves_other_lock7 v note q =
      leaves_either h k x (eqb (version_of (value_told k)) v) (stays x (other_lock8 v) 8) (stays x (other_lock6 v note) 6)
      (by (other_lock7 v note) q (stays x (other_lock8 v) 8) refl refl w.guards w.lists w.inside tt ns)
      (by (other_lock7 v note) q (stays x (other_lock6 v note) 6) refl refl w.guards w.lists w.inside tt ns)

  leaves_other_lock8 : (v : ℕ) → x.own.point ≡ (other_lock8 v) → Leaves h k x (after x (other_lock8 v) k)
  leaves_other_lock8 v q =
      leaves_either h k x (lowered (value_told k)) (ends x (entering x.own) x.nodes (Ended 0)) (stays x (other_lock8 v) 8)
      (by (other_lock8 v) q (ends x (entering x.own) x.nodes (Ended 0)) refl refl w.guards w.lists refl tt ns)
      (by (other_lock8 v) q (stays x (other_lock8 v) 8) refl refl w.guards w.lists w.inside tt ns)

  -- what a step leaves is what the history says; a remove that was done had found a node that there is
  pub step_leaves : (p : Point) → x.own.point ≡ p → FitsAt x.settings p → ((r m : ℕ) → p ≡ remove2 r m → done_told k ≡ true → m < length x.nodes) → Leaves h k x (after x p k)
  step_leaves idle q f g = by idle q (after x idle k) refl refl w.guards w.lists w.inside tt ns
  step_leaves (protect1 r i) q f g = leaves_protect1 r i q
  step_leaves (protect2 r i n) q f g = by (protect2 r i n) q (after x (protect2 r i n) k) refl refl w.guards w.lists w.inside tt ns
  step_leaves (protect3 r i n) q f g = leaves_protect3 r i n f.1 q
  step_leaves (protect4 r i) q f g = by (protect4 r i) q (after x (protect4 r i) k) refl refl w.guards w.lists w.inside tt ns
  step_leaves (copy1 a b) q f g = by (copy1 a b) q (after x (copy1 a b) k) refl refl (λ j. guarded b (guard_of x.own a) j f.1) w.lists w.inside tt ns
  step_leaves (release1 a) q f g = by (release1 a) q (after x (release1 a) k) refl refl (λ j. guarded a _ j f) w.lists w.inside tt ns
  step_leaves (publish1 r m) q f g = leaves_publish1 r m f.2 q
  step_leaves (remove1 r) q f g = leaves_remove1 r q
  step_leaves (remove2 r m) q f g = leaves_remove2 r m q (g r m refl)
  step_leaves (remove3 r m) q f g = leaves_remove3 r m f.2 q
  step_leaves reclaim1 q f g = leaves_reclaim1 q
  step_leaves (reclaim2 now seen) q f g = leaves_reclaim2 now seen q
  step_leaves (reclaim3 now seen) q f g = leaves_reclaim3 now seen q
  step_leaves owner_lock1 q f g = by owner_lock1 q (after x owner_lock1 k) refl refl w.guards w.lists w.inside tt ns
  step_leaves owner_lock2 q f g = leaves_owner_lock2 q
  step_leaves (owner_lock3 v) q f g = by (owner_lock3 v) q (after x (owner_lock3 v) k) refl refl w.guards w.lists w.inside tt ns
  step_leaves owner_lock4 q f g = leaves_owner_lock4 q
  step_leaves owner_lock5 q f g = by owner_lock5 q (after x owner_lock5 k) refl refl w.guards w.lists w.inside tt ns
  step_leaves owner_unlock1 q f g = leaves_owner_unlock1 q
  step_leaves owner_unlock2 q f g = by owner_unlock2 q (after x owner_unlock2 k) refl refl w.guards w.lists refl tt ns
  step_leaves owner_unlock3 q f g = by owner_unlock3 q (after x owner_unlock3 k) refl refl w.guards w.lists refl tt ns
  step_leaves owner_unlock4 q f g = by owner_unlock4 q (after x owner_unlock4 k) refl refl w.guards w.lists w.inside tt ns
  step_leaves other_lock1 q f g = leaves_other_lock1 q
  step_leaves other_lock2 q f g = by other_lock2 q (after x other_lock2 k) refl refl w.guards w.lists w.inside tt ns
  step_leaves (other_lock3 v) q f g = by (other_lock3 v) q (after x (other_lock3 v) k) refl refl w.guards w.lists w.inside tt ns
  step_leaves (other_lock4 v) q f g = by (other_lock4 v) q (after x (other_lock4 v) k) refl refl w.guards w.lists w.inside tt ns
  step_leaves (other_lock5 v) q f g = by (other_lock5 v) q (after x (other_lock5 v) k) refl refl w.guards w.lists w.inside tt ns
  step_leaves (other_lock6 v note) q f g = leaves_other_lock6 v note q
  step_leaves (other_lock7 v note) q f g = leaves_other_lock7 v note q
  step_leaves (other_lock8 v) q f g = leaves_other_lock8 v q
  step_leaves other_unlock1 q f g = by other_unlock1 q (after x other_unlock1 k) refl refl w.guards w.lists w.inside tt ns
  step_leaves (other_unlock2 v) q f g = by (other_unlock2 v) q (after x (other_unlock2 v) k) refl refl w.guards w.lists refl tt ns
  step_leaves other_unlock3 q f g = by other_unlock3 q (after x other_unlock3 k) refl refl w.guards w.lists w.inside tt ns
