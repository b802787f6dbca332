-- The thread that the state of a taken or removed node names is at work on it. Assumes nothing.
use Rattle.std.proofs.Common.{◌≡◌, ℕ, ◌+◌, ◌<◌, ◌≤◌, true, ◌&&◌, eqb, ltb, leb, ◌≢◌, ◌⊎◌, List, [], ◌∷◌, ◌++◌, length, get_or, set, Some, sym, refl, ap, ◌∙◌, inl, inr, arith}
use Rattle.std.proofs.lemmas.List.{get_or-set_same, get_or-set_other}
use Rattle.std.proofs.lemmas.Bool.{cases_eq, and_parts, leb-true, cond_both}
use Rattle.memory.specs.Meaning.{Meaning}
use Rattle.protocol.specs.declared.node.NodeState.{NodeState}
use Rattle.protocol.specs.declared.node.NodeState.TheVariants.{Free, Taken, Published, Removed, Retired as RetiredBy}
use Rattle.protocol.specs.declared.operation.Operation.{Operation}
use Rattle.protocol.specs.declared.operation.Operation.TheVariants.{Protect, Copy, Release, Publish, Remove, Reclaim, OwnerLock, OwnerUnlock, OtherLock, OtherUnlock}
use Rattle.protocol.specs.declared.retired.Retired.{Retired}
use Rattle.protocol.specs.Begin.{fits, takes, start_of}
use Rattle.protocol.specs.Guarantees.{Explains}
use Rattle.protocol.specs.History.{Event, names}
use Rattle.protocol.specs.Settings.{hazard_cells}
use Rattle.protocol.specs.Steps.{Told, clock_told, value_told, done_told, Outcome, moved_to, freed, lowered, version_of, waited, request, after}
use Rattle.protocol.specs.Tables.{Thread, Tables, State, thread_of, node_of, idle_thread, Point, idle, protect1, protect2, protect3, protect4, copy1, release1, publish1, remove1, remove2, remove3, reclaim1, reclaim2, reclaim3, owner_lock1, owner_lock2, owner_lock3, owner_lock4, owner_lock5, owner_unlock1, owner_unlock2, owner_unlock3, owner_unlock4, other_lock1, other_lock2, other_lock3, other_lock4, other_lock5, other_lock6, other_lock7, other_lock8, other_unlock1, other_unlock2, other_unlock3}
use Rattle.protocol.specs.Transition.{Meets, here}
use Rattle.protocol.proofs.FirstState.{same_all}
use Rattle.protocol.proofs.Invariants.{FirstHolds, Kept, calls_keep, always}
use Rattle.protocol.proofs.LockPaths.{idle_is}
use Rattle.protocol.proofs.Placed.{FitsAt, Placed}
use Rattle.protocol.proofs.PlacedMoves.{plain_at, plain_publish, plain_remove}
use Rattle.protocol.proofs.PlacedNodes.{in_range_lem, at_same, at_other, freeing_at}
use Rattle.protocol.proofs.PlacedRows.{changed}
use Rattle.protocol.proofs.Roots.{remove_was}

-- a taken node is in a publish of its thread, and a removed one at the last step of a remove
pub record AtWork (x : Tables) (m : Meaning) : Type 0 where
  pub taken : (t n : ℕ) → node_of x n ≡ Taken t → (r : ℕ) × ((thread_of x t).point ≡ publish1 r n)
  pub removed : (t n : ℕ) → node_of x n ≡ Removed t → (r : ℕ) × ((thread_of x t).point ≡ remove3 r n)

-- no thread is at work on the node
pub record NoThread (z : NodeState) : Type 0 where
  pub taken : (u : ℕ) → z ≡ Taken u → ⊥
  pub removed : (u : ℕ) → z ≡ Removed u → ⊥

no_thread_free : NoThread Free
no_thread_free = record { taken = λ u e. absurd cc; removed = λ u e. absurd cc }

no_thread_published : (r : ℕ) → NoThread (Published r)
no_thread_published r = record { taken = λ u e. absurd cc; removed = λ u e. absurd cc }

no_thread_retired : (t : ℕ) → NoThread (RetiredBy t)
no_thread_retired t = record { taken = λ u e. absurd cc; removed = λ u e. absurd cc }

-- where a node goes when thread t goes to the point q: it stays with another thread or with none, or t has it there, or no thread does
pub data Goes (t : ℕ) (q : Point) (n : ℕ) (was z : NodeState) : Type 0 where
  stays : z ≡ was → (was ≡ Taken t → ⊥) → (was ≡ Removed t → ⊥) → Goes t q n was z
  publishing : (r : ℕ) → z ≡ Taken t → q ≡ publish1 r n → Goes t q n was z
  removing : (r : ℕ) → z ≡ Removed t → q ≡ remove3 r n → Goes t q n was z
  no_thread : NoThread z → Goes t q n was z

work_moves : (x : Tables) (m m' : Meaning) (t : ℕ) (row : Thread) (ns : List NodeState) → t < length x.threads → AtWork x m
    → ((n : ℕ) → Goes t row.point n (node_of x n) (get_or ns n Free)) → AtWork (changed x t row ns) m'
work_moves x m m' t row ns lt w goes = record { taken = λ u n e. taken u n e (goes n) (cases_eq u t); removed = λ u n e. removed u n e (goes n) (cases_eq u t) }
  where
    own : (u : ℕ) → u ≡ t → get_or (set x.threads t row) u (idle_thread 0) ≡ row
    own u e = rw e (get_or-set_same x.threads t row (idle_thread 0) lt)

    other : (u : ℕ) → u ≢ t → get_or (set x.threads t row) u (idle_thread 0) ≡ thread_of x u
    other u ne = get_or-set_other x.threads t u row (idle_thread 0) ne

    taken : (u n : ℕ) → get_or ns n Free ≡ Taken u → Goes t row.point n (node_of x n) (get_or ns n Free) → (u ≡ t) ⊎ (u ≢ t)
        → (r : ℕ) × ((get_or (set x.threads t row) u (idle_thread 0)).point ≡ publish1 r n)
    taken u n e (stays f clash _) (inl same) = absurd (clash (sym f ∙ e ∙ ap Taken same))
    taken u n e (stays f clash _) (inr ne) = let k = w.taken u n (sym f ∙ e) in (k.0, rw (other u ne) k.1)
    taken u n e (publishing r f g) (inl same) = (r, rw (own u same) g)
    taken u n e (publishing r f g) (inr ne) = absurd (ne (cc))
    taken u n e (removing r f g) _ = absurd cc
    taken u n e (no_thread l) _ = absurd (l.taken u e)

    removed : (u n : ℕ) → get_or ns n Free ≡ Removed u → Goes t row.point n (node_of x n) (get_or ns n Free) → (u ≡ t) ⊎ (u ≢ t)
        → (r : ℕ) × ((get_or (set x.threads t row) u (idle_thread 0)).point ≡ remove3 r n)
    removed u n e (stays f _ clash) (inl same) = absurd (clash (sym f ∙ e ∙ ap Removed same))
    removed u n e (stays f _ clash) (inr ne) = let k = w.removed u n (sym f ∙ e) in (k.0, rw (other u ne) k.1)
    removed u n e (publishing r f g) _ = absurd cc
    removed u n e (removing r f g) (inl same) = (r, rw (own u same) g)
    removed u n e (removing r f g) (inr ne) = absurd (ne (cc))
    removed u n e (no_thread l) _ = absurd (l.removed u e)

-- One thread at a point.
module _ (x : Tables) (m : Meaning) (t : ℕ) (lt : t < x.settings.threads) (p : Placed x m) (w : AtWork x m) (q : Point) (at : (thread_of x t).point ≡ q) where
  -- it is at work on the node of its point alone
  not_taken : (n : ℕ) → ((r : ℕ) → q ≡ publish1 r n → ⊥) → node_of x n ≡ Taken t → ⊥
  not_taken n clash e = let k = w.taken t n e in clash k.0 (sym at ∙ k.1)

  not_removed : (n : ℕ) → ((r : ℕ) → q ≡ remove3 r n → ⊥) → node_of x n ≡ Removed t → ⊥
  not_removed n clash e = let k = w.removed t n e in clash k.0 (sym at ∙ k.1)

  -- from a point without a node, the nodes stay
  plain_stays : plain_at q ≡ true → (q' : Point) (n : ℕ) → Goes t q' n (node_of x n) (node_of x n)
  plain_stays plain q' n = stays refl (not_taken n (λ r. plain_publish q r n plain)) (not_removed n (λ r. plain_remove q r n plain))

  -- or one of them is marked
  mark_goes : (k : ℕ) (z : NodeState) (q' : Point) → k < length x.nodes → Goes t q' k (node_of x k) z → ((n r : ℕ) → n ≢ k → q ≡ publish1 r n → ⊥) → ((n r : ℕ) → n ≢ k → q ≡ remove3 r n → ⊥)
      → (n : ℕ) → Goes t q' n (node_of x n) (get_or (set x.nodes k z) n Free)
  mark_goes k z q' lk g a b n = elim (cases_eq n k) [
    | inl e ↦ rw (e, at_same x.nodes k z lk) g
    | inr ne ↦ rw (at_other x.nodes k z lk n ne) (stays refl (not_taken n (λ r. a n r ne)) (not_removed n (λ r. b n r ne)))
  ]

  plain_marks : (k : ℕ) (z : NodeState) (q' : Point) → plain_at q ≡ true → k < length x.nodes → Goes t q' k (node_of x k) z → (n : ℕ) → Goes t q' n (node_of x n) (get_or (set x.nodes k z) n Free)
  plain_marks k z q' plain lk g = mark_goes k z q' lk g (λ n r ne. plain_publish q r n plain) (λ n r ne. plain_remove q r n plain)

-- Begins.

begin_goes : (x : Tables) (m : Meaning) (t : ℕ) → t < x.settings.threads → Placed x m → AtWork x m → (thread_of x t).point ≡ idle → (o : Operation) → fits x.settings o ≡ true
    → (n : ℕ) → Goes t (start_of o) n (node_of x n) (get_or (takes t o x.nodes) n Free)
begin_goes x m t lt p w at (Protect r h) f = plain_stays x m t lt p w idle at refl (protect1 r h)
begin_goes x m t lt p w at (Copy i j) f = plain_stays x m t lt p w idle at refl (copy1 i j)
begin_goes x m t lt p w at (Release i) f = plain_stays x m t lt p w idle at refl (release1 i)
begin_goes x m t lt p w at (Publish r n) f =
    let a = and_parts (ltb r x.settings.roots) (leb 1 n && leb n x.settings.nodes) f in
    let le = leb-true n x.settings.nodes (and_parts (leb 1 n) (leb n x.settings.nodes) a.1).1 in
    plain_marks x m t lt p w idle at n (Taken t) (publish1 r n) refl (let e = p.shape.nodes in omega arith) (publishing r refl refl)
begin_goes x m t lt p w at (Remove r) f = plain_stays x m t lt p w idle at refl (remove1 r)
begin_goes x m t lt p w at Reclaim f = plain_stays x m t lt p w idle at refl reclaim1
begin_goes x m t lt p w at OwnerLock f = plain_stays x m t lt p w idle at refl owner_lock1
begin_goes x m t lt p w at OwnerUnlock f = plain_stays x m t lt p w idle at refl owner_unlock1
begin_goes x m t lt p w at OtherLock f = plain_stays x m t lt p w idle at refl other_lock1
begin_goes x m t lt p w at OtherUnlock f = plain_stays x m t lt p w idle at refl other_unlock1

-- Steps.

module _ (x : Tables) (m m' : Meaning) (t : ℕ) (k : Told) (lt : t < x.settings.threads) (p : Placed x m) (w : AtWork x m) where
  abbrev Good : Outcome → Type 0
  Good o = (n : ℕ) → Goes t o.own.point n (node_of x n) (get_or o.nodes n Free)

  on : (q : Point) → (thread_of x t).point ≡ q → plain_at q ≡ true → (q' : Point) (n : ℕ) → Goes t q' n (node_of x n) (node_of x n)
  on q e plain q' = plain_stays x m t lt p w q e plain q'

  inside : (n : ℕ) → n ≤ x.settings.nodes → n < length x.nodes
  inside n le = let e = p.shape.nodes in omega arith

  -- a publish, and the last step of a remove, let go of their node
  publish_ends : (r n : ℕ) (z : NodeState) → (thread_of x t).point ≡ publish1 r n → n ≤ x.settings.nodes → NoThread z → (i : ℕ) → Goes t idle i (node_of x i) (get_or (set x.nodes n z) i Free)
  publish_ends r n z e le l =
      mark_goes x m t lt p w (publish1 r n) e n z idle (inside n le) (no_thread l) (λ i j ne f. ne (cc)) (λ i j ne f. absurd cc)

  retire_ends : (r n : ℕ) → (thread_of x t).point ≡ remove3 r n → n ≤ x.settings.nodes → (i : ℕ) → Goes t idle i (node_of x i) (get_or (set x.nodes n (RetiredBy t)) i Free)
  retire_ends r n e le =
      mark_goes x m t lt p w (remove3 r n) e n (RetiredBy t) idle (inside n le) (no_thread (no_thread_retired t)) (λ i j ne f. absurd cc) (λ i j ne f. ne (cc))

  remove_goes : (r n : ℕ) → (thread_of x t).point ≡ remove2 r n → FitsAt x.settings (remove2 r n) → Meets t (request (here x m t) (remove2 r n)) m m' k → Good (after (here x m t) (remove2 r n) k)
  remove_goes r n e f met =
      cond_both (done_told k) _ _ Good
      (λ done.
      let was = remove_was x m m' t r n k p f met done in
      let ln = in_range_lem x.nodes n (λ g. absurd cc) in
      plain_marks x m t lt p w (remove2 r n) e n (Removed t) (remove3 r n) refl ln (removing r refl refl))
      (λ _. on (remove2 r n) e refl idle)

  sweep_goes : (now : ℕ) (seen : List ℕ) → (thread_of x t).point ≡ reclaim3 now seen → Good (after (here x m t) (reclaim3 now seen) k)
  sweep_goes now seen e n = rw (freeing_at gone x.nodes n) (cond_both (ltb 0 (names n gone)) _ _ (Goes t idle n (node_of x n)) (λ _. no_thread no_thread_free) (λ _. on (reclaim3 now seen) e refl idle n))
    where
      gone : List Retired
      gone = freed m.bound now seen (thread_of x t).retired

  step_goes : (q : Point) → (thread_of x t).point ≡ q → FitsAt x.settings q → Meets t (request (here x m t) q) m m' k → Good (after (here x m t) q k)
  step_goes idle e f met = on idle e refl idle
  step_goes (protect1 r h) e f met = cond_both (eqb (value_told k) 0) _ _ Good (λ _. on (protect1 r h) e refl idle) (λ _. on (protect1 r h) e refl (protect2 r h (value_told k)))
  step_goes (protect2 r h n) e f met = on (protect2 r h n) e refl (protect3 r h n)
  step_goes (protect3 r h n) e f met = cond_both (eqb (value_told k) n) _ _ Good (λ _. on (protect3 r h n) e refl idle) (λ _. on (protect3 r h n) e refl (protect4 r h))
  step_goes (protect4 r h) e f met = on (protect4 r h) e refl idle
  step_goes (copy1 i j) e f met = on (copy1 i j) e refl idle
  step_goes (release1 i) e f met = on (release1 i) e refl idle
  step_goes (publish1 r n) e f met = cond_both (done_told k) _ _ Good (λ _. publish_ends r n (Published r) e f.2 (no_thread_published r)) (λ _. publish_ends r n Free e f.2 no_thread_free)
  step_goes (remove1 r) e f met = cond_both (eqb (value_told k) 0) _ _ Good (λ _. on (remove1 r) e refl idle) (λ _. on (remove1 r) e refl (remove2 r (value_told k)))
  step_goes (remove2 r n) e f met = remove_goes r n e f met
  step_goes (remove3 r n) e f met = retire_ends r n e f.2
  step_goes reclaim1 e f met = on reclaim1 e refl (reclaim2 (clock_told k) [])
  step_goes (reclaim2 now seen) e f met =
      cond_both (ltb (length seen + 1) (hazard_cells x.settings)) _ _ Good (λ _. on (reclaim2 now seen) e refl (reclaim2 now (seen ++ value_told k ∷ []))) (λ _. on (reclaim2 now seen) e refl (reclaim3 now (seen ++ value_told k ∷ [])))
  step_goes (reclaim3 now seen) e f met = sweep_goes now seen e
  step_goes owner_lock1 e f met = on owner_lock1 e refl owner_lock2
  step_goes owner_lock2 e f met = cond_both (lowered (value_told k)) _ _ Good (λ _. on owner_lock2 e refl idle) (λ _. on owner_lock2 e refl (owner_lock3 (version_of (value_told k))))
  step_goes (owner_lock3 v) e f met = on (owner_lock3 v) e refl owner_lock4
  step_goes owner_lock4 e f met = cond_both (done_told k) _ _ Good (λ _. on owner_lock4 e refl idle) (λ _. on owner_lock4 e refl owner_lock5)
  step_goes owner_lock5 e f met = on owner_lock5 e refl (owner_lock3 (version_of (value_told k)))
  step_goes owner_unlock1 e f met = cond_both (lowered (value_told k)) _ _ Good (λ _. on owner_unlock1 e refl owner_unlock3) (λ _. on owner_unlock1 e refl owner_unlock2)
  step_goes owner_unlock2 e f met = on owner_unlock2 e refl idle
  step_goes owner_unlock3 e f met = on owner_unlock3 e refl owner_unlock4
  step_goes owner_unlock4 e f met = on owner_unlock4 e refl idle
  step_goes other_lock1 e f met = cond_both (done_told k) _ _ Good (λ _. on other_lock1 e refl other_lock2) (λ _. on other_lock1 e refl other_lock1)
  step_goes other_lock2 e f met = on other_lock2 e refl (other_lock3 (version_of (value_told k) + 1))
  step_goes (other_lock3 v) e f met = on (other_lock3 v) e refl (other_lock4 v)
  step_goes (other_lock4 v) e f met = on (other_lock4 v) e refl (other_lock5 v)
  step_goes (other_lock5 v) e f met = on (other_lock5 v) e refl (other_lock6 v (clock_told k))
  step_goes (other_lock6 v note) e f met = cond_both (waited m.bound note (clock_told k)) _ _ Good (λ _. on (other_lock6 v note) e refl (other_lock8 v)) (λ _. on (other_lock6 v note) e refl (other_lock7 v note))
  step_goes (other_lock7 v note) e f met = cond_both (eqb (version_of (value_told k)) v) _ _ Good (λ _. on (other_lock7 v note) e refl (other_lock8 v)) (λ _. on (other_lock7 v note) e refl (other_lock6 v note))
  step_goes (other_lock8 v) e f met = cond_both (lowered (value_told k)) _ _ Good (λ _. on (other_lock8 v) e refl idle) (λ _. on (other_lock8 v) e refl (other_lock8 v))
  step_goes other_unlock1 e f met = on other_unlock1 e refl (other_unlock2 (version_of (value_told k)))
  step_goes (other_unlock2 v) e f met = on (other_unlock2 v) e refl other_unlock3
  step_goes other_unlock3 e f met = on other_unlock3 e refl idle

-- Every history.

work_starts : FirstHolds AtWork
work_starts z m new sound range =
    record {
      taken = λ t n e. let f = same_all {A = NodeState} (z.nodes + 1) n Free in absurd cc;
      removed = λ t n e. let f = same_all {A = NodeState} (z.nodes + 1) n Free in absurd cc;
    }

work_kept : Kept AtWork
work_kept =
    record {
      ticks = λ x m m' p few w a. record { taken = a.taken; removed = a.removed };
      lands = λ x m m' t p few w a. record { taken = a.taken; removed = a.removed };
      begins = λ x m t o p few q a.
          work_moves x m m t (moved_to (start_of o) (thread_of x t)) (takes t o x.nodes) (rw p.shape.threads q.thread) a
          (begin_goes x m t q.thread p a (idle_is (thread_of x t).point q.idle) o q.fits);
      steps = λ x m m' t k p few q w a.
          let out = after (here x m t) (thread_of x t).point k in
          work_moves x m m' t out.own out.nodes (rw p.shape.threads q.thread) a (step_goes x m m' t k q.thread p a (thread_of x t).point refl (p.shape.fits t) w);
    }

pub explains_at_work : (h : List Event) (s : State) → Explains h s → (x : Tables) → s.tables ≡ Some x → AtWork x s.memory
explains_at_work = always AtWork work_starts (calls_keep AtWork work_kept)
