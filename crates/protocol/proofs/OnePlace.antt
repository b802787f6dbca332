-- Every node is in one place. Assumes nothing.
use Rattle.std.proofs.Common.{◌≡◌, ℕ, ◌<◌, ◌≤◌, true, false, cond, ◌⊎◌, List, [], ◌∷◌, Some, None, Option, sym, refl, ap, ◌∙◌, subst, inl, inr, arith}
use Rattle.std.proofs.lemmas.Bool.{cases_lt, lt-ltb, le-ltb, eq-eqb, both_ways}
use Rattle.memory.specs.Meaning.{Meaning, cell}
use Rattle.protocol.specs.declared.answer.Answer.TheVariants.{Ended}
use Rattle.protocol.specs.declared.node.NodeState.TheVariants.{Free, Taken, Published, Removed}
use Rattle.protocol.specs.declared.operation.Operation.TheVariants.{Publish, Remove}
use Rattle.protocol.specs.AllGuarantees.{HasItsThread, EveryNodeHasItsThread}
use Rattle.protocol.specs.Guarantees.{Explains, InOnePlace, retired_in, EveryNodeInOnePlace}
use Rattle.protocol.specs.Begin.{is_free}
use Rattle.protocol.specs.History.{Event, doing_in, is_remove, removing_in, list_in, names, state_step, state_in, free_in, root_in}
use Rattle.protocol.specs.Tables.{busy, doing_at, Tables, State, thread_of, node_of, Point, publish1, remove3, reclaim3}
use Rattle.protocol.proofs.AtWork.{AtWork, explains_at_work}
use Rattle.protocol.proofs.BoundStays.{bound_stays}
use Rattle.protocol.proofs.Counts.{CountsAgree, NodeCase, publishes, removes, retires, frees, calm, node_case, counts_keep}
use Rattle.protocol.proofs.FreeNodes.{free_in_place}
use Rattle.protocol.proofs.Placed.{Placed}
use Rattle.protocol.proofs.Roots.{root_or, RootsShown, roots_keep}
use Rattle.protocol.proofs.Shown.{Shown, Untouched}
use Rattle.protocol.proofs.ShownKeeps.{explains_reached}

-- The points of a publish and of the last step of a remove.
pub publish_point : (r n : ℕ) (q : Point) → doing_at q ≡ busy (Publish r n) 1 → q ≡ publish1 r n
publish_point r n q e = go (node_case q)
  where
    go : NodeCase q → q ≡ publish1 r n
    go (publishes {root} {m} f) = let d : busy (Publish root m) 1 ≡ busy (Publish r n) 1 = rw f at e in cc
    go (removes {root} {m} f) = let d : busy (Remove root) 2 ≡ busy (Publish r n) 1 = rw f at e in cc
    go (retires {root} {m} f) = let d : busy (Remove root) 3 ≡ busy (Publish r n) 1 = rw f at e in cc
    go (frees {now} {seen} f) = let d : doing_at (reclaim3 now seen) ≡ busy (Publish r n) 1 = rw f at e in cc
    go (calm c) =
        let d : state_step 0 (busy (Publish r n) 1) (Ended 0) 0 n Free ≡ Free = rw e at (c.same 0 (Ended 0) 0 n Free) in
        let f : Published r ≡ Free = rw (eq-eqb n n refl) at d in
        cc

pub record Removing (q : Point) : Type 0 where
  pub root : ℕ
  pub node : ℕ
  pub at : q ≡ remove3 root node

pub remove_point : (q : Point) → is_remove 3 (doing_at q) ≡ true → Removing q
remove_point q e = go (node_case q)
  where
    go : NodeCase q → Removing q
    go (publishes f) = absurd (both_ways false refl (rw f at e))
    go (removes f) = absurd (both_ways false refl (rw f at e))
    go (retires {root} {m} f) = record { root = root; node = m; at = f }
    go (frees f) = absurd (both_ways false refl (rw f at e))
    go (calm c) = absurd (both_ways (is_remove 3 (doing_at q)) c.no_remove e)

-- once the machine is set up
module _ (b : ℕ) (h : List Event) (x : Tables) (m : Meaning) (p : Placed x m) (shown : Shown b h x) (roots : (r : ℕ) → root_in h r ≡ root_or (Some x) m r) (n : ℕ) (real : 0 < n) where
  place_taken : (t r : ℕ) → doing_in h t ≡ busy (Publish r n) 1 → state_in b h n ≡ Taken t
  place_taken t r e = sym (shown.shows.nodes n) ∙ p.taking t r n (publish_point r n (thread_of x t).point (shown.shows.doing t ∙ e))

  place_published : (r : ℕ) → root_in h r ≡ n → state_in b h n ≡ Published r
  place_published r e = sym (shown.shows.nodes n) ∙ at (cases_lt r x.settings.roots)
    where
      at : (r < x.settings.roots) ⊎ (x.settings.roots ≤ r) → node_of x n ≡ Published r
      at (inl lt) =
          let c : root_in h r ≡ cell m r = rw (lt-ltb r x.settings.roots lt) at (roots r) in
          let d : cell m r ≡ n = sym c ∙ e in
          rw d at (p.rooted r lt (rw d real))
      at (inr le) =
          let c : root_in h r ≡ 0 = rw (le-ltb r x.settings.roots le) at (roots r) in
          absurd (omega arith)

  place_rooted : (r : ℕ) → state_in b h n ≡ Published r → root_in h r ≡ n
  place_rooted r e =
      let q = p.published n r (shown.shows.nodes n ∙ e) in
      let lt = lt-ltb r x.settings.roots q.0 in
      roots r ∙ rw lt q.1

  place_removed : (t : ℕ) → is_remove 3 (doing_in h t) ≡ true → removing_in h t ≡ n → state_in b h n ≡ Removed t
  place_removed t e f = go (remove_point (thread_of x t).point (rw (shown.shows.doing t) e))
    where
      go : Removing (thread_of x t).point → state_in b h n ≡ Removed t
      go q =
          let k : removing_in h t ≡ q.node = rw q.at at (shown.known t) in
          let same : q.node ≡ n = sym k ∙ f in
          sym (shown.shows.nodes n) ∙ rw same at (p.removing t q.root q.node q.at)

  place_listed : (t : ℕ) → names n (list_in b h t) ≡ cond (retired_in (state_in b h n) t) 1 0
  place_listed t = rw (sym (shown.shows.lists t), sym (shown.shows.nodes n)) (p.listed n t real)

  pub in_one_place : free_in b h n ≡ is_free (state_in b h n) → CountsAgree b h n → InOnePlace b h n
  in_one_place f k =
      record {
        free = f;
        taken = place_taken;
        published = place_published;
        rooted = place_rooted;
        removed = place_removed;
        listed = place_listed;
        counts = k;
      }

-- The other way round, from what the threads are at work on.
module _ (b : ℕ) (h : List Event) (x : Tables) (m : Meaning) (work : AtWork x m) (shown : Shown b h x) (n : ℕ) where
  place_taking : (t : ℕ) → state_in b h n ≡ Taken t → (r : ℕ) × (doing_in h t ≡ busy (Publish r n) 1)
  place_taking t e = let w = work.taken t n (shown.shows.nodes n ∙ e) in (w.0, sym (shown.shows.doing t) ∙ ap doing_at w.1)

  place_removing : (t : ℕ) → state_in b h n ≡ Removed t → (is_remove 3 (doing_in h t) ≡ true) × (removing_in h t ≡ n)
  place_removing t e =
      let w = work.removed t n (shown.shows.nodes n ∙ e) in
      (ap (is_remove 3) (sym (shown.shows.doing t) ∙ ap doing_at w.1), rw w.1 at (shown.known t))

  pub has_its_thread : HasItsThread b h n
  has_its_thread = record { taking = place_taking; removing = place_removing }

-- Before set-up everything is as at first.
unset_one_place : (b : ℕ) (h : List Event) → Untouched h → ((r : ℕ) → root_in h r ≡ 0) → (n : ℕ) → 0 < n → free_in b h n ≡ is_free (state_in b h n) → CountsAgree b h n → InOnePlace b h n
unset_one_place b h k roots n real f c =
    record {
      free = f;
      taken = λ t r e. let d = k.doing t in absurd cc;
      published = λ r e. let d = roots r in absurd (omega arith);
      rooted = λ r e. let d = k.nodes b n in absurd cc;
      removed = λ t e f. absurd (both_ways false refl (rw (k.doing t) at e));
      listed = λ t. rw (k.lists b t, k.nodes b n) refl;
      counts = c;
    }

unset_has_no_thread : (b : ℕ) (h : List Event) → Untouched h → (n : ℕ) → HasItsThread b h n
unset_has_no_thread b h k n =
    record {
      taking = λ t e. let d = k.nodes b n in absurd cc;
      removing = λ t e. let d = k.nodes b n in absurd cc;
    }

-- The theorems.

explains_roots : (h : List Event) (s : State) → Explains h s → RootsShown h s
explains_roots [] s w = λ r. rw w.0 refl
explains_roots (e ∷ h) s w =
    let was = explains_reached h w.0 w.1 in
    roots_keep w.0.memory.bound h w.0 s e was.inv was.shown w.2 (explains_roots h w.0 w.1)

explains_counts : (h : List Event) (s : State) → Explains h s → (n : ℕ) → 0 < n → CountsAgree s.memory.bound h n
explains_counts [] s w n real = refl
explains_counts (e ∷ h) s w n real =
    let was = explains_reached h w.0 w.1 in
    subst (λ (b : ℕ). CountsAgree b (e ∷ h) n) (sym (bound_stays w.0 s w.2))
    (counts_keep w.0.memory.bound h w.0 s e n real was.inv was.shown w.2 (explains_counts h w.0 w.1 n real))

pub every_node_in_one_place : EveryNodeInOnePlace
every_node_in_one_place h s w n real = go s.tables refl
  where
    go : (o : Option Tables) → s.tables ≡ o → InOnePlace s.memory.bound h n
    go None e = unset_one_place s.memory.bound h ((explains_reached h s w).before e) (λ r. rw e at (explains_roots h s w r)) n real (free_in_place h s w n) (explains_counts h s w n real)
    go (Some x) e =
        let now = explains_reached h s w in
        in_one_place s.memory.bound h x s.memory (now.inv.placed x e) (now.shown x e) (λ r. rw e at (explains_roots h s w r)) n real (free_in_place h s w n) (explains_counts h s w n real)

pub every_node_has_its_thread : EveryNodeHasItsThread
every_node_has_its_thread h s w n real = go s.tables refl
  where
    go : (o : Option Tables) → s.tables ≡ o → HasItsThread s.memory.bound h n
    go None e = unset_has_no_thread s.memory.bound h ((explains_reached h s w).before e) n
    go (Some x) e =
        let now = explains_reached h s w in
        has_its_thread s.memory.bound h x s.memory (explains_at_work h s w x e) (now.shown x e) n
