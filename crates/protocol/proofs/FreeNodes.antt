-- A node is free, by the history, exactly if its place is "free". Assumes nothing.
use Rattle.std.proofs.Common.{◌≡◌, ℕ, Bool, true, false, cond, ◌&&◌, ◌||◌, eqb, ltb, ◌≢◌, ◌⊎◌, List, [], ◌∷◌, Some, sym, refl, ap, ◌∙◌, subst, inl, inr}
use Rattle.std.proofs.lemmas.Bool.{cases_eq, eq-eqb, ne_eqb, and_right}
use Rattle.memory.specs.Meaning.{Meaning}
use Rattle.protocol.specs.declared.answer.Answer.{Answer}
use Rattle.protocol.specs.declared.answer.Answer.TheVariants.{Done, GoingOn, Ended, Empty, Moved, Occupied, Refused}
use Rattle.protocol.specs.declared.answer.Refusal.{Refusal}
use Rattle.protocol.specs.declared.call.Call.{Call}
use Rattle.protocol.specs.declared.call.Call.TheVariants.{SetUp, Tick, Land, Begin, Step}
use Rattle.protocol.specs.declared.node.NodeState.{NodeState}
use Rattle.protocol.specs.declared.node.NodeState.TheVariants.{Free, Taken, Published, Removed, Retired as RetiredBy}
use Rattle.protocol.specs.declared.operation.Operation.{Operation}
use Rattle.protocol.specs.declared.operation.Operation.TheVariants.{Protect, Copy, Release, Publish, Remove, Reclaim, OwnerLock, OwnerUnlock, OtherLock, OtherUnlock}
use Rattle.protocol.specs.Begin.{is_free}
use Rattle.protocol.specs.Guarantees.{Explains}
use Rattle.protocol.specs.History.{Event, accepted, going_on, was_occupied, doing_in, is_reclaim, removing_in, freed_by, state_step, taken_by, state_after, state_in, is_publish_of, publishing, free_after, free_in}
use Rattle.protocol.specs.Steps.{Told, done_told, request, after}
use Rattle.protocol.specs.Tables.{Point, Tables, State, thread_of, publish1, remove2, remove3, reclaim3}
use Rattle.protocol.specs.Transition.{Meets, Trans, refuses, sets_up, ticks, lands, begins, steps, here}
use Rattle.protocol.proofs.BoundStays.{bound_stays}
use Rattle.protocol.proofs.Counts.{Calm, NodeCase, node_case, publishes, removes, retires, frees, calm, moved_same, doing_at_lem}
use Rattle.protocol.proofs.Placed.{Placed, Inv}
use Rattle.protocol.proofs.Roots.{remove_was, remove_done}
use Rattle.protocol.proofs.Shown.{Shown}
use Rattle.protocol.proofs.ShownKeeps.{explains_reached}

-- one event: what it says of the node's freedom, against what it does to the node's place
abbrev Agrees : ℕ → Call → Answer → List Event → ℕ → Type 0
Agrees b c a h n = free_after b c a h n (is_free (state_in b h n)) ≡ is_free (state_after b c a h n (state_in b h n))

refused_agrees : (b : ℕ) (c : Call) (e : Refusal) (h : List Event) (n : ℕ) → Agrees b c (Refused e) h n
refused_agrees b (SetUp z) e h n = refl
refused_agrees b Tick e h n = refl
refused_agrees b (Land u) e h n = refl
refused_agrees b (Begin u o x y) e h n = refl
refused_agrees b (Step u) e h n = refl

begun_agrees : (t n : ℕ) (o : Operation) (was : NodeState) → cond (is_publish_of n o) false (is_free was) ≡ is_free (taken_by t (Some o) n was)
begun_agrees t n (Protect r i) was = refl
begun_agrees t n (Copy i j) was = refl
begun_agrees t n (Release i) was = refl
begun_agrees t n (Publish r m) was = at (eqb m n)
  where
    at : (y : Bool) → cond y false (is_free was) ≡ is_free (cond y (Taken t) was)
    at true = refl
    at false = refl
begun_agrees t n (Remove r) was = refl
begun_agrees t n Reclaim was = refl
begun_agrees t n OwnerLock was = refl
begun_agrees t n OwnerUnlock was = refl
begun_agrees t n OtherLock was = refl
begun_agrees t n OtherUnlock was = refl

occupied_accepted : (a : Answer) → accepted a ≡ false → was_occupied a ≡ false
occupied_accepted Done e = refl
occupied_accepted (GoingOn n) e = refl
occupied_accepted (Ended v) e = refl
occupied_accepted Empty e = refl
occupied_accepted Moved e = refl
occupied_accepted (Occupied n) e = cc
occupied_accepted (Refused r) e = refl

module _ (b : ℕ) (h : List Event) (x : Tables) (m : Meaning) (p : Placed x m) (shown : Shown b h x) (t n : ℕ) where
  -- a step that frees nothing by a sweep
  unswept : (a : Answer) → is_reclaim 3 (doing_in h t) ≡ false
      → cond (was_occupied a && publishing n (doing_in h t)) true (is_free (state_in b h n)) ≡ is_free (state_step t (doing_in h t) a (removing_in h t) n (state_in b h n)) → Agrees b (Step t) a h n
  unswept a g e = at (rw (g, and_right (accepted a) false refl) refl) (accepted a) refl
    where
      at : freed_by b (Step t) a h ≡ [] → (d : Bool) → accepted a ≡ d → Agrees b (Step t) a h n
      at none true y = rw (none, y) e
      at none false y = rw (none, y, occupied_accepted a y) refl

  calm_agrees : (a : Answer) (q : Point) → (thread_of x t).point ≡ q → Calm q → Agrees b (Step t) a h n
  calm_agrees a q e c =
      let d = doing_at_lem b h x shown t q e in
      unswept a (rw d c.no_reclaim) (rw (d, c.no_publish n, c.same t a (removing_in h t) n (state_in b h n), and_right (was_occupied a) false refl) refl)

  publish_agrees : (a : Answer) (r k : ℕ) → (thread_of x t).point ≡ publish1 r k → Agrees b (Step t) a h n
  publish_agrees a r k e = let d = doing_at_lem b h x shown t (publish1 r k) e in unswept a (rw d refl) (rw d (at (cases_eq k n)))
    where
      both : (y : Bool) → cond (y && true) true false ≡ is_free (cond y Free (Published r))
      both true = refl
      both false = refl

      at : (k ≡ n) ⊎ (k ≢ n) → cond (was_occupied a && eqb k n) true (is_free (state_in b h n)) ≡ is_free (cond (eqb k n) (cond (was_occupied a) Free (Published r)) (state_in b h n))
      at (inl f) = rw (eq-eqb k n f, sym (shown.shows.nodes n), sym f, p.taking t r k e) (both (was_occupied a))
      at (inr ne) = rw (ne_eqb k n ne, and_right (was_occupied a) false refl) refl

  remove_agrees : (a : Answer) (r k : ℕ) (m' : Meaning) (told : Told) → (thread_of x t).point ≡ remove2 r k → Meets t (request (here x m t) (remove2 r k)) m m' told → a ≡ (after (here x m t) (remove2 r k) told).answer → Agrees b (Step t) a h n
  remove_agrees a r k m' told e w ans =
      let d = doing_at_lem b h x shown t (remove2 r k) e in
      let found : removing_in h t ≡ k = rw e at (shown.known t) in
      unswept a (rw d refl) (rw (d, found, and_right (was_occupied a) false refl) (sym (moved_same is_free k n (going_on a) (Removed t) (state_in b h n) refl was)))
    where
      was : going_on a ≡ true → k ≡ n → is_free (state_in b h n) ≡ false
      was g f =
          let done : done_told told ≡ true = sym (remove_done (here x m t) r k (done_told told)) ∙ sym (ap going_on ans) ∙ g in
          rw (sym (shown.shows.nodes n), sym f, remove_was x m m' t r k told p (rw e at (p.shape.fits t)) w done) refl

  retire_agrees : (a : Answer) (r k : ℕ) → (thread_of x t).point ≡ remove3 r k → a ≡ Ended k → Agrees b (Step t) a h n
  retire_agrees a r k e ans =
      let d = doing_at_lem b h x shown t (remove3 r k) e in
      unswept a (rw d refl) (rw (d, ans) (sym (moved_same is_free k n true (RetiredBy t) (state_in b h n) refl (λ _ f. rw (sym (shown.shows.nodes n), sym f, p.removing t r k e) refl))))

  sweep_agrees : (a : Answer) (now : ℕ) (seen : List ℕ) → (thread_of x t).point ≡ reclaim3 now seen → accepted a ≡ true → Agrees b (Step t) a h n
  sweep_agrees a now seen e acc = let d = doing_at_lem b h x shown t (reclaim3 now seen) e in rw (acc, d, and_right (was_occupied a) false refl) (at (ltb 0 _))
    where
      at : (y : Bool) → cond (y || false) true (is_free (state_in b h n)) ≡ is_free (cond y Free (state_in b h n))
      at true = refl
      at false = refl

  step_agrees : (a : Answer) (m' : Meaning) (told : Told) → Meets t (request (here x m t) (thread_of x t).point) m m' told → a ≡ (after (here x m t) (thread_of x t).point told).answer → Agrees b (Step t) a h n
  step_agrees a m' told w ans = go (node_case (thread_of x t).point)
    where
      go : NodeCase (thread_of x t).point → Agrees b (Step t) a h n
      go (publishes {root} {m} e) = publish_agrees a root m e
      go (removes {root} {m} e) = remove_agrees a root m m' told e (rw e at w) (rw e at ans)
      go (retires {root} {m} e) = retire_agrees a root m e (rw e at ans)
      go (frees {now} {seen} e) = sweep_agrees a now seen e (rw (rw e at ans) refl)
      go (calm c) = calm_agrees a (thread_of x t).point refl c

agrees : (b : ℕ) (h : List Event) (s s' : State) {c : Call} {a : Answer} {k : Told} (n : ℕ) → Inv s → ((x : Tables) → s.tables ≡ Some x → Shown b h x) → Trans s s' c a k → Agrees b c a h n
agrees b h s s' n i shown (refuses {c} {e} f g) = refused_agrees b c e h n
agrees b h s s' n i shown (sets_up f g j) = refl
agrees b h s s' n i shown (ticks e f w) = refl
agrees b h s s' n i shown (lands e f w) = refl
agrees b h s s' n i shown (begins {t} {p = p} e f g w) = rw f (begun_agrees t n p (state_in b h n))
agrees b h s s' n i shown (steps {t} {x} {a} {k} e f w) = step_agrees b h x s.memory (i.placed x e) (shown x e) t n a s'.memory k w.memory w.answer

pub free_in_place : (h : List Event) (s : State) → Explains h s → (n : ℕ) → free_in s.memory.bound h n ≡ is_free (state_in s.memory.bound h n)
free_in_place [] s w n = refl
free_in_place (e ∷ h) s' (s, led, w) n =
    let was = explains_reached h s led in
    let b = s.memory.bound in
    subst (λ (b : ℕ). free_in b (e ∷ h) n ≡ is_free (state_in b (e ∷ h) n)) (sym (bound_stays s s' w))
    (ap (λ (y : Bool). free_after b e.call e.answer h n y) (free_in_place h s led n) ∙ agrees b h s s' n was.inv was.shown w)
