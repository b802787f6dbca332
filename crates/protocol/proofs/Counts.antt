-- A node was retired as often as it was freed, and once more while it is retired. Assumes nothing.
use Rattle.std.proofs.Common.{◌≡◌, ℕ, ◌+◌, ◌<◌, ◌≤◌, Bool, true, false, cond, ◌&&◌, eqb, ltb, ◌≢◌, ◌⊎◌, List, [], ◌∷◌, Some, sym, refl, ap, ◌∙◌, inl, inr, arith}
use Rattle.std.proofs.lemmas.Bool.{cases_eq, cases_lt, lt-ltb, eq-eqb, ne_eqb, and_right}
use Rattle.memory.specs.Meaning.{Meaning}
use Rattle.protocol.specs.declared.answer.Answer.{Answer}
use Rattle.protocol.specs.declared.answer.Answer.TheVariants.{Done, Ended, Refused}
use Rattle.protocol.specs.declared.answer.Refusal.{Refusal}
use Rattle.protocol.specs.declared.call.Call.{Call}
use Rattle.protocol.specs.declared.call.Call.TheVariants.{SetUp, Tick, Land, Begin, Step}
use Rattle.protocol.specs.declared.node.NodeState.{NodeState}
use Rattle.protocol.specs.declared.node.NodeState.TheVariants.{Free, Taken, Published, Removed, Retired as RetiredBy}
use Rattle.protocol.specs.declared.operation.Operation.{Operation}
use Rattle.protocol.specs.declared.operation.Operation.TheVariants.{Protect, Copy, Release, Publish, Remove, Reclaim, OwnerLock, OwnerUnlock, OtherLock, OtherUnlock}
use Rattle.protocol.specs.declared.retired.Retired.{Retired}
use Rattle.protocol.specs.Begin.{named, ready}
use Rattle.protocol.specs.Guarantees.{is_retired, retired_in}
use Rattle.protocol.specs.History.{Event, accepted, going_on, was_occupied, doing_in, is_reclaim, publishing, is_remove, sweep_clock_in, loaded_in, removing_in, list_in, names, freed_by, retired_by, times_freed, times_retired, state_step, taken_by, state_after, state_in}
use Rattle.protocol.specs.Steps.{Told, done_told, request, after, keeps, kept, freed}
use Rattle.protocol.specs.Tables.{doing_at, Tables, State, thread_of, Point, idle, protect1, protect2, protect3, protect4, copy1, release1, publish1, remove1, remove2, remove3, reclaim1, reclaim2, reclaim3, owner_lock1, owner_lock2, owner_lock3, owner_lock4, owner_lock5, owner_unlock1, owner_unlock2, owner_unlock3, owner_unlock4, other_lock1, other_lock2, other_lock3, other_lock4, other_lock5, other_lock6, other_lock7, other_lock8, other_unlock1, other_unlock2, other_unlock3}
use Rattle.protocol.specs.Transition.{Meets, Trans, refuses, sets_up, ticks, lands, begins, steps, here, begin_asks}
use Rattle.protocol.proofs.Passed.{rest_passed, begin_passed}
use Rattle.protocol.proofs.Placed.{Placed, Inv}
use Rattle.protocol.proofs.PlacedKeeps.{free_is}
use Rattle.protocol.proofs.PlacedNodes.{names_parts}
use Rattle.protocol.proofs.Roots.{remove_was, remove_done}
use Rattle.protocol.proofs.Shown.{Shown}

abbrev pub CountsAgree : ℕ → List Event → ℕ → Type 0
CountsAgree b h n = times_retired h n ≡ times_freed b h n + cond (is_retired (state_in b h n)) 1 0

-- What a list names.
-- a sweep keeps and frees what the list names
pub names_swept : (n b now : ℕ) (seen : List ℕ) (l : List Retired) → names n (kept b now seen l) + names n (freed b now seen l) ≡ names n l
names_swept n b now seen l = names_parts (keeps b now seen) n l

-- One event: what it retires and frees of the node, against what it does to the node's state.
abbrev pub Balances : ℕ → Call → Answer → List Event → ℕ → Type 0
Balances b c a h n =
    cond (eqb (retired_by c a h) n) 1 0 + cond (is_retired (state_in b h n)) 1 0
    ≡ names n (freed_by b c a h) + cond (is_retired (state_after b c a h n (state_in b h n))) 1 0

pub balances_counts : (b : ℕ) (h : List Event) (e : Event) (n : ℕ) → Balances b e.call e.answer h n → CountsAgree b h n → CountsAgree b (e ∷ h) n
balances_counts b h e n w k = omega arith

quiet_balances : (b : ℕ) (c : Call) (a : Answer) (h : List Event) (n : ℕ) → 0 < n → retired_by c a h ≡ 0 → freed_by b c a h ≡ []
    → is_retired (state_after b c a h n (state_in b h n)) ≡ is_retired (state_in b h n) → Balances b c a h n
quiet_balances b c a h n real r f s = rw (r, f, s, ne_eqb 0 n (λ e. omega arith)) refl

pub refused_balances : (b : ℕ) (c : Call) (e : Refusal) (h : List Event) (n : ℕ) → 0 < n → Balances b c (Refused e) h n
refused_balances b (SetUp z) e h n real = quiet_balances b (SetUp z) (Refused e) h n real refl refl refl
refused_balances b Tick e h n real = quiet_balances b Tick (Refused e) h n real refl refl refl
refused_balances b (Land u) e h n real = quiet_balances b (Land u) (Refused e) h n real refl refl refl
refused_balances b (Begin u o x y) e h n real = quiet_balances b (Begin u o x y) (Refused e) h n real refl refl refl
refused_balances b (Step u) e h n real = quiet_balances b (Step u) (Refused e) h n real refl refl refl

-- a node that moves from one state that is not retired (or not free) to another is retired (or free) no more and no less
pub moved_same : (f : NodeState → Bool) (m n : ℕ) (y : Bool) (to was : NodeState) → f to ≡ false → (y ≡ true → m ≡ n → f was ≡ false) → f (cond (y && eqb m n) to was) ≡ f was
moved_same f m n false to was e h = refl
moved_same f m n true to was e h = at (cases_eq m n)
  where
    at : (m ≡ n) ⊎ (m ≢ n) → f (cond (eqb m n) to was) ≡ f was
    at (inl i) = rw (eq-eqb m n i, e, h refl i) refl
    at (inr ne) = rw (ne_eqb m n ne) refl

-- Begin: a publish takes a free node.
begun_same : (b : ℕ) (h : List Event) (x : Tables) → Shown b h x → (t n : ℕ) (p : Operation) → ready x (thread_of x t) p ≡ true → is_retired (taken_by t (Some p) n (state_in b h n)) ≡ is_retired (state_in b h n)
begun_same b h x shown t n (Protect r i) e = refl
begun_same b h x shown t n (Copy i j) e = refl
begun_same b h x shown t n (Release i) e = refl
begun_same b h x shown t n (Publish r m) e =
    moved_same is_retired m n true (Taken t) (state_in b h n) refl (λ _ f. ap is_retired (free_is (state_in b h n) (rw (f, shown.shows.nodes n) at e)))
begun_same b h x shown t n (Remove r) e = refl
begun_same b h x shown t n Reclaim e = refl
begun_same b h x shown t n OwnerLock e = refl
begun_same b h x shown t n OwnerUnlock e = refl
begun_same b h x shown t n OtherLock e = refl
begun_same b h x shown t n OtherUnlock e = refl

-- Steps, by what they do to the nodes.
pub record Calm (p : Point) : Type 0 where
  pub no_remove : is_remove 3 (doing_at p) ≡ false
  pub no_reclaim : is_reclaim 3 (doing_at p) ≡ false
  pub no_publish : (n : ℕ) → publishing n (doing_at p) ≡ false
  pub same : (t : ℕ) (a : Answer) (found n : ℕ) (was : NodeState) → state_step t (doing_at p) a found n was ≡ was

pub data NodeCase (p : Point) : Type 0 where
  publishes : {root m : ℕ} → p ≡ publish1 root m → NodeCase p
  removes : {root m : ℕ} → p ≡ remove2 root m → NodeCase p
  retires : {root m : ℕ} → p ≡ remove3 root m → NodeCase p
  frees : {now : ℕ} {seen : List ℕ} → p ≡ reclaim3 now seen → NodeCase p
  calm : Calm p → NodeCase p

pub node_case : (p : Point) → NodeCase p
node_case idle = calm (record { no_remove = refl; no_reclaim = refl; no_publish = λ n. refl; same = λ t a found n was. refl })
node_case (protect1 r h) = calm (record { no_remove = refl; no_reclaim = refl; no_publish = λ n. refl; same = λ t a found n was. refl })
node_case (protect2 r h n) = calm (record { no_remove = refl; no_reclaim = refl; no_publish = λ n. refl; same = λ t a found n was. refl })
node_case (protect3 r h n) = calm (record { no_remove = refl; no_reclaim = refl; no_publish = λ n. refl; same = λ t a found n was. refl })
node_case (protect4 r h) = calm (record { no_remove = refl; no_reclaim = refl; no_publish = λ n. refl; same = λ t a found n was. refl })
node_case (copy1 a b) = calm (record { no_remove = refl; no_reclaim = refl; no_publish = λ n. refl; same = λ t a found n was. refl })
node_case (release1 a) = calm (record { no_remove = refl; no_reclaim = refl; no_publish = λ n. refl; same = λ t a found n was. refl })
node_case (publish1 r n) = publishes refl
node_case (remove1 r) = calm (record { no_remove = refl; no_reclaim = refl; no_publish = λ n. refl; same = λ t a found n was. refl })
node_case (remove2 r n) = removes refl
node_case (remove3 r n) = retires refl
node_case reclaim1 = calm (record { no_remove = refl; no_reclaim = refl; no_publish = λ n. refl; same = λ t a found n was. refl })
node_case (reclaim2 now seen) = calm (record { no_remove = refl; no_reclaim = refl; no_publish = λ n. refl; same = λ t a found n was. refl })
node_case (reclaim3 now seen) = frees refl
node_case owner_lock1 = calm (record { no_remove = refl; no_reclaim = refl; no_publish = λ n. refl; same = λ t a found n was. refl })
node_case owner_lock2 = calm (record { no_remove = refl; no_reclaim = refl; no_publish = λ n. refl; same = λ t a found n was. refl })
node_case (owner_lock3 v) = calm (record { no_remove = refl; no_reclaim = refl; no_publish = λ n. refl; same = λ t a found n was. refl })
node_case owner_lock4 = calm (record { no_remove = refl; no_reclaim = refl; no_publish = λ n. refl; same = λ t a found n was. refl })
node_case owner_lock5 = calm (record { no_remove = refl; no_reclaim = refl; no_publish = λ n. refl; same = λ t a found n was. refl })
node_case owner_unlock1 = calm (record { no_remove = refl; no_reclaim = refl; no_publish = λ n. refl; same = λ t a found n was. refl })
node_case owner_unlock2 = calm (record { no_remove = refl; no_reclaim = refl; no_publish = λ n. refl; same = λ t a found n was. refl })
node_case owner_unlock3 = calm (record { no_remove = refl; no_reclaim = refl; no_publish = λ n. refl; same = λ t a found n was. refl })
node_case owner_unlock4 = calm (record { no_remove = refl; no_reclaim = refl; no_publish = λ n. refl; same = λ t a found n was. refl })
node_case other_lock1 = calm (record { no_remove = refl; no_reclaim = refl; no_publish = λ n. refl; same = λ t a found n was. refl })
node_case other_lock2 = calm (record { no_remove = refl; no_reclaim = refl; no_publish = λ n. refl; same = λ t a found n was. refl })
node_case (other_lock3 v) = calm (record { no_remove = refl; no_reclaim = refl; no_publish = λ n. refl; same = λ t a found n was. refl })
node_case (other_lock4 v) = calm (record { no_remove = refl; no_reclaim = refl; no_publish = λ n. refl; same = λ t a found n was. refl })
node_case (other_lock5 v) = calm (record { no_remove = refl; no_reclaim = refl; no_publish = λ n. refl; same = λ t a found n was. refl })
node_case (other_lock6 v note) = calm (record { no_remove = refl; no_reclaim = refl; no_publish = λ n. refl; same = λ t a found n was. refl })
node_case (other_lock7 v note) = calm (record { no_remove = refl; no_reclaim = refl; no_publish = λ n. refl; same = λ t a found n was. refl })
node_case (other_lock8 v) = calm (record { no_remove = refl; no_reclaim = refl; no_publish = λ n. refl; same = λ t a found n was. refl })
node_case other_unlock1 = calm (record { no_remove = refl; no_reclaim = refl; no_publish = λ n. refl; same = λ t a found n was. refl })
node_case (other_unlock2 v) = calm (record { no_remove = refl; no_reclaim = refl; no_publish = λ n. refl; same = λ t a found n was. refl })
node_case other_unlock3 = calm (record { no_remove = refl; no_reclaim = refl; no_publish = λ n. refl; same = λ t a found n was. refl })

-- what the thread at a point is doing
pub doing_at_lem : (b : ℕ) (h : List Event) (x : Tables) → Shown b h x → (t : ℕ) (q : Point) → (thread_of x t).point ≡ q → doing_in h t ≡ doing_at q
doing_at_lem b h x shown t q e = sym (shown.shows.doing t) ∙ ap (λ (y : Point). doing_at y) e

module _ (b : ℕ) (h : List Event) (x : Tables) (m : Meaning) (p : Placed x m) (shown : Shown b h x) (t n : ℕ) (real : 0 < n) where
  -- a step that retires and frees nothing
  unlisted : (a : Answer) → is_remove 3 (doing_in h t) ≡ false → is_reclaim 3 (doing_in h t) ≡ false
      → is_retired (state_step t (doing_in h t) a (removing_in h t) n (state_in b h n)) ≡ is_retired (state_in b h n) → Balances b (Step t) a h n
  unlisted a f g e =
      let none : freed_by b (Step t) a h ≡ [] = rw (g, and_right (accepted a) false refl) refl in
      quiet_balances b (Step t) a h n real (rw (f, and_right (accepted a) false refl) refl) none (state none (accepted a) refl)
    where
      state : freed_by b (Step t) a h ≡ [] → (d : Bool) → accepted a ≡ d → is_retired (state_after b (Step t) a h n (state_in b h n)) ≡ is_retired (state_in b h n)
      state none true y = rw (none, y) e
      state none false y = rw y refl

  calm_balances : (a : Answer) (q : Point) → (thread_of x t).point ≡ q → Calm q → Balances b (Step t) a h n
  calm_balances a q e c =
      let d = doing_at_lem b h x shown t q e in
      unlisted a (rw d c.no_remove) (rw d c.no_reclaim) (rw (d, c.same t a (removing_in h t) n (state_in b h n)) refl)

  publish_balances : (a : Answer) (r k : ℕ) → (thread_of x t).point ≡ publish1 r k → Balances b (Step t) a h n
  publish_balances a r k e =
      let d = doing_at_lem b h x shown t (publish1 r k) e in
      unlisted a (rw d refl) (rw d refl) (rw d (moved_same is_retired k n true (cond (was_occupied a) Free (Published r)) (state_in b h n) (to (was_occupied a)) (λ _ f. was f)))
    where
      to : (y : Bool) → is_retired (cond y Free (Published r)) ≡ false
      to true = refl
      to false = refl

      was : k ≡ n → is_retired (state_in b h n) ≡ false
      was f = rw (sym (shown.shows.nodes n), sym f, p.taking t r k e) refl

  remove_balances : (a : Answer) (r k : ℕ) (m' : Meaning) (told : Told) → (thread_of x t).point ≡ remove2 r k → Meets t (request (here x m t) (remove2 r k)) m m' told → a ≡ (after (here x m t) (remove2 r k) told).answer → Balances b (Step t) a h n
  remove_balances a r k m' told e w ans =
      let d = doing_at_lem b h x shown t (remove2 r k) e in
      let found : removing_in h t ≡ k = rw e at (shown.known t) in
      unlisted a (rw d refl) (rw d refl) (rw (d, found) (moved_same is_retired k n (going_on a) (Removed t) (state_in b h n) refl was))
    where
      was : going_on a ≡ true → k ≡ n → is_retired (state_in b h n) ≡ false
      was g f =
          let done : done_told told ≡ true = sym (remove_done (here x m t) r k (done_told told)) ∙ sym (ap going_on ans) ∙ g in
          rw (sym (shown.shows.nodes n), sym f, remove_was x m m' t r k told p (rw e at (p.shape.fits t)) w done) refl

  retire_balances : (a : Answer) (r k : ℕ) → (thread_of x t).point ≡ remove3 r k → a ≡ Ended k → Balances b (Step t) a h n
  retire_balances a r k e ans =
      let d = doing_at_lem b h x shown t (remove3 r k) e in
      rw (ans, d) (at (cases_eq k n))
    where
      at : (k ≡ n) ⊎ (k ≢ n) → cond (eqb k n) 1 0 + cond (is_retired (state_in b h n)) 1 0 ≡ 0 + cond (is_retired (cond (eqb k n) (RetiredBy t) (state_in b h n))) 1 0
      at (inl f) = rw (eq-eqb k n f, sym (shown.shows.nodes n), sym f, p.removing t r k e) refl
      at (inr ne) = rw (ne_eqb k n ne) refl

  free_balances : (a : Answer) (now : ℕ) (seen : List ℕ) → (thread_of x t).point ≡ reclaim3 now seen → accepted a ≡ true → Balances b (Step t) a h n
  free_balances a now seen e acc =
      let d = doing_at_lem b h x shown t (reclaim3 now seen) e in
      rw (acc, d) (at (cases_lt 0 (names n out)))
    where
      out : List Retired
      out = freed b (sweep_clock_in h t) (loaded_in h t) (list_in b h t)

      few : names n out ≤ cond (retired_in (state_in b h n) t) 1 0
      few =
          let k = names_swept n b (sweep_clock_in h t) (loaded_in h t) (list_in b h t) in
          let l : names n (list_in b h t) ≡ cond (retired_in (state_in b h n) t) 1 0 = rw (sym (shown.shows.lists t), sym (shown.shows.nodes n)) (p.listed n t real) in
          omega arith

      was : (z : NodeState) → names n out ≤ cond (retired_in z t) 1 0 → 0 < names n out → (names n out ≡ 1) × (is_retired z ≡ true)
      was Free f g = absurd (omega arith)
      was (Taken u) f g = absurd (omega arith)
      was (Published r) f g = absurd (omega arith)
      was (Removed u) f g = absurd (omega arith)
      was (RetiredBy u) f g = (once (eqb u t) f, refl)
        where
          once : (y : Bool) → names n out ≤ cond y 1 0 → names n out ≡ 1
          once true k = omega arith
          once false k = absurd (omega arith)

      at : (0 < names n out) ⊎ (names n out ≤ 0)
          → cond (eqb 0 n) 1 0 + cond (is_retired (state_in b h n)) 1 0 ≡ names n out + cond (is_retired (cond (ltb 0 (names n out)) Free (state_in b h n))) 1 0
      at (inl g) = let w = was (state_in b h n) few g in rw (lt-ltb 0 (names n out) g, w.0, w.1, ne_eqb 0 n (λ f. omega arith)) refl
      at (inr g) =
          let z : names n out ≡ 0 = omega arith in
          rw (z, ne_eqb 0 n (λ f. omega arith)) refl

  pub step_balances : (a : Answer) (m' : Meaning) (told : Told) → Meets t (request (here x m t) (thread_of x t).point) m m' told → a ≡ (after (here x m t) (thread_of x t).point told).answer → Balances b (Step t) a h n
  step_balances a m' told w ans = go (node_case (thread_of x t).point)
    where
      go : NodeCase (thread_of x t).point → Balances b (Step t) a h n
      go (publishes {root} {m} e) = publish_balances a root m e
      go (removes {root} {m} e) = remove_balances a root m m' told e (rw e at w) (rw e at ans)
      go (retires {root} {m} e) = retire_balances a root m e (rw e at ans)
      go (frees {now} {seen} e) = free_balances a now seen e (rw (rw e at ans) refl)
      go (calm c) = calm_balances a (thread_of x t).point refl c

-- every accepted or refused call balances
pub balances : (b : ℕ) (h : List Event) (s s' : State) {c : Call} {a : Answer} {k : Told} (n : ℕ) → 0 < n → Inv s → ((x : Tables) → s.tables ≡ Some x → Shown b h x) → Trans s s' c a k → Balances b c a h n
balances b h s s' n real i shown (refuses {c} {e} f g) = refused_balances b c e h n real
balances b h s s' n real i shown (sets_up {z} f g j) = quiet_balances b (SetUp z) Done h n real refl refl refl
balances b h s s' n real i shown (ticks e f w) = quiet_balances b Tick Done h n real refl refl refl
balances b h s s' n real i shown (lands {t} e f w) = quiet_balances b (Land t) Done h n real refl refl refl
balances b h s s' n real i shown (begins {t} {o} {a = i₀} {b = j₀} {p} {x} e f g w) =
    quiet_balances b (Begin t o i₀ j₀) Done h n real refl refl (rw f (begun_same b h x (shown x e) t n p (begin_passed t p x (rw f at (rest_passed s.tables (begin_asks t (named o i₀ j₀)) x e g))).ready))
balances b h s s' n real i shown (steps {t} {x} {a} {k} e f w) = step_balances b h x s.memory (i.placed x e) (shown x e) t n real a s'.memory k w.memory w.answer

-- every call keeps the counts
pub counts_keep : (b : ℕ) (h : List Event) (s s' : State) (e : Event) (n : ℕ) → 0 < n → Inv s → ((x : Tables) → s.tables ≡ Some x → Shown b h x) → Trans s s' e.call e.answer e.told → CountsAgree b h n → CountsAgree b (e ∷ h) n
counts_keep b h s s' e n real i shown w k = balances_counts b h e n (balances b h s s' n real i shown w) k
