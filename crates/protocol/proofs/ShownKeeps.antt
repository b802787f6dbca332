-- Every call leaves tables that show the history with the call. Assumes nothing.
use Rattle.std.proofs.Common.{◌≡◌, ℕ, ◌+◌, ◌<◌, true, false, cond, ◌&&◌, eqb, ltb, leb, ◌≢◌, ◌⊎◌, List, [], ◌∷◌, length, get_or, set, Some, None, Option, sym, refl, ap, ◌∙◌, subst, inl, inr, arith}
use Rattle.std.proofs.lemmas.List.{get_or-set_same, get_or-set_other}
use Rattle.std.proofs.lemmas.Bool.{cases_eq, ne_eqb, leb-true, and_parts}
use Rattle.memory.specs.Meaning.{Meaning}
use Rattle.protocol.specs.declared.answer.Answer.{Answer}
use Rattle.protocol.specs.declared.answer.Answer.TheVariants.{Done, Refused}
use Rattle.protocol.specs.declared.answer.Refusal.{Refusal}
use Rattle.protocol.specs.declared.call.Call.{Call}
use Rattle.protocol.specs.declared.call.Call.TheVariants.{SetUp, Tick, Land, Begin, Step}
use Rattle.protocol.specs.declared.node.NodeState.{NodeState}
use Rattle.protocol.specs.declared.node.NodeState.TheVariants.{Free, Taken}
use Rattle.protocol.specs.declared.operation.Operation.{Operation}
use Rattle.protocol.specs.declared.operation.Operation.TheVariants.{Protect, Copy, Release, Publish, Remove, Reclaim, OwnerLock, OwnerUnlock, OtherLock, OtherUnlock}
use Rattle.protocol.specs.declared.settings.Settings.{Settings}
use Rattle.protocol.specs.Begin.{named, fits, takes, start_of, begun}
use Rattle.protocol.specs.Guarantees.{Explains, TablesShowTheHistory}
use Rattle.protocol.specs.History.{Event, event, taken_by, state_in, settings_in}
use Rattle.protocol.specs.Steps.{Told, done_told, Outcome, moved_to, request, after}
use Rattle.protocol.specs.Tables.{Thread, Tables, State, remove2, idle_thread, thread_of, node_of, first_tables}
use Rattle.protocol.specs.Transition.{Trans, refuses, sets_up, ticks, lands, begins, steps, begin_asks, step_asks, Meets, here, counted, stepped}
use Rattle.protocol.proofs.BoundStays.{bound_stays}
use Rattle.protocol.proofs.FirstState.{replicated, same_all}
use Rattle.protocol.proofs.Passed.{rest_passed, set_up_passed, begin_passed, step_passed}
use Rattle.protocol.proofs.Placed.{FitsAt, Shaped, Placed, Inv}
use Rattle.protocol.proofs.PlacedKeeps.{keeps}
use Rattle.protocol.proofs.PlacedNodes.{in_range_lem}
use Rattle.protocol.proofs.Refusals.{refused_doing, refused_guard, refused_inside, refused_list, refused_state, refused_settings}
use Rattle.protocol.proofs.Roots.{remove_was}
use Rattle.protocol.proofs.Shown.{Shown, Untouched}
use Rattle.protocol.proofs.StepRows.{get_d_set, Leaves, step_leaves}
use Rattle.protocol.proofs.ThreadRows.{Row, SameFor, row_same, same_refused, same_set_up, same_tick, same_land, same_begin, same_step, row_begins}

-- What is shown, thread by thread.

pub row_of : (b : ℕ) (h : List Event) (x : Tables) → Shown b h x → (t : ℕ) → Row b h t (thread_of x t)
row_of b h x s t = record { doing = s.shows.doing t; guards = s.shows.guards t; lists = s.shows.lists t; inside = s.shows.inside t; known = s.known t }

pub from_rows : (b : ℕ) (h : List Event) (x : Tables) → ((t : ℕ) → Row b h t (thread_of x t)) → ((n : ℕ) → node_of x n ≡ state_in b h n) → Some x.settings ≡ settings_in h → Shown b h x
from_rows b h x rows nodes settings =
    record {
      shows = record { doing = λ t. (rows t).doing; guards = λ t. (rows t).guards; lists = λ t. (rows t).lists; inside = λ t. (rows t).inside; nodes = nodes; settings = settings };
      known = λ t. (rows t).known;
    }

-- the row of one thread is set, and the history says the same of the others
rows_set : (b : ℕ) (h h' : List Event) (ps : List Thread) (u : ℕ) (r : Thread) → u < length ps → ((t : ℕ) → Row b h t (get_or ps t (idle_thread 0)))
    → ((t : ℕ) → eqb u t ≡ false → SameFor h h' t) → Row b h' u r → (t : ℕ) → Row b h' t (get_or (set ps u r) t (idle_thread 0))
rows_set b h h' ps u r lt rows others own t = at (cases_eq t u)
  where
    at : (t ≡ u) ⊎ (t ≢ u) → Row b h' t (get_or (set ps u r) t (idle_thread 0))
    at (inl e) = rw (e, get_or-set_same ps u r (idle_thread 0) lt) own
    at (inr ne) = rw (get_or-set_other ps u t r (idle_thread 0) ne) (row_same b h h' t (get_or ps t (idle_thread 0)) (others t (ne_eqb u t (λ e. ne (sym e)))) (rows t))

-- Refusals, ticks and landings.

shown_refused : (b : ℕ) (h : List Event) (x : Tables) (c : Call) (e : Refusal) (k : Told) → Shown b h x → Shown b (event c (Refused e) k ∷ h) x
shown_refused b h x c e k s =
    from_rows b (event c (Refused e) k ∷ h) x
    (λ t. row_same b h (event c (Refused e) k ∷ h) t (thread_of x t) (same_refused h c e k t) (row_of b h x s t))
    (λ n. s.shows.nodes n ∙ sym (refused_state h c e k b n))
    (s.shows.settings ∙ sym (refused_settings h c e k))

shown_tick : (b : ℕ) (h : List Event) (x : Tables) (k : Told) → Shown b h x → Shown b (event Tick Done k ∷ h) (counted x)
shown_tick b h x k s =
    from_rows b (event Tick Done k ∷ h) (counted x) (λ t. row_same b h (event Tick Done k ∷ h) t (thread_of x t) (same_tick h Done k t) (row_of b h x s t)) s.shows.nodes s.shows.settings

shown_land : (b : ℕ) (h : List Event) (x : Tables) (u : ℕ) (k : Told) → Shown b h x → Shown b (event (Land u) Done k ∷ h) (counted x)
shown_land b h x u k s =
    from_rows b (event (Land u) Done k ∷ h) (counted x) (λ t. row_same b h (event (Land u) Done k ∷ h) t (thread_of x t) (same_land h u Done k t) (row_of b h x s t)) s.shows.nodes s.shows.settings

-- Set-up.

idle_row : (b : ℕ) (h : List Event) (t hazards : ℕ) → Untouched h → Row b h t (idle_thread hazards)
idle_row b h t hazards v =
    record {
      doing = sym (v.doing t);
      guards = λ i. same_all hazards i 0 ∙ sym (v.guards t i);
      lists = sym (v.lists b t);
      inside = sym (v.inside t);
      known = tt;
    }

shown_set_up : (b : ℕ) (h : List Event) (z : Settings) (k : Told) → Untouched h → Shown b (event (SetUp z) Done k ∷ h) (first_tables z)
shown_set_up b h z k v =
    from_rows b (event (SetUp z) Done k ∷ h) (first_tables z)
    (λ t. row_same b h (event (SetUp z) Done k ∷ h) t (thread_of (first_tables z) t) (same_set_up h z Done k t)
    (replicated (Row b h t) z.threads t (idle_thread z.hazards) (idle_thread 0) (idle_row b h t z.hazards v) (idle_row b h t 0 v)))
    (λ n. same_all (z.nodes + 1) n Free ∙ sym (v.nodes b n))
    refl

-- Begins.

takes_at : (s : Settings) (u : ℕ) (p : Operation) (ns : List NodeState) (n : ℕ) (was : NodeState) → fits s p ≡ true → length ns ≡ s.nodes + 1 → get_or ns n Free ≡ was → get_or (takes u p ns) n Free ≡ taken_by u (Some p) n was
takes_at s u (Protect r i) ns n was f l e = e
takes_at s u (Copy x y) ns n was f l e = e
takes_at s u (Release i) ns n was f l e = e
takes_at s u (Publish r m) ns n was f l e =
    let g = and_parts (ltb r s.roots) (leb 1 m && leb m s.nodes) f in
    let le = leb-true m s.nodes (and_parts (leb 1 m) (leb m s.nodes) g.1).1 in
    get_d_set ns m n (Taken u) Free (omega arith) ∙ ap (cond (eqb m n) (Taken u)) e
takes_at s u (Remove r) ns n was f l e = e
takes_at s u Reclaim ns n was f l e = e
takes_at s u OwnerLock ns n was f l e = e
takes_at s u OwnerUnlock ns n was f l e = e
takes_at s u OtherLock ns n was f l e = e
takes_at s u OtherUnlock ns n was f l e = e

shown_begin : (b : ℕ) (h : List Event) (x : Tables) (u o y z : ℕ) (k : Told) (p : Operation) → named o y z ≡ Some p → Shaped x → u < x.settings.threads → fits x.settings p ≡ true
    → Shown b h x → Shown b (event (Begin u o y z) Done k ∷ h) (counted (begun x u p))
shown_begin b h x u o y z k p e shape lt f s =
    from_rows b (event (Begin u o y z) Done k ∷ h) (counted (begun x u p))
    (rows_set b h (event (Begin u o y z) Done k ∷ h) x.threads u (moved_to (start_of p) (thread_of x u)) (rw shape.threads lt) (row_of b h x s)
    (λ t ne. same_begin h u o y z Done k t ne)
    (row_begins b h u o y z k p (thread_of x u) e (row_of b h x s u)))
    (λ n. rw e (takes_at x.settings u p x.nodes n (state_in b h n) f shape.nodes (s.shows.nodes n)))
    s.shows.settings

-- Steps.

-- a remove that was done had found a node that there is
found_inside : (x : Tables) (m m' : Meaning) (u r n : ℕ) (k : Told) → Placed x m → FitsAt x.settings (remove2 r n) → Meets u (request (here x m u) (remove2 r n)) m m' k → done_told k ≡ true → n < length x.nodes
found_inside x m m' u r n k p f w e = in_range_lem x.nodes n (λ g. let h = remove_was x m m' u r n k p f w e in absurd cc)

shown_step : (h : List Event) (x : Tables) (m m' : Meaning) (u : ℕ) (k : Told) → Placed x m → u < x.settings.threads → Meets u (request (here x m u) (thread_of x u).point) m m' k
    → Shown m.bound h x → Shown m.bound (event (Step u) (after (here x m u) (thread_of x u).point k).answer k ∷ h) (counted (stepped x u (after (here x m u) (thread_of x u).point k)))
shown_step h x m m' u k p lt met s =
    from_rows m.bound (event (Step u) out.answer k ∷ h) (counted (stepped x u out))
    (rows_set m.bound h (event (Step u) out.answer k ∷ h) x.threads u out.own (rw p.shape.threads lt) (row_of m.bound h x s) (λ t ne. same_step h u out.answer k t ne) left.row)
    left.nodes
    s.shows.settings
  where
    out : Outcome
    out = after (here x m u) (thread_of x u).point k

    left : Leaves h k (here x m u) out
    left =
        step_leaves h k (here x m u) (row_of m.bound h x s u) s.shows.nodes (p.shape.guards u lt) p.shape.nodes (thread_of x u).point refl (p.shape.fits u)
        (λ r n e. found_inside x m m' u r n k p (rw e at (p.shape.fits u)) (rw e at met))

-- Every call.

same_tables : (o : Option Tables) (x y : Tables) → o ≡ Some x → o ≡ Some y → x ≡ y
same_tables o x y e f = cc

shown_after : (h : List Event) (s s' : State) {c : Call} {a : Answer} {k : Told} → Inv s → Trans s s' c a k → ((x : Tables) → s.tables ≡ Some x → Shown s.memory.bound h x) → (s.tables ≡ None → Untouched h)
    → (x' : Tables) → s'.tables ≡ Some x' → Shown s.memory.bound (event c a k ∷ h) x'
shown_after h s s' {c} {a} {k} i (refuses {e = e} fails same) shown none x' f = shown_refused s.memory.bound h x' c e k (shown x' (rw same at f))
shown_after h s s' {c} {a} {k} i (sets_up {z} passes memory tables) shown none x' f =
    subst (Shown s.memory.bound (event (SetUp z) Done k ∷ h)) (same_tables s'.tables (first_tables z) x' tables f) (shown_set_up s.memory.bound h z k (none (set_up_passed z s passes).first))
shown_after h s s' {c} {a} {k} i (ticks {x} is passes does) shown none x' f =
    subst (Shown s.memory.bound (event Tick Done k ∷ h)) (same_tables s'.tables (counted x) x' does.tables f) (shown_tick s.memory.bound h x k (shown x is))
shown_after h s s' {c} {a} {k} i (lands {t} {x} is passes does) shown none x' f =
    subst (Shown s.memory.bound (event (Land t) Done k ∷ h)) (same_tables s'.tables (counted x) x' does.tables f) (shown_land s.memory.bound h x t k (shown x is))
shown_after h s s' {c} {a} {k} i (begins {t} {o} {a = y} {b = z} {p} {x} is name passes does) shown none x' f =
    let q = begin_passed t p x (rw name at (rest_passed s.tables (begin_asks t (named o y z)) x is passes)) in
    subst (Shown s.memory.bound (event (Begin t o y z) Done k ∷ h)) (same_tables s'.tables (counted (begun x t p)) x' does.tables f)
    (shown_begin s.memory.bound h x t o y z k p name (i.placed x is).shape q.thread q.fits (shown x is))
shown_after h s s' {c} {a} {k} i (steps {t} {x} is passes does) shown none x' f =
    rw does.answer
    (subst (Shown s.memory.bound (event (Step t) (after (here x s.memory t) (thread_of x t).point k).answer k ∷ h)) (same_tables s'.tables (counted (stepped x t (after (here x s.memory t) (thread_of x t).point k))) x' does.tables f)
    (shown_step h x s.memory s'.memory t k (i.placed x is) (step_passed t s.memory x (rest_passed s.tables (step_asks t s.memory) x is passes)).thread does.memory (shown x is)))

pub shown_keeps : (b : ℕ) (h : List Event) (s s' : State) (e : Event) → s.memory.bound ≡ b → Inv s → Trans s s' e.call e.answer e.told → ((x : Tables) → s.tables ≡ Some x → Shown b h x) → (s.tables ≡ None → Untouched h)
    → (x' : Tables) → s'.tables ≡ Some x' → Shown b (e ∷ h) x'
shown_keeps b h s s' e q i t =
    subst (λ (z : ℕ). ((x : Tables) → s.tables ≡ Some x → Shown z h x) → (s.tables ≡ None → Untouched h) → (x' : Tables) → s'.tables ≡ Some x' → Shown z (e ∷ h) x') q (shown_after h s s' i t)

-- Before set-up.

pub untouched_start : Untouched []
untouched_start = record { doing = λ t. refl; guards = λ t i. refl; lists = λ b t. refl; inside = λ t. refl; nodes = λ b n. refl; settings = refl }

pub untouched_refused : (h : List Event) (c : Call) (e : Refusal) (k : Told) → Untouched h → Untouched (event c (Refused e) k ∷ h)
untouched_refused h c e k v =
    record {
      doing = λ t. refused_doing h c e k t ∙ v.doing t;
      guards = λ t i. refused_guard h c e k t i ∙ v.guards t i;
      lists = λ b t. refused_list h c e k b t ∙ v.lists b t;
      inside = λ t. refused_inside h c e k t ∙ v.inside t;
      nodes = λ b n. refused_state h c e k b n ∙ v.nodes b n;
      settings = refused_settings h c e k ∙ v.settings;
    }

some_none : (o : Option Tables) (x : Tables) → o ≡ Some x → o ≡ None → ⊥
some_none o x e f = absurd cc

untouched : (h : List Event) (s s' : State) {c : Call} {a : Answer} {k : Told} → Trans s s' c a k → s.tables ≡ None → s'.tables ≡ None → Untouched h → Untouched (event c a k ∷ h)
untouched h s s' {c} {a} {k} (refuses {e = e} fails same) f g v = untouched_refused h c e k v
untouched h s s' (sets_up {z} passes memory tables) f g v = absurd (some_none s'.tables (first_tables z) tables g)
untouched h s s' (ticks {x} is passes does) f g v = absurd (some_none s.tables x is f)
untouched h s s' (lands {x = x} is passes does) f g v = absurd (some_none s.tables x is f)
untouched h s s' (begins {x = x} is name passes does) f g v = absurd (some_none s.tables x is f)
untouched h s s' (steps {x = x} is passes does) f g v = absurd (some_none s.tables x is f)

pub untouched_keeps : (h : List Event) (s s' : State) (e : Event) → Trans s s' e.call e.answer e.told → s.tables ≡ None → s'.tables ≡ None → Untouched h → Untouched (e ∷ h)
untouched_keeps h s s' e t f g v = untouched h s s' t f g v

-- no call takes the tables away
pub none_before : (s s' : State) {c : Call} {a : Answer} {k : Told} → Trans s s' c a k → s'.tables ≡ None → s.tables ≡ None
none_before s s' (refuses fails same) g = rw same at g
none_before s s' (sets_up {z} passes memory tables) g = (set_up_passed z s passes).first
none_before s s' (ticks {x} is passes does) g = absurd (some_none s'.tables (counted x) does.tables g)
none_before s s' (lands {x = x} is passes does) g = absurd (some_none s'.tables (counted x) does.tables g)
none_before s s' (begins {t} {p = p} {x = x} is name passes does) g = absurd (some_none s'.tables (counted (begun x t p)) does.tables g)
none_before s s' (steps {t} {x} {k = k} is passes does) g = absurd (some_none s'.tables (counted (stepped x t (after (here x s.memory t) (thread_of x t).point k))) does.tables g)

-- Every history.

-- what holds of a history and the state to which it leads
pub record Reached (h : List Event) (s : State) : Type 0 where
  pub inv : Inv s
  pub shown : (x : Tables) → s.tables ≡ Some x → Shown s.memory.bound h x
  pub before : s.tables ≡ None → Untouched h

pub explains_reached : (h : List Event) (s : State) → Explains h s → Reached h s
explains_reached [] s (none, sound) =
    record {
      inv = record { sound = sound; placed = λ x e. absurd (some_none s.tables x e none) };
      shown = λ x e. absurd (some_none s.tables x e none);
      before = λ _. untouched_start;
    }
explains_reached (e ∷ h) s' (s, led, t) = next (explains_reached h s led)
  where
    next : Reached h s → Reached (e ∷ h) s'
    next r =
        record {
          inv = keeps s s' t r.inv;
          shown = λ x f. rw (bound_stays s s' t) (shown_keeps s.memory.bound h s s' e refl r.inv t r.shown r.before x f);
          before = λ f. untouched_keeps h s s' e t (none_before s s' t f) f (r.before (none_before s s' t f));
        }

pub tables_show : TablesShowTheHistory
tables_show h s x p e = ((explains_reached h s p).shown x e).shows
