-- The invariant of guards, when one part of the state changes: the clock, the hazard cells with their waiting stores, the guards,
-- the nodes, the lists or the points. Assumes nothing.
use Rattle.std.proofs.Common.{◌≡◌, ℕ, ◌+◌, ◌-◌, ◌*◌, ◌<◌, ◌≤◌, ◌≢◌, ◌⊎◌, List, [], ◌∷◌, ◌++◌, length, sym, refl, ◌∙◌, subst, inl, inr, arith}
use mathlib.Core.Path.{fun_ext}
use Rattle.std.specs.List.{AllByRecursion}
use Rattle.std.proofs.ByRecursion.{All-weaker, All-push}
use Rattle.std.proofs.lemmas.Bool.{cases_eq, ne_eqb}
use Rattle.protocol.specs.declared.node.NodeState.{NodeState}
use Rattle.protocol.specs.declared.node.NodeState.TheVariants.{Retired as RetiredBy}
use Rattle.protocol.specs.declared.retired.Retired.{Retired}
use Rattle.protocol.specs.declared.settings.Settings.{Settings}
use Rattle.protocol.specs.Tables.{Point, protect3, reclaim2, reclaim3}
use Rattle.protocol.proofs.Guarded.{InUse, Spotted, spotted, ahead, ahead_own, Guarded}
use Rattle.protocol.proofs.GuardView.{GuardState, SameCells, Still, ReadyAt, PlainAt, SweepAt, scans, scanned}
use Rattle.protocol.proofs.PathLemmas.{last_store, path_store, after_store}
use Rattle.protocol.proofs.Paths.{Slot, last_of, Path, PathAfter}

-- what `visible` and `sweeping` say of a listed entry
abbrev pub VisibleAs : GuardState → ℕ → ℕ → ℕ → Retired → Type 0
VisibleAs a t i n e = e.node ≡ n → PathAfter e.date (a.view t) (a.slots t) i n

abbrev pub SpottedAs : Settings → GuardState → ℕ → ℕ → ℕ → ℕ → ℕ → List ℕ → Retired → Type 0
SpottedAs z a u t i n now seen e = e.node ≡ n → e.date + a.bound < now → Spotted z a u t i n seen

-- the state with one part changed
abbrev pub with_clock : ℕ → GuardState → GuardState
with_clock x a = record { view = a.view; slots = a.slots; clock = x; bound = a.bound; guard = a.guard; node = a.node; list = a.list; point = a.point }

abbrev pub with_cells : (ℕ → ℕ → ℕ) → (ℕ → List Slot) → GuardState → GuardState
with_cells x y a = record { view = x; slots = y; clock = a.clock; bound = a.bound; guard = a.guard; node = a.node; list = a.list; point = a.point }

abbrev pub with_guard : (ℕ → ℕ → ℕ) → GuardState → GuardState
with_guard x a = record { view = a.view; slots = a.slots; clock = a.clock; bound = a.bound; guard = x; node = a.node; list = a.list; point = a.point }

abbrev pub with_node : (ℕ → NodeState) → GuardState → GuardState
with_node x a = record { view = a.view; slots = a.slots; clock = a.clock; bound = a.bound; guard = a.guard; node = x; list = a.list; point = a.point }

abbrev pub with_list : (ℕ → List Retired) → GuardState → GuardState
with_list x a = record { view = a.view; slots = a.slots; clock = a.clock; bound = a.bound; guard = a.guard; node = a.node; list = x; point = a.point }

abbrev pub with_point : (ℕ → Point) → GuardState → GuardState
with_point x a = record { view = a.view; slots = a.slots; clock = a.clock; bound = a.bound; guard = a.guard; node = a.node; list = a.list; point = x }

-- Nothing changed.

pub guarded_same : (z : Settings) (a a' : GuardState) → SameCells a a' → Still a a' → Guarded z a → Guarded z a'
guarded_same z a a' c s g = subst (Guarded z) (sym is) g
  where
    is : a' ≡ a
    is =
        let view : a'.view ≡ a.view = fun_ext (λ t. fun_ext (c.view t)) in
        let slots : a'.slots ≡ a.slots = fun_ext c.slots in
        let guard : a'.guard ≡ a.guard = fun_ext (λ t. fun_ext (s.guard t)) in
        let node : a'.node ≡ a.node = fun_ext s.node in
        let list : a'.list ≡ a.list = fun_ext s.list in
        let point : a'.point ≡ a.point = fun_ext s.point in
        λ i. record { view = view i; slots = slots i; clock = c.clock i; bound = c.bound i; guard = guard i; node = node i; list = list i; point = point i }

-- the same of a guard against a sweep
pub spotted_on : (z : Settings) (a b : GuardState) (u t i n : ℕ) (seen : List ℕ)
    → ((lo : ℕ) → Path (a.view t) (a.slots t) lo i n → Path (b.view t) (b.slots t) lo i n) → Spotted z a u t i n seen → Spotted z b u t i n seen
spotted_on z a b u t i n seen f (spotted e) = spotted e
spotted_on z a b u t i n seen f (ahead ne p) = ahead ne (f (length seen - z.hazards * t) p)
spotted_on z a b u t i n seen f (ahead_own e le) = ahead_own e le

pub spotted_all : (z : Settings) (a b : GuardState) (u t i n now : ℕ) (seen : List ℕ) (l : List Retired) → b.bound ≡ a.bound
    → ((lo : ℕ) → Path (a.view t) (a.slots t) lo i n → Path (b.view t) (b.slots t) lo i n)
    → AllByRecursion (SpottedAs z a u t i n now seen) l → AllByRecursion (SpottedAs z b u t i n now seen) l
spotted_all z a b u t i n now seen l same f =
    All-weaker (SpottedAs z a u t i n now seen) (SpottedAs z b u t i n now seen) (λ e h is old. spotted_on z a b u t i n seen f (h is (omega arith))) l

-- a sweep is at one of two points
pub sweep_at : {z : Settings} {now : ℕ} {seen : List ℕ} {p : Point} → SweepAt z now seen p → (p ≡ reclaim2 now seen) ⊎ (p ≡ reclaim3 now seen)
sweep_at (scans lt) = inl refl
sweep_at (scanned e) = inr refl

pub no_sweep : {z : Settings} {now : ℕ} {seen : List ℕ} {p : Point} → PlainAt p → SweepAt z now seen p → ⊥
no_sweep h (scans lt) = h
no_sweep h (scanned e) = h

module _ (z : Settings) (a : GuardState) (g : Guarded z a) where
  -- The clock.

  pub clock_keeps : (now : ℕ) → ((t : ℕ) → AllByRecursion (λ (w : Slot). w.date ≤ now) (a.slots t)) → ((t : ℕ) → AllByRecursion (λ (w : Slot). now ≤ w.date + a.bound) (a.slots t)) → Guarded z (with_clock now a)
  clock_keeps now past in_time =
      record {
        within = g.within;
        ready = g.ready;
        used = g.used;
        shows = g.shows;
        protecting = g.protecting;
        past = past;
        in_time = in_time;
        listed = g.listed;
        visible = g.visible;
        sweeping = λ t i u sees seen pos at. spotted_all z a (with_clock now a) u t i (a.guard t i) sees seen (a.list u) refl (λ lo p. p) (g.sweeping t i u sees seen pos at);
      }

  -- The hazard cells and the waiting stores: what guards rest on stays.

  pub cells_keeps : (view : ℕ → ℕ → ℕ) (slots : ℕ → List Slot)
      → ((t i : ℕ) → 0 < a.guard t i → last_of (view t) (slots t) i ≡ last_of (a.view t) (a.slots t) i)
      → ((t i lo : ℕ) → 0 < a.guard t i → Path (a.view t) (a.slots t) lo i (a.guard t i) → Path (view t) (slots t) lo i (a.guard t i))
      → ((t i r : ℕ) → 0 < a.guard t i → PathAfter r (a.view t) (a.slots t) i (a.guard t i) → PathAfter r (view t) (slots t) i (a.guard t i))
      → ((t r h n : ℕ) → a.point t ≡ protect3 r h n → last_of (view t) (slots t) h ≡ n)
      → ((t : ℕ) → AllByRecursion (λ (w : Slot). w.date ≤ a.clock) (slots t)) → ((t : ℕ) → AllByRecursion (λ (w : Slot). a.clock ≤ w.date + a.bound) (slots t))
      → Guarded z (with_cells view slots a)
  cells_keeps view slots last path after protecting past in_time =
      record {
        within = g.within;
        ready = g.ready;
        used = g.used;
        shows = λ t i pos. last t i pos ∙ g.shows t i pos;
        protecting = protecting;
        past = past;
        in_time = in_time;
        listed = g.listed;
        visible = λ t i u pos. All-weaker (VisibleAs a t i (a.guard t i)) (VisibleAs (with_cells view slots a) t i (a.guard t i)) (λ e h is. after t i e.date pos (h is)) (a.list u) (g.visible t i u pos);
        sweeping = λ t i u now seen pos at. spotted_all z a (with_cells view slots a) u t i (a.guard t i) now seen (a.list u) refl (λ lo. path t i lo pos) (g.sweeping t i u now seen pos at);
      }

  -- a new store of thread t, at an index that has no guard
  pub store_keeps : (t h n : ℕ) (slots : ℕ → List Slot) → slots t ≡ a.slots t ++ record { index = h; value = n; date = a.clock } ∷ [] → ((u : ℕ) → u ≢ t → slots u ≡ a.slots u)
      → a.guard t h ≡ 0 → PlainAt (a.point t) → Guarded z (with_cells a.view slots a)
  store_keeps t h n slots here others none plain =
      cells_keeps a.view slots
      (λ u i pos. at (λ ws. last_of (a.view u) ws i ≡ last_of (a.view u) (a.slots u) i) u (λ e. last_store (a.view u) (a.slots u) w i ∙ rw (ne_eqb h i (apart u i pos e)) refl) refl)
      (λ u i lo pos p. at (λ ws. Path (a.view u) ws lo i (a.guard u i)) u (λ e. path_store (a.view u) (a.slots u) w lo i (a.guard u i) (apart u i pos e) p) p)
      (λ u i r pos p. at (λ ws. PathAfter r (a.view u) ws i (a.guard u i)) u (λ e. after_store r (a.view u) (a.slots u) w i (a.guard u i) (apart u i pos e) p) p)
      (λ u r k m e. at (λ ws. last_of (a.view u) ws k ≡ m) u (λ f. absurd (no u r k m f e)) (g.protecting u r k m e))
      (λ u. at (AllByRecursion (λ (w : Slot). w.date ≤ a.clock)) u (λ e. All-push (λ (w : Slot). w.date ≤ a.clock) (a.slots u) w (g.past u) (omega arith)) (g.past u))
      (λ u. at (AllByRecursion (λ (w : Slot). a.clock ≤ w.date + a.bound)) u (λ e. All-push (λ (w : Slot). a.clock ≤ w.date + a.bound) (a.slots u) w (g.in_time u) (omega arith)) (g.in_time u))
    where
      w : Slot
      w = record { index = h; value = n; date = a.clock }

      at : (P : List Slot → Type 0) (u : ℕ) → (u ≡ t → P (a.slots u ++ w ∷ [])) → P (a.slots u) → P (slots u)
      at P u f p = elim (cases_eq u t) [
        | inl e ↦ subst P (rw e (sym here)) (f e)
        | inr ne ↦ subst P (sym (others u ne)) p
      ]

      apart : (u i : ℕ) → 0 < a.guard u i → u ≡ t → h ≡ i → ⊥
      apart u i pos e f = let x : a.guard u i ≡ 0 = rw (e, sym f) none in omega arith

      no : (u r k m : ℕ) → u ≡ t → a.point u ≡ protect3 r k m → ⊥
      no u r k m e f = let x : a.point t ≡ protect3 r k m = rw e at f in rw x at plain

  -- The guards: a new one of thread t at i, or none there.

  pub guard_keeps : (t i n : ℕ) (guard : ℕ → ℕ → ℕ) → guard t i ≡ n → ((k : ℕ) → k ≢ i → guard t k ≡ a.guard t k) → ((u k : ℕ) → u ≢ t → guard u k ≡ a.guard u k)
      → ReadyAt z (guard t) (a.point t)
      → (0 < n → (t < z.threads) × (i < z.hazards))
      → (0 < n → InUse (a.node n))
      → (0 < n → last_of (a.view t) (a.slots t) i ≡ n)
      → ((u : ℕ) → 0 < n → AllByRecursion (VisibleAs a t i n) (a.list u))
      → ((u now : ℕ) (seen : List ℕ) → 0 < n → SweepAt z now seen (a.point u) → AllByRecursion (SpottedAs z a u t i n now seen) (a.list u))
      → Guarded z (with_guard guard a)
  guard_keeps t i n guard here elsewhere others ready within used shows visible sweeping =
      record {
        within = λ u k. at (λ m. 0 < m → (u < z.threads) × (k < z.hazards)) u k (λ e f. rw (e, f) within) (g.within u k);
        ready = λ u. elim (cases_eq u t) [ inl e ↦ rw e ready | inr ne ↦ rw (fun_ext {f = guard u} {g = a.guard u} (λ k. others u k ne)) (g.ready u) ];
        used = λ u k. at (λ m. 0 < m → InUse (a.node m)) u k (λ e f. used) (g.used u k);
        shows = λ u k. at (λ m. 0 < m → last_of (a.view u) (a.slots u) k ≡ m) u k (λ e f. rw (e, f) shows) (g.shows u k);
        protecting = g.protecting;
        past = g.past;
        in_time = g.in_time;
        listed = g.listed;
        visible = λ u k v. at (λ m. 0 < m → AllByRecursion (VisibleAs a u k m) (a.list v)) u k (λ e f. rw (e, f) (visible v)) (g.visible u k v);
        sweeping = λ u k v now seen. at (λ m. 0 < m → SweepAt z now seen (a.point v) → AllByRecursion (SpottedAs z (with_guard guard a) v u k m now seen) (a.list v)) u k
            (λ e f pos s. spotted_all z a (with_guard guard a) v u k n now seen (a.list v) refl (λ lo p. p) (rw (e, f) (sweeping v now seen pos s)))
            (λ pos s. spotted_all z a (with_guard guard a) v u k (a.guard u k) now seen (a.list v) refl (λ lo p. p) (g.sweeping u k v now seen pos s));
      }
    where
      at : (P : ℕ → Type 0) (u k : ℕ) → (u ≡ t → k ≡ i → P n) → P (a.guard u k) → P (guard u k)
      at P u k f p = elim (cases_eq u t) [
        | inl e ↦ elim (cases_eq k i) [
          | inl d ↦ subst P (rw (e, d) (sym here)) (f e d)
          | inr ne ↦ subst P (rw e (sym (elsewhere k ne))) p
        ]
        | inr ne ↦ subst P (sym (others u k ne)) p
      ]

  -- The nodes.

  pub node_keeps : (node : ℕ → NodeState) → ((t i : ℕ) → 0 < a.guard t i → InUse (node (a.guard t i)))
      → ((u : ℕ) → AllByRecursion (λ (e : Retired). node e.node ≡ RetiredBy u) (a.list u)) → Guarded z (with_node node a)
  node_keeps node used listed =
      record {
        within = g.within;
        ready = g.ready;
        used = used;
        shows = g.shows;
        protecting = g.protecting;
        past = g.past;
        in_time = g.in_time;
        listed = listed;
        visible = g.visible;
        sweeping = λ t i u now seen pos at. spotted_all z a (with_node node a) u t i (a.guard t i) now seen (a.list u) refl (λ lo p. p) (g.sweeping t i u now seen pos at);
      }

  -- one node that is on no list, and that stays in use if it is
  pub mark_keeps : (n : ℕ) (now : NodeState) (node : ℕ → NodeState) → node n ≡ now → ((k : ℕ) → k ≢ n → node k ≡ a.node k)
      → ((u : ℕ) → a.node n ≡ RetiredBy u → ⊥) → (InUse (a.node n) → InUse now) → Guarded z (with_node node a)
  mark_keeps n now node here others unlisted used =
      node_keeps node
      (λ t i pos. elim (cases_eq (a.guard t i) n) [
        | inl e ↦ rw (e, here) (used (rw e at (g.used t i pos)))
        | inr ne ↦ rw (others (a.guard t i) ne) (g.used t i pos)
      ])
      (λ u. All-weaker (λ (e : Retired). a.node e.node ≡ RetiredBy u) (λ (e : Retired). node e.node ≡ RetiredBy u)
      (λ e h. others e.node (λ is. unlisted u (rw is at h)) ∙ h) (a.list u) (g.listed u))

  -- The lists: that of thread t, which is in no sweep.

  pub list_keeps : (t : ℕ) (l : List Retired) (list : ℕ → List Retired) → list t ≡ l → ((u : ℕ) → u ≢ t → list u ≡ a.list u) → PlainAt (a.point t)
      → AllByRecursion (λ (e : Retired). a.node e.node ≡ RetiredBy t) l
      → ((u i : ℕ) → 0 < a.guard u i → AllByRecursion (VisibleAs a u i (a.guard u i)) l)
      → Guarded z (with_list list a)
  list_keeps t l list here others plain listed visible =
      record {
        within = g.within;
        ready = g.ready;
        used = g.used;
        shows = g.shows;
        protecting = g.protecting;
        past = g.past;
        in_time = g.in_time;
        listed = λ u. at (λ x. AllByRecursion (λ (e : Retired). a.node e.node ≡ RetiredBy u) x) u (λ e. rw e listed) (g.listed u);
        visible = λ v i u pos. at (AllByRecursion (VisibleAs a v i (a.guard v i))) u (λ e. visible v i pos) (g.visible v i u pos);
        sweeping = λ v i u now seen pos s. at (AllByRecursion (SpottedAs z (with_list list a) u v i (a.guard v i) now seen)) u
            (λ e. absurd (no_sweep plain (rw e at s)))
            (spotted_all z a (with_list list a) u v i (a.guard v i) now seen (a.list u) refl (λ lo p. p) (g.sweeping v i u now seen pos s));
      }
    where
      at : (P : List Retired → Type 0) (u : ℕ) → (u ≡ t → P l) → P (a.list u) → P (list u)
      at P u f p = elim (cases_eq u t) [
        | inl e ↦ subst P (rw e (sym here)) (f e)
        | inr ne ↦ subst P (sym (others u ne)) p
      ]

  -- The points: that of thread t.

  pub point_keeps : (t : ℕ) (p : Point) (point : ℕ → Point) → point t ≡ p → ((u : ℕ) → u ≢ t → point u ≡ a.point u)
      → ReadyAt z (a.guard t) p
      → ((r h n : ℕ) → p ≡ protect3 r h n → last_of (a.view t) (a.slots t) h ≡ n)
      → ((u i now : ℕ) (seen : List ℕ) → 0 < a.guard u i → SweepAt z now seen p → AllByRecursion (SpottedAs z a t u i (a.guard u i) now seen) (a.list t))
      → Guarded z (with_point point a)
  point_keeps t p point here others ready protecting sweeping =
      record {
        within = g.within;
        ready = λ u. at (ReadyAt z (a.guard u)) u (λ e. rw e ready) (g.ready u);
        used = g.used;
        shows = g.shows;
        protecting = λ u r h n. at (λ q. q ≡ protect3 r h n → last_of (a.view u) (a.slots u) h ≡ n) u (λ e. rw e (protecting r h n)) (g.protecting u r h n);
        past = g.past;
        in_time = g.in_time;
        listed = g.listed;
        visible = g.visible;
        sweeping = λ v i u now seen pos s. spotted_all z a (with_point point a) u v i (a.guard v i) now seen (a.list u) refl (λ lo q. q)
            (at (λ q. SweepAt z now seen q → AllByRecursion (SpottedAs z a u v i (a.guard v i) now seen) (a.list u)) u (λ e. rw e (sweeping v i now seen pos)) (g.sweeping v i u now seen pos) s);
      }
    where
      at : (P : Point → Type 0) (u : ℕ) → (u ≡ t → P p) → P (a.point u) → P (point u)
      at P u f q = elim (cases_eq u t) [
        | inl e ↦ subst P (rw e (sym here)) (f e)
        | inr ne ↦ subst P (sym (others u ne)) q
      ]

  -- a point of which nothing more is asked
  pub plain_keeps : (t : ℕ) (p : Point) (point : ℕ → Point) → point t ≡ p → ((u : ℕ) → u ≢ t → point u ≡ a.point u) → PlainAt p → ReadyAt z (a.guard t) p → Guarded z (with_point point a)
  plain_keeps t p point here others plain ready =
      point_keeps t p point here others ready (λ r h n e. absurd (rw e at plain)) (λ u i now seen pos s. absurd (no_sweep plain s))
