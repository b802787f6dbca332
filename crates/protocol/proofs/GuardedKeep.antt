-- Every action keeps the invariant of guards. Assumes nothing.
use Rattle.std.proofs.Common.{◌≡◌, ℕ, ◌+◌, ◌-◌, ◌*◌, ◌<◌, ◌≤◌, cond, not, ltb, ◌≢◌, ◌⊎◌, List, [], ◌∷◌, ◌++◌, length, sym, refl, ◌∙◌, inl, inr, arith}
use mathlib.Core.Path.{fun_ext}
use Rattle.std.specs.List.{ContainsAt as Has, AllByRecursion}
use Rattle.std.proofs.ByRecursion.{All-weaker, All-push, all_kept_by, all-has, all_has_itself}
use Rattle.std.proofs.lemmas.Bool.{cases_eq, cases_lt, eq-eqb}
use Rattle.protocol.specs.declared.node.NodeState.{NodeState}
use Rattle.protocol.specs.declared.node.NodeState.TheVariants.{Free, Taken, Published, Removed, Retired as RetiredBy}
use Rattle.protocol.specs.declared.retired.Retired.{Retired}
use Rattle.protocol.specs.declared.settings.Settings.{Settings}
use Rattle.protocol.specs.History.{names}
use Rattle.protocol.specs.Settings.{hazard_cells}
use Rattle.protocol.specs.Steps.{keeps, kept, freed}
use Rattle.protocol.specs.Tables.{Point, idle, protect2, protect3, protect4, copy1, publish1, remove3, reclaim2, reclaim3}
use Rattle.protocol.proofs.Guarded.{InUse, Spotted, spotted, ahead, ahead_own, Guarded}
use Rattle.protocol.proofs.GuardedParts.{VisibleAs, SpottedAs, with_clock, with_cells, with_guard, with_node, with_list, with_point, sweep_at, no_sweep, clock_keeps, cells_keeps, store_keeps, guard_keeps, node_keeps, mark_keeps, list_keeps, point_keeps, plain_keeps}
use Rattle.protocol.proofs.GuardedScan.{scan_starts, scan_more}
use Rattle.protocol.proofs.GuardedSweep.{freed_unguarded, kept_apart, named_state}
use Rattle.protocol.proofs.GuardView.{GuardState, SameCells, LandsSlot, StoresSlot, TicksOn, Still, Goes, SameGuards, Guards, SameNodes, Marks, SameLists, Lists, ReadyAt, PlainAt, SweepAt, scans, scanned, Loads, Acts, plain, protects2, protects3, protects4, copies, releases, takes, publishes, occupied, removes, retires, scans1, scans2, sweeps}
use Rattle.protocol.proofs.PathLemmas.{last_store, path_landed, path_copy, after_landed, after_copy, after_retire}
use Rattle.protocol.proofs.Paths.{Slot, put, last_of, Path, PathAfter}
pub use Rattle.protocol.proofs.GuardedParts.{guarded_same}

-- A guarded node is in use.
pub guarded_used : (z : Settings) (a : GuardState) → Guarded z a → (t i : ℕ) → 0 < a.guard t i → InUse (a.node (a.guard t i))
guarded_used z a g = g.used

-- The memory alone.

pub guarded_ticks : (z : Settings) (a a' : GuardState) → TicksOn a a' → Still a a' → Guarded z a → Guarded z a'
guarded_ticks z a a' k s g =
    guarded_same z (with_clock (a.clock + 1) a) a'
    (record { view = k.view; slots = k.slots; clock = k.clock; bound = k.bound })
    (record { guard = s.guard; node = s.node; list = s.list; point = s.point })
    (clock_keeps z a g (a.clock + 1)
    (λ t. All-weaker (λ (w : Slot). w.date ≤ a.clock) (λ (w : Slot). w.date ≤ a.clock + 1) (λ w h. omega arith) (a.slots t) (g.past t))
    (λ t. All-weaker (λ (w : Slot). a.clock < w.date + a.bound) (λ (w : Slot). a.clock + 1 ≤ w.date + a.bound) (λ w h. omega arith) (a.slots t) (k.in_time t)))

pub guarded_lands : (z : Settings) (t : ℕ) (a a' : GuardState) → LandsSlot t a a' → Still a a' → Guarded z a → Guarded z a'
guarded_lands z t a a' l s g =
    guarded_same z (with_cells a'.view a'.slots a) a'
    (record { view = λ u i. refl; slots = λ u. refl; clock = l.clock; bound = l.bound })
    (record { guard = s.guard; node = s.node; list = s.list; point = s.point })
    (cells_keeps z a g a'.view a'.slots
    (λ u i pos. at (λ v ws v' ws'. last_of v' ws' i ≡ last_of v ws i) u (λ v w ws. refl) (λ v ws. refl))
    (λ u i lo pos. at (λ v ws v' ws'. Path v ws lo i (a.guard u i) → Path v' ws' lo i (a.guard u i)) u (λ v w ws. path_landed v w ws lo i (a.guard u i)) (λ v ws p. p))
    (λ u i r pos. at (λ v ws v' ws'. PathAfter r v ws i (a.guard u i) → PathAfter r v' ws' i (a.guard u i)) u (λ v w ws. after_landed r v w ws i (a.guard u i)) (λ v ws p. p))
    (λ u r h n e. at (λ v ws v' ws'. last_of v ws h ≡ n → last_of v' ws' h ≡ n) u (λ v w ws p. p) (λ v ws p. p) (g.protecting u r h n e))
    (λ u. at (λ v ws v' ws'. AllByRecursion (λ (w : Slot). w.date ≤ a.clock) ws → AllByRecursion (λ (w : Slot). w.date ≤ a.clock) ws') u (λ v w ws p. p.1) (λ v ws p. p) (g.past u))
    (λ u. at (λ v ws v' ws'. AllByRecursion (λ (w : Slot). a.clock ≤ w.date + a.bound) ws → AllByRecursion (λ (w : Slot). a.clock ≤ w.date + a.bound) ws') u (λ v w ws p. p.1) (λ v ws p. p) (g.in_time u)))
  where
    -- a thread's cells and stores before and after
    at : (P : (ℕ → ℕ) → List Slot → (ℕ → ℕ) → List Slot → Type 0) (u : ℕ)
        → ((v : ℕ → ℕ) (w : Slot) (ws : List Slot) → P v (w ∷ ws) (put v w) ws) → ((v : ℕ → ℕ) (ws : List Slot) → P v ws v ws)
        → P (a.view u) (a.slots u) (a'.view u) (a'.slots u)
    at P u f h = elim (cases_eq u t) [
      | inl e ↦
          let view : a'.view t ≡ put (a.view t) l.slot = fun_ext l.view in
          rw (e, view, l.was, l.left) (f (a.view t) l.slot l.rest)
      | inr ne ↦
          let view : a'.view u ≡ a.view u = fun_ext (λ i. l.views u i ne) in
          rw (view, l.others u ne) (h (a.view u) (a.slots u))
    ]

-- The actions of a thread.

-- what is known elsewhere: a list names each node at most once
pub record Facts (z : Settings) (a : GuardState) : Type 0 where
  pub once : (t n : ℕ) → names n (a.list t) ≤ 1

pub facts_still : (z : Settings) (a a' : GuardState) → Still a a' → Facts z a → Facts z a'
facts_still z a a' s f = record { once = λ t n. rw (s.list t) (f.once t n) }

module _ (z : Settings) (t : ℕ) (a a' : GuardState) (g : Guarded z a) where
  -- only the point changes
  goes_on : SameCells a a' → SameGuards a a' → SameNodes a a' → SameLists a a' → Guarded z (with_point a'.point a) → Guarded z a'
  goes_on c k n l =
      guarded_same z (with_point a'.point a) a'
      (record { view = c.view; slots = c.slots; clock = c.clock; bound = c.bound })
      (record { guard = k.guard; node = n.node; list = l.list; point = λ u. refl })

  acts_plain : (p : Point) → PlainAt p → ReadyAt z (a.guard t) p → Goes t a a' p → SameCells a a' → SameGuards a a' → SameNodes a a' → SameLists a a' → Guarded z a'
  acts_plain p pl ready goes c k n l = goes_on c k n l (plain_keeps z a g t p a'.point goes.point goes.points pl ready)

  -- the thread has gone to a point of which nothing is asked
  gone : Goes t a a' idle → Guarded z (with_point a'.point a)
  gone goes = plain_keeps z a g t idle a'.point goes.point goes.points tt tt

  gone_plain : Goes t a a' idle → PlainAt (a'.point t)
  gone_plain goes = rw goes.point tt

  -- Stores.

  acts_protects2 : (r h n : ℕ) → a.point t ≡ protect2 r h n → Goes t a a' (protect3 r h n) → StoresSlot t h n a a' → SameGuards a a' → SameNodes a a' → SameLists a a' → Guarded z a'
  acts_protects2 r h n e goes s k m l =
      guarded_same z (with_point a'.point b) a'
      (record { view = s.view; slots = λ u. refl; clock = s.clock; bound = s.bound })
      (record { guard = k.guard; node = m.node; list = l.list; point = λ u. refl })
      (point_keeps z b kept t (protect3 r h n) a'.point goes.point goes.points none shows never_sweeps)
    where
      b : GuardState
      b = with_cells a.view a'.slots a

      none : a.guard t h ≡ 0
      none = rw e at (g.ready t)

      kept : Guarded z b
      kept = store_keeps z a g t h n a'.slots s.here s.others none (rw e tt)

      shows : (r' h' n' : ℕ) → protect3 r h n ≡ protect3 r' h' n' → last_of (a.view t) (a'.slots t) h' ≡ n'
      shows r' h' n' f =
          let x : h ≡ h' = cc in
          let y : n ≡ n' = cc in
          rw s.here (last_store (a.view t) (a.slots t) (record { index = h; value = n; date = a.clock }) h' ∙ rw (eq-eqb h h' x) y)

      never_sweeps : (u i now : ℕ) (seen : List ℕ) → 0 < b.guard u i → SweepAt z now seen (protect3 r h n) → AllByRecursion (SpottedAs z b t u i (b.guard u i) now seen) (b.list t)
      never_sweeps u i now seen pos x = elim (sweep_at x) [ inl f ↦ absurd cc | inr f ↦ absurd cc ]

  acts_protects4 : (r h : ℕ) → a.point t ≡ protect4 r h → Goes t a a' idle → StoresSlot t h 0 a a' → SameGuards a a' → SameNodes a a' → SameLists a a' → Guarded z a'
  acts_protects4 r h e goes s k m l =
      guarded_same z (with_cells a.view a'.slots (with_point a'.point a)) a'
      (record { view = s.view; slots = λ u. refl; clock = s.clock; bound = s.bound })
      (record { guard = k.guard; node = m.node; list = l.list; point = λ u. refl })
      (store_keeps z (with_point a'.point a) (gone goes) t h 0 a'.slots s.here s.others (rw e at (g.ready t)) (gone_plain goes))

  acts_releases : (c : ℕ) → Goes t a a' idle → StoresSlot t c 0 a a' → Guards t c 0 a a' → SameNodes a a' → SameLists a a' → Guarded z a'
  acts_releases c goes s k m l =
      guarded_same z (with_cells a.view a'.slots b) a'
      (record { view = s.view; slots = λ u. refl; clock = s.clock; bound = s.bound })
      (record { guard = λ u i. refl; node = m.node; list = l.list; point = λ u. refl })
      (store_keeps z b kept t c 0 a'.slots s.here s.others k.here (gone_plain goes))
    where
      b : GuardState
      b = with_guard a'.guard (with_point a'.point a)

      kept : Guarded z b
      kept =
          guard_keeps z (with_point a'.point a) (gone goes) t c 0 a'.guard k.here k.elsewhere k.others (rw goes.point tt)
          (λ pos. absurd (omega arith)) (λ pos. absurd (omega arith)) (λ pos. absurd (omega arith)) (λ u pos. absurd (omega arith)) (λ u now seen pos. absurd (omega arith))

  -- New guards.

  -- a node in another state than retired is on no list
  unlisted : (n : ℕ) → ((u : ℕ) → a.node n ≡ RetiredBy u → ⊥) → (u : ℕ) → AllByRecursion (λ (e : Retired). e.node ≡ n → ⊥) (a.list u)
  unlisted n un u = All-weaker (λ (e : Retired). a.node e.node ≡ RetiredBy u) (λ (e : Retired). e.node ≡ n → ⊥) (λ e h is. un u (rw is at h)) (a.list u) (g.listed u)

  acts_protects3 : (r h n : ℕ) → t < z.threads → a.point t ≡ protect3 r h n → h < z.hazards → a.node n ≡ Published r → Goes t a a' idle → SameCells a a' → Guards t h n a a' → SameNodes a a' → SameLists a a' → Guarded z a'
  acts_protects3 r h n lt e low is goes c k m l =
      guarded_same z (with_guard a'.guard b) a'
      (record { view = c.view; slots = c.slots; clock = c.clock; bound = c.bound })
      (record { guard = λ u i. refl; node = m.node; list = l.list; point = λ u. refl })
      (guard_keeps z b (gone goes) t h n a'.guard k.here k.elsewhere k.others (rw goes.point tt)
      (λ pos. (lt, low)) (λ pos. rw is tt) (λ pos. g.protecting t r h n e)
      (λ u pos. All-weaker (λ (e : Retired). e.node ≡ n → ⊥) (VisibleAs b t h n) (λ e un same. absurd (un same)) (a.list u) (free u))
      (λ u now seen pos x. All-weaker (λ (e : Retired). e.node ≡ n → ⊥) (SpottedAs z b u t h n now seen) (λ e un same. absurd (un same)) (a.list u) (free u)))
    where
      b : GuardState
      b = with_point a'.point a

      free : (u : ℕ) → AllByRecursion (λ (e : Retired). e.node ≡ n → ⊥) (a.list u)
      free = unlisted n (λ u f. absurd cc)

  acts_copies : (c d : ℕ) → a.point t ≡ copy1 c d → Goes t a a' idle → StoresSlot t d (a.guard t c) a a' → Guards t d (a.guard t c) a a' → SameNodes a a' → SameLists a a' → Guarded z a'
  acts_copies c d e goes s k m l =
      guarded_same z (with_guard a'.guard b) a'
      (record { view = s.view; slots = λ u. refl; clock = s.clock; bound = s.bound })
      (record { guard = λ u i. refl; node = m.node; list = l.list; point = λ u. refl })
      (guard_keeps z b kept t d n a'.guard k.here k.elsewhere k.others (rw goes.point tt)
      (λ pos. ((g.within t c pos).0, asks.1)) (λ pos. g.used t c pos)
      (λ pos. rw s.here (last_store (a.view t) (a.slots t) w d ∙ rw (eq-eqb d d refl) refl))
      (λ u pos. All-weaker (VisibleAs a t c n) (VisibleAs b t d n) (λ x h same. rw s.here (after_copy x.date (a.view t) (a.slots t) w c n refl up (h same))) (a.list u) (g.visible t c u pos))
      (λ u now seen pos x. All-weaker (SpottedAs z a u t c n now seen) (SpottedAs z b u t d n now seen) (λ y h same old. copied u seen (other u now seen x) (h same old)) (a.list u)
      (g.sweeping t c u now seen pos (rw (goes.points u (other u now seen x)) at x))))
    where
      asks : (c < d) × (d < z.hazards) × (a.guard t d ≡ 0) × (0 < a.guard t c)
      asks = rw e at (g.ready t)

      up : c ≤ d
      up = let x = asks.0 in omega arith

      n : ℕ
      n = a.guard t c

      w : Slot
      w = record { index = d; value = n; date = a.clock }

      b : GuardState
      b = with_cells a.view a'.slots (with_point a'.point a)

      kept : Guarded z b
      kept = store_keeps z (with_point a'.point a) (gone goes) t d n a'.slots s.here s.others asks.2 (gone_plain goes)

      other : (u now : ℕ) (seen : List ℕ) → SweepAt z now seen (a'.point u) → u ≢ t
      other u now seen x f = no_sweep (gone_plain goes) (rw f at x)

      copied : (u : ℕ) (seen : List ℕ) → u ≢ t → Spotted z a u t c n seen → Spotted z b u t d n seen
      copied u seen ne (spotted f) = spotted f
      copied u seen ne (ahead un p) = ahead un (rw s.here (path_copy (a.view t) (a.slots t) w (length seen - z.hazards * t) c n refl up p))
      copied u seen ne (ahead_own same le) = absurd (ne (sym same))

  -- Nodes.

  acts_marks : (n : ℕ) (now : NodeState) (p : Point) → PlainAt p → ReadyAt z (a.guard t) p → ((u : ℕ) → a.node n ≡ RetiredBy u → ⊥) → (InUse (a.node n) → InUse now)
      → Goes t a a' p → SameCells a a' → SameGuards a a' → Marks n now a a' → SameLists a a' → Guarded z a'
  acts_marks n now p pl ready un used goes c k m l =
      guarded_same z (with_node a'.node b) a'
      (record { view = c.view; slots = c.slots; clock = c.clock; bound = c.bound })
      (record { guard = k.guard; node = λ n. refl; list = l.list; point = λ u. refl })
      (mark_keeps z b (plain_keeps z a g t p a'.point goes.point goes.points pl ready) n now a'.node m.here m.others un used)
    where
      b : GuardState
      b = with_point a'.point a

  acts_retires : (n : ℕ) → a.node n ≡ Removed t → Goes t a a' idle → SameCells a a' → SameGuards a a' → Marks n (RetiredBy t) a a' → Lists t (a.list t ++ record { node = n; date = a.clock } ∷ []) a a' → Guarded z a'
  acts_retires n is goes c k m l =
      guarded_same z (with_list a'.list b) a'
      (record { view = c.view; slots = c.slots; clock = c.clock; bound = c.bound })
      (record { guard = k.guard; node = λ n. refl; list = λ u. refl; point = λ u. refl })
      (list_keeps z b kept t (a.list t ++ last ∷ []) a'.list l.here l.others (gone_plain goes)
      (All-push (λ (e : Retired). a'.node e.node ≡ RetiredBy t) (a.list t) last (kept.listed t) m.here)
      (λ u i pos. All-push (VisibleAs b u i (a.guard u i)) (a.list t) last (g.visible u i t pos) (λ e. after_retire a.clock (a.view u) (a.slots u) i (a.guard u i) (g.past u) (g.shows u i pos))))
    where
      last : Retired
      last = record { node = n; date = a.clock }

      b : GuardState
      b = with_node a'.node (with_point a'.point a)

      kept : Guarded z b
      kept = mark_keeps z (with_point a'.point a) (gone goes) n (RetiredBy t) a'.node m.here m.others (λ u f. absurd cc) (λ x. tt)

  -- Sweeps.

  acts_scans1 : Goes t a a' (reclaim2 a.clock []) → SameCells a a' → SameGuards a a' → SameNodes a a' → SameLists a a' → Guarded z a'
  acts_scans1 goes c k m l = goes_on c k m l (point_keeps z a g t p a'.point goes.point goes.points tt (λ r h n e. absurd cc) sweeping)
    where
      p : Point
      p = reclaim2 a.clock []

      starts : (u i : ℕ) → 0 < a.guard u i → (u ≡ t) ⊎ (u ≢ t) → (e : Retired) → VisibleAs a u i (a.guard u i) e → SpottedAs z a t u i (a.guard u i) a.clock [] e
      starts u i pos (inl same) e v is old = ahead_own same (omega arith)
      starts u i pos (inr ne) e v is old =
          ahead ne (path_at (0 - z.hazards * u) (omega arith) (scan_starts a.bound a.clock e.date (a.view u) (a.slots u) i (a.guard u i) old (g.in_time u) (v is)))
        where
          path_at : (lo : ℕ) → lo ≡ 0 → Path (a.view u) (a.slots u) 0 i (a.guard u i) → Path (a.view u) (a.slots u) lo i (a.guard u i)
          path_at lo f q = rw f q

      sweeping : (u i now : ℕ) (seen : List ℕ) → 0 < a.guard u i → SweepAt z now seen p → AllByRecursion (SpottedAs z a t u i (a.guard u i) now seen) (a.list t)
      sweeping u i now seen pos s = elim (sweep_at s) [
        | inl f ↦
            let x : now ≡ a.clock = cc in
            let y : seen ≡ [] = cc in
            rw (x, y) (All-weaker (VisibleAs a u i (a.guard u i)) (SpottedAs z a t u i (a.guard u i) a.clock []) (starts u i pos (cases_eq u t)) (a.list t) (g.visible u i t pos))
        | inr f ↦ absurd cc
      ]

  acts_scans2 : (now v : ℕ) (seen : List ℕ) (p : Point) → a.point t ≡ reclaim2 now seen → length seen < hazard_cells z → Loads z t a (length seen) v → SweepAt z now (seen ++ v ∷ []) p
      → Goes t a a' p → SameCells a a' → SameGuards a a' → SameNodes a a' → SameLists a a' → Guarded z a'
  acts_scans2 now v seen p e lt loads s goes c k m l =
      goes_on c k m l (point_keeps z a g t p a'.point goes.point goes.points (ready (sweep_at s)) (unlike (sweep_at s)) sweeping)
    where
      ready : (p ≡ reclaim2 now (seen ++ v ∷ [])) ⊎ (p ≡ reclaim3 now (seen ++ v ∷ [])) → ReadyAt z (a.guard t) p
      ready (inl f) = rw f tt
      ready (inr f) = rw f tt

      unlike : (p ≡ reclaim2 now (seen ++ v ∷ [])) ⊎ (p ≡ reclaim3 now (seen ++ v ∷ [])) → (r h n : ℕ) → p ≡ protect3 r h n → last_of (a.view t) (a.slots t) h ≡ n
      unlike (inl f) r h n d = absurd cc
      unlike (inr f) r h n d = absurd cc

      more : (u i : ℕ) → 0 < a.guard u i → AllByRecursion (SpottedAs z a t u i (a.guard u i) now (seen ++ v ∷ [])) (a.list t)
      more u i pos =
          All-weaker (SpottedAs z a t u i (a.guard u i) now seen) (SpottedAs z a t u i (a.guard u i) now (seen ++ v ∷ []))
          (λ x h is old. scan_more z a t u i (a.guard u i) seen v (g.within u i pos).1 (g.shows u i pos) loads (h is old)) (a.list t)
          (g.sweeping u i t now seen pos (rw e (scans lt)))

      sweeping : (u i now' : ℕ) (seen' : List ℕ) → 0 < a.guard u i → SweepAt z now' seen' p → AllByRecursion (SpottedAs z a t u i (a.guard u i) now' seen') (a.list t)
      sweeping u i now' seen' pos x = at (sweep_at s) (sweep_at x)
        where
          at : (p ≡ reclaim2 now (seen ++ v ∷ [])) ⊎ (p ≡ reclaim3 now (seen ++ v ∷ [])) → (p ≡ reclaim2 now' seen') ⊎ (p ≡ reclaim3 now' seen') → AllByRecursion (SpottedAs z a t u i (a.guard u i) now' seen') (a.list t)
          at (inl f) (inl h) = let b : now' ≡ now = cc in let d : seen' ≡ seen ++ v ∷ [] = cc in rw (b, d) (more u i pos)
          at (inl f) (inr h) = absurd cc
          at (inr f) (inl h) = absurd cc
          at (inr f) (inr h) = let b : now' ≡ now = cc in let d : seen' ≡ seen ++ v ∷ [] = cc in rw (b, d) (more u i pos)

  acts_sweeps : (now : ℕ) (seen : List ℕ) → ((n : ℕ) → names n (a.list t) ≤ 1) → a.point t ≡ reclaim3 now seen → length seen ≡ hazard_cells z → Goes t a a' idle → SameCells a a' → SameGuards a a'
      → ((n : ℕ) → a'.node n ≡ cond (ltb 0 (names n (freed a.bound now seen (a.list t)))) Free (a.node n)) → Lists t (kept a.bound now seen (a.list t)) a a' → Guarded z a'
  acts_sweeps now seen once e all goes c k node l =
      guarded_same z (with_node a'.node b) a'
      (record { view = c.view; slots = c.slots; clock = c.clock; bound = c.bound })
      (record { guard = k.guard; node = λ n. refl; list = λ u. refl; point = λ u. refl })
      (node_keeps z b shorter a'.node (λ u i pos. rw (stays (a.guard u i) (guarded u i pos)) (g.used u i pos)) (λ u. listed u (cases_eq u t)))
    where
      stay : List Retired
      stay = kept a.bound now seen (a.list t)

      gone_nodes : List Retired
      gone_nodes = freed a.bound now seen (a.list t)

      b : GuardState
      b = with_list a'.list (with_point a'.point a)

      shorter : Guarded z b
      shorter =
          list_keeps z (with_point a'.point a) (gone goes) t stay a'.list l.here l.others (gone_plain goes)
          (all_kept_by (keeps a.bound now seen) (λ (x : Retired). a.node x.node ≡ RetiredBy t) (a.list t) (g.listed t))
          (λ u i pos. all_kept_by (keeps a.bound now seen) (VisibleAs a u i (a.guard u i)) (a.list t) (g.visible u i t pos))

      -- a node that is not freed keeps its state
      stays : (n : ℕ) → names n gone_nodes ≡ 0 → a'.node n ≡ a.node n
      stays n none = node n ∙ rw none refl

      guarded : (u i : ℕ) → 0 < a.guard u i → names (a.guard u i) gone_nodes ≡ 0
      guarded u i pos =
          let low = g.within u i pos in
          freed_unguarded z a t u i (a.guard u i) now seen low.0 low.1 all (a.list t) (g.sweeping u i t now seen pos (rw e (scanned all)))

      -- what another thread has listed is not freed
      others_stay : (u n : ℕ) → u ≢ t → a.node n ≡ RetiredBy u → names n gone_nodes ≡ 0
      others_stay u n ne is = elim (cases_lt 0 (names n gone_nodes)) [
        | inl pos ↦
            let was = named_state a.node (RetiredBy t) n gone_nodes (all_kept_by (λ x. not (keeps a.bound now seen x)) (λ (x : Retired). a.node x.node ≡ RetiredBy t) (a.list t) (g.listed t)) pos in
            let same : u ≡ t = cc in
            absurd (ne same)
        | inr none ↦ omega arith
      ]

      listed : (u : ℕ) → (u ≡ t) ⊎ (u ≢ t) → AllByRecursion (λ (x : Retired). a'.node x.node ≡ RetiredBy u) (a'.list u)
      listed u (inl same) =
          rw (same, l.here)
          (All-weaker (Has stay) (λ (x : Retired). a'.node x.node ≡ RetiredBy t)
          (λ x h. stays x.node (all-has (λ (y : Retired). names y.node gone_nodes ≡ 0) stay x (kept_apart (keeps a.bound now seen) (a.list t) once) h)
          ∙ all-has (λ (y : Retired). a.node y.node ≡ RetiredBy t) stay x (all_kept_by (keeps a.bound now seen) (λ (y : Retired). a.node y.node ≡ RetiredBy t) (a.list t) (g.listed t)) h)
          stay (all_has_itself stay))
      listed u (inr ne) =
          rw (l.others u ne)
          (All-weaker (λ (x : Retired). a.node x.node ≡ RetiredBy u) (λ (x : Retired). a'.node x.node ≡ RetiredBy u)
          (λ x h. stays x.node (others_stay u x.node ne h) ∙ h) (a.list u) (g.listed u))

pub guarded_acts : (z : Settings) (t : ℕ) (a a' : GuardState) → Acts z t a a' → t < z.threads → Facts z a → Guarded z a → Guarded z a'
guarded_acts z t a a' (plain {p'} pl ready goes c k n l) lt f g = acts_plain z t a a' g p' pl ready goes c k n l
guarded_acts z t a a' (protects2 {r} {h} {n} e low goes s k m l) lt f g = acts_protects2 z t a a' g r h n e goes s k m l
guarded_acts z t a a' (protects3 {r} {h} {n} e low pos is goes c k m l) lt f g = acts_protects3 z t a a' g r h n lt e low is goes c k m l
guarded_acts z t a a' (protects4 {r} {h} e low goes s k m l) lt f g = acts_protects4 z t a a' g r h e goes s k m l
guarded_acts z t a a' (copies {c} {b} e goes s k m l) lt f g = acts_copies z t a a' g c b e goes s k m l
guarded_acts z t a a' (releases {c} e low goes s k m l) lt f g = acts_releases z t a a' g c goes s k m l
guarded_acts z t a a' (takes {r} {n} is goes c k m l) lt f g = acts_marks z t a a' g n (Taken t) (publish1 r n) tt tt (λ u h. absurd cc) (λ x. rw is at x) goes c k m l
guarded_acts z t a a' (publishes {r} {n} is goes c k m l) lt f g = acts_marks z t a a' g n (Published r) idle tt tt (λ u h. absurd cc) (λ x. tt) goes c k m l
guarded_acts z t a a' (occupied {n} is goes c k m l) lt f g = acts_marks z t a a' g n Free idle tt tt (λ u h. absurd cc) (λ x. rw is at x) goes c k m l
guarded_acts z t a a' (removes {r} {n} is goes c k m l) lt f g = acts_marks z t a a' g n (Removed t) (remove3 r n) tt tt (λ u h. absurd cc) (λ x. tt) goes c k m l
guarded_acts z t a a' (retires {n} is goes c k m l) lt f g = acts_retires z t a a' g n is goes c k m l
guarded_acts z t a a' (scans1 goes c k m l) lt f g = acts_scans1 z t a a' g goes c k m l
guarded_acts z t a a' (scans2 {now} {v} {seen} {p'} e low loads s goes c k m l) lt f g = acts_scans2 z t a a' g now v seen p' e low loads s goes c k m l
guarded_acts z t a a' (sweeps {now} {seen} e all goes c k n l) lt f g = acts_sweeps z t a a' g now seen (f.once t) e all goes c k n l
