-- The cases in which a row and some nodes change: each keeps the invariant of the tables for nodes. Assumes nothing.
use Rattle.std.proofs.Common.{◌≡◌, ℕ, ◌+◌, ◌<◌, ◌≤◌, Bool, true, false, cond, ltb, ◌≢◌, ◌⊎◌, List, [], ◌∷◌, ◌++◌, length, get_or, set, sym, refl, ◌∙◌, inl, inr, arith}
use Rattle.std.proofs.ByRecursion.{All-push, all_kept_by}
use Rattle.std.proofs.lemmas.List.{length-set}
use Rattle.std.proofs.lemmas.Bool.{cases_eq, cases_lt, cases_Bool, eq-eqb, ne_eqb, lt-ltb, le-ltb, cond-true, cond-false}
use Rattle.memory.specs.Meaning.{Meaning, cell}
use Rattle.memory.proofs.Views.{Put}
use Rattle.protocol.specs.declared.node.NodeState.{NodeState}
use Rattle.protocol.specs.declared.node.NodeState.TheVariants.{Free, Taken, Published, Removed, Retired as RetiredBy}
use Rattle.protocol.specs.declared.retired.Retired.{Retired}
use Rattle.protocol.specs.Guarantees.{retired_in}
use Rattle.protocol.specs.History.{names}
use Rattle.protocol.specs.Steps.{moved_to, listing, keeps, kept, freed, freeing}
use Rattle.protocol.specs.Tables.{Point, Thread, Tables, thread_of, node_of, idle, protect1, protect2, protect3, protect4, copy1, release1, publish1, remove1, remove2, remove3, reclaim1, reclaim2, reclaim3, owner_lock1, owner_lock2, owner_lock3, owner_lock4, owner_lock5, owner_unlock1, owner_unlock2, owner_unlock3, owner_unlock4, other_lock1, other_lock2, other_lock3, other_lock4, other_lock5, other_lock6, other_lock7, other_lock8, other_unlock1, other_unlock2, other_unlock3}
use Rattle.protocol.proofs.Placed.{FitsAt, Placed}
use Rattle.protocol.proofs.PlacedNodes.{Unpublished, in_range_lem, roots_stay, at_same, at_other, others_move, roots_off, roots_taken, roots_put, freeing_at, length-freeing, names_parts, names_push, retired_is}
use Rattle.protocol.proofs.PlacedRows.{Rooted, Others, others_same, Steady, steady_same, changed, roots_of, table_moves}

-- a point that holds no node of its thread
abbrev pub plain_at : Point → Bool
plain_at idle = true
plain_at (protect1 r h) = true
plain_at (protect2 r h n) = true
plain_at (protect3 r h n) = true
plain_at (protect4 r h) = true
plain_at (copy1 a b) = true
plain_at (release1 a) = true
plain_at (publish1 r n) = false
plain_at (remove1 r) = true
plain_at (remove2 r n) = true
plain_at (remove3 r n) = false
plain_at reclaim1 = true
plain_at (reclaim2 now seen) = true
plain_at (reclaim3 now seen) = true
plain_at owner_lock1 = true
plain_at owner_lock2 = true
plain_at (owner_lock3 v) = true
plain_at owner_lock4 = true
plain_at owner_lock5 = true
plain_at owner_unlock1 = true
plain_at owner_unlock2 = true
plain_at owner_unlock3 = true
plain_at owner_unlock4 = true
plain_at other_lock1 = true
plain_at other_lock2 = true
plain_at (other_lock3 v) = true
plain_at (other_lock4 v) = true
plain_at (other_lock5 v) = true
plain_at (other_lock6 v note) = true
plain_at (other_lock7 v note) = true
plain_at (other_lock8 v) = true
plain_at other_unlock1 = true
plain_at (other_unlock2 v) = true
plain_at other_unlock3 = true

pub plain_publish : (p : Point) (r n : ℕ) → plain_at p ≡ true → p ≡ publish1 r n → ⊥
plain_publish p r n e f = let g : false ≡ true = rw f at e in absurd cc

pub plain_remove : (p : Point) (r n : ℕ) → plain_at p ≡ true → p ≡ remove3 r n → ⊥
plain_remove p r n e f = let g : false ≡ true = rw f at e in absurd cc

-- no thread but t holds the node
pub record Own (t : ℕ) (z : NodeState) : Type 0 where
  pub taken : (u : ℕ) → u ≢ t → z ≡ Taken u → ⊥
  pub removed : (u : ℕ) → u ≢ t → z ≡ Removed u → ⊥
  pub retired : (u : ℕ) → u ≢ t → retired_in z u ≡ false

pub others_own : (t : ℕ) (z z' : NodeState) → Own t z → Own t z' → Others t z z'
others_own t z z' a b =
    record {
      taken = λ u ne e. absurd (a.taken u ne e);
      removed = λ u ne e. absurd (a.removed u ne e);
      retired = λ u ne. b.retired u ne ∙ sym (a.retired u ne);
    }

own_free : (t : ℕ) → Own t Free
own_free t =
    record {
      taken = λ u ne e. absurd cc;
      removed = λ u ne e. absurd cc;
      retired = λ u ne. refl;
    }

own_taken : (t : ℕ) → Own t (Taken t)
own_taken t =
    record {
      taken = λ u ne e. ne (cc);
      removed = λ u ne e. absurd cc;
      retired = λ u ne. refl;
    }

own_published : (t r : ℕ) → Own t (Published r)
own_published t r =
    record {
      taken = λ u ne e. absurd cc;
      removed = λ u ne e. absurd cc;
      retired = λ u ne. refl;
    }

own_removed : (t : ℕ) → Own t (Removed t)
own_removed t =
    record {
      taken = λ u ne e. absurd cc;
      removed = λ u ne e. ne (cc);
      retired = λ u ne. refl;
    }

own_retired : (t : ℕ) → Own t (RetiredBy t)
own_retired t =
    record {
      taken = λ u ne e. absurd cc;
      removed = λ u ne e. absurd cc;
      retired = λ u ne. ne_eqb t u (λ e. ne (sym e));
    }

-- the nodes stay, and so does the list of the thread
pub plain_moves : (x : Tables) (m : Meaning) (t : ℕ) (row : Thread) → t < x.settings.threads → Placed x m → FitsAt x.settings row.point → plain_at row.point ≡ true
    → row.retired ≡ (thread_of x t).retired → length row.guards ≡ x.settings.hazards → Placed (changed x t row x.nodes) m
plain_moves x m t row lt p fits plain same guards =
    table_moves x m m t row x.nodes lt p (steady_same p) refl (roots_of p) (λ n. others_same t (node_of x n))
    (record {
      fits = fits;
      guards = λ _. guards;
      taking = λ r n e. absurd (plain_publish row.point r n plain e);
      removing = λ r n e. absurd (plain_remove row.point r n plain e);
      listed = λ n pos. rw same (p.listed n t pos);
      real = rw same (p.real t);
      dates = rw same (p.dates t);
    })

-- one node goes from one place to another, neither in the list of the thread
node_moves : (x : Tables) (m m' : Meaning) (t n : ℕ) (was z : NodeState) (pt : Point) → t < x.settings.threads → Placed x m → Steady m m' → n < length x.nodes
    → node_of x n ≡ was → Own t was → Own t z → retired_in was t ≡ false → retired_in z t ≡ false → Rooted x.settings.roots (set x.nodes n z) m' → FitsAt x.settings pt
    → ((r k : ℕ) → pt ≡ publish1 r k → get_or (set x.nodes n z) k Free ≡ Taken t) → ((r k : ℕ) → pt ≡ remove3 r k → get_or (set x.nodes n z) k Free ≡ Removed t)
    → Placed (changed x t (moved_to pt (thread_of x t)) (set x.nodes n z)) m'
node_moves x m m' t n was z pt lt p st ln is own own' off off' q fits taking removing =
    table_moves x m m' t (moved_to pt (thread_of x t)) (set x.nodes n z) lt p st (length-set x.nodes n z) q
    (others_move x.nodes n z ln t (rw is (others_own t was z own own')))
    (record {
      fits = fits;
      guards = p.shape.guards t;
      taking = taking;
      removing = removing;
      listed = λ k pos. listed k pos (cases_eq k n);
      real = p.real t;
      dates = p.dates t;
    })
  where
    listed : (k : ℕ) → 0 < k → (k ≡ n) ⊎ (k ≢ n) → names k (thread_of x t).retired ≡ cond (retired_in (get_or (set x.nodes n z) k Free) t) 1 0
    listed k pos (inl e) = rw (e, at_same x.nodes n z ln, off') (rw (is, off) at (p.listed n t (rw e at pos)))
    listed k pos (inr ne) = rw (at_other x.nodes n z ln k ne) (p.listed k t pos)

-- A publish begins, and ends well or not.

free_unpublished : Unpublished Free
free_unpublished r e = absurd cc

taken_unpublished : (t : ℕ) → Unpublished (Taken t)
taken_unpublished t r e = absurd cc

removed_unpublished : (t : ℕ) → Unpublished (Removed t)
removed_unpublished t r e = absurd cc

retired_unpublished : (t : ℕ) → Unpublished (RetiredBy t)
retired_unpublished t r e = absurd cc

module _ (x : Tables) (m : Meaning) (t r n : ℕ) (lt : t < x.settings.threads) (p : Placed x m) (pos : 0 < n) (lr : r < x.settings.roots) where
  pub publish_begins : n ≤ x.settings.nodes → node_of x n ≡ Free → Placed (changed x t (moved_to (publish1 r n) (thread_of x t)) (set x.nodes n (Taken t))) m
  publish_begins le is =
      let ln : n < length x.nodes = let e = p.shape.nodes in omega arith in
      node_moves x m m t n Free (Taken t) (publish1 r n) lt p (steady_same p) ln is (own_free t) (own_taken t) refl refl
      (roots_off x.nodes n (Taken t) ln x.settings.roots m pos (rw is free_unpublished) (taken_unpublished t) (roots_of p))
      (lr, pos, le)
      (λ i k e. let f : k ≡ n = cc in rw f (at_same x.nodes n (Taken t) ln))
      (λ i k e. absurd cc)

  -- the root was occupied
  pub publish_fails : n ≤ x.settings.nodes → node_of x n ≡ Taken t → Placed (changed x t (moved_to idle (thread_of x t)) (set x.nodes n Free)) m
  publish_fails le is =
      let ln : n < length x.nodes = let e = p.shape.nodes in omega arith in
      node_moves x m m t n (Taken t) Free idle lt p (steady_same p) ln is (own_taken t) (own_free t) refl refl
      (roots_off x.nodes n Free ln x.settings.roots m pos (rw is (taken_unpublished t)) free_unpublished (roots_of p))
      tt
      (λ i k e. absurd cc)
      (λ i k e. absurd cc)

  pub publish_ends : (m' : Meaning) → Steady m m' → r < length m.cells → cell m r ≡ 0 → Put r n m m' → n ≤ x.settings.nodes → node_of x n ≡ Taken t
      → Placed (changed x t (moved_to idle (thread_of x t)) (set x.nodes n (Published r))) m'
  publish_ends m' st inside none put le is =
      let ln : n < length x.nodes = let e = p.shape.nodes in omega arith in
      node_moves x m m' t n (Taken t) (Published r) idle lt p st ln is (own_taken t) (own_published t r) refl refl
      (roots_put x.nodes n ln x.settings.roots m m' r pos lr inside none (rw is (taken_unpublished t)) put (roots_of p))
      tt
      (λ i k e. absurd cc)
      (λ i k e. absurd cc)

  -- a remove takes the node from the root
  pub remove_takes : (m' : Meaning) → Steady m m' → r < length m.cells → cell m r ≡ n → Put r 0 m m' → Placed (changed x t (moved_to (remove3 r n) (thread_of x t)) (set x.nodes n (Removed t))) m'
  remove_takes m' st inside here put =
      let is : node_of x n ≡ Published r = rw here at (p.rooted r lr (rw here pos)) in
      let ln : n < length x.nodes = in_range_lem x.nodes n (λ e. absurd cc) in
      node_moves x m m' t n (Published r) (Removed t) (remove3 r n) lt p st ln is (own_published t r) (own_removed t) refl refl
      (roots_taken x.nodes n (Removed t) ln x.settings.roots m m' r pos lr inside here (removed_unpublished t) put (roots_of p))
      (lr, pos, let e = p.shape.nodes in omega arith)
      (λ i k e. absurd cc)
      (λ i k e. let f : k ≡ n = cc in rw f (at_same x.nodes n (Removed t) ln))

-- A removed node goes into the list of its thread.

abbrev pub entry : ℕ → ℕ → Retired
entry n d = record { node = n; date = d }

pub retires : (x : Tables) (m : Meaning) (t n d : ℕ) → t < x.settings.threads → Placed x m → 0 < n → n ≤ x.settings.nodes → d ≤ m.clock → node_of x n ≡ Removed t
    → Placed (changed x t (moved_to idle (listing ((thread_of x t).retired ++ entry n d ∷ []) (thread_of x t))) (set x.nodes n (RetiredBy t))) m
retires x m t n d lt p pos le past is =
    table_moves x m m t (moved_to idle (listing ((thread_of x t).retired ++ entry n d ∷ []) (thread_of x t))) (set x.nodes n (RetiredBy t)) lt p (steady_same p) (length-set x.nodes n (RetiredBy t))
    (roots_off x.nodes n (RetiredBy t) ln x.settings.roots m pos (rw is (removed_unpublished t)) (retired_unpublished t) (roots_of p))
    (others_move x.nodes n (RetiredBy t) ln t (rw is (others_own t (Removed t) (RetiredBy t) (own_removed t) (own_retired t))))
    (record {
      fits = tt;
      guards = p.shape.guards t;
      taking = λ i k e. absurd cc;
      removing = λ i k e. absurd cc;
      listed = λ k pk. listed k pk (cases_eq k n);
      real = All-push (λ (e : Retired). 0 < e.node) (thread_of x t).retired (entry n d) (p.real t) pos;
      dates = All-push (λ (e : Retired). e.date ≤ m.clock) (thread_of x t).retired (entry n d) (p.dates t) past;
    })
  where
    ln : n < length x.nodes
    ln = let e = p.shape.nodes in omega arith

    listed : (k : ℕ) → 0 < k → (k ≡ n) ⊎ (k ≢ n) → names k ((thread_of x t).retired ++ entry n d ∷ []) ≡ cond (retired_in (get_or (set x.nodes n (RetiredBy t)) k Free) t) 1 0
    listed k pk (inl e) =
        let f : names n (thread_of x t).retired ≡ 0 = rw is at (p.listed n t pos) in
        rw (e, at_same x.nodes n (RetiredBy t) ln, eq-eqb t t refl, names_push n (thread_of x t).retired (entry n d), eq-eqb n n refl, f) refl
    listed k pk (inr ne) =
        let f = p.listed k t pk in
        let g : names k (thread_of x t).retired + 0 ≡ names k (thread_of x t).retired = omega arith in
        rw (at_other x.nodes n (RetiredBy t) ln k ne, names_push k (thread_of x t).retired (entry n d), ne_eqb n k (λ e. ne (sym e)), g) f

-- A sweep ends.

pub sweeps : (x : Tables) (m : Meaning) (t b now : ℕ) (seen : List ℕ) → t < x.settings.threads → Placed x m
    → Placed (changed x t (moved_to idle (listing (kept b now seen (thread_of x t).retired) (thread_of x t))) (freeing (freed b now seen (thread_of x t).retired) x.nodes)) m
sweeps x m t b now seen lt p =
    table_moves x m m t (moved_to idle (listing stay (thread_of x t))) ns lt p (steady_same p) (length-freeing gone x.nodes)
    (roots_stay x.settings.roots x.nodes ns m none off (roots_of p))
    others
    (record {
      fits = tt;
      guards = p.shape.guards t;
      taking = λ i k e. absurd cc;
      removing = λ i k e. absurd cc;
      listed = λ k pk. listed k pk (state k);
      real = all_kept_by (keeps b now seen) (λ (e : Retired). 0 < e.node) (thread_of x t).retired (p.real t);
      dates = all_kept_by (keeps b now seen) (λ (e : Retired). e.date ≤ m.clock) (thread_of x t).retired (p.dates t);
    })
  where
    stay : List Retired
    stay = kept b now seen (thread_of x t).retired

    gone : List Retired
    gone = freed b now seen (thread_of x t).retired

    ns : List NodeState
    ns = freeing gone x.nodes

    -- a node is freed, or stays where it was
    state : (n : ℕ) → ((names n gone ≡ 0) × (get_or ns n Free ≡ node_of x n)) ⊎ ((0 < names n gone) × (get_or ns n Free ≡ Free))
    state n = elim (cases_lt 0 (names n gone)) [ inl some ↦ inr (some, freeing_at gone x.nodes n ∙ cond-true (ltb 0 (names n gone)) Free (node_of x n) (lt-ltb 0 (names n gone) some)) | inr few ↦ inl (omega arith, freeing_at gone x.nodes n ∙ cond-false (ltb 0 (names n gone)) Free (node_of x n) (le-ltb 0 (names n gone) few)) ]

    none : get_or ns 0 Free ≡ Free
    none = elim (state 0) [ inl s ↦ s.1 ∙ p.none | inr s ↦ s.1 ]

    -- what is freed was in the list
    was : (n : ℕ) → 0 < n → 0 < names n gone → node_of x n ≡ RetiredBy t
    was n pos some = at (cases_Bool (retired_in (node_of x n) t))
      where
        at : (retired_in (node_of x n) t ≡ true) ⊎ (retired_in (node_of x n) t ≡ false) → node_of x n ≡ RetiredBy t
        at (inl e) = retired_is (node_of x n) t e
        at (inr e) =
            let f : names n (thread_of x t).retired ≡ 0 = rw e at (p.listed n t pos) in
            let g = names_parts (keeps b now seen) n (thread_of x t).retired in
            absurd (omega arith)

    others : (n : ℕ) → Others t (node_of x n) (get_or ns n Free)
    others n = at (state n) (cases_lt 0 n)
      where
        at : ((names n gone ≡ 0) × (get_or ns n Free ≡ node_of x n)) ⊎ ((0 < names n gone) × (get_or ns n Free ≡ Free)) → (0 < n) ⊎ (n ≤ 0) → Others t (node_of x n) (get_or ns n Free)
        at (inl s) _ = rw s.1 (others_same t (node_of x n))
        at (inr s) (inl pos) = rw (s.1, was n pos s.0) (others_own t (RetiredBy t) Free (own_retired t) (own_free t))
        at (inr s) (inr low) = let e : n ≡ 0 = omega arith in rw (e, none, p.none) (others_same t Free)

    off : (n : ℕ) → (get_or ns n Free ≡ node_of x n) ⊎ (Unpublished (node_of x n) × Unpublished (get_or ns n Free))
    off n = at (state n) (cases_lt 0 n)
      where
        at : ((names n gone ≡ 0) × (get_or ns n Free ≡ node_of x n)) ⊎ ((0 < names n gone) × (get_or ns n Free ≡ Free)) → (0 < n) ⊎ (n ≤ 0)
            → (get_or ns n Free ≡ node_of x n) ⊎ (Unpublished (node_of x n) × Unpublished (get_or ns n Free))
        at (inl s) _ = inl s.1
        at (inr s) (inl pos) = inr (rw (was n pos s.0) (retired_unpublished t), rw s.1 free_unpublished)
        at (inr s) (inr low) = let e : n ≡ 0 = omega arith in inl (rw (e, none, p.none) refl)

    listed : (n : ℕ) → 0 < n → ((names n gone ≡ 0) × (get_or ns n Free ≡ node_of x n)) ⊎ ((0 < names n gone) × (get_or ns n Free ≡ Free)) → names n stay ≡ cond (retired_in (get_or ns n Free) t) 1 0
    listed n pos (inl s) =
        let f = names_parts (keeps b now seen) n (thread_of x t).retired in
        let e : names n stay ≡ names n (thread_of x t).retired = let g = s.0 in omega arith in
        rw (s.1, e) (p.listed n t pos)
    listed n pos (inr s) =
        let f = names_parts (keeps b now seen) n (thread_of x t).retired in
        let e : names n (thread_of x t).retired ≡ 1 = rw (was n pos s.0, eq-eqb t t refl) at (p.listed n t pos) in
        rw s.1 (let g = s.0 in omega arith)
