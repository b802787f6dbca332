-- Changes of nodes: one node that goes to another place, and the nodes that a sweep frees. Assumes nothing.
use Rattle.std.proofs.Common.{◌≡◌, ℕ, ◌+◌, ◌<◌, Bool, true, false, cond, not, eqb, ltb, ◌≢◌, ◌⊎◌, List, [], ◌∷◌, ◌++◌, length, get_or, set, filter, sym, refl, ap, ◌∙◌, inl, inr, arith}
use Rattle.std.proofs.lemmas.List.{length-set, get_or-set_same, get_or-set_other, get_or_past, set_past}
use Rattle.std.proofs.lemmas.Bool.{cases_eq, cases_lt, eqb-true, eq-eqb, ne_eqb, lt-ltb}
use Rattle.memory.specs.Meaning.{Meaning, cell}
use Rattle.memory.proofs.Views.{Put}
use Rattle.protocol.specs.declared.node.NodeState.{NodeState}
use Rattle.protocol.specs.declared.node.NodeState.TheVariants.{Free, Taken, Published, Removed, Retired as RetiredBy}
use Rattle.protocol.specs.declared.retired.Retired.{Retired}
use Rattle.protocol.specs.Guarantees.{retired_in}
use Rattle.protocol.specs.History.{names}
use Rattle.protocol.specs.Steps.{freeing}
use Rattle.protocol.proofs.PlacedRows.{Rooted, Others, others_same}
use Rattle.protocol.proofs.Refusals.{cond_same}

abbrev pub Unpublished : NodeState → Type 0
Unpublished z = (r : ℕ) → z ≡ Published r → ⊥

-- a node that is in use is in range
pub in_range_lem : (ns : List NodeState) (n : ℕ) → (get_or ns n Free ≡ Free → ⊥) → n < length ns
in_range_lem ns n un = elim (cases_lt n (length ns)) [ inl lt ↦ lt | inr le ↦ absurd (un (get_or_past ns n Free le)) ]

-- only nodes that are not at a root, before and after, change
pub roots_stay : (roots : ℕ) (ns ns' : List NodeState) (m : Meaning) → get_or ns' 0 Free ≡ Free
    → ((n : ℕ) → (get_or ns' n Free ≡ get_or ns n Free) ⊎ (Unpublished (get_or ns n Free) × Unpublished (get_or ns' n Free))) → Rooted roots ns m → Rooted roots ns' m
roots_stay roots ns ns' m none some q =
    record {
      none = none;
      rooted = λ r lt pos. let e = q.rooted r lt pos in elim (some (cell m r)) [ inl f ↦ f ∙ e | inr un ↦ absurd (un.0 r e) ];
      published = λ n r e. elim (some n) [ inl f ↦ q.published n r (sym f ∙ e) | inr un ↦ absurd (un.1 r e) ];
    }

-- one node
module _ (ns : List NodeState) (n : ℕ) (z : NodeState) (lt : n < length ns) where
  pub at_same : get_or (set ns n z) n Free ≡ z
  at_same = get_or-set_same ns n z Free lt

  pub at_other : (k : ℕ) → k ≢ n → get_or (set ns n z) k Free ≡ get_or ns k Free
  at_other k ne = get_or-set_other ns n k z Free ne

  pub at_none : 0 < n → get_or ns 0 Free ≡ Free → get_or (set ns n z) 0 Free ≡ Free
  at_none pos e = at_other 0 (λ f. omega arith) ∙ e

  pub others_move : (t : ℕ) → Others t (get_or ns n Free) z → (k : ℕ) → Others t (get_or ns k Free) (get_or (set ns n z) k Free)
  others_move t o k = elim (cases_eq k n) [ inl e ↦ rw (e, at_same) o | inr ne ↦ rw (at_other k ne) (others_same t (get_or ns k Free)) ]

  -- off the roots
  pub roots_off : (roots : ℕ) (m : Meaning) → 0 < n → Unpublished (get_or ns n Free) → Unpublished z → Rooted roots ns m → Rooted roots (set ns n z) m
  roots_off roots m pos a b q = roots_stay roots ns (set ns n z) m (at_none pos q.none) (λ k. at k (cases_eq k n)) q
    where
      at : (k : ℕ) → (k ≡ n) ⊎ (k ≢ n) → (get_or (set ns n z) k Free ≡ get_or ns k Free) ⊎ (Unpublished (get_or ns k Free) × Unpublished (get_or (set ns n z) k Free))
      at k (inl e) = inr (rw e a, rw (e, at_same) b)
      at k (inr ne) = inl (at_other k ne)

  -- away from root r
  pub roots_taken : (roots : ℕ) (m m' : Meaning) (r : ℕ) → 0 < n → r < roots → r < length m.cells → cell m r ≡ n → Unpublished z → Put r 0 m m' → Rooted roots ns m → Rooted roots (set ns n z) m'
  roots_taken roots m m' r pos lr inside is un put q = record { none = at_none pos q.none; rooted = λ k lk pk. rooted k lk pk (cases_eq k r); published = λ k i e. published k i e (cases_eq k n) }
    where
      was : get_or ns n Free ≡ Published r
      was = rw is at (q.rooted r lr (rw is pos))

      rooted : (k : ℕ) → k < roots → 0 < cell m' k → (k ≡ r) ⊎ (k ≢ r) → get_or (set ns n z) (cell m' k) Free ≡ Published k
      rooted k lk pk (inl e) = let f : cell m' k ≡ 0 = rw e (put.here inside) in absurd (omega arith)
      rooted k lk pk (inr ne) =
          let f : cell m' k ≡ cell m k = put.elsewhere k ne in
          let g : get_or ns (cell m k) Free ≡ Published k = q.rooted k lk (rw f at pk) in
          rw f (at_other (cell m k) (λ h. let i : get_or ns n Free ≡ Published k = rw h at g in ne (cc was)) ∙ g)

      published : (k i : ℕ) → get_or (set ns n z) k Free ≡ Published i → (k ≡ n) ⊎ (k ≢ n) → (i < roots) × (cell m' i ≡ k)
      published k i e (inl f) = absurd (un i (rw (f, at_same) at e))
      published k i e (inr ne) =
          let g = q.published k i (sym (at_other k ne) ∙ e) in
          (g.0, put.elsewhere i (λ h. let j : cell m r ≡ k = rw h at g.1 in ne (cc)) ∙ g.1)

-- to root r
pub roots_put : (ns : List NodeState) (n : ℕ) → n < length ns → (roots : ℕ) (m m' : Meaning) (r : ℕ) → 0 < n → r < roots → r < length m.cells → cell m r ≡ 0 → Unpublished (get_or ns n Free) → Put r n m m' → Rooted roots ns m → Rooted roots (set ns n (Published r)) m'
roots_put ns n lt roots m m' r pos lr inside is un put q =
    record { none = at_none ns n (Published r) lt pos q.none; rooted = λ k lk pk. rooted k lk pk (cases_eq k r); published = λ k i e. published k i e (cases_eq k n) }
  where
    rooted : (k : ℕ) → k < roots → 0 < cell m' k → (k ≡ r) ⊎ (k ≢ r) → get_or (set ns n (Published r)) (cell m' k) Free ≡ Published k
    rooted k lk pk (inl e) = rw (e, put.here inside) (at_same ns n (Published r) lt)
    rooted k lk pk (inr ne) =
        let f : cell m' k ≡ cell m k = put.elsewhere k ne in
        let g : get_or ns (cell m k) Free ≡ Published k = q.rooted k lk (rw f at pk) in
        rw f (at_other ns n (Published r) lt (cell m k) (λ h. un k (rw h at g)) ∙ g)

    published : (k i : ℕ) → get_or (set ns n (Published r)) k Free ≡ Published i → (k ≡ n) ⊎ (k ≢ n) → (i < roots) × (cell m' i ≡ k)
    published k i e (inl f) =
        let g : Published r ≡ Published i = sym (at_same ns n (Published r) lt) ∙ (rw f at e) in
        let h : i ≡ r = cc in
        (rw h lr, rw (h, f) (put.here inside))
    published k i e (inr ne) =
        let w : get_or ns k Free ≡ Published i = sym (at_other ns n (Published r) lt k ne) ∙ e in
        let g = q.published k i w in (
          g.0,
          put.elsewhere i
              (λ h. let j : cell m r ≡ k = rw h at g.1 in let o : k ≡ 0 = cc in let a : get_or ns 0 Free ≡ Published i = rw o at w in let b = q.none in absurd cc)
              ∙ g.1,
        )

-- Freed nodes.

free_at : (ns : List NodeState) (n : ℕ) → get_or (set ns n Free) n Free ≡ Free
free_at ns n = elim (cases_lt n (length ns)) [ inl lt ↦ get_or-set_same ns n Free Free lt | inr le ↦ rw (set_past ns n Free le) (get_or_past ns n Free le) ]

pub freeing_at : (l : List Retired) (ns : List NodeState) (n : ℕ) → get_or (freeing l ns) n Free ≡ cond (ltb 0 (names n l)) Free (get_or ns n Free)
freeing_at [] ns n = refl
freeing_at (e ∷ l) ns n = at (cases_eq n e.node) (freeing_at l (set ns e.node Free) n)
  where
    at : (n ≡ e.node) ⊎ (n ≢ e.node) → get_or (freeing l (set ns e.node Free)) n Free ≡ cond (ltb 0 (names n l)) Free (get_or (set ns e.node Free) n Free)
        → get_or (freeing l (set ns e.node Free)) n Free ≡ cond (ltb 0 (cond (eqb e.node n) 1 0 + names n l)) Free (get_or ns n Free)
    at (inl f) ih =
        let g : get_or (set ns e.node Free) n Free ≡ Free = rw f (free_at ns e.node) in
        rw (eq-eqb e.node n (sym f), lt-ltb 0 (1 + names n l) (omega arith)) ((rw g at ih) ∙ cond_same (ltb 0 (names n l)) Free)
    at (inr ne) ih =
        let z : 0 + names n l ≡ names n l = omega arith in
        rw (ne_eqb e.node n (λ f. ne (sym f)), z) (rw (get_or-set_other ns e.node n Free Free ne) at ih)

pub length-freeing : (l : List Retired) (ns : List NodeState) → length (freeing l ns) ≡ length ns
length-freeing [] ns = refl
length-freeing (e ∷ l) ns = length-freeing l (set ns e.node Free) ∙ length-set ns e.node Free

-- a sweep keeps or frees each entry
pub names_parts : (p : Retired → Bool) (n : ℕ) (l : List Retired) → names n (filter p l) + names n (filter (λ e. not (p e)) l) ≡ names n l
names_parts p n [] = refl
names_parts p n (e ∷ l) = at (p e) refl (names_parts p n l)
  where
    at : (b : Bool) → p e ≡ b → names n (filter p l) + names n (filter (λ e. not (p e)) l) ≡ names n l
        → names n (cond (p e) (e ∷ filter p l) (filter p l)) + names n (cond (not (p e)) (e ∷ filter (λ e. not (p e)) l) (filter (λ e. not (p e)) l)) ≡ cond (eqb e.node n) 1 0 + names n l
    at true f ih = rw f (omega arith)
    at false f ih = rw f (omega arith)

pub names_push : (n : ℕ) (l : List Retired) (e : Retired) → names n (l ++ e ∷ []) ≡ names n l + cond (eqb e.node n) 1 0
names_push n [] e = omega arith
names_push n (y ∷ l) e = let h = names_push n l e in omega arith

pub retired_is : (z : NodeState) (t : ℕ) → retired_in z t ≡ true → z ≡ RetiredBy t
retired_is Free t e = cc
retired_is (Taken u) t e = cc
retired_is (Published r) t e = cc
retired_is (Removed u) t e = cc
retired_is (RetiredBy u) t e = ap RetiredBy (eqb-true u t e)
