-- The path of a node through a thread's hazard cells: what landings, new stores and loads do to it. Assumes nothing.
use Rattle.std.proofs.Common.{◌≡◌, ℕ, ◌+◌, ◌<◌, ◌≤◌, Bool, true, false, cond, eqb, leb, List, [], ◌∷◌, ◌++◌, refl, ◌∙◌, inl, inr, arith}
use Rattle.std.specs.List.{AllByRecursion}
use Rattle.std.proofs.lemmas.Bool.{cases_eq, le-leb, lt-leb, eq-eqb, ne_eqb}
use Rattle.protocol.proofs.Paths.{Slot, put, last_of, Path, Early, PathAfter}

-- One store.
pub put_same : (view view' : ℕ → ℕ) (w : Slot) → ((k : ℕ) → view' k ≡ view k) → (k : ℕ) → put view' w k ≡ put view w k
put_same view view' w same k = rw (same k) refl

pub put_here : (view : ℕ → ℕ) (w : Slot) → put view w w.index ≡ w.value
put_here view w = rw (eq-eqb w.index w.index refl) refl

pub put_other : (view : ℕ → ℕ) (w : Slot) (i : ℕ) → (w.index ≡ i → ⊥) → put view w i ≡ view i
put_other view w i ne = rw (ne_eqb w.index i ne) refl

-- What the cell holds in the end.
pub last_same : (view view' : ℕ → ℕ) (ws : List Slot) (i : ℕ) → ((k : ℕ) → view' k ≡ view k) → last_of view' ws i ≡ last_of view ws i
last_same view view' [] i same = same i
last_same view view' (w ∷ ws) i same = last_same (put view w) (put view' w) ws i (put_same view view' w same)

pub last_store : (view : ℕ → ℕ) (ws : List Slot) (w : Slot) (i : ℕ) → last_of view (ws ++ w ∷ []) i ≡ cond (eqb w.index i) w.value (last_of view ws i)
last_store view [] w i = refl
last_store view (v ∷ ws) w i = last_store (put view v) ws w i

pub last_landed : (view : ℕ → ℕ) (w : Slot) (ws : List Slot) (i : ℕ) → last_of (put view w) ws i ≡ last_of view (w ∷ ws) i
last_landed view w ws i = refl

pub last_path : (view : ℕ → ℕ) (ws : List Slot) (lo i n : ℕ) → Path view ws lo i n → last_of view ws i ≡ n
last_path view [] lo i n (le, e) = e
last_path view (w ∷ ws) lo i n (j, a, b, e, p) = last_path (put view w) ws j i n p

-- The path.
pub path_same : (view view' : ℕ → ℕ) (ws : List Slot) (lo i n : ℕ) → ((k : ℕ) → view' k ≡ view k) → Path view ws lo i n → Path view' ws lo i n
path_same view view' [] lo i n same (le, e) = (le, same i ∙ e)
path_same view view' (w ∷ ws) lo i n same (j, a, b, e, p) = (j, a, b, same j ∙ e, path_same (put view w) (put view' w) ws j i n (put_same view view' w same) p)

pub path_lower : (view : ℕ → ℕ) (ws : List Slot) (lo lo' i n : ℕ) → lo' ≤ lo → Path view ws lo i n → Path view ws lo' i n
path_lower view [] lo lo' i n low (le, e) = (omega arith, e)
path_lower view (w ∷ ws) lo lo' i n low (j, a, b, e, p) = (j, omega arith, b, e, p)

-- the oldest store lands
pub path_landed : (view : ℕ → ℕ) (w : Slot) (ws : List Slot) (lo i n : ℕ) → Path view (w ∷ ws) lo i n → Path (put view w) ws lo i n
path_landed view w ws lo i n (j, a, b, e, p) = path_lower (put view w) ws j lo i n a p

-- a new store elsewhere
pub path_store : (view : ℕ → ℕ) (ws : List Slot) (w : Slot) (lo i n : ℕ) → (w.index ≡ i → ⊥) → Path view ws lo i n → Path view (ws ++ w ∷ []) lo i n
path_store view [] w lo i n ne (le, e) = (i, le, omega arith, e, (omega arith, put_other view w i ne ∙ e))
path_store view (v ∷ ws) w lo i n ne (j, a, b, e, p) = (j, a, b, e, path_store (put view v) ws w j i n ne p)

-- a new store of the same node, in a cell not below
pub path_copy : (view : ℕ → ℕ) (ws : List Slot) (w : Slot) (lo i n : ℕ) → w.value ≡ n → i ≤ w.index → Path view ws lo i n → Path view (ws ++ w ∷ []) lo w.index n
path_copy view [] w lo i n is up (le, e) = (i, le, up, e, (up, put_here view w ∙ is))
path_copy view (v ∷ ws) w lo i n is up (j, a, b, e, p) = (j, a, omega arith, e, path_copy (put view v) ws w j i n is up p)

-- cell lo was loaded and did not show the node
pub path_next : (view : ℕ → ℕ) (ws : List Slot) (lo i n : ℕ) → (view lo ≡ n → ⊥) → Path view ws lo i n → Path view ws (lo + 1) i n
path_next view ws lo i n un p = at ws p
  where
    above : (j : ℕ) → lo ≤ j → view j ≡ n → lo + 1 ≤ j
    above j le e = elim (cases_eq lo j) [ inl f ↦ absurd (un (rw f e)) | inr ne ↦ omega arith ]

    at : (ws : List Slot) → Path view ws lo i n → Path view ws (lo + 1) i n
    at [] (le, e) = (above i le e, e)
    at (w ∷ ws) (j, a, b, e, p) = (j, above j a e, b, e, p)

-- no cell is left
pub path_end : (view : ℕ → ℕ) (ws : List Slot) (lo i n : ℕ) → i < lo → Path view ws lo i n → ⊥
path_end view [] lo i n past (le, e) = omega arith
path_end view (w ∷ ws) lo i n past (j, a, b, e, p) = omega arith

-- The path once the leading stores dated r or before have landed.
early_both : (b : Bool) {P Q P' Q' : Type 0} → (P → P') → (Q → Q') → Early b P Q → Early b P' Q'
early_both true f g = f
early_both false f g = g

early_from : (b : Bool) {P Q R : Type 0} → (R → P) → (R → Q) → R → Early b P Q
early_from true f g = f
early_from false f g = g

early_to : (b : Bool) {P Q R : Type 0} → (P → R) → (Q → R) → Early b P Q → R
early_to true f g = f
early_to false f g = g

pub path_after : (r : ℕ) (view : ℕ → ℕ) (ws : List Slot) (i n : ℕ) → Path view ws 0 i n → PathAfter r view ws i n
path_after r view [] i n p = p
path_after r view (w ∷ ws) i n p = early_from (leb w.date r) (λ q. path_after r (put view w) ws i n (path_landed view w ws 0 i n q)) (λ q. q) p

pub after_last : (r : ℕ) (view : ℕ → ℕ) (ws : List Slot) (i n : ℕ) → PathAfter r view ws i n → last_of view ws i ≡ n
after_last r view [] i n (le, e) = e
after_last r view (w ∷ ws) i n p = early_to (leb w.date r) (after_last r (put view w) ws i n) (last_path view (w ∷ ws) 0 i n) p

pub after_same : (r : ℕ) (view view' : ℕ → ℕ) (ws : List Slot) (i n : ℕ) → ((k : ℕ) → view' k ≡ view k) → PathAfter r view ws i n → PathAfter r view' ws i n
after_same r view view' [] i n same p = path_same view view' [] 0 i n same p
after_same r view view' (w ∷ ws) i n same p =
    early_both (leb w.date r) (after_same r (put view w) (put view' w) ws i n (put_same view view' w same)) (path_same view view' (w ∷ ws) 0 i n same) p

-- the oldest store lands
pub after_landed : (r : ℕ) (view : ℕ → ℕ) (w : Slot) (ws : List Slot) (i n : ℕ) → PathAfter r view (w ∷ ws) i n → PathAfter r (put view w) ws i n
after_landed r view w ws i n = early_to (leb w.date r) (λ p. p) (λ p. path_after r (put view w) ws i n (path_landed view w ws 0 i n p))

-- a new store elsewhere
pub after_store : (r : ℕ) (view : ℕ → ℕ) (ws : List Slot) (w : Slot) (i n : ℕ) → (w.index ≡ i → ⊥) → PathAfter r view ws i n → PathAfter r view (ws ++ w ∷ []) i n
after_store r view [] w i n ne p = path_after r view (w ∷ []) i n (path_store view [] w 0 i n ne p)
after_store r view (v ∷ ws) w i n ne p = early_both (leb v.date r) (after_store r (put view v) ws w i n ne) (path_store view (v ∷ ws) w 0 i n ne) p

-- a new store of the same node, in a cell not below
pub after_copy : (r : ℕ) (view : ℕ → ℕ) (ws : List Slot) (w : Slot) (i n : ℕ) → w.value ≡ n → i ≤ w.index → PathAfter r view ws i n → PathAfter r view (ws ++ w ∷ []) w.index n
after_copy r view [] w i n is up p = path_after r view (w ∷ []) w.index n (path_copy view [] w 0 i n is up p)
after_copy r view (v ∷ ws) w i n is up p = early_both (leb v.date r) (after_copy r (put view v) ws w i n is up) (path_copy view (v ∷ ws) w 0 i n is up) p

-- every store so far is dated r or before
pub after_retire : (r : ℕ) (view : ℕ → ℕ) (ws : List Slot) (i n : ℕ) → AllByRecursion (λ (w : Slot). w.date ≤ r) ws → last_of view ws i ≡ n → PathAfter r view ws i n
after_retire r view [] i n all e = (omega arith, e)
after_retire r view (w ∷ ws) i n (d, all) e = rw (le-leb w.date r d) (after_retire r (put view w) ws i n all e)

-- no store dated r or before waits any more
pub after_scan : (r : ℕ) (view : ℕ → ℕ) (ws : List Slot) (i n : ℕ) → AllByRecursion (λ (w : Slot). r < w.date) ws → PathAfter r view ws i n → Path view ws 0 i n
after_scan r view [] i n all p = p
after_scan r view (w ∷ ws) i n (d, all) p = rw (lt-leb w.date r d) at p
