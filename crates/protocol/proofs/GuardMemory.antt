-- The memory as hazard pointers see it: who writes which hazard cell, what each action of the memory does to the cells and to
-- what waits for them, and what a load gives. Assumes nothing.
use Rattle.std.proofs.Common.{◌≡◌, ℕ, zero, suc, ◌+◌, ◌-◌, ◌*◌, ◌<◌, ◌≤◌, Bool, true, false, cond, eqb, ltb, leb, ◌≢◌, ◌⊎◌, List, [], ◌∷◌, ◌++◌, map, length, Some, None, filter, Option, sym, refl, ap, ◌∙◌, subst, inl, inr, mul_comm, mul-le-mul, arith}
use Rattle.std.specs.List.{AllByRecursion}
use Rattle.std.proofs.lemmas.List.Elements.{filter-append}
use Rattle.std.proofs.ByRecursion.{All-push, All-weaker, all_kept_by, All-map}
use Rattle.std.proofs.lemmas.List.{append-nil, map-append}
use Rattle.std.proofs.lemmas.Bool.{true≢false, cases_Bool, cases_eq, cases_lt, cases_order, and_parts, and_from, and_right, leb-true, ltb-true, le-leb, lt-ltb, le-ltb, eq-eqb, ne_eqb}
use Rattle.memory.specs.declared.write.Write.{Write}
use Rattle.memory.specs.Calls.{Sound}
use Rattle.memory.specs.Landings.{Landing, LandsAs, Lands}
use Rattle.memory.specs.Meaning.{Meaning, queue, cell, written, stored, landed, exchanged, ticked, due, newest_or, value_or, loaded}
use Rattle.memory.proofs.Dueness.{InTime, due_none}
use Rattle.memory.proofs.Soundness.{landed_sound}
use Rattle.memory.proofs.Views.{Popped, Pushed, landed_cases, stored_pushes, exchanged_puts, exchanged_none, ticked_moves, lands_keep}
use Rattle.protocol.specs.declared.settings.Settings.{Settings}
use Rattle.protocol.specs.Settings.{hazard_cell, hazard_cells}
use Rattle.protocol.specs.Tables.{Tables}
use Rattle.protocol.proofs.GuardView.{is_hazard_of, slot_of, slots_of, view_of, GuardState, guard_state, SameCells, LandsSlot, StoresSlot, TicksOn, Still, Loads, others, own, GuardPath, rests, lands}
use Rattle.protocol.proofs.Paths.{Slot, put, last_of}
use Rattle.protocol.proofs.PlacedMemory.{hazard_below}

-- Cells.

-- the cells of a thread stand before those of the next
pub rows_apart : (k t u : ℕ) → t < u → k * t + k ≤ k * u
rows_apart k t u lt =
    let a : k ≤ k = omega arith in
    let b : t + 1 ≤ u = omega arith in
    let c : k * (t + 1) ≤ k * u = mul-le-mul a b in
    omega arith

pub places_apart : (k t u i j : ℕ) → k * t + i ≡ k * u + j → i < k → j < k → (t ≡ u) × (i ≡ j)
places_apart k t u i j e lt lu = at (cases_order t u)
  where
    at : (t ≡ u) ⊎ ((t < u) ⊎ (u < t)) → (t ≡ u) × (i ≡ j)
    at (inl f) = (f, let g : k * t + i ≡ k * t + j = e ∙ ap (λ (v : ℕ). k * v + j) (sym f) in omega arith)
    at (inr (inl l)) = let h = rows_apart k t u l in absurd (omega arith)
    at (inr (inr l)) = let h = rows_apart k u t l in absurd (omega arith)

-- a hazard cell has one thread and one index
pub cell_apart : (z : Settings) (t u i j : ℕ) → hazard_cell z t i ≡ hazard_cell z u j → i < z.hazards → j < z.hazards → (t ≡ u) × (i ≡ j)
cell_apart z t u i j e lt lu = places_apart z.hazards t u i j (omega arith) lt lu

-- a number below k × n is k × t + i with t < n and i < k
pub record Place (z : Settings) (c : ℕ) : Type 0 where
  pub thread : ℕ
  pub index : ℕ
  pub is : c ≡ z.hazards * thread + index
  pub below : index < z.hazards
  pub inside : thread < z.threads

parts : (k c : ℕ) → 0 < k → (t : ℕ) × (i : ℕ) × (c ≡ k * t + i) × (i < k)
parts k zero pos = (0, 0, omega arith, pos)
parts k (suc c) pos = next (parts k c pos)
  where
    next : (t : ℕ) × (i : ℕ) × (c ≡ k * t + i) × (i < k) → (t : ℕ) × (i : ℕ) × (suc c ≡ k * t + i) × (i < k)
    next (t, i, e, lt) = elim (cases_lt (i + 1) k) [ inl more ↦ (t, i + 1, omega arith, more) | inr last ↦ (t + 1, 0, omega arith, pos) ]

pub place_of : (z : Settings) (c : ℕ) → c < hazard_cells z → Place z c
place_of z c lt = go (parts z.hazards c (elim (cases_lt 0 z.hazards) [ inl pos ↦ pos | inr none ↦ absurd (empty none) ]))
  where
    empty : z.hazards ≤ 0 → ⊥
    empty none = let a : z.threads ≤ z.threads = omega arith in let b : z.threads * z.hazards ≤ z.threads * 0 = mul-le-mul a none in omega arith

    go : (t : ℕ) × (i : ℕ) × (c ≡ z.hazards * t + i) × (i < z.hazards) → Place z c
    go (t, i, e, li) = record { thread = t; index = i; is = e; below = li; inside = elim (cases_lt t z.threads) [ inl l ↦ l | inr far ↦ absurd (past far) ] }
      where
        past : z.threads ≤ t → ⊥
        past far =
            let a : z.hazards ≤ z.hazards = omega arith in
            let b : z.hazards * z.threads ≤ z.hazards * t = mul-le-mul a far in
            let d : z.hazards * z.threads ≡ z.threads * z.hazards = mul_comm z.hazards z.threads in
            omega arith

-- Who writes where.

-- a write of t for a hazard cell is for one of its own
abbrev pub OwnWrite : Settings → ℕ → Write → Type 0
OwnWrite z t w = w.cell < z.roots + hazard_cells z → is_hazard_of z t w ≡ true

pub record Owns (z : Settings) (m : Meaning) : Type 0 where
  pub own : (t : ℕ) → AllByRecursion (OwnWrite z t) (queue m t)
  -- numbers that are no thread's write nothing
  pub beyond : (t : ℕ) → z.threads ≤ t → queue m t ≡ []

pub is_hazard_lem : (z : Settings) (t i : ℕ) (w : Write) → w.cell ≡ hazard_cell z t i → i < z.hazards → is_hazard_of z t w ≡ true
is_hazard_lem z t i w e lt = and_from (leb (hazard_cell z t 0) w.cell) (ltb w.cell (hazard_cell z t z.hazards)) (le-leb _ _ (omega arith)) (lt-ltb _ _ (omega arith))

pub hazard_is : (z : Settings) (t : ℕ) (w : Write) → is_hazard_of z t w ≡ true → (w.cell ≡ hazard_cell z t (w.cell - hazard_cell z t 0)) × (w.cell - hazard_cell z t 0 < z.hazards)
hazard_is z t w e =
    let p = and_parts (leb (hazard_cell z t 0) w.cell) (ltb w.cell (hazard_cell z t z.hazards)) e in
    let a = leb-true (hazard_cell z t 0) w.cell p.0 in
    let b = ltb-true w.cell (hazard_cell z t z.hazards) p.1 in
    (omega arith, omega arith)

pub owns_landed : (z : Settings) (t : ℕ) (m : Meaning) → Owns z m → Owns z (landed t m)
owns_landed z t m o = elim (landed_cases t m) [ inl e ↦ rw e o | inr p ↦ popped p ]
  where
    popped : Popped t m (landed t m) → Owns z (landed t m)
    popped p = record { own = λ u. at u (cases_eq u t); beyond = λ u far. gone u far (cases_eq u t) }
      where
        at : (u : ℕ) → (u ≡ t) ⊎ (u ≢ t) → AllByRecursion (OwnWrite z u) (queue (landed t m) u)
        at u (inl e) = rw (e, p.left) (rw p.was at (o.own t)).1
        at u (inr ne) = rw (p.others u ne) (o.own u)

        gone : (u : ℕ) → z.threads ≤ u → (u ≡ t) ⊎ (u ≢ t) → queue (landed t m) u ≡ []
        gone u far (inl e) = let f = o.beyond t (rw e at far) in let g = p.was in cc
        gone u far (inr ne) = p.others u ne ∙ o.beyond u far

pub owns_lands : (z : Settings) {m m' : Meaning} → Lands m m' → Owns z m → Owns z m'
owns_lands z l o = lands_keep (Owns z) (owns_landed z) l o

pub owns_stored : (z : Settings) (t c v : ℕ) (m : Meaning) → t < length m.waiting → t < z.threads → OwnWrite z t (written m c v) → Owns z m → Owns z (stored t c v m)
owns_stored z t c v m lt in' w o = go (stored_pushes t c v m lt)
  where
    go : Pushed t c v m (stored t c v m) → Owns z (stored t c v m)
    go p = record { own = λ u. at u (cases_eq u t); beyond = λ u far. p.others u (λ e. omega arith) ∙ o.beyond u far }
      where
        at : (u : ℕ) → (u ≡ t) ⊎ (u ≢ t) → AllByRecursion (OwnWrite z u) (queue (stored t c v m) u)
        at u (inl e) = rw (e, p.here) (All-push (OwnWrite z t) (queue m t) (written m c v) (o.own t) w)
        at u (inr ne) = rw (p.others u ne) (o.own u)

owns_waiting : (z : Settings) (m m' : Meaning) → m'.waiting ≡ m.waiting → Owns z m → Owns z m'
owns_waiting z m m' e o = record { own = λ u. rw e (o.own u); beyond = λ u far. rw e (o.beyond u far) }

pub owns_exchanged : (z : Settings) (c old new : ℕ) (m : Meaning) → Owns z m → Owns z (exchanged c old new m)
owns_exchanged z c old new m o = go (eqb (cell m c) old) refl
  where
    go : (b : Bool) → eqb (cell m c) old ≡ b → Owns z (exchanged c old new m)
    go true e = owns_waiting z m (exchanged c old new m) (exchanged_puts c old new m e).waiting o
    go false e = rw (exchanged_none c old new m e) o

pub owns_ticked : (z : Settings) (m : Meaning) → Owns z m → Owns z (ticked m)
owns_ticked z m o = owns_waiting z m (ticked m) (ticked_moves m).waiting o

-- a new memory
pub owns_empty : (z : Settings) (m : Meaning) → ((t : ℕ) → queue m t ≡ []) → Owns z m
owns_empty z m none = record { own = λ t. rw (none t) tt; beyond = λ t far. none t }

-- What the actions of the memory do to the hazard cells and to the stores that wait for them.

pub view_in : (z : Settings) (m : Meaning) (t i : ℕ) → t < z.threads → i < z.hazards → view_of z m t i ≡ cell m (hazard_cell z t i)
view_in z m t i lt li = rw (lt-ltb t z.threads lt, lt-ltb i z.hazards li) refl

pub view_same : (z : Settings) (m m' : Meaning) (t i : ℕ) → (t < z.threads → i < z.hazards → cell m' (hazard_cell z t i) ≡ cell m (hazard_cell z t i)) → view_of z m' t i ≡ view_of z m t i
view_same z m m' t i e = at (cases_lt t z.threads) (cases_lt i z.hazards)
  where
    at : (t < z.threads) ⊎ (z.threads ≤ t) → (i < z.hazards) ⊎ (z.hazards ≤ i) → view_of z m' t i ≡ view_of z m t i
    at (inl lt) (inl li) = view_in z m' t i lt li ∙ e lt li ∙ sym (view_in z m t i lt li)
    at (inl lt) (inr le) = rw (lt-ltb t z.threads lt, le-ltb i z.hazards le) refl
    at (inr le) f = rw (le-ltb t z.threads le) refl

-- the hazard cells are as they were
abbrev pub Same : Settings → Meaning → Meaning → Type 0
Same z m m' = (c : ℕ) → z.roots ≤ c → c < z.roots + hazard_cells z → cell m' c ≡ cell m c

views_same : (z : Settings) (m m' : Meaning) → Same z m m' → (t i : ℕ) → view_of z m' t i ≡ view_of z m t i
views_same z m m' same t i = view_same z m m' t i (λ lt li. same (hazard_cell z t i) (omega arith) (hazard_below z t i lt li))

-- the oldest store of t has landed
module _ (x : Tables) (t : ℕ) (m m' : Meaning) (s : Sound m) (o : Owns x.settings m) (p : Popped t m m') where
  slots_others : (u : ℕ) → u ≢ t → slots_of x.settings m' u ≡ slots_of x.settings m u
  slots_others u ne = rw (p.others u ne) refl

  pops_other : is_hazard_of x.settings t p.write ≡ false → SameCells (guard_state x m) (guard_state x m')
  pops_other off = record { view = views_same x.settings m m' same; slots = λ u. slots u (cases_eq u t); clock = p.clock; bound = p.fixed.bound }
    where
      far : x.settings.roots + hazard_cells x.settings ≤ p.write.cell
      far =
          elim (cases_lt p.write.cell (x.settings.roots + hazard_cells x.settings))
          [ inl lt ↦ absurd (true≢false (sym ((rw p.was at (o.own t)).0 lt) ∙ off)) | inr le ↦ le ]

      same : Same x.settings m m'
      same c lo hi = p.elsewhere c (λ e. let h = far in omega arith)

      slots : (u : ℕ) → (u ≡ t) ⊎ (u ≢ t) → slots_of x.settings m' u ≡ slots_of x.settings m u
      slots u (inl e) = rw (e, p.left, p.was, off) refl
      slots u (inr ne) = slots_others u ne

  pops_slot : is_hazard_of x.settings t p.write ≡ true → LandsSlot t (guard_state x m) (guard_state x m')
  pops_slot is =
      record {
        slot = slot_of x.settings t p.write;
        rest = map (slot_of x.settings t) (filter (is_hazard_of x.settings t) p.rest);
        was = rw (p.was, is) refl;
        left = rw p.left refl;
        others = slots_others;
        view = λ i. at i (cases_eq i j);
        views = λ u i ne. view_same x.settings m m' u i (λ lt li. p.elsewhere (hazard_cell x.settings u i) (λ e. ne (cell_apart x.settings u t i j (e ∙ where_it.0) li where_it.1).0));
        clock = p.clock;
        bound = p.fixed.bound;
      }
    where
      j : ℕ
      j = p.write.cell - hazard_cell x.settings t 0

      where_it : (p.write.cell ≡ hazard_cell x.settings t j) × (j < x.settings.hazards)
      where_it = hazard_is x.settings t p.write is

      inside : t < x.settings.threads
      inside = elim (cases_lt t x.settings.threads) [ inl lt ↦ lt | inr far ↦ absurd (let e = o.beyond t far in let f = p.was in absurd cc) ]

      small : p.write.cell < length m.cells
      small = let e = s.cells in let h = (rw p.was at (s.in_cells t)).0 in omega arith

      at : (i : ℕ) → (i ≡ j) ⊎ (i ≢ j) → view_of x.settings m' t i ≡ put (view_of x.settings m t) (slot_of x.settings t p.write) i
      at i (inl e) = rw (e, eq-eqb j j refl) (view_in x.settings m' t j inside where_it.1 ∙ ap (cell m') (sym where_it.0) ∙ p.here small)
      at i (inr ne) =
          rw (ne_eqb j i (λ e. ne (sym e)))
          (view_same x.settings m m' t i (λ lt li. p.elsewhere (hazard_cell x.settings t i) (λ e. ne (cell_apart x.settings t t i j (e ∙ where_it.0) li where_it.1).1)))

  pub pops_view : SameCells (guard_state x m) (guard_state x m') ⊎ LandsSlot t (guard_state x m) (guard_state x m')
  pops_view = elim (cases_Bool (is_hazard_of x.settings t p.write)) [ inl is ↦ inr (pops_slot is) | inr off ↦ inl (pops_other off) ]

pub same_cells : (x : Tables) (m : Meaning) → SameCells (guard_state x m) (guard_state x m)
same_cells x m = record { view = λ u i. refl; slots = λ u. refl; clock = refl; bound = refl }

pub landed_view : (x : Tables) (t : ℕ) (m : Meaning) → Sound m → Owns x.settings m → SameCells (guard_state x m) (guard_state x (landed t m)) ⊎ LandsSlot t (guard_state x m) (guard_state x (landed t m))
landed_view x t m s o = elim (landed_cases t m) [ inl e ↦ inl (rw e (same_cells x m)) | inr p ↦ pops_view x t m (landed t m) s o p ]

-- a store to one of the thread's hazard cells
slots_pushed : (z : Settings) (t : ℕ) (ws : List Write) (w : Write) → map (slot_of z t) (filter (is_hazard_of z t) (ws ++ w ∷ [])) ≡ map (slot_of z t) (filter (is_hazard_of z t) ws) ++ map (slot_of z t) (filter (is_hazard_of z t) (w ∷ []))
slots_pushed z t ws w = ap (map (slot_of z t)) (filter-append (is_hazard_of z t) ws (w ∷ [])) ∙ map-append (slot_of z t) (filter (is_hazard_of z t) ws) (filter (is_hazard_of z t) (w ∷ []))

module _ (x : Tables) (t : ℕ) (m : Meaning) (lt : t < length m.waiting) where
  pub stored_slot : (i v : ℕ) → i < x.settings.hazards → StoresSlot t i v (guard_state x m) (guard_state x (stored t (hazard_cell x.settings t i) v m))
  stored_slot i v li = go (stored_pushes t c v m lt)
    where
      c : ℕ
      c = hazard_cell x.settings t i

      slot : slot_of x.settings t (written m c v) ≡ record { index = i; value = v; date = m.clock }
      slot = let e : c - hazard_cell x.settings t 0 ≡ i = omega arith in ap (λ (k : ℕ). record { index = k; value = v; date = m.clock }) e

      go : Pushed t c v m (stored t c v m) → StoresSlot t i v (guard_state x m) (guard_state x (stored t c v m))
      go p =
          record {
            here = rw p.here (slots_pushed x.settings t (queue m t) (written m c v) ∙ rw (is_hazard_lem x.settings t i (written m c v) refl li) (ap (λ (w : Slot). slots_of x.settings m t ++ w ∷ []) slot));
            others = λ u ne. rw (p.others u ne) refl;
            view = λ u k. rw p.cells refl;
            clock = p.clock;
            bound = p.fixed.bound;
          }

  -- a store to a cell behind the hazard cells
  pub stored_off : (c v : ℕ) → x.settings.roots + hazard_cells x.settings ≤ c → t < x.settings.threads → SameCells (guard_state x m) (guard_state x (stored t c v m))
  stored_off c v far inside = go (stored_pushes t c v m lt)
    where
      off : is_hazard_of x.settings t (written m c v) ≡ false
      off =
          let a = rows_apart x.settings.hazards t x.settings.threads inside in
          let b : x.settings.hazards * x.settings.threads ≡ x.settings.threads * x.settings.hazards = mul_comm x.settings.hazards x.settings.threads in
          and_right (leb (hazard_cell x.settings t 0) c) (ltb c (hazard_cell x.settings t x.settings.hazards)) (le-ltb c (hazard_cell x.settings t x.settings.hazards) (omega arith))

      go : Pushed t c v m (stored t c v m) → SameCells (guard_state x m) (guard_state x (stored t c v m))
      go p = record { view = λ u k. rw p.cells refl; slots = λ u. at u (cases_eq u t); clock = p.clock; bound = p.fixed.bound }
        where
          at : (u : ℕ) → (u ≡ t) ⊎ (u ≢ t) → slots_of x.settings (stored t c v m) u ≡ slots_of x.settings m u
          at u (inl e) = rw (e, p.here) (slots_pushed x.settings t (queue m t) (written m c v) ∙ rw off (append-nil (slots_of x.settings m t)))
          at u (inr ne) = rw (p.others u ne) refl

-- an exchange of a cell that is no hazard cell
pub exchanged_view : (x : Tables) (c old new : ℕ) (m : Meaning) → (c < x.settings.roots) ⊎ (x.settings.roots + hazard_cells x.settings ≤ c) → SameCells (guard_state x m) (guard_state x (exchanged c old new m))
exchanged_view x c old new m off = go (eqb (cell m c) old) refl
  where
    apart : (d : ℕ) → x.settings.roots ≤ d → d < x.settings.roots + hazard_cells x.settings → d ≢ c
    apart d lo hi e = elim off [ inl lt ↦ omega arith | inr le ↦ omega arith ]

    go : (b : Bool) → eqb (cell m c) old ≡ b → SameCells (guard_state x m) (guard_state x (exchanged c old new m))
    go true e =
        let p = exchanged_puts c old new m e in
        record {
          view = views_same x.settings m (exchanged c old new m) (λ d lo hi. p.elsewhere d (apart d lo hi));
          slots = λ u. rw p.waiting refl;
          clock = p.clock;
          bound = p.fixed.bound;
        }
    go false e = rw (exchanged_none c old new m e) (same_cells x m)

pub ticked_view : (x : Tables) (m : Meaning) → due m ≡ false → TicksOn (guard_state x m) (guard_state x (ticked m))
ticked_view x m none =
    let p = ticked_moves m in
    record {
      clock = p.clock;
      in_time = λ t.
          All-map (λ (w : Slot). m.clock < w.date + m.bound) (slot_of x.settings t) (filter (is_hazard_of x.settings t) (queue m t))
          (all_kept_by (is_hazard_of x.settings t) (InTime m.clock m.bound) (queue m t) ((due_none m none).rows t));
      view = λ t i. rw p.cells refl;
      slots = λ t. rw p.waiting refl;
      bound = p.fixed.bound;
    }

-- Loads.

-- no write waits for the cell
newest_none : (found : Option ℕ) (ws : List Write) (c : ℕ) → AllByRecursion (λ (w : Write). w.cell ≢ c) ws → newest_or found ws c ≡ found
newest_none found [] c a = refl
newest_none found (w ∷ ws) c a = rw (ne_eqb w.cell c a.0) (newest_none found ws c a.1)

pub loaded_cell : (m : Meaning) (t c : ℕ) → AllByRecursion (λ (w : Write). w.cell ≢ c) (queue m t) → loaded m t c ≡ cell m c
unfolding loaded
loaded_cell m t c a = rw (newest_none None (queue m t) c a) refl

-- the newest of the thread's own writes for its hazard cell i
newest_own : (z : Settings) (t i : ℕ) → i < z.hazards → (ws : List Write) (found : Option ℕ) (d : ℕ) (view : ℕ → ℕ) → value_or found d ≡ view i
    → value_or (newest_or found ws (hazard_cell z t i)) d ≡ last_of view (map (slot_of z t) (filter (is_hazard_of z t) ws)) i
newest_own z t i li [] found d view e = e
newest_own z t i li (w ∷ ws) found d view e = at (cases_Bool (is_hazard_of z t w)) (λ found' view' e'. newest_own z t i li ws found' d view' e')
  where
    at : (is_hazard_of z t w ≡ true) ⊎ (is_hazard_of z t w ≡ false)
        → ((found' : Option ℕ) (view' : ℕ → ℕ) → value_or found' d ≡ view' i → value_or (newest_or found' ws (hazard_cell z t i)) d ≡ last_of view' (map (slot_of z t) (filter (is_hazard_of z t) ws)) i)
        → value_or (newest_or found (w ∷ ws) (hazard_cell z t i)) d ≡ last_of view (map (slot_of z t) (filter (is_hazard_of z t) (w ∷ ws))) i
    at (inl is) ih = rw is (ih (cond (eqb w.cell (hazard_cell z t i)) (Some w.value) found) (put view (slot_of z t w)) (here (cases_eq w.cell (hazard_cell z t i))))
      where
        here : (w.cell ≡ hazard_cell z t i) ⊎ (w.cell ≢ hazard_cell z t i) → value_or (cond (eqb w.cell (hazard_cell z t i)) (Some w.value) found) d ≡ put view (slot_of z t w) i
        here (inl f) = rw (eq-eqb w.cell (hazard_cell z t i) f, eq-eqb (w.cell - hazard_cell z t 0) i (omega arith)) refl
        here (inr ne) =
            let q = hazard_is z t w is in
            rw (ne_eqb w.cell (hazard_cell z t i) ne, ne_eqb (w.cell - hazard_cell z t 0) i (λ f. ne (q.0 ∙ ap (hazard_cell z t) f))) e
    at (inr off) ih =
        rw (off, ne_eqb w.cell (hazard_cell z t i) (λ f. true≢false (sym (is_hazard_lem z t i w f li) ∙ off)))
        (ih found view e)

pub loaded_own : (z : Settings) (m : Meaning) (t i : ℕ) → t < z.threads → i < z.hazards → loaded m t (hazard_cell z t i) ≡ last_of (view_of z m t) (slots_of z m t) i
unfolding loaded
loaded_own z m t i lt li = newest_own z t i li (queue m t) None (cell m (hazard_cell z t i)) (view_of z m t) (sym (view_in z m t i lt li))

-- what a thread loads from hazard cell number c
pub loads_hazard : (x : Tables) (m : Meaning) (u c : ℕ) → Owns x.settings m → c < hazard_cells x.settings → Loads x.settings u (guard_state x m) c (loaded m u (x.settings.roots + c))
loads_hazard x m u c o lt = go (place_of x.settings c lt)
  where
    go : Place x.settings c → Loads x.settings u (guard_state x m) c (loaded m u (x.settings.roots + c))
    go p = at (cases_eq p.thread u)
      where
        is : x.settings.roots + c ≡ hazard_cell x.settings p.thread p.index
        is = omega arith

        view : view_of x.settings m p.thread p.index ≡ cell m (hazard_cell x.settings p.thread p.index)
        view = view_in x.settings m p.thread p.index p.inside p.below

        at : (p.thread ≡ u) ⊎ (p.thread ≢ u) → Loads x.settings u (guard_state x m) c (loaded m u (x.settings.roots + c))
        at (inl e) =
            own p.index (p.is ∙ ap (λ (v : ℕ). x.settings.hazards * v + p.index) e) p.below
            (ap (loaded m u) (is ∙ ap (λ (v : ℕ). hazard_cell x.settings v p.index) e) ∙ loaded_own x.settings m u p.index (rw e at p.inside) p.below)
        at (inr ne) =
            others p.thread p.index p.is p.below ne
            (loaded_cell m u (x.settings.roots + c) (All-weaker (OwnWrite x.settings u) (λ (w : Write). w.cell ≢ x.settings.roots + c) elsewhere (queue m u) (o.own u)) ∙ ap (cell m) is ∙ sym view)
          where
            elsewhere : (w : Write) → OwnWrite x.settings u w → w.cell ≢ x.settings.roots + c
            elsewhere w f e =
                let q = hazard_is x.settings u w (f (omega arith)) in
                ne (cell_apart x.settings p.thread u p.index (w.cell - hazard_cell x.settings u 0) (sym is ∙ sym e ∙ q.0) p.below q.1).0

-- States that look the same are the same.
pub same_state : {a b : GuardState} → SameCells a b → Still a b → a ≡ b
same_state c s = λ k. record {
  view = λ t i. sym (c.view t i) k;
  slots = λ t. sym (c.slots t) k;
  clock = sym c.clock k;
  bound = sym c.bound k;
  guard = λ t i. sym (s.guard t i) k;
  node = λ n. sym (s.node n) k;
  list = λ t. sym (s.list t) k;
  point = λ t. sym (s.point t) k;
}

pub still : (x : Tables) (m m' : Meaning) → Still (guard_state x m) (guard_state x m')
still x m m' = record { guard = λ t i. refl; node = λ n. refl; list = λ t. refl; point = λ t. refl }

-- Landings lead up to a path.

pub landed_first : (x : Tables) (t : ℕ) (m : Meaning) {a' : GuardState} → Sound m → Owns x.settings m → GuardPath x.settings a' (guard_state x (landed t m)) → GuardPath x.settings a' (guard_state x m)
landed_first x t m {a'} s o p = at (landed_view x t m s o)
  where
    at : SameCells (guard_state x m) (guard_state x (landed t m)) ⊎ LandsSlot t (guard_state x m) (guard_state x (landed t m)) → GuardPath x.settings a' (guard_state x m)
    at (inl same) = subst (GuardPath x.settings a') (sym (same_state same (still x m (landed t m)))) p
    at (inr slot) = lands t (guard_state x (landed t m)) slot (still x m (landed t m)) p

lands_as_first : (x : Tables) (ls : List Landing) (m m' : Meaning) {a' : GuardState} → LandsAs ls m m' → Sound m → Owns x.settings m → GuardPath x.settings a' (guard_state x m') → GuardPath x.settings a' (guard_state x m)
lands_as_first x [] m m' e s o p = rw (sym e) p
lands_as_first x (l ∷ ls) m m' {a'} e s o p =
    landed_first x l.thread m s o
    (lands_as_first x ls (landed l.thread m) m' e.1 (landed_sound l.thread m s) (owns_landed x.settings l.thread m o) p)

pub lands_first : (x : Tables) {m m' : Meaning} {a' : GuardState} → Lands m m' → Sound m → Owns x.settings m → GuardPath x.settings a' (guard_state x m') → GuardPath x.settings a' (guard_state x m)
lands_first x {m} {m'} l s o p = lands_as_first x l.landings m m' l.lead s o p

pub rested : (z : Settings) (x : Tables) (m : Meaning) → GuardPath z (guard_state x m) (guard_state x m)
rested z x m = rests (same_cells x m) (still x m m)
