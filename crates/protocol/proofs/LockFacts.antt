-- Facts that both halves of the lock's invariant use: the cells, what a thread sees in flag0, and whose point a point is. Assumes
-- nothing.
use Rattle.std.proofs.Common.{◌≡◌, ℕ, ◌+◌, ◌*◌, ◌≤◌, Bool, true, false, cond, eqb, ◌⊎◌, List, [], ◌∷◌, ◌++◌, Some, None, Option, sym, refl, ap, ◌∙◌, inl, inr, arith}
use Rattle.std.specs.List.{AllByRecursion}
use Rattle.std.proofs.lemmas.Bool.{cases_eq, eq-eqb, ne_eqb, eqb-false}
use Rattle.memory.specs.declared.write.Write.{Write}
use Rattle.memory.specs.Meaning.{newest, newest_or, value_or}
use Rattle.protocol.specs.declared.settings.Settings.{Settings}
use Rattle.protocol.specs.Settings.{lock_cell, flag0_cell, flag1_cell}
use Rattle.protocol.specs.Tables.{Point, idle, protect1, protect2, protect3, protect4, copy1, release1, publish1, remove1, remove2, remove3, reclaim1, reclaim2, reclaim3, owner_lock1, owner_lock2, owner_lock3, owner_lock4, owner_lock5, owner_unlock1, owner_unlock2, owner_unlock3, owner_unlock4, other_lock1, other_lock2, other_lock3, other_lock4, other_lock5, other_lock6, other_lock7, other_lock8, other_unlock1, other_unlock2, other_unlock3}
use Rattle.protocol.proofs.LockView.{Sight, LockState, NodePoint, sees0, LandsOne, StoresOne}
use Rattle.protocol.proofs.Locked.{Away, elsewhere, asks, RaisedAt, raised4, raised5, raised6, raised7, raised8, InsideAt, leaves1, leaves2, Other, away, enters2, enters3, raising, raised, within, lowering, lowered, releasing2, releasing, OwnerAt, locks1, locks2, locks3, locks4, locks5, unlocks1, unlocks2, unlocks3, unlocks4, Turns, Owned}

-- The cells.

pub flag0_not_lock : (z : Settings) → eqb (flag0_cell z) (lock_cell z) ≡ false
flag0_not_lock z = ne_eqb _ _ (λ e. omega arith)

pub flag1_not_lock : (z : Settings) → eqb (flag1_cell z) (lock_cell z) ≡ false
flag1_not_lock z = ne_eqb _ _ (λ e. omega arith)

pub flag1_not_flag0 : (z : Settings) → eqb (flag1_cell z) (flag0_cell z) ≡ false
flag1_not_flag0 z = ne_eqb _ _ (λ e. omega arith)

pub flag0_not_flag1 : (z : Settings) → eqb (flag0_cell z) (flag1_cell z) ≡ false
flag0_not_flag1 z = ne_eqb _ _ (λ e. omega arith)

pub lock_not_flag0 : (z : Settings) → eqb (lock_cell z) (flag0_cell z) ≡ false
lock_not_flag0 z = ne_eqb _ _ (λ e. omega arith)

pub lock_not_flag1 : (z : Settings) → eqb (lock_cell z) (flag1_cell z) ≡ false
lock_not_flag1 z = ne_eqb _ _ (λ e. omega arith)

pub same_cell : (c : ℕ) → eqb c c ≡ true
same_cell c = eq-eqb c c refl

-- What a thread sees in a cell, by recursion from the oldest of its waiting writes.
abbrev pub sees_from : List Write → ℕ → ℕ → ℕ
sees_from [] c d = d
sees_from (w ∷ ws) c d = sees_from ws c (cond (eqb w.cell c) w.value d)

newest_sees : (o : Option ℕ) (ws : List Write) (c d : ℕ) → value_or (newest_or o ws c) d ≡ sees_from ws c (value_or o d)
newest_sees o [] c d = refl
newest_sees o (w ∷ ws) c d = newest_sees (cond (eqb w.cell c) (Some w.value) o) ws c d ∙ ap (sees_from ws c) (moves (eqb w.cell c))
  where
    moves : (b : Bool) → value_or (cond b (Some w.value) o) d ≡ cond b w.value (value_or o d)
    moves true = refl
    moves false = refl

pub sees_from_lem : (ws : List Write) (c d : ℕ) → value_or (newest ws c) d ≡ sees_from ws c d
sees_from_lem ws c d = newest_sees None ws c d

pub sees_none : (ws : List Write) (c d : ℕ) → AllByRecursion (λ (w : Write). w.cell ≡ c → ⊥) ws → value_or (newest ws c) d ≡ d
sees_none ws c d h = sees_from_lem ws c d ∙ go ws h
  where
    go : (us : List Write) → AllByRecursion (λ (w : Write). w.cell ≡ c → ⊥) us → sees_from us c d ≡ d
    go [] k = refl
    go (u ∷ us) k = rw (ne_eqb u.cell c k.0) (go us k.1)

sees_push : (ws : List Write) (w : Write) (c d : ℕ) → sees_from (ws ++ w ∷ []) c d ≡ cond (eqb w.cell c) w.value (sees_from ws c d)
sees_push [] w c d = refl
sees_push (u ∷ us) w c d = sees_push us w c (cond (eqb u.cell c) u.value d)

-- the landing of its own write shows a thread nothing new
pub sees_landed : (z : Settings) (t : ℕ) (v v' : Sight) → LandsOne z t v v' → sees0 z v' t ≡ sees0 z v t
sees_landed z t v v' l =
    rw (l.was, l.left, l.flag0)
    (sees_from_lem l.rest (flag0_cell z) (cond (eqb l.write.cell (flag0_cell z)) l.write.value v.flag0) ∙ sym (sees_from_lem (l.write ∷ l.rest) (flag0_cell z) v.flag0))

-- a thread sees its own store
pub sees_stored : (z : Settings) (t c n : ℕ) (v v' : Sight) → StoresOne z t c n v v' → sees0 z v' t ≡ cond (eqb c (flag0_cell z)) n (sees0 z v t)
sees_stored z t c n v v' s =
    let w : Write = record { cell = c; value = n; date = v.clock } in
    rw (s.here, s.flag0)
    (sees_from_lem (v.writes t ++ w ∷ []) (flag0_cell z) v.flag0 ∙ (sees_push (v.writes t) w (flag0_cell z) v.flag0 ∙ ap (cond (eqb c (flag0_cell z)) n) (sym (sees_from_lem (v.writes t) (flag0_cell z) v.flag0))))

pub sees_own : (z : Settings) (t n : ℕ) (v v' : Sight) → StoresOne z t (flag0_cell z) n v v' → sees0 z v' t ≡ n
sees_own z t n v v' s = rw (sees_stored z t (flag0_cell z) n v v' s, same_cell (flag0_cell z)) refl

-- Whose point it is.

-- 0 of an operation on nodes, 1 the owner's, 2 its last, 3 another's, 4 its store of flag1, 5 where it waits for the owner
abbrev pub side : Point → ℕ
side idle = 0
side (protect1 r h) = 0
side (protect2 r h n) = 0
side (protect3 r h n) = 0
side (protect4 r h) = 0
side (copy1 a b) = 0
side (release1 a) = 0
side (publish1 r n) = 0
side (remove1 r) = 0
side (remove2 r n) = 0
side (remove3 r n) = 0
side reclaim1 = 0
side (reclaim2 now seen) = 0
side (reclaim3 now seen) = 0
side owner_lock1 = 1
side owner_lock2 = 1
side (owner_lock3 v) = 1
side owner_lock4 = 1
side owner_lock5 = 1
side owner_unlock1 = 1
side owner_unlock2 = 1
side owner_unlock3 = 1
side owner_unlock4 = 2
side other_lock1 = 3
side other_lock2 = 3
side (other_lock3 v) = 4
side (other_lock4 v) = 3
side (other_lock5 v) = 5
side (other_lock6 v note) = 5
side (other_lock7 v note) = 5
side (other_lock8 v) = 5
side other_unlock1 = 3
side (other_unlock2 v) = 3
side other_unlock3 = 3

pub node_side : (p : Point) → NodePoint p → side p ≡ 0
node_side idle k = refl
node_side (protect1 r h) k = refl
node_side (protect2 r h n) k = refl
node_side (protect3 r h n) k = refl
node_side (protect4 r h) k = refl
node_side (copy1 a b) k = refl
node_side (release1 a) k = refl
node_side (publish1 r n) k = refl
node_side (remove1 r) k = refl
node_side (remove2 r n) k = refl
node_side (remove3 r n) k = refl
node_side reclaim1 k = refl
node_side (reclaim2 now seen) k = refl
node_side (reclaim3 now seen) k = refl
node_side owner_lock1 k = absurd k
node_side owner_lock2 k = absurd k
node_side (owner_lock3 v) k = absurd k
node_side owner_lock4 k = absurd k
node_side owner_lock5 k = absurd k
node_side owner_unlock1 k = absurd k
node_side owner_unlock2 k = absurd k
node_side owner_unlock3 k = absurd k
node_side owner_unlock4 k = absurd k
node_side other_lock1 k = absurd k
node_side other_lock2 k = absurd k
node_side (other_lock3 v) k = absurd k
node_side (other_lock4 v) k = absurd k
node_side (other_lock5 v) k = absurd k
node_side (other_lock6 v note) k = absurd k
node_side (other_lock7 v note) k = absurd k
node_side (other_lock8 v) k = absurd k
node_side other_unlock1 k = absurd k
node_side (other_unlock2 v) k = absurd k
node_side other_unlock3 k = absurd k

owner_side : {f1 own : ℕ} {p : Point} {i : Bool} → OwnerAt f1 own p i → side p ≤ 2
owner_side (OwnerAt.works {p} n) = let e = node_side p n in omega arith
owner_side locks1 = omega arith
owner_side (locks2 e) = omega arith
owner_side (locks3 e) = omega arith
owner_side (locks4 w e) = omega arith
owner_side (locks5 w e) = omega arith
owner_side unlocks1 = omega arith
owner_side (unlocks2 e) = omega arith
owner_side (unlocks3 w e) = omega arith
owner_side unlocks4 = omega arith

pub raised_side : {v : ℕ} {p : Point} → RaisedAt v p → 3 ≤ side p
raised_side raised4 = omega arith
raised_side raised5 = omega arith
raised_side raised6 = omega arith
raised_side raised7 = omega arith
raised_side raised8 = omega arith

-- where a thread from 1 on is unless it waits for the owner
abbrev Theirs : Point → Type 0
Theirs p = (side p ≡ 0) ⊎ ((3 ≤ side p) × (side p ≤ 4))

away_side : {p : Point} → Away p → Theirs p
away_side (elsewhere {p} n) = inl (node_side p n)
away_side asks = inr (omega arith, omega arith)

inside_side : {v : ℕ} {p : Point} → InsideAt v p → Theirs p
inside_side (InsideAt.works {p} n) = inl (node_side p n)
inside_side leaves1 = inr (omega arith, omega arith)
inside_side leaves2 = inr (omega arith, omega arith)

-- a thread that waits for the owner has L, flag1 is raised to its version, and none of its writes wait
pub record Waits (L f1 u : ℕ) (p : Point) (ws : List Write) : Type 0 where
  pub version : ℕ
  pub lock : L ≡ u + 1
  pub raised : RaisedAt (version + 1) p
  pub none : ws ≡ []
  pub flag1 : f1 ≡ 2 * (version + 1) + 1

other_side : {z : Settings} {L f1 u : ℕ} {p : Point} {i : Bool} {ws : List Write} → Other z L f1 u p i ws → Theirs p ⊎ Waits L f1 u p ws
other_side (away n a e f) = inl (away_side a)
other_side (enters2 w l e i ws f) = inl (rw e (inr (omega arith, omega arith)))
other_side (enters3 w l e i ws f) = inl (rw e (inr (omega arith, omega arith)))
other_side (raising w d l e i ws f) = inl (rw e (inr (omega arith, omega arith)))
other_side (raised w l r i e f) = inr (record { version = w; lock = l; raised = r; none = e; flag1 = f })
other_side (within w l r i ws f) = inl (inside_side r)
other_side (lowering w d l e i ws f) = inl (rw e (inr (omega arith, omega arith)))
other_side (lowered w l e i ws f) = inl (rw e (inr (omega arith, omega arith)))
other_side (releasing2 w d e l a i ws f) = inl (away_side a)
other_side (releasing w e l a i ws f) = inl (away_side a)

pub other_waits : {z : Settings} {L f1 u : ℕ} {p : Point} {i : Bool} {ws : List Write} → Other z L f1 u p i ws → side p ≡ 5 → Waits L f1 u p ws
other_waits {p} o e = elim (other_side o) [ inl k ↦ absurd (no k) | inr w ↦ w ]
  where
    no : Theirs p → ⊥
    no (inl x) = omega arith
    no (inr x) = let y = x.1 in omega arith

-- a thread at an owner's point is the owner
pub who_owner : {z : Settings} {a : LockState} (t : ℕ) {p : Point} → Turns z a → a.point t ≡ p → 1 ≤ side p → side p ≤ 2 → t ≡ 0
who_owner {z} {a} t {p} h e lo hi = elim (cases_eq t 0) [ inl k ↦ k | inr k ↦ absurd (no (rw e at (other_side (h.others t (omega arith))))) ]
  where
    no : Theirs p ⊎ Waits a.sight.lock a.sight.flag1 t p (a.sight.writes t) → ⊥
    no (inl (inl x)) = omega arith
    no (inl (inr x)) = let y = x.0 in omega arith
    no (inr w) = let y = raised_side w.raised in omega arith

-- and one at another's point is not
pub who_other : {z : Settings} {a : LockState} (t : ℕ) {p : Point} → Owned z a → a.point t ≡ p → 3 ≤ side p → 1 ≤ t
who_other {z} {a} t {p} h e lo = elim (cases_eq t 0) [ inl k ↦ absurd (no k) | inr k ↦ omega arith ]
  where
    no : t ≡ 0 → ⊥
    no k = let s = owner_side h.at in let f : side (a.point 0) ≡ side p = ap side (ap a.point (sym k) ∙ e) in omega arith

pub not_third : (p : Point) {n : ℕ} → eqb (side p) 4 ≡ false → (v : ℕ) → p ≡ other_lock3 v → v ≤ n
not_third p k v e = absurd (eqb-false (side p) 4 k (ap side e))

pub not_last : (p : Point) → eqb (side p) 2 ≡ false → p ≡ owner_unlock4 → ⊥
not_last p k e = eqb-false (side p) 2 k (ap side e)
