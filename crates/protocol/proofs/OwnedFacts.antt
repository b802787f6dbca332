-- Which points are timed, what the owner sees in flag0, and the two ways in which another thread's wait ends. Assumes nothing.
use Rattle.std.proofs.Common.{◌≡◌, ℕ, ◌+◌, ◌*◌, ◌/◌, ◌%◌, ◌<◌, ◌≤◌, Bool, true, false, cond, eqb, ◌≢◌, List, [], ◌∷◌, sym, refl, ap, ◌∙◌, inl, inr, arith}
use Rattle.std.specs.List.{AllByRecursion}
use Rattle.std.proofs.ByRecursion.{All-weaker}
use Rattle.std.proofs.lemmas.Bool.{eqb-true, cond_both}
use Rattle.memory.specs.declared.write.Write.{Write}
use Rattle.memory.specs.Meaning.{newest, value_or}
use Rattle.protocol.specs.declared.settings.Settings.{Settings}
use Rattle.protocol.specs.Settings.{lock_cell, flag0_cell, flag1_cell}
use Rattle.protocol.specs.Tables.{Point, idle, protect1, protect2, protect3, protect4, copy1, release1, publish1, remove1, remove2, remove3, reclaim1, reclaim2, reclaim3, owner_lock1, owner_lock2, owner_lock3, owner_lock4, owner_lock5, owner_unlock1, owner_unlock2, owner_unlock3, owner_unlock4, other_lock1, other_lock2, other_lock3, other_lock4, other_lock5, other_lock6, other_lock7, other_lock8, other_unlock1, other_unlock2, other_unlock3}
use Rattle.protocol.proofs.LockFacts.{side, sees_from, sees_from_lem, sees_none}
use Rattle.protocol.proofs.LockView.{Sight, LockState, NodePoint, sees0}
use Rattle.protocol.proofs.Locked.{release_write, flag1_write, Other, away, enters2, enters3, raising, raised, within, lowering, lowered, releasing2, releasing, Flag0, up, echo, OwnerWrite, flags, releases, OwnerAt, locks1, locks2, locks3, locks4, locks5, unlocks1, unlocks2, unlocks3, unlocks4, InLoop, loop3, loop4, loop5, TimedAt, Owned}

-- the points at which a thread that waits for the owner is timed
data TimedCase : Point → Type 0 where
  noted6 : {v note : ℕ} → TimedCase (other_lock6 v note)
  noted7 : {v note : ℕ} → TimedCase (other_lock7 v note)
  waited8 : {v : ℕ} → TimedCase (other_lock8 v)
  untimed : {p : Point} → ((z : Settings) (f0 : ℕ) (ws : List Write) → TimedAt z f0 ws p) → TimedCase p

timed_case : (p : Point) → TimedCase p
timed_case idle = untimed (λ z f0 ws. tt)
timed_case (protect1 r h) = untimed (λ z f0 ws. tt)
timed_case (protect2 r h n) = untimed (λ z f0 ws. tt)
timed_case (protect3 r h n) = untimed (λ z f0 ws. tt)
timed_case (protect4 r h) = untimed (λ z f0 ws. tt)
timed_case (copy1 a b) = untimed (λ z f0 ws. tt)
timed_case (release1 a) = untimed (λ z f0 ws. tt)
timed_case (publish1 r n) = untimed (λ z f0 ws. tt)
timed_case (remove1 r) = untimed (λ z f0 ws. tt)
timed_case (remove2 r n) = untimed (λ z f0 ws. tt)
timed_case (remove3 r n) = untimed (λ z f0 ws. tt)
timed_case reclaim1 = untimed (λ z f0 ws. tt)
timed_case (reclaim2 now seen) = untimed (λ z f0 ws. tt)
timed_case (reclaim3 now seen) = untimed (λ z f0 ws. tt)
timed_case owner_lock1 = untimed (λ z f0 ws. tt)
timed_case owner_lock2 = untimed (λ z f0 ws. tt)
timed_case (owner_lock3 v) = untimed (λ z f0 ws. tt)
timed_case owner_lock4 = untimed (λ z f0 ws. tt)
timed_case owner_lock5 = untimed (λ z f0 ws. tt)
timed_case owner_unlock1 = untimed (λ z f0 ws. tt)
timed_case owner_unlock2 = untimed (λ z f0 ws. tt)
timed_case owner_unlock3 = untimed (λ z f0 ws. tt)
timed_case owner_unlock4 = untimed (λ z f0 ws. tt)
timed_case other_lock1 = untimed (λ z f0 ws. tt)
timed_case other_lock2 = untimed (λ z f0 ws. tt)
timed_case (other_lock3 v) = untimed (λ z f0 ws. tt)
timed_case (other_lock4 v) = untimed (λ z f0 ws. tt)
timed_case (other_lock5 v) = untimed (λ z f0 ws. tt)
timed_case (other_lock6 v note) = noted6
timed_case (other_lock7 v note) = noted7
timed_case (other_lock8 v) = waited8
timed_case other_unlock1 = untimed (λ z f0 ws. tt)
timed_case (other_unlock2 v) = untimed (λ z f0 ws. tt)
timed_case other_unlock3 = untimed (λ z f0 ws. tt)

-- a thread that does not wait for the owner is not timed
pub unwaiting_timed : (z : Settings) (f0 : ℕ) (ws : List Write) (p : Point) → side p ≢ 5 → TimedAt z f0 ws p
unwaiting_timed z f0 ws p n = go (timed_case p) n
  where
    go : {q : Point} → TimedCase q → side q ≢ 5 → TimedAt z f0 ws q
    go noted6 k = absurd (k refl)
    go noted7 k = absurd (k refl)
    go waited8 k = absurd (k refl)
    go (untimed f) k = f z f0 ws

-- what is asked of a thread that waits, after another step of the owner's writes
pub timed_moves : (z : Settings) (f0 f0' : ℕ) (ws ws' : List Write) (p : Point)
    → ((note : ℕ) → AllByRecursion (λ (w : Write). w.cell ≡ flag0_cell z → w.date ≤ note) ws → AllByRecursion (λ (w : Write). w.cell ≡ flag0_cell z → w.date ≤ note) ws')
    → ((f0 ≡ 1) × AllByRecursion (λ (w : Write). w.cell ≡ flag0_cell z → ⊥) ws → (f0' ≡ 1) × AllByRecursion (λ (w : Write). w.cell ≡ flag0_cell z → ⊥) ws') → TimedAt z f0 ws p → TimedAt z f0' ws' p
timed_moves z f0 f0' ws ws' p dated found x = go (timed_case p) x
  where
    go : {q : Point} → TimedCase q → TimedAt z f0 ws q → TimedAt z f0' ws' q
    go (noted6 {note = note}) y = dated note y
    go (noted7 {note = note}) y = dated note y
    go waited8 y = found y
    go (untimed f) y = f z f0' ws'

-- the owner in its loop is not inside
pub loop_outside : {f1 own : ℕ} {p : Point} {i : Bool} → OwnerAt f1 own p i → InLoop p → i ≡ false
loop_outside (OwnerAt.works {p} n) l = go n l
  where
    go : {q : Point} {b : Bool} → NodePoint q → InLoop q → b ≡ false
    go n loop3 = absurd n
    go n loop4 = absurd n
    go n loop5 = absurd n
loop_outside locks1 l = refl
loop_outside (locks2 e) l = refl
loop_outside (locks3 h) l = refl
loop_outside (locks4 w e) l = refl
loop_outside (locks5 w e) l = refl
loop_outside unlocks1 l = elim l [ ]
loop_outside (unlocks2 e) l = elim l [ ]
loop_outside (unlocks3 w e) l = elim l [ ]
loop_outside unlocks4 l = refl

-- a thread inside has L, and flag1 is raised
pub inside_odd : {z : Settings} {L f1 u : ℕ} {p : Point} {i : Bool} {ws : List Write} → Other z L f1 u p i ws → i ≡ true → (L ≡ u + 1) × (f1 % 2 ≡ 1)
inside_odd (away l a i e) t = absurd cc
inside_odd (enters2 w l p i e f) t = absurd cc
inside_odd (enters3 w l p i e f) t = absurd cc
inside_odd (raising w d l p i e f) t = absurd cc
inside_odd (raised w l p i e f) t = absurd cc
inside_odd (within w l p i e f) t = (l, omega arith)
inside_odd (lowering w d l p i e f) t = absurd cc
inside_odd (lowered w l p i e f) t = absurd cc
inside_odd (releasing2 w d e l p i ws f) t = absurd cc
inside_odd (releasing w e l p i ws f) t = absurd cc

-- Values of flag0.

pub flag0_grows : {f1 f1' x : ℕ} → f1 ≤ f1' → Flag0 f1 x → Flag0 f1' x
flag0_grows h up = up
flag0_grows h (echo w k) = echo w (omega arith)

pub write_grows : {z : Settings} {f1 f1' : ℕ} {w : Write} → f1 ≤ f1' → OwnerWrite z f1 w → OwnerWrite z f1' w
write_grows h (flags c x) = flags c (flag0_grows h x)
write_grows h (releases c x) = releases c x

pub at_grows : {f1 f1' own : ℕ} {p : Point} {i : Bool} → f1 ≤ f1' → OwnerAt f1 own p i → OwnerAt f1' own p i
at_grows h (OwnerAt.works n) = OwnerAt.works n
at_grows h locks1 = locks1
at_grows h (locks2 e) = locks2 e
at_grows h (locks3 k) = locks3 (omega arith)
at_grows h (locks4 w e) = locks4 w e
at_grows h (locks5 w e) = locks5 w e
at_grows h unlocks1 = unlocks1
at_grows h (unlocks2 e) = unlocks2 e
at_grows h (unlocks3 w e) = unlocks3 w e
at_grows h unlocks4 = unlocks4

pub flag0_odd : {f1 x : ℕ} → Flag0 f1 x → x % 2 ≡ 1 → x ≡ 1
flag0_odd up e = refl
flag0_odd (echo w k) e = absurd (omega arith)

pub flag0_even : {f1 x : ℕ} → Flag0 f1 x → x % 2 ≡ 0 → (w : ℕ) × (x ≡ 2 * w)
flag0_even up e = absurd (omega arith)
flag0_even (echo w k) e = (w, refl)

-- it is below every version to come
pub flag0_below : {f1 x : ℕ} (v : ℕ) → Flag0 f1 x → f1 < 2 * v → x ≡ 2 * v → ⊥
flag0_below v up h e = omega arith
flag0_below v (echo w k) h e = omega arith

-- the value x that is seen with version v + 1
pub flag0_version : {f1 x : ℕ} → Flag0 f1 x → (v : ℕ) → x / 2 ≡ v + 1 → x ≡ 2 * (v + 1)
flag0_version up v e = absurd (omega arith)
flag0_version (echo w k) v e = omega arith

-- what the owner sees in flag0 is such a value too
pub own_flag0 : (z : Settings) (f1 f0 : ℕ) (ws : List Write) → AllByRecursion (OwnerWrite z f1) ws → Flag0 f1 f0 → Flag0 f1 (value_or (newest ws (flag0_cell z)) f0)
own_flag0 z f1 f0 ws h k = rw (sees_from_lem ws (flag0_cell z) f0) (go ws f0 h k)
  where
    value : (w : Write) → OwnerWrite z f1 w → w.cell ≡ flag0_cell z → Flag0 f1 w.value
    value w (flags c x) e = x
    value w (releases c x) e = absurd (omega arith)

    go : (us : List Write) (x : ℕ) → AllByRecursion (OwnerWrite z f1) us → Flag0 f1 x → Flag0 f1 (sees_from us (flag0_cell z) x)
    go [] x a b = b
    go (u ∷ us) x a b =
        go us (cond (eqb u.cell (flag0_cell z)) u.value x) a.1
        (cond_both (eqb u.cell (flag0_cell z)) u.value x (Flag0 f1) (λ e. value u a.0 (eqb-true u.cell (flag0_cell z) e)) (λ e. b))

-- the owner sees flag1 as it is
pub own_flag1 : (z : Settings) (f1 : ℕ) (ws : List Write) → AllByRecursion (OwnerWrite z f1) ws → value_or (newest ws (flag1_cell z)) f1 ≡ f1
own_flag1 z f1 ws h = sees_none ws (flag1_cell z) f1 (All-weaker (OwnerWrite z f1) (λ (w : Write). w.cell ≡ flag1_cell z → ⊥) no ws h)
  where
    no : (w : Write) → OwnerWrite z f1 w → w.cell ≡ flag1_cell z → ⊥
    no w (flags c x) e = omega arith
    no w (releases c x) e = omega arith

-- The bound: a thread that has waited longer than it since it noted the clock finds the owner's flag0 landed.
pub waited_landed : (z : Settings) (s : Sight) (note : ℕ) → note + s.bound < s.clock → AllByRecursion (λ (w : Write). w.cell ≡ flag0_cell z → w.date ≤ note) (s.writes 0)
    → AllByRecursion (λ (w : Write). s.clock ≤ w.date + s.bound) (s.writes 0) → sees0 z s 0 ≡ 1 → (s.flag0 ≡ 1) × AllByRecursion (λ (w : Write). w.cell ≡ flag0_cell z → ⊥) (s.writes 0)
waited_landed z s note past dated in_time own = (sym (sees_none (s.writes 0) (flag0_cell z) s.flag0 none) ∙ own, none)
  where
    go : (ws : List Write) → AllByRecursion (λ (w : Write). w.cell ≡ flag0_cell z → w.date ≤ note) ws → AllByRecursion (λ (w : Write). s.clock ≤ w.date + s.bound) ws → AllByRecursion (λ (w : Write). w.cell ≡ flag0_cell z → ⊥) ws
    go [] a b = tt
    go (w ∷ ws) a b = (λ e. let h : w.date ≤ note = a.0 e in let k : s.clock ≤ w.date + s.bound = b.0 in omega arith, go ws a.1 b.1)

    none : AllByRecursion (λ (w : Write). w.cell ≡ flag0_cell z → ⊥) (s.writes 0)
    none = go (s.writes 0) dated in_time

-- The echo: a thread that finds its version in flag0 has the owner in its loop, so not inside.
pub echoed_loops : (z : Settings) (a : LockState) (v : ℕ) → a.sight.flag1 ≡ 2 * (v + 1) + 1 → a.sight.flag0 / 2 ≡ v + 1 → Owned z a → InLoop (a.point 0) × (a.inside 0 ≡ false)
echoed_loops z a v odd seen o = (loops, loop_outside o.at loops)
  where
    loops : InLoop (a.point 0)
    loops = elim (o.echoes v odd) [ inl l ↦ l | inr n ↦ absurd (n.landed (flag0_version o.flag0 v seen)) ]

-- the oldest waiting write of another thread
pub data Oldest (z : Settings) (f1 : ℕ) (w : Write) : Type 0 where
  raises : (v : ℕ) → w.cell ≡ flag1_cell z → w.value ≡ 2 * (v + 1) + 1 → f1 ≡ 2 * v → Oldest z f1 w
  lowers : (v : ℕ) → w.cell ≡ flag1_cell z → w.value ≡ 2 * (v + 2) → f1 ≡ 2 * (v + 1) + 1 → Oldest z f1 w
  frees : w.cell ≡ lock_cell z → Oldest z f1 w

pub other_oldest : {z : Settings} {L f1 u : ℕ} {p : Point} {i : Bool} {ws : List Write} (w : Write) (rest : List Write) → ws ≡ w ∷ rest → Other z L f1 u p i ws → Oldest z f1 w
other_oldest w rest was (away l a i e) = absurd cc
other_oldest w rest was (enters2 v l p i e f) = absurd cc
other_oldest w rest was (enters3 v l p i e f) = absurd cc
other_oldest {z} w rest was (raising v d l p i e f) = let k : w ≡ flag1_write z (2 * (v + 1) + 1) d = cc in raises v (ap (λ (x : Write). x.cell) k) (ap (λ (x : Write). x.value) k) f
other_oldest w rest was (raised v l p i e f) = absurd cc
other_oldest w rest was (within v l p i e f) = absurd cc
other_oldest {z} w rest was (lowering v d l p i e f) = let k : w ≡ flag1_write z (2 * (v + 2)) d = cc in lowers v (ap (λ (x : Write). x.cell) k) (ap (λ (x : Write). x.value) k) f
other_oldest w rest was (lowered v l p i e f) = absurd cc
other_oldest {z} w rest was (releasing2 v d d' l p i e f) = let k : w ≡ flag1_write z (2 * (v + 2)) d = cc in lowers v (ap (λ (x : Write). x.cell) k) (ap (λ (x : Write). x.value) k) f
other_oldest {z} w rest was (releasing v d l p i e f) = let k : w ≡ release_write z d = cc in frees (ap (λ (x : Write). x.cell) k)
