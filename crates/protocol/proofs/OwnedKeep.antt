-- The half of flag0, echoes and time is kept by what the memory does. Assumes nothing.
use Rattle.std.proofs.Common.{◌≡◌, ℕ, ◌+◌, ◌*◌, ◌<◌, ◌≤◌, Bool, true, false, cond, eqb, ◌⊎◌, ◌∷◌, sym, ◌∙◌, inl, inr, arith}
use Rattle.std.specs.List.{AllByRecursion}
use Rattle.std.proofs.ByRecursion.{All-weaker}
use Rattle.std.proofs.lemmas.Bool.{cases_eq, eqb-true, eq-eqb, ne_eqb, cond-true, cond-false, cond_both}
use Rattle.memory.specs.declared.write.Write.{Write}
use Rattle.protocol.specs.declared.settings.Settings.{Settings}
use Rattle.protocol.specs.Settings.{flag0_cell, flag1_cell}
use Rattle.protocol.proofs.LockFacts.{sees_landed}
use Rattle.protocol.proofs.LockView.{Sight, LockState, sees0, Same, LandsOne, StoresOne, TakesLock, TicksOn, Still}
use Rattle.protocol.proofs.Locked.{Flag0, OwnerWrite, flags, releases, OwnerAt, InLoop, NoEcho, TimedAt, Turns, Owned}
use Rattle.protocol.proofs.OwnedFacts.{flag0_grows, write_grows, at_grows, flag0_below, timed_moves, Oldest, raises, lowers, frees, other_oldest}

-- every waiting write may still wait: a fact of the memory
abbrev pub Timely : Sight → Type 0
Timely v = (t : ℕ) → AllByRecursion (λ (w : Write). v.clock ≤ w.date + v.bound) (v.writes t)

abbrev pub InTime : LockState → Type 0
InTime a = Timely a.sight

-- what the owner has written, and flag1, are as they were
pub record Untouched (v v' : Sight) : Type 0 where
  pub flag0 : v'.flag0 ≡ v.flag0
  pub flag1 : v'.flag1 ≡ v.flag1
  pub clock : v.clock ≤ v'.clock
  pub writes : v'.writes 0 ≡ v.writes 0

pub same_untouched : {v v' : Sight} → Same v v' → Untouched v v'
same_untouched s = record { flag0 = s.flag0; flag1 = s.flag1; clock = let e = s.clock in omega arith; writes = s.writes 0 }

pub takes_untouched : {t n : ℕ} {v v' : Sight} → TakesLock t n v v' → Untouched v v'
takes_untouched s = record { flag0 = s.flag0; flag1 = s.flag1; clock = let e = s.clock in omega arith; writes = s.writes 0 }

pub stores_untouched : {z : Settings} {t c n : ℕ} {v v' : Sight} → 1 ≤ t → StoresOne z t c n v v' → Untouched v v'
stores_untouched h s = record { flag0 = s.flag0; flag1 = s.flag1; clock = let e = s.clock in omega arith; writes = s.others 0 (λ e. omega arith) }

-- a move that leaves them
pub owned_moves : (z : Settings) (a a' : LockState) → Untouched a.sight a'.sight → OwnerAt a.sight.flag1 (sees0 z a.sight 0) (a'.point 0) (a'.inside 0)
    → ((v : ℕ) → a.sight.flag1 ≡ 2 * (v + 1) + 1 → InLoop (a.point 0) → InLoop (a'.point 0))
    → ((u : ℕ) → 1 ≤ u → a'.inside 0 ≡ true → sees0 z a.sight 0 ≡ 1 → TimedAt z a.sight.flag0 (a.sight.writes 0) (a'.point u))
    → ((u : ℕ) → 1 ≤ u → a'.inside u ≡ true → a'.inside 0 ≡ false) → Owned z a → Owned z a'
owned_moves z a a' s at loops timed alone o =
    record {
      writes = rw (s.writes, s.flag1) o.writes;
      flag0 = rw (s.flag0, s.flag1) o.flag0;
      at = rw (s.flag1, s.writes, s.flag0) at;
      dates = rw s.writes (All-weaker (λ (w : Write). w.date ≤ a.sight.clock) (λ (w : Write). w.date ≤ a'.sight.clock) (λ w h. let k = s.clock in omega arith) (a.sight.writes 0) o.dates);
      echoes = λ v e. let f : a.sight.flag1 ≡ 2 * (v + 1) + 1 = sym s.flag1 ∙ e in rw (s.flag0, s.writes) (elim (o.echoes v f) [ inl l ↦ inl (loops v f l) | inr n ↦ inr n ]);
      timed = λ u h i e. rw (s.flag0, s.writes) (timed u h i (rw (s.flag0, s.writes) at e));
      alone = alone;
    }

still_owned : (z : Settings) (a a' : LockState) → Untouched a.sight a'.sight → Still a a' → Owned z a → Owned z a'
still_owned z a a' s k o =
    owned_moves z a a' s (rw (k.point 0, k.inside 0) o.at) (λ v e l. rw (k.point 0) l) (λ u h i e. rw (k.point u) (o.timed u h (sym (k.inside 0) ∙ i) e))
    (λ u h i. k.inside 0 ∙ o.alone u h (sym (k.inside u) ∙ i)) o

pub owned_same : (z : Settings) (a a' : LockState) → Same a.sight a'.sight → Still a a' → Owned z a → Owned z a'
owned_same z a a' s k o = still_owned z a a' (same_untouched s) k o

pub owned_ticks : (z : Settings) (a a' : LockState) → TicksOn a.sight a'.sight → Still a a' → Owned z a → Owned z a'
owned_ticks z a a' s k o = still_owned z a a' (record { flag0 = s.flag0; flag1 = s.flag1; clock = let e = s.clock in omega arith; writes = s.writes 0 }) k o

-- a write of the owner lands
lands_owner : (z : Settings) (a a' : LockState) → LandsOne z 0 a.sight a'.sight → Still a a' → Owned z a → Owned z a'
lands_owner z a a' l k o =
    record {
      writes = rw (l.left, flag1) first.1;
      flag0 = rw (l.flag0, flag1) (cond_both here w.value a.sight.flag0 (Flag0 a.sight.flag1) (λ e. value first.0 (eqb-true w.cell (flag0_cell z) e)) (λ e. o.flag0));
      at = rw (flag1, own, k.point 0, k.inside 0) o.at;
      dates = rw (l.left, l.clock) (rw l.was at o.dates).1;
      echoes = λ v e. rw (l.flag0, l.left, k.point 0) (elim (o.echoes v (sym flag1 ∙ e)) [ inl h ↦ inl h | inr n ↦ inr (echoless v n) ]);
      timed = λ u h i e. rw (l.flag0, l.left, k.point u) (timed_moves z a.sight.flag0 (cond here w.value a.sight.flag0) (w ∷ l.rest) l.rest (a.point u) (λ note x. x.1) found (rw l.was at (o.timed u h (sym (k.inside 0) ∙ i) (sym own ∙ e))));
      alone = λ u h i. k.inside 0 ∙ o.alone u h (sym (k.inside u) ∙ i);
    }
  where
    w : Write
    w = l.write

    here : Bool
    here = eqb w.cell (flag0_cell z)

    first : AllByRecursion (OwnerWrite z a.sight.flag1) (w ∷ l.rest)
    first = rw l.was at o.writes

    value : OwnerWrite z a.sight.flag1 w → w.cell ≡ flag0_cell z → Flag0 a.sight.flag1 w.value
    value (flags c x) e = x
    value (releases c x) e = absurd (omega arith)

    elsewhere : OwnerWrite z a.sight.flag1 w → w.cell ≡ flag1_cell z → ⊥
    elsewhere (flags c x) e = omega arith
    elsewhere (releases c x) e = omega arith

    flag1 : a'.sight.flag1 ≡ a.sight.flag1
    flag1 = l.flag1 ∙ cond-false (eqb w.cell (flag1_cell z)) w.value a.sight.flag1 (ne_eqb w.cell (flag1_cell z) (elsewhere first.0))

    own : sees0 z a'.sight 0 ≡ sees0 z a.sight 0
    own = sees_landed z 0 a.sight a'.sight l

    echoless : (v : ℕ) → NoEcho z (v + 1) a.sight.flag0 (a.sight.writes 0) → NoEcho z (v + 1) (cond here w.value a.sight.flag0) l.rest
    echoless v n =
        let both : AllByRecursion (λ (x : Write). x.cell ≡ flag0_cell z → x.value ≡ 2 * (v + 1) → ⊥) (w ∷ l.rest) = rw l.was at n.waiting in
        record {
          landed = cond_both here w.value a.sight.flag0 (λ x. x ≡ 2 * (v + 1) → ⊥) (λ e. both.0 (eqb-true w.cell (flag0_cell z) e)) (λ e. n.landed);
          waiting = both.1;
        }

    found : (a.sight.flag0 ≡ 1) × AllByRecursion (λ (x : Write). x.cell ≡ flag0_cell z → ⊥) (w ∷ l.rest) → (cond here w.value a.sight.flag0 ≡ 1) × AllByRecursion (λ (x : Write). x.cell ≡ flag0_cell z → ⊥) l.rest
    found x = (cond-false here w.value a.sight.flag0 (ne_eqb w.cell (flag0_cell z) x.1.0) ∙ x.0, x.1.1)

-- flag1 grows by a move that the owner does not make
owned_grows : (z : Settings) (a a' : LockState) → a.sight.flag1 ≤ a'.sight.flag1 → a'.sight.flag0 ≡ a.sight.flag0 → a'.sight.clock ≡ a.sight.clock → a'.sight.writes 0 ≡ a.sight.writes 0
    → ((v : ℕ) → a'.sight.flag1 ≡ 2 * (v + 1) + 1 → InLoop (a.point 0) ⊎ NoEcho z (v + 1) a.sight.flag0 (a.sight.writes 0)) → Still a a' → Owned z a → Owned z a'
owned_grows z a a' more f0 clock ws echoes k o =
    record {
      writes = rw ws (All-weaker (OwnerWrite z a.sight.flag1) (OwnerWrite z a'.sight.flag1) (λ w h. write_grows more h) (a.sight.writes 0) o.writes);
      flag0 = rw f0 (flag0_grows more o.flag0);
      at = rw (ws, f0, k.point 0, k.inside 0) (at_grows more o.at);
      dates = rw (ws, clock) o.dates;
      echoes = λ v e. rw (f0, ws, k.point 0) (echoes v e);
      timed = λ u h i e. rw (f0, ws, k.point u) (o.timed u h (sym (k.inside 0) ∙ i) (rw (f0, ws) at e));
      alone = λ u h i. k.inside 0 ∙ o.alone u h (sym (k.inside u) ∙ i);
    }

-- a write of another thread lands
lands_other : (z : Settings) (t : ℕ) (a a' : LockState) → 1 ≤ t → LandsOne z t a.sight a'.sight → Still a a' → Turns z a → Owned z a → Owned z a'
lands_other z t a a' h l k turns o = go (other_oldest w l.rest l.was (turns.others t h))
  where
    w : Write
    w = l.write

    others : a'.sight.writes 0 ≡ a.sight.writes 0
    others = l.others 0 (λ e. omega arith)

    flag0 : (w.cell ≡ flag0_cell z → ⊥) → a'.sight.flag0 ≡ a.sight.flag0
    flag0 n = l.flag0 ∙ cond-false (eqb w.cell (flag0_cell z)) w.value a.sight.flag0 (ne_eqb w.cell (flag0_cell z) n)

    flag1 : w.cell ≡ flag1_cell z → a'.sight.flag1 ≡ w.value
    flag1 e = l.flag1 ∙ cond-true (eqb w.cell (flag1_cell z)) w.value a.sight.flag1 (eq-eqb w.cell (flag1_cell z) e)

    -- no value of flag0 so far has the version to which flag1 is raised
    fresh : (v : ℕ) → a.sight.flag1 < 2 * (v + 1) → NoEcho z (v + 1) a.sight.flag0 (a.sight.writes 0)
    fresh v low =
        record {
          landed = flag0_below (v + 1) o.flag0 low;
          waiting = All-weaker (OwnerWrite z a.sight.flag1) (λ (x : Write). x.cell ≡ flag0_cell z → x.value ≡ 2 * (v + 1) → ⊥) no (a.sight.writes 0) o.writes;
        }
      where
        no : (x : Write) → OwnerWrite z a.sight.flag1 x → x.cell ≡ flag0_cell z → x.value ≡ 2 * (v + 1) → ⊥
        no x (flags c y) e i = flag0_below (v + 1) y low i
        no x (releases c y) e i = omega arith

    go : Oldest z a.sight.flag1 w → Owned z a'
    go (raises v c x f) =
        let e = flag1 c in
        owned_grows z a a' (omega arith) (flag0 (λ e. omega arith)) l.clock others (λ n i. inr (fresh n (omega arith))) k o
    go (lowers v c x f) =
        let e = flag1 c in
        owned_grows z a a' (omega arith) (flag0 (λ e. omega arith)) l.clock others (λ n i. absurd (omega arith)) k o
    go (frees c) =
        let e : a'.sight.flag1 ≡ a.sight.flag1 = l.flag1 ∙ cond-false (eqb w.cell (flag1_cell z)) w.value a.sight.flag1 (ne_eqb w.cell (flag1_cell z) (λ i. omega arith)) in
        owned_grows z a a' (omega arith) (flag0 (λ e. omega arith)) l.clock others (λ n i. o.echoes n (sym e ∙ i)) k o

pub owned_lands : (z : Settings) (t : ℕ) (a a' : LockState) → LandsOne z t a.sight a'.sight → Still a a' → Turns z a → Owned z a → Owned z a'
owned_lands z t a a' l k turns o =
    elim (cases_eq t 0) [
      | inl e ↦ lands_owner z a a' (rw e at l) k o
      | inr n ↦ lands_other z t a a' (omega arith) l k turns o
    ]
