-- The half of flag0, echoes and time is kept by every begin and step. Assumes nothing.
use Rattle.std.proofs.Common.{◌≡◌, ℕ, ◌+◌, ◌*◌, ◌/◌, ◌%◌, ◌<◌, ◌≤◌, Bool, true, false, ◌≢◌, ◌⊎◌, [], ◌∷◌, ◌++◌, sym, refl, ap, ◌∙◌, inl, inr, arith}
use Rattle.std.specs.List.{AllByRecursion}
use Rattle.std.proofs.ByRecursion.{All-weaker, All-push}
use Rattle.std.proofs.lemmas.Bool.{cases_eq, cases_Bool, both_ways}
use Rattle.memory.specs.declared.write.Write.{Write}
use Rattle.protocol.specs.declared.settings.Settings.{Settings}
use Rattle.protocol.specs.Settings.{lock_cell, flag0_cell}
use Rattle.protocol.specs.Tables.{Point, idle, owner_lock1, owner_lock2, owner_lock3, owner_lock4, owner_lock5, owner_unlock1, owner_unlock2, owner_unlock3, owner_unlock4, other_lock1, other_lock2, other_lock3, other_lock4, other_lock5, other_lock6, other_lock7, other_lock8, other_unlock1, other_unlock2, other_unlock3}
use Rattle.protocol.proofs.LockFacts.{side, node_side, Waits, other_waits, who_owner, who_other, sees_own}
use Rattle.protocol.proofs.LockView.{LockState, NodePoint, sees0, sees1, Same, StoresOne, TakesLock, Goes, Acts, node, begins_owner_lock, begins_owner_unlock, begins_other_lock, begins_other_unlock, owner1, owner2in, owner2, owner3, owner4in, owner4, owner5, owner_u1low, owner_u1, owner_u2, owner_u3, owner_u4, other1in, other1, other2, other3, other4, other5, other6past, other6, other7echo, other7, other8in, other8, other_u1, other_u2, other_u3}
use Rattle.protocol.proofs.Locked.{RaisedAt, raised4, raised5, raised6, raised7, raised8, Flag0, up, echo, OwnerWrite, flags, releases, OwnerAt, locks1, locks2, locks3, locks4, locks5, unlocks1, unlocks2, unlocks3, unlocks4, slow, OwnerLock, without, has, gives, InLoop, loop3, loop4, loop5, NoEcho, TimedAt, Turns, Owned}
use Rattle.protocol.proofs.OwnedFacts.{unwaiting_timed, inside_odd, flag0_odd, flag0_even, own_flag0, own_flag1, waited_landed, echoed_loops}
use Rattle.protocol.proofs.OwnedKeep.{InTime, Untouched, same_untouched, takes_untouched, stores_untouched, owned_moves}

-- Another thread moves.
other_goes : (z : Settings) (t : ℕ) (a a' : LockState) (p' : Point) (i' : Bool) → 1 ≤ t → Untouched a.sight a'.sight → Goes t a a' p' i'
    → (a.inside 0 ≡ true → sees0 z a.sight 0 ≡ 1 → TimedAt z a.sight.flag0 (a.sight.writes 0) p') → (i' ≡ true → a.inside 0 ≡ false) → Owned z a → Owned z a'
other_goes z t a a' p' i' h s g timed alone o =
    owned_moves z a a' s (rw (g.points 0 n, outside) o.at) (λ v e l. rw (g.points 0 n) l)
    (λ u k i e. elim (cases_eq u t) [ inl q ↦ rw (q, g.point) (timed (sym outside ∙ i) e) | inr d ↦ rw (g.points u d) (o.timed u k (sym outside ∙ i) e) ])
    (λ u k i. elim (cases_eq u t) [ inl q ↦ outside ∙ alone (sym g.inside ∙ rw q at i) | inr d ↦ outside ∙ o.alone u k (sym (g.insides u d) ∙ i) ]) o
  where
    n : 0 ≢ t
    n e = omega arith

    outside : a'.inside 0 ≡ a.inside 0
    outside = g.insides 0 n

-- to a point where it does not wait for the owner
other_plain : (z : Settings) (t : ℕ) (a a' : LockState) (p' : Point) → 1 ≤ t → Untouched a.sight a'.sight → Goes t a a' p' (a.inside t) → side p' ≢ 5 → Owned z a → Owned z a'
other_plain z t a a' p' h s g n o = other_goes z t a a' p' (a.inside t) h s g (λ i e. unwaiting_timed z a.sight.flag0 (a.sight.writes 0) p' n) (o.alone t h) o

-- to a point where it waits
other_timed : (z : Settings) (t : ℕ) (a a' : LockState) (p' : Point) → 1 ≤ t → Same a.sight a'.sight → Goes t a a' p' (a.inside t)
    → (a.inside 0 ≡ true → sees0 z a.sight 0 ≡ 1 → TimedAt z a.sight.flag0 (a.sight.writes 0) p') → Owned z a → Owned z a'
other_timed z t a a' p' h s g timed o = other_goes z t a a' p' (a.inside t) h (same_untouched s) g timed (o.alone t h) o

-- The owner moves.
owner_goes : (z : Settings) (a a' : LockState) (p' : Point) (i' : Bool) → Untouched a.sight a'.sight → Goes 0 a a' p' i' → OwnerAt a.sight.flag1 (sees0 z a.sight 0) p' i'
    → ((v : ℕ) → a.sight.flag1 ≡ 2 * (v + 1) + 1 → InLoop (a.point 0) → InLoop p')
    → ((u : ℕ) → 1 ≤ u → i' ≡ true → sees0 z a.sight 0 ≡ 1 → TimedAt z a.sight.flag0 (a.sight.writes 0) (a.point u))
    → ((u : ℕ) → 1 ≤ u → a.inside u ≡ true → i' ≡ false) → Owned z a → Owned z a'
owner_goes z a a' p' i' s g at loops timed alone o =
    owned_moves z a a' s (rw (g.point, g.inside) at) (λ v e l. rw g.point (loops v e l)) (λ u h i e. rw (g.points u (n u h)) (timed u h (sym g.inside ∙ i) e))
    (λ u h i. g.inside ∙ alone u h (sym (g.insides u (n u h)) ∙ i)) o
  where
    n : (u : ℕ) → 1 ≤ u → u ≢ 0
    n u h e = omega arith

-- and is inside as before
owner_plain : (z : Settings) (a a' : LockState) (p' : Point) → Same a.sight a'.sight → Goes 0 a a' p' (a.inside 0) → OwnerAt a.sight.flag1 (sees0 z a.sight 0) p' (a.inside 0)
    → (InLoop (a.point 0) → InLoop p') → Owned z a → Owned z a'
owner_plain z a a' p' s g at loops o = owner_goes z a a' p' (a.inside 0) (same_untouched s) g at (λ v e. loops) o.timed o.alone o

-- The owner stores, and is not inside afterwards.
owner_stores : (z : Settings) (a a' : LockState) (c n : ℕ) (p' : Point) → Goes 0 a a' p' false → StoresOne z 0 c n a.sight a'.sight → OwnerWrite z a.sight.flag1 (record { cell = c; value = n; date = a.sight.clock })
    → OwnerAt a.sight.flag1 (sees0 z a'.sight 0) p' false → InLoop p' ⊎ ((InLoop (a.point 0) → ⊥) × ((v : ℕ) → c ≡ flag0_cell z → n ≡ 2 * (v + 1) → ⊥)) → Owned z a → Owned z a'
owner_stores z a a' c n p' g s new at after o =
    record {
      writes = rw (s.here, s.flag1) (All-push (OwnerWrite z a.sight.flag1) (a.sight.writes 0) w o.writes new);
      flag0 = rw (s.flag0, s.flag1) o.flag0;
      at = rw (s.flag1, g.point, g.inside) at;
      dates = rw (s.here, s.clock) (All-push (λ (x : Write). x.date ≤ a.sight.clock) (a.sight.writes 0) w o.dates (omega arith));
      echoes = λ v e. rw (s.flag0, s.here, g.point) (echoes v (sym s.flag1 ∙ e) after);
      timed = λ u h i e. absurd (both_ways (a'.inside 0) g.inside i);
      alone = λ u h i. g.inside;
    }
  where
    w : Write
    w = record { cell = c; value = n; date = a.sight.clock }

    echoes : (v : ℕ) → a.sight.flag1 ≡ 2 * (v + 1) + 1 → InLoop p' ⊎ ((InLoop (a.point 0) → ⊥) × ((k : ℕ) → c ≡ flag0_cell z → n ≡ 2 * (k + 1) → ⊥))
        → InLoop p' ⊎ NoEcho z (v + 1) a.sight.flag0 (a.sight.writes 0 ++ w ∷ [])
    echoes v e (inl l) = inl l
    echoes v e (inr q) =
        elim (o.echoes v e) [
          | inl l ↦ absurd (q.0 l)
          | inr k ↦ inr (record {
            landed = k.landed;
            waiting = All-push (λ (x : Write). x.cell ≡ flag0_cell z → x.value ≡ 2 * (v + 1) → ⊥) (a.sight.writes 0) w k.waiting (q.1 v);
          })
        ]

-- What is known of the owner at its points.

at_1 : {f1 own : ℕ} {i : Bool} → OwnerAt f1 own owner_lock1 i → i ≡ false
at_1 (OwnerAt.works n) = absurd n
at_1 locks1 = refl

at_2 : {f1 own : ℕ} {i : Bool} → OwnerAt f1 own owner_lock2 i → (i ≡ false) × (own ≡ 1)
at_2 (OwnerAt.works n) = absurd n
at_2 (locks2 e) = (refl, e)

pub at_3 : {f1 own v : ℕ} {i : Bool} → OwnerAt f1 own (owner_lock3 v) i → (i ≡ false) × (2 * v ≤ f1)
at_3 (OwnerAt.works n) = absurd n
at_3 (locks3 h) = (refl, h)

at_4 : {f1 own : ℕ} {i : Bool} → OwnerAt f1 own owner_lock4 i → (i ≡ false) × ((w : ℕ) × (own ≡ 2 * w))
at_4 (OwnerAt.works n) = absurd n
at_4 (locks4 w e) = (refl, (w, e))

at_5 : {f1 own : ℕ} {i : Bool} → OwnerAt f1 own owner_lock5 i → i ≡ false
at_5 (OwnerAt.works n) = absurd n
at_5 (locks5 w e) = refl

at_unlock1 : {f1 own : ℕ} {i : Bool} → OwnerAt f1 own owner_unlock1 i → i ≡ true
at_unlock1 (OwnerAt.works n) = absurd n
at_unlock1 unlocks1 = refl

at_unlock4 : {f1 own : ℕ} {i : Bool} → OwnerAt f1 own owner_unlock4 i → i ≡ false
at_unlock4 (OwnerAt.works n) = absurd n
at_unlock4 unlocks4 = refl

-- The owner's steps.
module _ (z : Settings) (a a' : LockState) (turns : Turns z a) (o : Owned z a) where
  at_point : {p : Point} → a.point 0 ≡ p → OwnerAt a.sight.flag1 (sees0 z a.sight 0) p (a.inside 0)
  at_point e = rw e at o.at

  -- the owner sees flag1 as it is, and one of its values in flag0
  flag1_seen : sees1 z a.sight 0 ≡ a.sight.flag1
  flag1_seen = own_flag1 z a.sight.flag1 (a.sight.writes 0) o.writes

  flag0_seen : Flag0 a.sight.flag1 (sees0 z a.sight 0)
  flag0_seen = own_flag0 z a.sight.flag1 a.sight.flag0 (a.sight.writes 0) o.writes o.flag0

  flag0_stored : (n : ℕ) → StoresOne z 0 (flag0_cell z) n a.sight a'.sight → sees0 z a'.sight 0 ≡ n
  flag0_stored n s = sees_own z 0 n a.sight a'.sight s

  -- a step from and to the operations on nodes
  owner_node : {p p' : Point} → a.point 0 ≡ p → NodePoint p → NodePoint p' → Goes 0 a a' p' (a.inside 0) → Same a.sight a'.sight → Owned z a'
  owner_node {p} {p'} e n n' g s = owner_plain z a a' p' s g (OwnerAt.works n') (λ l. absurd (no (rw e at l) n)) o
    where
      no : {q : Point} → InLoop q → NodePoint q → ⊥
      no loop3 m = m
      no loop4 m = m
      no loop5 m = m

  owner_begins_lock : a.point 0 ≡ idle → a.inside 0 ≡ false → Goes 0 a a' owner_lock1 false → Same a.sight a'.sight → Owned z a'
  owner_begins_lock e i g s = owner_goes z a a' owner_lock1 false (same_untouched s) g locks1 (λ v f l. elim (rw e at l) [ ]) (λ u h j. absurd (both_ways false refl j)) (λ u h j. refl) o

  owner_begins_unlock : a.point 0 ≡ idle → a.inside 0 ≡ true → Goes 0 a a' owner_unlock1 true → Same a.sight a'.sight → Owned z a'
  owner_begins_unlock e i g s =
      owner_goes z a a' owner_unlock1 true (same_untouched s) g unlocks1 (λ v f l. elim (rw e at l) [ ]) (λ u h j. o.timed u h i) (λ u h j. sym i ∙ o.alone u h j) o

  owner_1 : a.point 0 ≡ owner_lock1 → Goes 0 a a' owner_lock2 (a.inside 0) → StoresOne z 0 (flag0_cell z) 1 a.sight a'.sight → Owned z a'
  owner_1 e g s =
      owner_stores z a a' (flag0_cell z) 1 owner_lock2 (rw (at_1 (at_point e)) at g) s (flags refl up) (locks2 (flag0_stored 1 s)) (inr (λ l. elim (rw e at l) [ ], λ v c n. omega arith)) o

  -- it finds flag1 lowered: no other thread is inside, or waits for the owner
  owner_2in : a.point 0 ≡ owner_lock2 → sees1 z a.sight 0 % 2 ≡ 0 → Goes 0 a a' idle true → Same a.sight a'.sight → Owned z a'
  owner_2in e low g s =
      owner_goes z a a' idle true (same_untouched s) g (OwnerAt.works tt) (λ v f l. elim (rw e at l) [ ])
      (λ u h i own. unwaiting_timed z a.sight.flag0 (a.sight.writes 0) (a.point u) (λ w. let x = (other_waits (turns.others u h) w).flag1 in let y = even in omega arith))
      (λ u h i. let x = (inside_odd (turns.others u h) i).1 in let y = even in absurd (omega arith)) o
    where
      even : a.sight.flag1 % 2 ≡ 0
      even = rw flag1_seen at low

  -- it comes to its loop
  owner_loops : a.inside 0 ≡ false → Goes 0 a a' (owner_lock3 (sees1 z a.sight 0 / 2)) (a.inside 0) → Same a.sight a'.sight → Owned z a'
  owner_loops i g s = owner_plain z a a' (owner_lock3 (sees1 z a.sight 0 / 2)) s g (rw i (locks3 {v = sees1 z a.sight 0 / 2} (let f = flag1_seen in omega arith))) (λ l. loop3) o

  owner_3 : {v : ℕ} → a.point 0 ≡ owner_lock3 v → Goes 0 a a' owner_lock4 (a.inside 0) → StoresOne z 0 (flag0_cell z) (2 * v) a.sight a'.sight → Owned z a'
  owner_3 {v} e g s =
      let k = at_3 (at_point e) in
      owner_stores z a a' (flag0_cell z) (2 * v) owner_lock4 (rw k.0 at g) s (flags refl (echo v k.1)) (locks4 v (flag0_stored (2 * v) s)) (inl loop4) o

  -- it leaves its loop by taking L, which was free: flag1 is lowered, and no other thread is inside
  owner_4in : a.point 0 ≡ owner_lock4 → Goes 0 a a' idle true → TakesLock 0 1 a.sight a'.sight → Owned z a'
  owner_4in e g s =
      owner_goes z a a' idle true (takes_untouched s) g (OwnerAt.works tt) (λ v f l. let q = turns.quiet (inl s.was) in let w : a.sight.flag1 ≡ 2 * q.0 = q.1 in absurd (omega arith))
      (λ u h i own. let k = at_4 (at_point e) in let w : sees0 z a.sight 0 ≡ 2 * k.1.0 = k.1.1 in absurd (omega arith))
      (λ u h i. let x = (inside_odd (turns.others u h) i).0 in let y = s.was in absurd (omega arith)) o

  owner_4 : a.point 0 ≡ owner_lock4 → Goes 0 a a' owner_lock5 (a.inside 0) → Same a.sight a'.sight → Owned z a'
  owner_4 e g s = let k = at_4 (at_point e) in owner_plain z a a' owner_lock5 s g (rw k.0 (locks5 k.1.0 k.1.1)) (λ l. loop5) o

  owner_unlock1_low : a.point 0 ≡ owner_unlock1 → sees0 z a.sight 0 % 2 ≡ 0 → Goes 0 a a' owner_unlock3 (a.inside 0) → Same a.sight a'.sight → Owned z a'
  owner_unlock1_low e even g s =
      let k = flag0_even flag0_seen even in owner_plain z a a' owner_unlock3 s g (rw (at_unlock1 (at_point e)) (unlocks3 k.0 k.1)) (λ l. elim (rw e at l) [ ]) o

  owner_unlock1_lem : a.point 0 ≡ owner_unlock1 → sees0 z a.sight 0 % 2 ≡ 1 → Goes 0 a a' owner_unlock2 (a.inside 0) → Same a.sight a'.sight → Owned z a'
  owner_unlock1_lem e odd g s = owner_plain z a a' owner_unlock2 s g (rw (at_unlock1 (at_point e)) (unlocks2 (flag0_odd flag0_seen odd))) (λ l. elim (rw e at l) [ ]) o

  owner_unlock2_lem : a.point 0 ≡ owner_unlock2 → Goes 0 a a' idle false → StoresOne z 0 (flag0_cell z) 0 a.sight a'.sight → Owned z a'
  owner_unlock2_lem e g s =
      owner_stores z a a' (flag0_cell z) 0 idle g s (flags refl (echo 0 (omega arith))) (OwnerAt.works tt) (inr (λ l. elim (rw e at l) [ ], λ v c n. omega arith)) o

  owner_unlock3_lem : a.point 0 ≡ owner_unlock3 → Goes 0 a a' owner_unlock4 false → StoresOne z 0 (flag0_cell z) 0 a.sight a'.sight → Owned z a'
  owner_unlock3_lem e g s = owner_stores z a a' (flag0_cell z) 0 owner_unlock4 g s (flags refl (echo 0 (omega arith))) unlocks4 (inr (λ l. elim (rw e at l) [ ], λ v c n. omega arith)) o

  owner_unlock4_lem : a.point 0 ≡ owner_unlock4 → Goes 0 a a' idle (a.inside 0) → StoresOne z 0 (lock_cell z) 0 a.sight a'.sight → Owned z a'
  owner_unlock4_lem e g s =
      owner_stores z a a' (lock_cell z) 0 idle (rw (at_unlock4 (at_point e)) at g) s (releases refl refl) (OwnerAt.works tt) (inr (λ l. elim (rw e at l) [ ], λ v c n. omega arith)) o

-- The steps of the others.
module _ (z : Settings) (t : ℕ) (a a' : LockState) (turns : Turns z a) (o : Owned z a) where
  -- it notes the clock: no waiting write has a later date
  other_notes : {v : ℕ} → a.point t ≡ other_lock5 v → Goes t a a' (other_lock6 v a.sight.clock) (a.inside t) → Same a.sight a'.sight → Owned z a'
  other_notes {v} e g s =
      other_timed z t a a' (other_lock6 v a.sight.clock) (who_other t o e (omega arith)) s g
      (λ i own. All-weaker (λ (w : Write). w.date ≤ a.sight.clock) (λ (w : Write). w.cell ≡ flag0_cell z → w.date ≤ a.sight.clock) (λ w h c. h) (a.sight.writes 0) o.dates) o

  -- it has waited
  other_waited : {v note : ℕ} → InTime a → a.point t ≡ other_lock6 v note → note + a.sight.bound < a.sight.clock → Goes t a a' (other_lock8 v) (a.inside t) → Same a.sight a'.sight → Owned z a'
  other_waited {v} {note} in_time e past g s = other_timed z t a a' (other_lock8 v) h s g (λ i own. waited_landed z a.sight note past (rw e at (o.timed t h i own)) (in_time 0) own) o
    where
      h : 1 ≤ t
      h = who_other t o e (omega arith)

  other_looks : {v note : ℕ} → a.point t ≡ other_lock6 v note → Goes t a a' (other_lock7 v note) (a.inside t) → Same a.sight a'.sight → Owned z a'
  other_looks {v} {note} e g s = other_timed z t a a' (other_lock7 v note) h s g (λ i own. rw e at (o.timed t h i own)) o
    where
      h : 1 ≤ t
      h = who_other t o e (omega arith)

  other_again : {v note : ℕ} → a.point t ≡ other_lock7 v note → Goes t a a' (other_lock6 v note) (a.inside t) → Same a.sight a'.sight → Owned z a'
  other_again {v} {note} e g s = other_timed z t a a' (other_lock6 v note) h s g (λ i own. rw e at (o.timed t h i own)) o
    where
      h : 1 ≤ t
      h = who_other t o e (omega arith)

  other_stays : {v : ℕ} → a.point t ≡ other_lock8 v → Goes t a a' (other_lock8 v) (a.inside t) → Same a.sight a'.sight → Owned z a'
  other_stays {v} e g s = other_timed z t a a' (other_lock8 v) h s g (λ i own. rw e at (o.timed t h i own)) o
    where
      h : 1 ≤ t
      h = who_other t o e (omega arith)

  -- the owner has echoed its version
  other_echoed : {v note : ℕ} → a.point t ≡ other_lock7 v note → sees0 z a.sight t / 2 ≡ v → Goes t a a' (other_lock8 v) (a.inside t) → Same a.sight a'.sight → Owned z a'
  other_echoed {v} {note} e seen g s = other_timed z t a a' (other_lock8 v) h s g (λ i own. absurd (both_ways (a.inside 0) (echoed_loops z a w.version w.flag1 version o).1 i)) o
    where
      h : 1 ≤ t
      h = who_other t o e (omega arith)

      w : Waits a.sight.lock a.sight.flag1 t (a.point t) (a.sight.writes t)
      w = other_waits (turns.others t h) (ap side e)

      named : {k : ℕ} {p : Point} → RaisedAt k p → p ≡ other_lock7 v note → v ≡ k
      named raised4 q = cc
      named raised5 q = cc
      named raised6 q = cc
      named raised7 q = cc
      named raised8 q = cc

      version : a.sight.flag0 / 2 ≡ w.version + 1
      version = (rw w.none at seen) ∙ named w.raised e

  -- it finds flag0 lowered: the owner is not inside, neither by flag0 nor by L
  other_enters : {v : ℕ} → a.point t ≡ other_lock8 v → sees0 z a.sight t % 2 ≡ 0 → Goes t a a' idle true → Same a.sight a'.sight → Owned z a'
  other_enters {v} e low g s = other_goes z t a a' idle true h (same_untouched s) g (λ i own. tt) (λ i. outside (cases_Bool (a.inside 0))) o
    where
      h : 1 ≤ t
      h = who_other t o e (omega arith)

      w : Waits a.sight.lock a.sight.flag1 t (a.point t) (a.sight.writes t)
      w = other_waits (turns.others t h) (ap side e)

      even : a.sight.flag0 % 2 ≡ 0
      even = rw w.none at low

      -- not by flag0
      fast : a.inside 0 ≡ true → sees0 z a.sight 0 ≡ 1 → ⊥
      fast i own =
          let found : (a.sight.flag0 ≡ 1) × AllByRecursion (λ (x : Write). x.cell ≡ flag0_cell z → ⊥) (a.sight.writes 0) = rw e at (o.timed t h i own) in
          let x = found.0 in
          let y = even in
          omega arith

      -- not by L
      unheld : {p : Point} {own n : ℕ} (k : ℕ) → a.inside 0 ≡ true → own ≡ 2 * k → OwnerLock a.sight.lock own p (a.inside 0) n → ⊥
      unheld k i own (without l n q) = q (slow k i own)
      unheld k i own (has l n q) = let x = w.lock in let y = h in omega arith
      unheld k i own (gives l n q) = let x = w.lock in let y = h in omega arith

      which : {x : ℕ} → Flag0 a.sight.flag1 x → (x ≡ 1) ⊎ ((k : ℕ) × (x ≡ 2 * k))
      which up = inl refl
      which (echo k n) = inr (k, refl)

      outside : (a.inside 0 ≡ true) ⊎ (a.inside 0 ≡ false) → a.inside 0 ≡ false
      outside (inr i) = i
      outside (inl i) =
          elim (which (own_flag0 z a.sight.flag1 a.sight.flag0 (a.sight.writes 0) o.writes o.flag0)) [
            | inl own ↦ absurd (fast i own)
            | inr k ↦ absurd (unheld k.0 i k.1 turns.owner)
          ]

pub owned_acts : (z : Settings) (t : ℕ) (a a' : LockState) → Acts z t a a' → InTime a → Turns z a → Owned z a → Owned z a'
owned_acts z t a a' (node {p} {p'} e k k' g s) in_time turns o =
    elim (cases_eq t 0) [
      | inl n ↦ owner_node z a a' turns o (rw n at e) k k' (rw n at g) s
      | inr n ↦ other_plain z t a a' p' (omega arith) (same_untouched s) g (λ q. let x = node_side p' k' in omega arith) o
    ]
owned_acts z t a a' (begins_owner_lock n e i g s) in_time turns o = owner_begins_lock z a a' turns o (rw n at e) (rw n at i) (rw n at g) s
owned_acts z t a a' (begins_owner_unlock n e i g s) in_time turns o = owner_begins_unlock z a a' turns o (rw n at e) (rw n at i) (rw n at g) s
owned_acts z t a a' (begins_other_lock h e i g s) in_time turns o = other_plain z t a a' other_lock1 h (same_untouched s) (rw i g) (λ q. omega arith) o
owned_acts z t a a' (begins_other_unlock h e i g s) in_time turns o = other_plain z t a a' other_unlock1 h (same_untouched s) (rw i g) (λ q. omega arith) o
owned_acts z t a a' (owner1 e g s) in_time turns o = let n = who_owner t turns e (omega arith) (omega arith) in owner_1 z a a' turns o (rw n at e) (rw n at g) (rw n at s)
owned_acts z t a a' (owner2in e low g s) in_time turns o = let n = who_owner t turns e (omega arith) (omega arith) in owner_2in z a a' turns o (rw n at e) (rw n at low) (rw n at g) s
owned_acts z t a a' (owner2 e odd g s) in_time turns o = let n = who_owner t turns e (omega arith) (omega arith) in owner_loops z a a' turns o (at_2 (at_point z a a' turns o (rw n at e))).0 (rw n at g) s
owned_acts z t a a' (owner3 {v} e lt g s) in_time turns o = let n = who_owner t turns e (omega arith) (omega arith) in owner_3 z a a' turns o (rw n at e) (rw n at g) (rw n at s)
owned_acts z t a a' (owner4in e g s) in_time turns o = let n = who_owner t turns e (omega arith) (omega arith) in owner_4in z a a' turns o (rw n at e) (rw n at g) (rw n at s)
owned_acts z t a a' (owner4 e taken none g s) in_time turns o = let n = who_owner t turns e (omega arith) (omega arith) in owner_4 z a a' turns o (rw n at e) (rw n at g) s
owned_acts z t a a' (owner5 e g s) in_time turns o = let n = who_owner t turns e (omega arith) (omega arith) in owner_loops z a a' turns o (at_5 (at_point z a a' turns o (rw n at e))) (rw n at g) s
owned_acts z t a a' (owner_u1low e even g s) in_time turns o = let n = who_owner t turns e (omega arith) (omega arith) in owner_unlock1_low z a a' turns o (rw n at e) (rw n at even) (rw n at g) s
owned_acts z t a a' (owner_u1 e odd g s) in_time turns o = let n = who_owner t turns e (omega arith) (omega arith) in owner_unlock1_lem z a a' turns o (rw n at e) (rw n at odd) (rw n at g) s
owned_acts z t a a' (owner_u2 e g s) in_time turns o = let n = who_owner t turns e (omega arith) (omega arith) in owner_unlock2_lem z a a' turns o (rw n at e) (rw n at g) (rw n at s)
owned_acts z t a a' (owner_u3 e g s) in_time turns o = let n = who_owner t turns e (omega arith) (omega arith) in owner_unlock3_lem z a a' turns o (rw n at e) (rw n at g) (rw n at s)
owned_acts z t a a' (owner_u4 e g s) in_time turns o = let n = who_owner t turns e (omega arith) (omega arith) in owner_unlock4_lem z a a' turns o (rw n at e) (rw n at g) (rw n at s)
owned_acts z t a a' (other1in e g s) in_time turns o = let h = who_other t o e (omega arith) in other_plain z t a a' other_lock2 h (takes_untouched s) g (λ q. omega arith) o
owned_acts z t a a' (other1 e g s) in_time turns o = let h = who_other t o e (omega arith) in other_plain z t a a' other_lock1 h (same_untouched s) g (λ q. omega arith) o
owned_acts z t a a' (other2 e g s) in_time turns o = let h = who_other t o e (omega arith) in other_plain z t a a' (other_lock3 (sees1 z a.sight t / 2 + 1)) h (same_untouched s) g (λ q. omega arith) o
owned_acts z t a a' (other3 {v} e few {n} m g s) in_time turns o = let h = who_other t o e (omega arith) in other_plain z t a a' (other_lock4 v) h (stores_untouched h s) g (λ q. omega arith) o
owned_acts z t a a' (other4 {v} e none g s) in_time turns o = other_timed z t a a' (other_lock5 v) (who_other t o e (omega arith)) s g (λ i own. tt) o
owned_acts z t a a' (other5 e g s) in_time turns o = other_notes z t a a' turns o e g s
owned_acts z t a a' (other6past e past g s) in_time turns o = other_waited z t a a' turns o in_time e past g s
owned_acts z t a a' (other6 e g s) in_time turns o = other_looks z t a a' turns o e g s
owned_acts z t a a' (other7echo e seen g s) in_time turns o = other_echoed z t a a' turns o e seen g s
owned_acts z t a a' (other7 e g s) in_time turns o = other_again z t a a' turns o e g s
owned_acts z t a a' (other8in e low g s) in_time turns o = other_enters z t a a' turns o e low g s
owned_acts z t a a' (other8 e g s) in_time turns o = other_stays z t a a' turns o e g s
owned_acts z t a a' (other_u1 e g s) in_time turns o = let h = who_other t o e (omega arith) in other_plain z t a a' (other_unlock2 (sees1 z a.sight t / 2)) h (same_untouched s) g (λ q. omega arith) o
owned_acts z t a a' (other_u2 {v} e few {n} m g s) in_time turns o =
    let h = who_other t o e (omega arith) in other_goes z t a a' other_unlock3 false h (stores_untouched h s) g (λ i own. tt) (λ i. absurd (both_ways false refl i)) o
owned_acts z t a a' (other_u3 e g s) in_time turns o = let h = who_other t o e (omega arith) in other_plain z t a a' idle h (stores_untouched h s) g (λ q. omega arith) o
