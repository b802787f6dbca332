-- The half of the lock's invariant on L and flag1 is kept while only the memory moves. Assumes nothing.
use Rattle.std.proofs.Common.{◌≡◌, ℕ, ◌+◌, ◌*◌, ◌≤◌, false, ◌≢◌, ◌⊎◌, List, [], ◌∷◌, sym, refl, ap, ◌∙◌, subst, inl, inr, arith}
use Rattle.std.specs.List.{AllByRecursion}
use Rattle.std.proofs.lemmas.Bool.{cases_eq}
use Rattle.memory.specs.declared.write.Write.{Write}
use Rattle.protocol.specs.declared.settings.Settings.{Settings}
use Rattle.protocol.specs.Settings.{lock_cell, flag0_cell, flag1_cell}
use Rattle.protocol.specs.Tables.{other_lock3}
use Rattle.protocol.proofs.LockFacts.{flag0_not_lock, flag1_not_lock, flag1_not_flag0, flag0_not_flag1, lock_not_flag0, lock_not_flag1, same_cell, sees_landed}
use Rattle.protocol.proofs.LockView.{LockState, Same, LandsOne, TicksOn, Still}
use Rattle.protocol.proofs.Locked.{Away, Other, away, enters2, enters3, raising, raised, within, lowering, lowered, releasing2, releasing, raised4, flag1_write, release_write, without, has, gives, OwnerWrite, flags, releases, release_count, Turns, Owned}
use Rattle.protocol.proofs.TurnsCarry.{Small, small_more, OwnerHere, owner_here}
use Rattle.protocol.proofs.TurnsParts.{still_away, owner_without}

-- what stays with the points and the number of calls
module _ {z : Settings} {a a' : LockState} (still : Still a a') (h : Turns z a) where
  kept_on : (u v : ℕ) → a'.point u ≡ other_lock3 v → v ≤ a'.count
  kept_on u v e = let l = h.few_kept u v (sym (still.point u) ∙ e) in let c = still.count in omega arith

  small_on : (u : ℕ) → 1 ≤ u → Small a'.count (a.sight.writes u)
  small_on u pos = small_more (a.sight.writes u) still.count (h.few_waiting u pos)

  -- nothing of L and the flags moves
  on_calm : a'.sight.lock ≡ a.sight.lock → a'.sight.flag0 ≡ a.sight.flag0 → a'.sight.flag1 ≡ a.sight.flag1 → ((t : ℕ) → a'.sight.writes t ≡ a.sight.writes t) → Turns z a'
  on_calm l f0 f1 ws =
      record {
        others = λ u pos. rw (l, f1, still.point u, still.inside u, ws u) (h.others u pos);
        owner = rw (l, f0, still.point 0, still.inside 0, ws 0) h.owner;
        quiet = rw (l, f1) h.quiet;
        few = let k = h.few in let c = still.count in rw f1 (omega arith);
        few_kept = kept_on;
        few_waiting = λ u pos. rw (ws u) (small_on u pos);
      }

pub turns_same : (z : Settings) (a a' : LockState) → Same a.sight a'.sight → Still a a' → Turns z a → Turns z a'
turns_same z a a' s still h = on_calm still h s.lock s.flag0 s.flag1 s.writes

pub turns_ticks : (z : Settings) (a a' : LockState) → TicksOn a.sight a'.sight → Still a a' → Turns z a → Turns z a'
turns_ticks z a a' s still h = on_calm still h s.lock s.flag0 s.flag1 s.writes

-- Landings.

module _ {z : Settings} {a a' : LockState} (t : ℕ) (l : LandsOne z t a.sight a'.sight) (still : Still a a') (h : Turns z a) where
  none : a.sight.writes t ≡ [] → ⊥
  none e = let c : ◌≡◌ {A = List Write} [] (l.write ∷ l.rest) = sym e ∙ l.was in absurd cc

  small_left : (u : ℕ) → 1 ≤ u → Small a'.count (a'.sight.writes u)
  small_left u pos = at (cases_eq u t)
    where
      at : (u ≡ t) ⊎ (u ≢ t) → Small a'.count (a'.sight.writes u)
      at (inl e) = let k = small_on still h u pos in rw (e, l.left) (rw (e, l.was) at k).1
      at (inr ne) = rw (l.others u ne) (small_on still h u pos)

  -- the owner's flag0
  lands_flag0 : t ≡ 0 → l.write.cell ≡ flag0_cell z → Turns z a'
  lands_flag0 e c =
      record {
        others = λ u pos. let ne : u ≢ t = λ f. omega arith in rw (same_lock, same_flag1, still.point u, still.inside u, l.others u ne) (h.others u pos);
        owner = subst (λ n. OwnerHere z a' n) e (rw (same_lock, sees_landed z t a.sight a'.sight l, still.point t, still.inside t, same_count) (owner_here t e h));
        quiet = rw (same_lock, same_flag1) h.quiet;
        few = let k = h.few in let g = still.count in rw same_flag1 (omega arith);
        few_kept = kept_on still h;
        few_waiting = small_left;
      }
    where
      same_lock : a'.sight.lock ≡ a.sight.lock
      same_lock = rw (l.lock, c, flag0_not_lock z) refl

      same_flag1 : a'.sight.flag1 ≡ a.sight.flag1
      same_flag1 = rw (l.flag1, c, flag0_not_flag1 z) refl

      same_count : release_count z (a'.sight.writes t) ≡ release_count z (a.sight.writes t)
      same_count = rw (l.left, l.was, c, flag0_not_lock z) (omega arith)

  -- the owner's release
  lands_release : t ≡ 0 → l.write.cell ≡ lock_cell z → l.write.value ≡ 0 → Turns z a'
  lands_release e c v = go (owner_here t e h)
    where
      free : a'.sight.lock ≡ 0
      free = rw (l.lock, c, same_cell (lock_cell z)) v

      same_flag1 : a'.sight.flag1 ≡ a.sight.flag1
      same_flag1 = rw (l.flag1, c, lock_not_flag1 z) refl

      one_less : release_count z (a.sight.writes t) ≡ 1 + release_count z (a'.sight.writes t)
      one_less = rw (l.left, l.was, c, same_cell (lock_cell z)) refl

      go : OwnerHere z a t → Turns z a'
      go (without n w no-hold) = absurd (omega (arith, one_less))
      go (has n w hold) = absurd (omega (arith, one_less))
      go (gives is w no-hold) =
          record {
            others = λ u pos. let ne : u ≢ t = λ f. omega arith in rw (same_flag1, still.point u, still.inside u, l.others u ne) (still_away (λ f. omega arith) (λ f. omega (arith, free)) (h.others u pos));
            owner = subst (λ n. OwnerHere z a' n) e (without (λ f. omega (arith, free)) (omega (arith, one_less)) (rw (sees_landed z t a.sight a'.sight l, still.point t, still.inside t) no-hold));
            quiet = λ f. rw same_flag1 (h.quiet (inr is));
            few = let k = h.few in let g = still.count in rw same_flag1 (omega arith);
            few_kept = kept_on still h;
            few_waiting = small_left;
          }

  -- a flag1 of thread t, which has L
  lands_flag1 : 1 ≤ t → a.sight.lock ≡ t + 1 → l.write.cell ≡ flag1_cell z
      → Other z a.sight.lock l.write.value t (a.point t) (a.inside t) l.rest → Turns z a'
  lands_flag1 pos is c o =
      record {
        others = λ u le. rw same_lock (at u le (cases_eq u t));
        owner = let ne : 0 ≢ t = λ f. omega arith in rw (same_lock, same_flag0, still.point 0, still.inside 0, l.others 0 ne) h.owner;
        quiet = λ f. absurd (taken f);
        few = let k : l.write.value ≤ 2 * a'.count + 1 = (rw l.was at (small_on still h t pos)).0 in rw now (omega arith);
        few_kept = kept_on still h;
        few_waiting = small_left;
      }
    where
      same_lock : a'.sight.lock ≡ a.sight.lock
      same_lock = rw (l.lock, c, flag1_not_lock z) refl

      same_flag0 : a'.sight.flag0 ≡ a.sight.flag0
      same_flag0 = rw (l.flag0, c, flag1_not_flag0 z) refl

      now : a'.sight.flag1 ≡ l.write.value
      now = rw (l.flag1, c, same_cell (flag1_cell z)) refl

      taken : (a'.sight.lock ≡ 0) ⊎ (a'.sight.lock ≡ 1) → ⊥
      taken (inl f) = let g = same_lock in omega arith
      taken (inr f) = let g = same_lock in omega arith

      at : (u : ℕ) → 1 ≤ u → (u ≡ t) ⊎ (u ≢ t) → Other z a.sight.lock a'.sight.flag1 u (a'.point u) (a'.inside u) (a'.sight.writes u)
      at u le (inl f) = rw (f, now, still.point t, still.inside t, l.left) o
      at u le (inr ne) = let k : a.sight.lock ≡ u + 1 → ⊥ = λ f. ne (omega arith) in rw (still.point u, still.inside u, l.others u ne) (still_away k k (h.others u le))

  -- the release of thread t
  frees : 1 ≤ t → a.sight.lock ≡ t + 1 → l.write.cell ≡ lock_cell z → l.write.value ≡ 0 → l.rest ≡ [] → Away (a.point t) → a.inside t ≡ false → (w : ℕ) → a.sight.flag1 ≡ 2 * w → Turns z a'
  frees pos is c v none aw i w f1 =
      record {
        others = λ u le. at u le (cases_eq u t);
        owner = let ne : 0 ≢ t = λ f. omega arith in rw (same_flag0, still.point 0, still.inside 0, l.others 0 ne) (owner_without (λ f. omega arith) (λ f. omega (arith, free)) h.owner);
        quiet = λ f. (w, same_flag1 ∙ f1);
        few = let k = h.few in let g = still.count in rw same_flag1 (omega arith);
        few_kept = kept_on still h;
        few_waiting = small_left;
      }
    where
      free : a'.sight.lock ≡ 0
      free = rw (l.lock, c, same_cell (lock_cell z)) v

      same_flag0 : a'.sight.flag0 ≡ a.sight.flag0
      same_flag0 = rw (l.flag0, c, lock_not_flag0 z) refl

      same_flag1 : a'.sight.flag1 ≡ a.sight.flag1
      same_flag1 = rw (l.flag1, c, lock_not_flag1 z) refl

      at : (u : ℕ) → 1 ≤ u → (u ≡ t) ⊎ (u ≢ t) → Other z a'.sight.lock a'.sight.flag1 u (a'.point u) (a'.inside u) (a'.sight.writes u)
      at u le (inl f) = rw (f, still.point t, still.inside t, l.left) (away (λ g. omega (arith, free)) aw i none)
      at u le (inr ne) = rw (still.point u, still.inside u, l.others u ne) (still_away (λ f. ne (omega arith)) (λ f. omega (arith, free)) (h.others u le))

  -- what lands, by what thread t from 1 on is about
  lands_other : 1 ≤ t → Other z a.sight.lock a.sight.flag1 t (a.point t) (a.inside t) (a.sight.writes t) → Turns z a'
  lands_other pos (away n aw i ws) = absurd (none ws)
  lands_other pos (enters2 w is p i ws f) = absurd (none ws)
  lands_other pos (enters3 w is p i ws f) = absurd (none ws)
  lands_other pos (raising w d is p i ws f) =
      let e : l.write ≡ flag1_write z (2 * (w + 1) + 1) d = cc in
      lands_flag1 pos is (ap (λ (x : Write). x.cell) e) (raised w is (rw p raised4) i (cc) (ap (λ (x : Write). x.value) e))
  lands_other pos (raised w is p i ws f) = absurd (none ws)
  lands_other pos (within w is p i ws f) = absurd (none ws)
  lands_other pos (lowering w d is p i ws f) =
      let e : l.write ≡ flag1_write z (2 * (w + 2)) d = cc in
      lands_flag1 pos is (ap (λ (x : Write). x.cell) e) (lowered (w + 2) is p i (cc) (ap (λ (x : Write). x.value) e))
  lands_other pos (lowered w is p i ws f) = absurd (none ws)
  lands_other pos (releasing2 w d k is p i ws f) =
      let e : l.write ≡ flag1_write z (2 * (w + 2)) d = cc in
      lands_flag1 pos is (ap (λ (x : Write). x.cell) e) (releasing (w + 2) k is p i (cc) (ap (λ (x : Write). x.value) e))
  lands_other pos (releasing w k is p i ws f) =
      let e : l.write ≡ release_write z k = cc in
      frees pos is (ap (λ (x : Write). x.cell) e) (ap (λ (x : Write). x.value) e) (cc) p i w f

pub turns_lands : (z : Settings) (t : ℕ) (a a' : LockState) → LandsOne z t a.sight a'.sight → Still a a' → Turns z a → Owned z a → Turns z a'
turns_lands z t a a' l still h o = go (cases_eq t 0)
  where
    by_owner : t ≡ 0 → OwnerWrite z a.sight.flag1 l.write → Turns z a'
    by_owner e (flags c f) = lands_flag0 t l still h e c
    by_owner e (releases c v) = lands_release t l still h e c v

    go : (t ≡ 0) ⊎ (t ≢ 0) → Turns z a'
    go (inl e) = by_owner e (rw l.was at (subst (λ n. AllByRecursion (OwnerWrite z a.sight.flag1) (a.sight.writes n)) (sym e) o.writes)).0
    go (inr ne) = let pos : 1 ≤ t = omega arith in lands_other t l still h pos (h.others t pos)
