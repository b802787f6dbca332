-- What the memory does, as the lock sees it. Assumes nothing.
use Rattle.std.proofs.Common.{◌≡◌, ℕ, ◌<◌, ◌≤◌, Bool, true, false, cond, eqb, leb, ◌≢◌, ◌⊎◌, List, [], ◌∷◌, ◌++◌, length, Some, None, filter, Option, sym, refl, ap, subst, inl, inr, arith}
use Rattle.std.specs.List.{AllByRecursion}
use Rattle.std.proofs.lemmas.List.Elements.{filter-append}
use Rattle.std.proofs.ByRecursion.{all_kept_by}
use Rattle.std.proofs.lemmas.List.{nil_from_length, append-nil}
use Rattle.std.proofs.lemmas.Bool.{cases_eq, leb-true, leb-false, le-leb, lt-leb, eq-eqb, ne_eqb}
use Rattle.memory.specs.declared.write.Write.{Write}
use Rattle.memory.specs.Calls.{Sound}
use Rattle.memory.specs.Landings.{Landing, LandsAs, Lands}
use Rattle.memory.specs.Meaning.{Meaning, queue, cell, waiting_count, written, newest_or, value_or, loaded, landed, exchanged, ticked, due}
use Rattle.memory.proofs.Dueness.{InTime, due_none}
use Rattle.memory.proofs.Soundness.{landed_sound}
use Rattle.memory.proofs.Views.{Popped, Pushed, Put, landed_cases, exchanged_puts, exchanged_none, ticked_moves}
use Rattle.protocol.specs.declared.settings.Settings.{Settings}
use Rattle.protocol.specs.Settings.{lock_cell, flag0_cell, flag1_cell}
use Rattle.protocol.specs.Tables.{Tables}
use Rattle.protocol.proofs.LockView.{Sight, lock_writes, sight_of, LockState, lock_state, sees0, sees1, Same, LandsOne, StoresOne, TakesLock, TicksOn, Still, LockPath, lands}

pub same_refl : (v : Sight) → Same v v
same_refl v = record { lock = refl; flag0 = refl; flag1 = refl; clock = refl; bound = refl; writes = λ t. refl }

-- two sights that look the same are equal
pub same_is : {v v' : Sight} → Same v v' → v' ≡ v
same_is s =
    λ i. record { lock = s.lock i; flag0 = s.flag0 i; flag1 = s.flag1 i; clock = s.clock i; bound = s.bound i; writes = λ t. s.writes t i }

pub still_refl : (x : Tables) (m m' : Meaning) → Still (lock_state x m) (lock_state x m')
still_refl x m m' = record { point = λ t. refl; inside = λ t. refl; count = omega arith }

-- the writes to the cells of the lock
abbrev pub is_locks : Settings → Write → Bool
is_locks z w = leb (lock_cell z) w.cell

-- Landings.

popped_cell : {t : ℕ} {m m' : Meaning} (p : Popped t m m') → p.write.cell < length m.cells → (c : ℕ) → cell m' c ≡ cond (eqb p.write.cell c) p.write.value (cell m c)
popped_cell {t} {m} {m'} p lt c = at (cases_eq p.write.cell c)
  where
    at : (p.write.cell ≡ c) ⊎ (p.write.cell ≡ c → ⊥) → cell m' c ≡ cond (eqb p.write.cell c) p.write.value (cell m c)
    at (inl e) = rw (eq-eqb p.write.cell c e) (subst (λ (d : ℕ). cell m' d ≡ p.write.value) e (p.here lt))
    at (inr ne) = rw (ne_eqb p.write.cell c ne) (p.elsewhere c (λ e. ne (sym e)))

module _ (z : Settings) (t : ℕ) (m m' : Meaning) (p : Popped t m m') where
  popped_writes : (b : Bool) → is_locks z p.write ≡ b → lock_writes z m t ≡ cond b (p.write ∷ lock_writes z m' t) (lock_writes z m' t)
  popped_writes b e = rw (p.was, e, p.left) refl

  popped_aside : p.write.cell < lock_cell z → Same (sight_of z m) (sight_of z m')
  popped_aside lt =
      record {
        lock = p.elsewhere (lock_cell z) (λ e. omega arith);
        flag0 = p.elsewhere (flag0_cell z) (λ e. omega arith);
        flag1 = p.elsewhere (flag1_cell z) (λ e. omega arith);
        clock = p.clock;
        bound = p.fixed.bound;
        writes = λ u. at u (cases_eq u t);
      }
    where
      at : (u : ℕ) → (u ≡ t) ⊎ (u ≢ t) → lock_writes z m' u ≡ lock_writes z m u
      at u (inl e) = rw e (sym (popped_writes false (lt-leb (lock_cell z) p.write.cell lt)))
      at u (inr ne) = rw (p.others u ne) refl

  popped_one : Sound m → lock_cell z ≤ p.write.cell → LandsOne z t (sight_of z m) (sight_of z m')
  popped_one s le =
      record {
        write = p.write;
        rest = lock_writes z m' t;
        was = popped_writes true (le-leb (lock_cell z) p.write.cell le);
        left = refl;
        others = λ u ne. rw (p.others u ne) refl;
        lock = popped_cell p inside (lock_cell z);
        flag0 = popped_cell p inside (flag0_cell z);
        flag1 = popped_cell p inside (flag1_cell z);
        clock = p.clock;
        bound = p.fixed.bound;
      }
    where
      all : AllByRecursion (λ (w : Write). w.cell < 64) (p.write ∷ p.rest)
      all = rw p.was at (s.in_cells t)

      inside : p.write.cell < length m.cells
      inside = let a : p.write.cell < 64 = all.0 in let b = s.cells in omega arith

pub landed_seen : (z : Settings) (t : ℕ) (m : Meaning) → Sound m → Same (sight_of z m) (sight_of z (landed t m)) ⊎ LandsOne z t (sight_of z m) (sight_of z (landed t m))
landed_seen z t m s = elim (landed_cases t m) [ inl e ↦ inl (rw e (same_refl (sight_of z m))) | inr p ↦ at p (leb (lock_cell z) p.write.cell) refl ]
  where
    at : (p : Popped t m (landed t m)) (b : Bool) → leb (lock_cell z) p.write.cell ≡ b → Same (sight_of z m) (sight_of z (landed t m)) ⊎ LandsOne z t (sight_of z m) (sight_of z (landed t m))
    at p true e = inr (popped_one z t m (landed t m) p s (leb-true (lock_cell z) p.write.cell e))
    at p false e = inl (popped_aside z t m (landed t m) p (leb-false (lock_cell z) p.write.cell e))

-- a landing, and then the rest of the path
pub landed_then : (x : Tables) (a' : LockState) (t : ℕ) (m : Meaning) → Sound m → LockPath x.settings a' (lock_state x (landed t m)) → LockPath x.settings a' (lock_state x m)
landed_then x a' t m s path = elim (landed_seen x.settings t m s) [ inl e ↦ aside (same_is e) | inr l ↦ lands t (lock_state x (landed t m)) l (still_refl x m (landed t m)) path ]
  where
    aside : sight_of x.settings (landed t m) ≡ sight_of x.settings m → LockPath x.settings a' (lock_state x m)
    aside e =
        subst (λ (v : Sight). LockPath x.settings a' (record { sight = v; point = (lock_state x m).point; inside = (lock_state x m).inside; count = x.accepted })) e path

lands_as_then : (x : Tables) (a' : LockState) (ls : List Landing) (m m' : Meaning) → LandsAs ls m m' → Sound m → LockPath x.settings a' (lock_state x m') → LockPath x.settings a' (lock_state x m)
lands_as_then x a' [] m m' e s path = subst (λ (n : Meaning). LockPath x.settings a' (lock_state x n)) e path
lands_as_then x a' (l ∷ ls) m m' e s path =
    landed_then x a' l.thread m s (lands_as_then x a' ls (landed l.thread m) m' e.1 (landed_sound l.thread m s) path)

-- landings, and then the rest of the path
pub lands_then : (x : Tables) (a' : LockState) {m m' : Meaning} → Lands m m' → Sound m → LockPath x.settings a' (lock_state x m') → LockPath x.settings a' (lock_state x m)
lands_then x a' {m} {m'} l s path = lands_as_then x a' l.landings m m' l.lead s path

-- Stores.

module _ (z : Settings) (t c v : ℕ) (m m' : Meaning) (p : Pushed t c v m m') where
  -- a store to another cell
  pub pushed_aside : c < lock_cell z → Same (sight_of z m) (sight_of z m')
  pushed_aside lt = record { lock = rw p.cells refl; flag0 = rw p.cells refl; flag1 = rw p.cells refl; clock = p.clock; bound = p.fixed.bound; writes = λ u. at u (cases_eq u t) }
    where
      more : filter (is_locks z) (queue m t ++ written m c v ∷ []) ≡ filter (is_locks z) (queue m t) ++ filter (is_locks z) (written m c v ∷ [])
      more = filter-append (is_locks z) (queue m t) (written m c v ∷ [])

      at : (u : ℕ) → (u ≡ t) ⊎ (u ≢ t) → lock_writes z m' u ≡ lock_writes z m u
      at u (inl e) = rw (e, p.here, more, lt-leb (lock_cell z) c lt) (append-nil (filter (is_locks z) (queue m t)))
      at u (inr ne) = rw (p.others u ne) refl

  -- a store to a cell of the lock
  pub pushed_one : lock_cell z ≤ c → StoresOne z t c v (sight_of z m) (sight_of z m')
  pushed_one le =
      record {
        here = rw (p.here, filter-append (is_locks z) (queue m t) (written m c v ∷ []), le-leb (lock_cell z) c le) refl;
        others = λ u ne. rw (p.others u ne) refl;
        lock = rw p.cells refl;
        flag0 = rw p.cells refl;
        flag1 = rw p.cells refl;
        clock = p.clock;
        bound = p.fixed.bound;
      }

-- Exchanges.

-- an exchange of another cell
pub put_aside : (z : Settings) (c v : ℕ) (m m' : Meaning) → Put c v m m' → c < lock_cell z → Same (sight_of z m) (sight_of z m')
put_aside z c v m m' p lt =
    record {
      lock = p.elsewhere (lock_cell z) (λ e. omega arith);
      flag0 = p.elsewhere (flag0_cell z) (λ e. omega arith);
      flag1 = p.elsewhere (flag1_cell z) (λ e. omega arith);
      clock = p.clock;
      bound = p.fixed.bound;
      writes = λ u. rw p.waiting refl;
    }

pub exchanged_aside : (z : Settings) (c old new : ℕ) (m : Meaning) → c < lock_cell z → Same (sight_of z m) (sight_of z (exchanged c old new m))
exchanged_aside z c old new m lt = go (eqb (cell m c) old) refl
  where
    go : (b : Bool) → eqb (cell m c) old ≡ b → Same (sight_of z m) (sight_of z (exchanged c old new m))
    go true e = put_aside z c new m (exchanged c old new m) (exchanged_puts c old new m e) lt
    go false e = rw (exchanged_none c old new m e) (same_refl (sight_of z m))

-- nothing waits of the thread
pub none_waits : (z : Settings) (t : ℕ) (m : Meaning) → waiting_count m t ≡ 0 → lock_writes z m t ≡ []
none_waits z t m e = rw (nil_from_length (queue m t) e) refl

-- an exchange that takes the lock
pub put_lock : (z : Settings) (t v : ℕ) (m m' : Meaning) → Put (lock_cell z) v m m' → lock_cell z < length m.cells → cell m (lock_cell z) ≡ 0 → waiting_count m t ≡ 0 → TakesLock t v (sight_of z m) (sight_of z m')
put_lock z t v m m' p lt free none =
    record {
      none = none_waits z t m none;
      was = free;
      lock = p.here lt;
      flag0 = p.elsewhere (flag0_cell z) (λ e. omega arith);
      flag1 = p.elsewhere (flag1_cell z) (λ e. omega arith);
      clock = p.clock;
      bound = p.fixed.bound;
      writes = λ u. rw p.waiting refl;
    }

-- Ticks.

pub ticked_on : (z : Settings) (m : Meaning) → due m ≡ false → TicksOn (sight_of z m) (sight_of z (ticked m))
ticked_on z m e =
    let p = ticked_moves m in
    record {
      clock = p.clock;
      in_time = λ t. all_kept_by (is_locks z) (InTime m.clock m.bound) (queue m t) ((due_none m e).rows t);
      lock = rw p.cells refl;
      flag0 = rw p.cells refl;
      flag1 = rw p.cells refl;
      bound = p.fixed.bound;
      writes = λ u. rw p.waiting refl;
    }

-- Loads.

-- the newest write for a cell of the lock is among the writes to these cells
newest_kept : (z : Settings) (c : ℕ) → lock_cell z ≤ c → (ws : List Write) (found : Option ℕ) → newest_or found ws c ≡ newest_or found (filter (is_locks z) ws) c
newest_kept z c le [] found = refl
newest_kept z c le (w ∷ ws) found = go (leb (lock_cell z) w.cell) refl (newest_kept z c le ws)
  where
    go : (b : Bool) → is_locks z w ≡ b → ((f : Option ℕ) → newest_or f ws c ≡ newest_or f (filter (is_locks z) ws) c) → newest_or found (w ∷ ws) c ≡ newest_or found (filter (is_locks z) (w ∷ ws)) c
    go true e rest = rw e (rest (cond (eqb w.cell c) (Some w.value) found))
    go false e rest = let lt = leb-false (lock_cell z) w.cell e in rw (e, ne_eqb w.cell c (λ f. omega arith)) (rest found)

pub loads_flag0 : (z : Settings) (t : ℕ) (m : Meaning) → loaded m t (flag0_cell z) ≡ sees0 z (sight_of z m) t
unfolding loaded
loads_flag0 z t m = ap (λ (o : Option ℕ). value_or o (cell m (flag0_cell z))) (newest_kept z (flag0_cell z) (omega arith) (queue m t) None)

pub loads_flag1 : (z : Settings) (t : ℕ) (m : Meaning) → loaded m t (flag1_cell z) ≡ sees1 z (sight_of z m) t
unfolding loaded
loads_flag1 z t m = ap (λ (o : Option ℕ). value_or o (cell m (flag1_cell z))) (newest_kept z (flag1_cell z) (omega arith) (queue m t) None)
