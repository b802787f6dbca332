-- How the half of the lock's invariant on L and flag1 is carried from one state to the next, when thread t does something. Assumes
-- nothing.
use Rattle.std.proofs.Common.{◌≡◌, ℕ, ◌+◌, ◌*◌, ◌≤◌, Bool, false, eqb, ◌≢◌, ◌⊎◌, List, [], ◌∷◌, ◌++◌, sym, refl, ap, ◌∙◌, subst, inl, inr, arith}
use Rattle.std.specs.List.{AllByRecursion}
use Rattle.std.proofs.ByRecursion.{All-weaker, All-push}
use Rattle.std.proofs.lemmas.Bool.{cases_eq}
use Rattle.memory.specs.declared.write.Write.{Write}
use Rattle.protocol.specs.declared.settings.Settings.{Settings}
use Rattle.protocol.specs.Settings.{lock_cell, flag0_cell}
use Rattle.protocol.specs.Tables.{Point, other_lock3}
use Rattle.protocol.proofs.LockFacts.{flag0_not_lock, lock_not_flag0, same_cell, sees_stored, sees_own, side, not_third}
use Rattle.protocol.proofs.LockView.{Sight, LockState, sees0, Same, StoresOne, TakesLock, Goes}
use Rattle.protocol.proofs.Locked.{Other, OwnerLock, release_count, OwnerAt, Turns, Owned}
use Rattle.protocol.proofs.TurnsParts.{count_stored, still_away}

-- an action of thread t that leaves L and the flags as they are
pub record Calm (t : ℕ) (v v' : Sight) : Type 0 where
  pub lock : v'.lock ≡ v.lock
  pub flag0 : v'.flag0 ≡ v.flag0
  pub flag1 : v'.flag1 ≡ v.flag1
  pub others : (u : ℕ) → u ≢ t → v'.writes u ≡ v.writes u

pub calm_same : (t : ℕ) {v v' : Sight} → Same v v' → Calm t v v'
calm_same t s = record { lock = s.lock; flag0 = s.flag0; flag1 = s.flag1; others = λ u ne. s.writes u }

pub calm_stores : {z : Settings} (t c n : ℕ) {v v' : Sight} → StoresOne z t c n v v' → Calm t v v'
calm_stores t c n s = record { lock = s.lock; flag0 = s.flag0; flag1 = s.flag1; others = s.others }

-- small numbers wait
abbrev pub Small : ℕ → List Write → Type 0
Small n ws = AllByRecursion (λ (w : Write). w.value ≤ 2 * n + 1) ws

pub small_more : {m n : ℕ} (ws : List Write) → m ≤ n → Small m ws → Small n ws
small_more {m} {n} ws le h = All-weaker (λ (w : Write). w.value ≤ 2 * m + 1) (λ (w : Write). w.value ≤ 2 * n + 1) (λ w k. omega arith) ws h

-- the owner, if t is it
abbrev pub OwnerHere : Settings → LockState → ℕ → Type 0
OwnerHere z b t = OwnerLock b.sight.lock (sees0 z b.sight t) (b.point t) (b.inside t) (release_count z (b.sight.writes t))

pub owner_here : {z : Settings} {a : LockState} (t : ℕ) → t ≡ 0 → Turns z a → OwnerHere z a t
owner_here {z} {a} t e h = subst (λ n. OwnerHere z a n) (sym e) h.owner

pub place_here : {z : Settings} {a : LockState} (t : ℕ) → t ≡ 0 → Owned z a → OwnerAt a.sight.flag1 (sees0 z a.sight t) (a.point t) (a.inside t)
place_here {z} {a} t e h = subst (λ n. OwnerAt a.sight.flag1 (sees0 z a.sight n) (a.point n) (a.inside n)) (sym e) h.at

-- what a call of thread t keeps, whoever t is
pub record Stays (z : Settings) (t : ℕ) (a a' : LockState) : Type 0 where
  pub others : (u : ℕ) → 1 ≤ u → u ≢ t → Other z a'.sight.lock a'.sight.flag1 u (a'.point u) (a'.inside u) (a'.sight.writes u)
  pub quiet : (a'.sight.lock ≡ 0) ⊎ (a'.sight.lock ≡ 1) → (w : ℕ) × (a'.sight.flag1 ≡ 2 * w)
  pub few : a'.sight.flag1 ≤ 2 * a'.count + 1
  pub few_waiting : (u : ℕ) → 1 ≤ u → u ≢ t → Small a'.count (a'.sight.writes u)

module _ {z : Settings} {a a' : LockState} (t : ℕ) {p' : Point} {i' : Bool} (g : Goes t a a' p' i') (h : Turns z a) where
  kept_on : ((v : ℕ) → p' ≡ other_lock3 v → v ≤ a.count + 1) → (u v : ℕ) → a'.point u ≡ other_lock3 v → v ≤ a'.count
  kept_on k u v e = rw g.count (at (cases_eq u t))
    where
      at : (u ≡ t) ⊎ (u ≢ t) → v ≤ a.count + 1
      at (inl f) = k v (sym g.point ∙ ap a'.point (sym f) ∙ e)
      at (inr f) = let l = h.few_kept u v (sym (g.points u f) ∙ e) in omega arith

  pub stays_calm : Calm t a.sight a'.sight → Stays z t a a'
  stays_calm c =
      record {
        others = λ u pos ne. rw (c.lock, c.flag1, g.points u ne, g.insides u ne, c.others u ne) (h.others u pos);
        quiet = rw (c.lock, c.flag1) h.quiet;
        few = let l = h.few in rw (c.flag1, g.count) (omega arith);
        few_waiting = λ u pos ne. rw (c.others u ne, g.count) (small_more (a.sight.writes u) (omega arith) (h.few_waiting u pos));
      }

  -- t takes L
  pub stays_takes : TakesLock t (t + 1) a.sight a'.sight → Stays z t a a'
  stays_takes k =
      record {
        others = λ u pos ne.
            rw (k.flag1, g.points u ne, g.insides u ne, k.writes u)
            (still_away (λ e. omega arith) (λ e. ne (omega arith)) (h.others u pos));
        quiet = λ _. rw k.flag1 (h.quiet (inl k.was));
        few = let l = h.few in rw (k.flag1, g.count) (omega arith);
        few_waiting = λ u pos ne. rw (k.writes u, g.count) (small_more (a.sight.writes u) (omega arith) (h.few_waiting u pos));
      }

  -- t is the owner
  pub owner_goes : t ≡ 0 → Stays z t a a' → eqb (side p') 4 ≡ false
      → OwnerLock a'.sight.lock (sees0 z a'.sight t) p' i' (release_count z (a'.sight.writes t)) → Turns z a'
  owner_goes e s k o =
      record {
        others = λ u pos. s.others u pos (λ f. omega arith);
        owner = subst (λ n. OwnerHere z a' n) e (rw (g.point, g.inside) o);
        quiet = s.quiet;
        few = s.few;
        few_kept = kept_on (not_third p' k);
        few_waiting = λ u pos. s.few_waiting u pos (λ f. omega arith);
      }

  -- t is another
  pub other_goes : 1 ≤ t → Stays z t a a' → OwnerHere z a' 0
      → ((v : ℕ) → p' ≡ other_lock3 v → v ≤ a.count + 1) → Small (a.count + 1) (a'.sight.writes t)
      → Other z a'.sight.lock a'.sight.flag1 t p' i' (a'.sight.writes t) → Turns z a'
  other_goes pos s w k few o =
      record {
        others = λ u le. at u le (cases_eq u t);
        owner = w;
        quiet = s.quiet;
        few = s.few;
        few_kept = kept_on k;
        few_waiting = λ u le. waits u le (cases_eq u t);
      }
    where
      at : (u : ℕ) → 1 ≤ u → (u ≡ t) ⊎ (u ≢ t) → Other z a'.sight.lock a'.sight.flag1 u (a'.point u) (a'.inside u) (a'.sight.writes u)
      at u le (inl f) = rw (f, g.point, g.inside) o
      at u le (inr f) = s.others u le f

      waits : (u : ℕ) → 1 ≤ u → (u ≡ t) ⊎ (u ≢ t) → Small a'.count (a'.sight.writes u)
      waits u le (inl f) = rw (f, g.count) few
      waits u le (inr f) = s.few_waiting u le f

  pub owner_calm : 1 ≤ t → Calm t a.sight a'.sight → OwnerHere z a' 0
  owner_calm pos c =
      let ne : 0 ≢ t = λ e. omega arith in
      rw (c.lock, c.flag0, g.points 0 ne, g.insides 0 ne, c.others 0 ne) h.owner

  -- another moves on, and the memory does not
  pub other_same : 1 ≤ t → Same a.sight a'.sight → ((v : ℕ) → p' ≡ other_lock3 v → v ≤ a.count + 1)
      → Other z a.sight.lock a.sight.flag1 t p' i' (a.sight.writes t) → Turns z a'
  other_same pos s k o =
      other_goes pos (stays_calm (calm_same t s)) (owner_calm pos (calm_same t s)) k
      (rw (s.writes t) (small_more (a.sight.writes t) (omega arith) (h.few_waiting t pos)))
      (rw (s.lock, s.flag1, s.writes t) o)

  -- another stores n to c
  pub other_stores : (c n : ℕ) → 1 ≤ t → StoresOne z t c n a.sight a'.sight → eqb (side p') 4 ≡ false → n ≤ 2 * (a.count + 1) + 1
      → Other z a.sight.lock a.sight.flag1 t p' i' (a.sight.writes t ++ record { cell = c; value = n; date = a.sight.clock } ∷ []) → Turns z a'
  other_stores c n pos s k few o =
      other_goes pos (stays_calm (calm_stores t c n s)) (owner_calm pos (calm_stores t c n s)) (not_third p' k)
      (rw s.here
      (All-push (λ (w : Write). w.value ≤ 2 * (a.count + 1) + 1) (a.sight.writes t) (record { cell = c; value = n; date = a.sight.clock })
      (small_more (a.sight.writes t) (omega arith) (h.few_waiting t pos)) few))
      (rw (s.lock, s.flag1, s.here) o)

  -- the owner moves on, and the memory does not
  pub owner_same : t ≡ 0 → Same a.sight a'.sight → eqb (side p') 4 ≡ false
      → OwnerLock a.sight.lock (sees0 z a.sight t) p' i' (release_count z (a.sight.writes t)) → Turns z a'
  owner_same e s k o = owner_goes e (stays_calm (calm_same t s)) k (rw (s.lock, s.flag0, s.writes t) o)

  -- the owner stores n to flag0
  pub owner_flags : (n : ℕ) → t ≡ 0 → StoresOne z t (flag0_cell z) n a.sight a'.sight → eqb (side p') 4 ≡ false
      → OwnerLock a.sight.lock n p' i' (release_count z (a.sight.writes t)) → Turns z a'
  owner_flags n e s k o = owner_goes e (stays_calm (calm_stores t (flag0_cell z) n s)) k (rw (s.lock, sees, count) o)
    where
      sees : sees0 z a'.sight t ≡ n
      sees = sees_own z t n a.sight a'.sight s

      count : release_count z (a'.sight.writes t) ≡ release_count z (a.sight.writes t)
      count = rw (count_stored z t (flag0_cell z) n a.sight a'.sight s, flag0_not_lock z) (omega arith)

  -- the owner releases L
  pub owner_frees : t ≡ 0 → StoresOne z t (lock_cell z) 0 a.sight a'.sight → eqb (side p') 4 ≡ false
      → OwnerLock a.sight.lock (sees0 z a.sight t) p' i' (release_count z (a.sight.writes t) + 1) → Turns z a'
  owner_frees e s k o = owner_goes e (stays_calm (calm_stores t (lock_cell z) 0 s)) k (rw (s.lock, sees, count) o)
    where
      sees : sees0 z a'.sight t ≡ sees0 z a.sight t
      sees = rw (sees_stored z t (lock_cell z) 0 a.sight a'.sight s, lock_not_flag0 z) refl

      count : release_count z (a'.sight.writes t) ≡ release_count z (a.sight.writes t) + 1
      count = rw (count_stored z t (lock_cell z) 0 a.sight a'.sight s, same_cell (lock_cell z)) refl
