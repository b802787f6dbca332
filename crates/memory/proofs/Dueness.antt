-- Writes that have waited as long as the bound allows: of each thread the oldest decides. Assumes nothing.
use Rattle.std.proofs.Common.{◌≡◌, ℕ, ◌+◌, ◌<◌, ◌≤◌, Bool, true, false, leb, ◌≢◌, ◌⊎◌, List, [], ◌∷◌, length, get_or, Some, None, Option, sym, refl, ◌∙◌, inl, inr, arith}
use Rattle.std.specs.List.{AllByRecursion, list_any}
use Rattle.std.specs.List.Sorted.{IsNonDecreasingBy}
use Rattle.std.proofs.ByRecursion.{All-weaker}
use Rattle.std.proofs.lemmas.List.{get_or_past}
use Rattle.std.proofs.lemmas.List.Elements.{All-from_get_or}
use Rattle.std.proofs.lemmas.List.Folds.{list_any_none, list_any_at}
use Rattle.std.proofs.lemmas.Bool.{cases_Bool, cases_eq, cases_lt, leb-false, lt-leb, le-leb, or_parts, or_from, or_left}
use Rattle.dated.proofs.Dates.{rises_head}
use Rattle.memory.specs.declared.write.Write.{Write}
use Rattle.memory.specs.Meaning.{Meaning, queue, date_of_first, oldest_date, is_due, due, landed}
use Rattle.memory.specs.Landings.{Lands}
use Rattle.memory.proofs.Views.{Popped, landed_cases, lands_keep}
use Rattle.memory.proofs.Soundness.{date_of}

-- a write that may wait over the next tick
abbrev pub InTime : ℕ → ℕ → Write → Type 0
InTime clock bound w = clock < w.date + bound

pub record NoneDue (m : Meaning) : Type 0 where
  pub rows : (t : ℕ) → AllByRecursion (InTime m.clock m.bound) (queue m t)

-- where no element passes a test, one does not
none_at : {X : Type 0} (p : X → Bool) (d : X) (xs : List X) → list_any p xs ≡ false → (i : ℕ) → i < length xs → p (get_or xs i d) ≡ false
none_at p d xs e i lt = elim (cases_Bool (p (get_or xs i d))) [ inl y ↦ (let some = list_any_at p xs i d lt y in absurd cc) | inr n ↦ n ]

-- One thread's writes.
row_none : (m : Meaning) (ws : List Write) → AllByRecursion (InTime m.clock m.bound) ws → list_any (is_due m) ws ≡ false
row_none m [] a = refl
row_none m (w ∷ ws) a = or_from (is_due m w) (list_any (is_due m) ws) (lt-leb (w.date + m.bound) m.clock a.0) (row_none m ws a.1)

row_all : (m : Meaning) (ws : List Write) → list_any (is_due m) ws ≡ false → AllByRecursion (InTime m.clock m.bound) ws
row_all m [] e = tt
row_all m (w ∷ ws) e = let p = or_parts (is_due m w) (list_any (is_due m) ws) e in (leb-false (w.date + m.bound) m.clock p.0, row_all m ws p.1)

-- All threads.
rows_none : (m : Meaning) → ((t : ℕ) → t < length m.waiting → list_any (is_due m) (queue m t) ≡ false) → due m ≡ false
rows_none m h = list_any_none (list_any (is_due m)) m.waiting (All-from_get_or (λ (ws : List Write). list_any (is_due m) ws ≡ false) m.waiting [] h)

pub none_due_lem : (m : Meaning) → NoneDue m → due m ≡ false
none_due_lem m h = rows_none m (λ t lt. row_none m (queue m t) (h.rows t))

pub due_none : (m : Meaning) → due m ≡ false → NoneDue m
due_none m e = record { rows = λ t. at t (cases_lt t (length m.waiting)) }
  where
    at : (t : ℕ) → (t < length m.waiting) ⊎ (length m.waiting ≤ t) → AllByRecursion (InTime m.clock m.bound) (queue m t)
    at t (inl lt) = row_all m (queue m t) (none_at (list_any (is_due m)) [] m.waiting e t lt)
    at t (inr le) = rw (get_or_past m.waiting t [] le) tt

-- Dates never fall along a thread's writes, so its oldest tells whether one of them is due.
abbrev pub date_due : Meaning → Option ℕ → Bool
date_due m None = false
date_due m (Some d) = leb (d + m.bound) m.clock

oldest_tells : (m : Meaning) (ws : List Write) → IsNonDecreasingBy date_of ws → list_any (is_due m) ws ≡ date_due m (date_of_first ws)
oldest_tells m [] up = refl
oldest_tells m (w ∷ ws) up = at (cases_lt m.clock (w.date + m.bound))
  where
    at : (m.clock < w.date + m.bound) ⊎ (w.date + m.bound ≤ m.clock) → list_any (is_due m) (w ∷ ws) ≡ is_due m w
    at (inl early) =
        let later = All-weaker (λ (x : Write). w.date ≤ x.date) (InTime m.clock m.bound) (λ x h. omega arith) ws (rises_head date_of w ws up) in
        row_none m (w ∷ ws) (early, later) ∙ sym (lt-leb (w.date + m.bound) m.clock early)
    at (inr late) = let yes = le-leb (w.date + m.bound) m.clock late in or_left (is_due m w) (list_any (is_due m) ws) yes ∙ sym yes

module _ (m : Meaning) (up : (t : ℕ) → IsNonDecreasingBy date_of (queue m t)) where
  pub oldest_none_due : ((t : ℕ) → t < length m.waiting → date_due m (oldest_date m t) ≡ false) → due m ≡ false
  oldest_none_due none = rows_none m (λ t lt. oldest_tells m (queue m t) (up t) ∙ none t lt)

  pub oldest_some_due : (t : ℕ) → t < length m.waiting → date_due m (oldest_date m t) ≡ true → due m ≡ true
  oldest_some_due t lt e = list_any_at (list_any (is_due m)) m.waiting t [] lt (oldest_tells m (queue m t) (up t) ∙ e)

-- landings keep what waits in time
rows_landed : (clock bound t : ℕ) (m : Meaning) → ((u : ℕ) → AllByRecursion (InTime clock bound) (queue m u)) → (u : ℕ) → AllByRecursion (InTime clock bound) (queue (landed t m) u)
rows_landed clock bound t m h u = elim (landed_cases t m) [ inl e ↦ rw e (h u) | inr p ↦ at p (cases_eq u t) ]
  where
    at : Popped t m (landed t m) → (u ≡ t) ⊎ (u ≢ t) → AllByRecursion (InTime clock bound) (queue (landed t m) u)
    at p (inl e) = rw (e, p.left) (rw p.was at (h t)).1
    at p (inr ne) = rw (p.others u ne) (h u)

pub rows_lands : (clock bound : ℕ) {m m' : Meaning} → Lands m m' → ((u : ℕ) → AllByRecursion (InTime clock bound) (queue m u)) → (u : ℕ) → AllByRecursion (InTime clock bound) (queue m' u)
rows_lands clock bound l h = lands_keep (λ x. (u : ℕ) → AllByRecursion (InTime clock bound) (queue x u)) (rows_landed clock bound) l h
