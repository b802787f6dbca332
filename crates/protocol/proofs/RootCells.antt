-- The cells below a number, such as the roots: what the memory does elsewhere leaves them. Assumes nothing.
use Rattle.std.proofs.Common.{◌≡◌, ℕ, ◌<◌, ◌≤◌, Bool, true, false, eqb, ◌≢◌, ◌⊎◌, length, refl, ◌∙◌, inl, inr, arith}
use Rattle.std.specs.List.{AllByRecursion}
use Rattle.std.proofs.ByRecursion.{All-push}
use Rattle.std.proofs.lemmas.Bool.{cases_eq}
use Rattle.memory.specs.declared.write.Write.{Write}
use Rattle.memory.specs.Landings.{Lands}
use Rattle.memory.specs.Meaning.{Meaning, queue, cell, written, stored, landed, exchanged, ticked}
use Rattle.memory.proofs.Views.{Popped, Pushed, Put, Moved, landed_cases, stored_pushes, exchanged_puts, exchanged_none, ticked_moves, lands_keep}

abbrev pub OffRoots : ℕ → Write → Type 0
OffRoots roots w = roots ≤ w.cell

-- The cells below n are those that m had, and no write waits for them.
pub record Below (n : ℕ) (m m' : Meaning) : Type 0 where
  pub cells : (r : ℕ) → r < n → cell m' r ≡ cell m r
  pub writes : (t : ℕ) → AllByRecursion (OffRoots n) (queue m' t)

pub below_landed : (n : ℕ) (m : Meaning) (t : ℕ) (l : Meaning) → Below n m l → Below n m (landed t l)
below_landed n m t l b = elim (landed_cases t l) [ inl e ↦ rw e b | inr p ↦ popped p ]
  where
    popped : Popped t l (landed t l) → Below n m (landed t l)
    popped p =
        let all = rw p.was at (b.writes t) in
        record { cells = λ r lt. p.elsewhere r (λ e. let k = all.0 in omega arith) ∙ b.cells r lt; writes = λ u. at u (cases_eq u t) }
      where
        at : (u : ℕ) → (u ≡ t) ⊎ (u ≢ t) → AllByRecursion (OffRoots n) (queue (landed t l) u)
        at u (inl e) = rw (e, p.left) (rw p.was at (b.writes t)).1
        at u (inr ne) = rw (p.others u ne) (b.writes u)

pub below_lands : (n : ℕ) (m : Meaning) {l l' : Meaning} → Lands l l' → Below n m l → Below n m l'
below_lands n m f b = lands_keep (Below n m) (below_landed n m) f b

pub below_stored : (n : ℕ) (m : Meaning) (t c v : ℕ) (l : Meaning) → t < length l.waiting → n ≤ c → Below n m l → Below n m (stored t c v l)
below_stored n m t c v l lt le b = go (stored_pushes t c v l lt)
  where
    go : Pushed t c v l (stored t c v l) → Below n m (stored t c v l)
    go p = record { cells = λ r h. rw p.cells (b.cells r h); writes = λ u. at u (cases_eq u t) }
      where
        at : (u : ℕ) → (u ≡ t) ⊎ (u ≢ t) → AllByRecursion (OffRoots n) (queue (stored t c v l) u)
        at u (inl e) = rw (e, p.here) (All-push (OffRoots n) (queue l t) (written l c v) (b.writes t) le)
        at u (inr ne) = rw (p.others u ne) (b.writes u)

pub below_exchanged : (n : ℕ) (m : Meaning) (c old new : ℕ) (l : Meaning) → n ≤ c → Below n m l → Below n m (exchanged c old new l)
below_exchanged n m c old new l le b = go (eqb (cell l c) old) refl
  where
    put : Put c new l (exchanged c old new l) → Below n m (exchanged c old new l)
    put p = record { cells = λ r lt. p.elsewhere r (λ e. omega arith) ∙ b.cells r lt; writes = λ u. rw p.waiting (b.writes u) }

    go : (d : Bool) → eqb (cell l c) old ≡ d → Below n m (exchanged c old new l)
    go true e = put (exchanged_puts c old new l e)
    go false e = rw (exchanged_none c old new l e) b

pub below_ticked : (n : ℕ) (m l : Meaning) → Below n m l → Below n m (ticked l)
below_ticked n m l b = go (ticked_moves l)
  where
    go : Moved l (ticked l) → Below n m (ticked l)
    go p = record { cells = λ r lt. rw p.cells (b.cells r lt); writes = λ u. rw p.waiting (b.writes u) }
