-- Every action keeps a meaning sound. Assumes nothing.
use Rattle.std.proofs.Common.{◌≡◌, ℕ, zero, suc, ◌+◌, ◌<◌, ◌≤◌, Bool, true, false, eqb, ◌≢◌, ◌⊎◌, List, [], ◌∷◌, ◌++◌, length, get_or, replicate, sym, refl, ◌∙◌, inl, inr, arith}
use Rattle.std.specs.List.{AllByRecursion}
use Rattle.std.specs.List.Sorted.{IsNonDecreasingBy}
use Rattle.std.proofs.ByRecursion.{All-push, All-weaker}
use Rattle.std.proofs.lemmas.List.{length_push}
use Rattle.std.proofs.lemmas.List.Sorted.{IsNonDecreasingBy-short, IsNonDecreasingBy-drop}
use Rattle.std.proofs.lemmas.Bool.{cases_eq}
use Rattle.dated.proofs.Dates.{rises_append}
use Rattle.memory.specs.declared.write.Write.{Write}
use Rattle.memory.specs.Meaning.{Meaning, queue, cell, written, fresh, stored, landed, exchanged, ticked}
use Rattle.memory.specs.Landings.{Lands}
use Rattle.memory.specs.Calls.{Sound}
use Rattle.memory.proofs.Views.{Fixed, Popped, Pushed, Put, Moved, landed_cases, stored_pushes, exchanged_puts, exchanged_none, ticked_moves, lands_keep}

abbrev pub date_of : Write → ℕ
date_of w = w.date

-- what a sound meaning says of the waiting writes of one thread
pub record SoundRow (clock : ℕ) (ws : List Write) : Type 0 where
  pub room : length ws ≤ 8
  pub in_cells : AllByRecursion (λ (w : Write). w.cell < 64) ws
  pub rises : IsNonDecreasingBy date_of ws
  pub past : AllByRecursion (λ (w : Write). w.date ≤ clock) ws

pub row_of : (m : Meaning) → Sound m → (t : ℕ) → SoundRow m.clock (queue m t)
row_of m s t = record { room = s.room t; in_cells = s.in_cells t; rises = s.rises t; past = s.past t }

-- a meaning with the same fixed parts, a clock in range and sound rows is sound
pub from_rows : (m m' : Meaning) → Sound m → Fixed m m' → m'.clock ≤ 1000000 → ((t : ℕ) → SoundRow m'.clock (queue m' t)) → Sound m'
from_rows m m' s f c rows =
    record {
      cells = f.places ∙ s.cells;
      threads = f.threads ∙ s.threads;
      bound_low = rw f.bound s.bound_low;
      bound_high = rw f.bound s.bound_high;
      clock_end = c;
      room = λ t. (rows t).room;
      in_cells = λ t. (rows t).in_cells;
      rises = λ t. (rows t).rises;
      past = λ t. (rows t).past;
    }

row_nil : (clock : ℕ) → SoundRow clock []
row_nil clock = record { room = omega arith; in_cells = tt; rises = IsNonDecreasingBy-short date_of [] (omega arith); past = tt }

row_tail : (clock : ℕ) (w : Write) (ws : List Write) → SoundRow clock (w ∷ ws) → SoundRow clock ws
row_tail clock w ws r = record { room = let h = r.room in omega arith; in_cells = r.in_cells.1; rises = IsNonDecreasingBy-drop date_of 1 (w ∷ ws) r.rises; past = r.past.1 }

row_push : (clock : ℕ) (ws : List Write) (w : Write) → length ws < 8 → w.cell < 64 → w.date ≡ clock → SoundRow clock ws → SoundRow clock (ws ++ w ∷ [])
row_push clock ws w few inside now r =
    record {
      room = rw (length_push ws w) (omega arith);
      in_cells = All-push (λ (x : Write). x.cell < 64) ws w r.in_cells inside;
      rises = rises_append date_of ws w r.rises (rw (sym now) at r.past);
      past = All-push (λ (x : Write). x.date ≤ clock) ws w r.past (omega arith);
    }

row_later : (clock : ℕ) (ws : List Write) → SoundRow clock ws → SoundRow (clock + 1) ws
row_later clock ws r =
    record { room = r.room; in_cells = r.in_cells; rises = r.rises; past = All-weaker (λ (x : Write). x.date ≤ clock) (λ (x : Write). x.date ≤ clock + 1) (λ x h. omega arith) ws r.past }

popped_sound : (t : ℕ) (m m' : Meaning) → Popped t m m' → Sound m → Sound m'
popped_sound t m m' p s = from_rows m m' s p.fixed (rw p.clock s.clock_end) (λ u. at u (cases_eq u t))
  where
    at : (u : ℕ) → (u ≡ t) ⊎ (u ≢ t) → SoundRow m'.clock (queue m' u)
    at u (inl e) = rw (e, p.left, p.clock) (row_tail m.clock p.write p.rest (rw p.was at (row_of m s t)))
    at u (inr ne) = rw (p.others u ne, p.clock) (row_of m s u)

pub landed_sound : (t : ℕ) (m : Meaning) → Sound m → Sound (landed t m)
landed_sound t m s = elim (landed_cases t m) [ inl e ↦ rw e s | inr p ↦ popped_sound t m (landed t m) p s ]

pub lands_sound : {m m' : Meaning} → Lands m m' → Sound m → Sound m'
lands_sound l s = lands_keep Sound landed_sound l s

pub stored_sound : (t c v : ℕ) (m : Meaning) → t < 8 → c < 64 → length (queue m t) < 8 → Sound m → Sound (stored t c v m)
stored_sound t c v m lt inside few s = go (stored_pushes t c v m (rw s.threads lt))
  where
    at : Pushed t c v m (stored t c v m) → (u : ℕ) → (u ≡ t) ⊎ (u ≢ t) → SoundRow (stored t c v m).clock (queue (stored t c v m) u)
    at p u (inl e) = rw (e, p.here, p.clock) (row_push m.clock (queue m t) (written m c v) few inside refl (row_of m s t))
    at p u (inr ne) = rw (p.others u ne, p.clock) (row_of m s u)

    go : Pushed t c v m (stored t c v m) → Sound (stored t c v m)
    go p = from_rows m (stored t c v m) s p.fixed (rw p.clock s.clock_end) (λ u. at p u (cases_eq u t))

pub exchanged_sound : (c old new : ℕ) (m : Meaning) → Sound m → Sound (exchanged c old new m)
exchanged_sound c old new m s = go (eqb (cell m c) old) refl
  where
    put : Put c new m (exchanged c old new m) → Sound (exchanged c old new m)
    put p = from_rows m (exchanged c old new m) s p.fixed (rw p.clock s.clock_end) (λ u. rw (p.clock, p.waiting) (row_of m s u))

    go : (b : Bool) → eqb (cell m c) old ≡ b → Sound (exchanged c old new m)
    go true e = put (exchanged_puts c old new m e)
    go false e = rw (exchanged_none c old new m e) s

pub ticked_sound : (m : Meaning) → m.clock < 1000000 → Sound m → Sound (ticked m)
ticked_sound m lt s = go (ticked_moves m)
  where
    go : Moved m (ticked m) → Sound (ticked m)
    go p = from_rows m (ticked m) s p.fixed (rw p.clock (omega arith)) (λ u. rw (p.clock, p.waiting) (row_later m.clock (queue m u) (row_of m s u)))

pub get_or-nils : (n t : ℕ) → get_or {A = List Write} (replicate n []) t [] ≡ []
get_or-nils zero t = refl
get_or-nils (suc n) zero = refl
get_or-nils (suc n) (suc t) = get_or-nils n t

pub fresh_queue : (b : ℕ) (self : Bool) (t : ℕ) → queue (fresh b self) t ≡ []
fresh_queue b self t = get_or-nils 8 t

pub fresh_sound : (b : ℕ) (self : Bool) → 1 ≤ b → b ≤ 1000 → Sound (fresh b self)
fresh_sound b self low high =
    record {
      cells = refl;
      threads = refl;
      bound_low = low;
      bound_high = high;
      clock_end = omega arith;
      room = λ t. (row t).room;
      in_cells = λ t. (row t).in_cells;
      rises = λ t. (row t).rises;
      past = λ t. (row t).past;
    }
  where
    row : (t : ℕ) → SoundRow 0 (queue (fresh b self) t)
    row t = rw (fresh_queue b self t) (row_nil 0)
