-- What the memory below a quiescing layer does, the layer does too. Assumes nothing.
use Rattle.std.proofs.Common.{◌≡◌, ℕ, ◌≤◌, Bool, true, false, cond, eqb, List, [], ◌∷◌, Ok, Err, Result, sym, refl, ap, ◌∙◌, arith}
use Rattle.memory.specs.declared.write.Write.{Write}
use Rattle.memory.specs.declared.refusal.Refusal.{Refusal}
use Rattle.memory.specs.Meaning.{Meaning, queue, cell, with_cell, stored, loaded, landed, landed_from, exchanged, ticked}
use Rattle.memory.specs.Landings.{Landing, LandsAs, Lands}
use Rattle.memory.specs.Checks.{Check, store_checks, load_checks, land_checks, exchange_checks}
use Rattle.memory.specs.Calls.{Sound, Answers, Stores, Loads, LandsOne, Exchanges}
use Rattle.quiescing.specs.Quiescing.{quieted}
use Rattle.memory.proofs.Views.{landed_pops, popped_left}

pub quieted_landed : (k t : ℕ) (m : Meaning) → landed t (quieted k m) ≡ quieted k (landed t m)
unfolding landed
quieted_landed k t m = go (queue m t)
  where
    go : (q : List Write) → landed_from t (quieted k m) q ≡ quieted k (landed_from t m q)
    go [] = refl
    go (w ∷ ws) = refl

quieted_leads : (k : ℕ) (ls : List Landing) (m m' : Meaning) → LandsAs ls m m' → LandsAs ls (quieted k m) (quieted k m')
quieted_leads k [] m m' e = ap (quieted k) e
quieted_leads k (l ∷ ls) m m' e = rw (quieted_landed k l.thread m) (e.0, quieted_leads k ls (landed l.thread m) m' e.1)

pub quieted_lands : (k : ℕ) {m m' : Meaning} → Lands m m' → Lands (quieted k m) (quieted k m')
quieted_lands k {m} {m'} l = record { landings = l.landings; lead = quieted_leads k l.landings m m' l.lead; none = λ e. absurd cc }

-- a landing that the layer tells the memory below is one of the layer's own
pub told_lands : (k t : ℕ) (m : Meaning) (w : Write) (ws : List Write) → queue m t ≡ w ∷ ws → Lands (quieted k m) (quieted k (landed t m))
told_lands k t m w ws e =
    record {
      landings = record { thread = t; write = w } ∷ [];
      lead = (e ∙ ap (λ (q : List Write). w ∷ q) (sym (popped_left (landed_pops t m w ws e) e) ∙ ap (λ (x : Meaning). queue x t) (sym (quieted_landed k t m))), sym (quieted_landed k t m));
      none = λ f. absurd cc;
    }

quieted_stored : (k t c v : ℕ) (m : Meaning) → stored t c v (quieted k m) ≡ quieted k (stored t c v m)
unfolding stored
quieted_stored k t c v m = refl

quieted_loaded : (k t c : ℕ) (m : Meaning) → loaded (quieted k m) t c ≡ loaded m t c
unfolding loaded
quieted_loaded k t c m = refl

quieted_exchanged : (k c old new : ℕ) (m : Meaning) → exchanged c old new (quieted k m) ≡ quieted k (exchanged c old new m)
unfolding exchanged
quieted_exchanged k c old new m = go (eqb (cell m c) old)
  where
    go : (b : Bool) → cond b (with_cell (quieted k m) c new) (quieted k m) ≡ quieted k (cond b (with_cell m c new) m)
    go true = refl
    go false = refl

pub quieted_ticked : (k : ℕ) (m : Meaning) → ticked (quieted k m) ≡ quieted k (ticked m)
unfolding ticked
quieted_ticked k m = refl

-- a call that the memory below answers is answered the same by the layer, where what an accepted one does carries over
answers_on : {R : Type 0} (k : ℕ) (checks : List (Check Refusal)) (m m' : Meaning) (r : Result R Refusal) (P Q : R → Type 0) → ((x : R) → P x → Q x) → Answers checks m m' r P → Answers checks (quieted k m) (quieted k m') r Q
answers_on k checks m m' (Ok x) P Q on s = record { passes = s.passes; does = on x s.does }
answers_on k checks m m' (Err e) P Q on s = record { fails = s.fails; same = ap (quieted k) s.same }

pub stores_on : (k t c v : ℕ) (m m' : Meaning) (r : Result (Unit {0}) Refusal) → Stores Lands t c v m m' r → Stores Lands t c v (quieted k m) (quieted k m') r
stores_on k t c v m m' r s = answers_on k (store_checks t c m) m m' r _ _ (λ _ l. rw (quieted_stored k t c v m) (quieted_lands k l)) s

pub loads_on : (k t c : ℕ) (m m' : Meaning) (r : Result ℕ Refusal) → Loads Lands t c m m' r → Loads Lands t c (quieted k m) (quieted k m') r
loads_on k t c m m' r s =
    answers_on k (load_checks t c) m m' r _ _ (λ _ l. record { lands = quieted_lands k l.lands; value = l.value ∙ sym (quieted_loaded k t c m') }) s

pub lands_on : (k t : ℕ) (m m' : Meaning) (r : Result (Unit {0}) Refusal) → LandsOne Lands t m m' r → LandsOne Lands t (quieted k m) (quieted k m') r
lands_on k t m m' r s = answers_on k (land_checks t m) m m' r _ _ (λ _ l. rw (quieted_landed k t m) (quieted_lands k l)) s

pub exchanges_on : (k t c old new : ℕ) (m m' : Meaning) (r : Result Bool Refusal) → Exchanges Lands t c old new m m' r → Exchanges Lands t c old new (quieted k m) (quieted k m') r
exchanges_on k t c old new m m' r s =
    answers_on k (exchange_checks t c m) m m' r _ _
    (λ _ x.
    record {
      between = quieted k x.between;
      lands = quieted_lands k x.lands;
      answer = x.answer;
      is = ap (quieted k) x.is ∙ sym (quieted_exchanged k c old new x.between);
    })
    s

pub quieted_sound : (k : ℕ) (m : Meaning) → 1 ≤ k → Sound m → Sound (quieted k m)
quieted_sound k m low s =
    record {
      cells = s.cells;
      threads = s.threads;
      bound_low = let a = s.bound_low in omega arith;
      bound_high = let a = s.bound_high in omega arith;
      clock_end = s.clock_end;
      room = s.room;
      in_cells = s.in_cells;
      rises = s.rises;
      past = s.past;
    }
