-- Whether some write is due, by what was told of each thread's oldest date. Assumes nothing.
use Rattle.std.proofs.Common.{◌≡◌, ℕ, ◌+◌, ◌<◌, Bool, true, false, List, [], ◌∷◌, length, get_or, Some, None, Option, sym, refl, ap, ◌∙◌, arith}
use Rattle.std.specs.Prelude.{nat_le}
use Rattle.std.specs.Bool.{MatchBool}
use Rattle.std.specs.List.{range_with_len, AllWithin, HoldsAt}
use Rattle.std.specs.List.Sorted.{IsNonDecreasingBy}
use Rattle.std.specs.Option.{option_map_or}
use Rattle.std.proofs.lemmas.List.FromFn.{get_or-range_with_len}
use Rattle.memory.specs.declared.write.Write.{Write}
use Rattle.memory.specs.Meaning.{Meaning, queue, oldest_date, due}
use Rattle.memory.proofs.Dueness.{date_due, oldest_none_due, oldest_some_due}

-- what `date_due` of the code tells
abbrev pub late : ℕ → ℕ → Option ℕ → Bool
late bound clock date = option_map_or (λ d. nat_le (d + bound) clock) date false

pub late_date : (m : Meaning) (date : Option ℕ) → late m.bound m.clock date ≡ date_due m date
late_date m None = refl
late_date m (Some d) = refl

-- an element of a list that has a place
pub some_element : {X : Type 0} (xs : List X) (k : ℕ) → k < length xs → X
some_element [] k lt = absurd (omega arith)
some_element (x ∷ xs) k lt = x

-- a search through what there is for each thread, by the date that it gives
module _ {X : Type 0} (xs : List X) (date : X → Option ℕ) (m : Meaning) (up : (t : ℕ) → IsNonDecreasingBy (λ (w : Write). w.date) (queue m t)) (long : length m.waiting ≡ length xs) (each : (t : ℕ) (d : X) → t < length xs → oldest_date m t ≡ date (get_or xs t d)) where
  tells : (t : ℕ) (d : X) (b : Bool) → t < length xs → late m.bound m.clock (date (get_or xs t d)) ≡ b → date_due m (oldest_date m t) ≡ b
  tells t d b lt e = sym (late_date m (oldest_date m t)) ∙ ap (late m.bound m.clock) (each t d lt) ∙ e

  pub late_due : (r : Bool) → MatchBool r ((k : ℕ) × (k < length xs) × HoldsAt (λ x. late m.bound m.clock (date x) ≡ true) xs k) (AllWithin (λ x. late m.bound m.clock (date x) ≡ false) xs 0 (length xs)) → r ≡ due m
  late_due true (k, lt, h) =
      let d = some_element xs k lt in
      sym (oldest_some_due m up k (omega arith) (tells k d true lt (h d)))
  late_due false h = sym (oldest_none_due m up none)
    where
      none : (t : ℕ) → t < length m.waiting → date_due m (oldest_date m t) ≡ false
      none t lt =
          let below : t < length xs = omega arith in
          let d = some_element xs t below in
          tells t d false below (h t d (omega arith) below)

-- the threads, 0 to 7
pub thread_at : (t d : ℕ) → t < 8 → t ≡ get_or (range_with_len 0 8) t d
thread_at t d lt = let z : 0 + t ≡ t = omega arith in sym (get_or-range_with_len 0 8 t d lt ∙ z)
