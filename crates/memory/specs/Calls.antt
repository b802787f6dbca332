-- What each call of a memory promises. Assumes nothing.
use Rattle.std.specs.Prelude.{◌≡◌, ℕ, ◌<◌, ◌≤◌, Bool, true, false, List, length, Some, None, Ok, Err, Result, ◌==◌}
use Rattle.std.specs.List.{AllByRecursion}
use Rattle.std.specs.List.Sorted.{IsNonDecreasingBy}
use Rattle.memory.specs.declared.write.Write.{Write}
use Rattle.memory.specs.declared.refusal.Refusal.{Refusal}
use Rattle.memory.specs.declared.refusal.Refusal.TheVariants.{NotMade}
use Rattle.memory.specs.Meaning.{Meaning, fresh, queue, cell, loaded, stored, landed, exchanged, ticked, due}
use Rattle.memory.specs.Checks.{Check, first_no, store_checks, load_checks, land_checks, exchange_checks, tick_checks, limit_in_range}

-- what holds of the meaning of every memory at every time
pub record Sound (m : Meaning) : Type 0 where
  pub cells : length m.cells ≡ 64
  pub threads : length m.waiting ≡ 8
  pub bound_low : 1 ≤ m.bound
  pub bound_high : m.bound ≤ 1000
  pub clock_end : m.clock ≤ 1000000
  pub room : (t : ℕ) → length (queue m t) ≤ 8
  pub in_cells : (t : ℕ) → AllByRecursion (λ (w : Write). w.cell < 64) (queue m t)
  pub rises : (t : ℕ) → IsNonDecreasingBy (λ (w : Write). w.date) (queue m t)
  pub past : (t : ℕ) → AllByRecursion (λ (w : Write). w.date ≤ m.clock) (queue m t)

-- an accepted call passes every check, and then P holds
pub record Accepted (checks : List (Check Refusal)) (P : Type 0) : Type 0 where
  pub passes : first_no checks ≡ None
  pub does : P

-- a refused call tells the first check that fails, and changes nothing
pub record Refuses (checks : List (Check Refusal)) (e : Refusal) (m m' : Meaning) : Type 0 where
  pub fails : first_no checks ≡ Some e
  pub same : m' ≡ m

abbrev pub Answers : {R : Type 0} → List (Check Refusal) → Meaning → Meaning → Result R Refusal → (R → Type 0) → Type 0
Answers checks m m' (Ok a) P = Accepted checks (P a)
Answers checks m m' (Err e) P = Refuses checks e m m'

-- making a memory: a new one where the bound is in range, else a refusal
abbrev pub Made : {X : Type 0} → (X → Meaning) → Bool → ℕ → Result X Refusal → Type 0
Made meaning self bound (Ok x) = (limit_in_range bound ≡ true) × (meaning x ≡ fresh bound self)
Made meaning self bound (Err e) = (limit_in_range bound ≡ false) × (e ≡ NotMade)

-- Each call below takes the relation by which a memory may land writes of its own: `Lands` for an arbitrary memory,
-- `Stays` where none lands.
abbrev pub Stays : Meaning → Meaning → Type 0
Stays m m' = m' ≡ m

-- a store lands what it lands after its work
abbrev pub Stores : (Meaning → Meaning → Type 0) → ℕ → ℕ → ℕ → Meaning → Meaning → Result (Unit {0}) Refusal → Type 0
Stores L t c v m m' r = Answers (store_checks t c m) m m' r (λ _. L (stored t c v m) m')

-- a load and an exchange land what they land before they answer
pub record Loaded (L : Meaning → Meaning → Type 0) (t c : ℕ) (m m' : Meaning) (v : ℕ) : Type 0 where
  pub lands : L m m'
  pub value : v ≡ loaded m' t c

abbrev pub Loads : (Meaning → Meaning → Type 0) → ℕ → ℕ → Meaning → Meaning → Result ℕ Refusal → Type 0
Loads L t c m m' r = Answers (load_checks t c) m m' r (Loaded L t c m m')

abbrev pub LandsOne : (Meaning → Meaning → Type 0) → ℕ → Meaning → Meaning → Result (Unit {0}) Refusal → Type 0
LandsOne L t m m' r = Answers (land_checks t m) m m' r (λ _. L (landed t m) m')

pub record Exchanged (L : Meaning → Meaning → Type 0) (c old new : ℕ) (m m' : Meaning) (done : Bool) : Type 0 where
  pub between : Meaning
  pub lands : L m between
  pub answer : done ≡ (cell between c == old)
  pub is : m' ≡ exchanged c old new between

abbrev pub Exchanges : (Meaning → Meaning → Type 0) → ℕ → ℕ → ℕ → ℕ → Meaning → Meaning → Result Bool Refusal → Type 0
Exchanges L t c old new m m' r = Answers (exchange_checks t c m) m m' r (Exchanged L c old new m m')

-- a tick lands first, until no write is due, and then the clock moves
pub record Ticked (L : Meaning → Meaning → Type 0) (m m' : Meaning) : Type 0 where
  pub between : Meaning
  pub lands : L m between
  pub none_due : due between ≡ false
  pub is : m' ≡ ticked between

abbrev pub Ticks : (Meaning → Meaning → Type 0) → Meaning → Meaning → Result (Unit {0}) Refusal → Type 0
Ticks L m m' r = Answers (tick_checks m) m m' r (λ _. Ticked L m m')
