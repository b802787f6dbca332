-- What the quiescing layer means over the memory below, and what it lands before a tick. Assumes nothing.
use Rattle.std.specs.Prelude.{◌≡◌, ℕ, ◌<◌, min, true, false, ◌&&◌, List, [], ◌∷◌, Ok, Err, Result}
use Rattle.std.specs.List.Sorted.{IsNonDecreasing}
use Rattle.quiescing.specs.declared.Quiescing.{Quiescing}
use Rattle.quiescing.specs.declared.Unmade.{Unmade}
use Rattle.memory.specs.declared.refusal.Refusal.{Refusal}
use Rattle.memory.specs.declared.refusal.Refusal.TheVariants.{NotMade}
use Rattle.memory.specs.Meaning.{Meaning, queue, waiting_count, with_bound, landed, due, is_new}
use Rattle.memory.specs.Landings.{Lands}
use Rattle.memory.specs.Checks.{tick_checks, limit_in_range}
use Rattle.memory.specs.Calls.{Answers, Ticked}

-- what the memory below means, with the smaller bound, and landing by itself
abbrev pub quieted : ℕ → Meaning → Meaning
quieted limit m =
    record {
      clock = m.clock;
      cells = m.cells;
      bound = min limit m.bound;
      self_landing = true;
      waiting = m.waiting;
    }

abbrev pub quiescing : {M : Type 0} → (M → Meaning) → Quiescing M → Meaning
quiescing meaning q = quieted q.limit (meaning q.below)

-- a layer with the limit over the memory as it was, where the limit is in range and the memory is new; else the memory back
abbrev pub LayerMade : {M : Type 0} → (M → Meaning) → M → ℕ → Result (Quiescing M) (Unmade M) → Type 0
LayerMade meaning below limit (Ok q) = ((limit_in_range limit && is_new (meaning below)) ≡ true) × (q.limit ≡ limit) × (meaning q.below ≡ meaning below)
LayerMade meaning below limit (Err x) = ((limit_in_range limit && is_new (meaning below)) ≡ false) × (x.refusal ≡ NotMade) × (meaning x.below ≡ meaning below)

-- the memory below is told to land a write of each of these threads, one after another, each where one waits; it may land
-- more by itself
abbrev pub Told : List ℕ → Meaning → Meaning → Type 0
Told [] m m' = m' ≡ m
Told (t ∷ ts) m m'' = (0 < waiting_count m t) × ((m' : Meaning) × Lands (landed t m) m' × Told ts m' m'')

-- all writes land, threads ascending
pub record Drains (m m' : Meaning) : Type 0 where
  pub threads : List ℕ
  pub ascending : IsNonDecreasing threads
  pub told : Told threads m m'
  pub empty : (t : ℕ) → queue m' t ≡ []

-- if some write has waited as long as the bound allows, all land; else nothing is told to
pub record Quiesces (bound : ℕ) (m m' : Meaning) : Type 0 where
  pub drains : due (with_bound m bound) ≡ true → Drains m m'
  pub stays : due (with_bound m bound) ≡ false → m' ≡ m

-- what the memory below goes through in an accepted tick of the layer
pub record QuietTick (limit : ℕ) (m m' : Meaning) : Type 0 where
  pub between : Meaning
  pub quiesces : Quiesces (min limit m.bound) m between
  pub ticks : Ticked Lands between m'

abbrev pub QuietTicks : ℕ → Meaning → Meaning → Result (Unit {0}) Refusal → Type 0
QuietTicks limit m m' r = Answers (tick_checks (quieted limit m)) m m' r (λ _. QuietTick limit m m')
