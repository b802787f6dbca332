-- The invariant of guards. Assumes nothing.
use Rattle.std.proofs.Common.{◌≡◌, ℕ, ◌+◌, ◌-◌, ◌*◌, ◌<◌, ◌≤◌, true, eqb, ◌≢◌, List, length}
use Rattle.std.specs.List.{AllByRecursion}
use Rattle.memory.specs.Meaning.{any_of}
use Rattle.protocol.specs.declared.node.NodeState.{NodeState}
use Rattle.protocol.specs.declared.node.NodeState.TheVariants.{Free, Taken, Published, Removed, Retired as RetiredBy}
use Rattle.protocol.specs.declared.retired.Retired.{Retired}
use Rattle.protocol.specs.declared.settings.Settings.{Settings}
use Rattle.protocol.specs.Tables.{protect3}
use Rattle.protocol.proofs.GuardView.{GuardState, ReadyAt, SweepAt}
use Rattle.protocol.proofs.Paths.{Slot, last_of, Path, PathAfter}

-- a state in which a node may be guarded
abbrev pub InUse : NodeState → Type 0
InUse Free = ⊥
InUse (Taken t) = ⊥
InUse (Published r) = Unit {0}
InUse (Removed t) = Unit {0}
InUse (RetiredBy t) = Unit {0}

-- a guard of t at i on n, against a sweep of u that has loaded the cells `seen`: it has seen n, or is still to come by it
pub data Spotted (z : Settings) (a : GuardState) (u t i n : ℕ) (seen : List ℕ) : Type 0 where
  spotted : any_of (λ v. eqb v n) seen ≡ true → Spotted z a u t i n seen
  ahead : t ≢ u → Path (a.view t) (a.slots t) (length seen - z.hazards * t) i n → Spotted z a u t i n seen
  ahead_own : t ≡ u → length seen - z.hazards * t ≤ i → Spotted z a u t i n seen

pub record Guarded (z : Settings) (a : GuardState) : Type 0 where
  -- only indices below the number of hazard cells have guards
  pub within : (t i : ℕ) → 0 < a.guard t i → (t < z.threads) × (i < z.hazards)
  pub ready : (t : ℕ) → ReadyAt z (a.guard t) (a.point t)
  -- a guarded node is in use, and the newest value of the guard's cell is the node
  pub used : (t i : ℕ) → 0 < a.guard t i → InUse (a.node (a.guard t i))
  pub shows : (t i : ℕ) → 0 < a.guard t i → last_of (a.view t) (a.slots t) i ≡ a.guard t i
  pub protecting : (t r h n : ℕ) → a.point t ≡ protect3 r h n → last_of (a.view t) (a.slots t) h ≡ n
  -- dates of waiting stores
  pub past : (t : ℕ) → AllByRecursion (λ (w : Slot). w.date ≤ a.clock) (a.slots t)
  pub in_time : (t : ℕ) → AllByRecursion (λ (w : Slot). a.clock ≤ w.date + a.bound) (a.slots t)
  -- a listed node is in the state that the list says
  pub listed : (u : ℕ) → AllByRecursion (λ (e : Retired). a.node e.node ≡ RetiredBy u) (a.list u)
  -- a guarded node on a list stays visible once the stores before its retirement have landed
  pub visible : (t i u : ℕ) → 0 < a.guard t i → AllByRecursion (λ (e : Retired). e.node ≡ a.guard t i → PathAfter e.date (a.view t) (a.slots t) i (a.guard t i)) (a.list u)
  -- a sweep comes by every guarded node that is old enough
  pub sweeping : (t i u now : ℕ) (seen : List ℕ) → 0 < a.guard t i → SweepAt z now seen (a.point u)
      → AllByRecursion (λ (e : Retired). e.node ≡ a.guard t i → e.date + a.bound < now → Spotted z a u t i (a.guard t i) seen) (a.list u)
