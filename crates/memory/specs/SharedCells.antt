-- What all threads share, and what its calls do. Assumes nothing.
use Rattle.std.specs.Prelude.{◌≡◌, ℕ, Bool, not, List, [], ◌∷◌, replicate, Result, nat_lt}
use Rattle.memory.specs.declared.shared_cells.SharedCells.{SharedCells}
use Rattle.memory.specs.declared.refusal.Refusal.{Refusal}
use Rattle.memory.specs.declared.refusal.Refusal.TheVariants.{WriteDue, ClockAtEnd}
use Rattle.memory.specs.declared.write.Write.{Write}
use Rattle.memory.specs.Meaning.{Meaning, ticked}
use Rattle.memory.specs.Checks.{check}
use Rattle.memory.specs.Calls.{Answers, Made}

abbrev pub clock_of : SharedCells → ℕ
clock_of s = s.clock

abbrev pub bound_of : SharedCells → ℕ
bound_of s = s.bound

abbrev pub cells_of : SharedCells → List ℕ
cells_of s = s.cells

-- a memory that shares this, with these writes waiting in it
abbrev pub shared_with : SharedCells → Bool → List (List Write) → Meaning
shared_with s lands waiting = record { clock = s.clock; cells = s.cells; bound = s.bound; self_landing = lands; waiting = waiting }

-- a memory that shares what was made, with nothing waiting, is a new one
abbrev pub SharedMade : ℕ → Result SharedCells Refusal → Type 0
SharedMade bound r = (lands : Bool) → Made (λ s. shared_with s lands (replicate 8 [])) lands bound r

-- the clock moves by one, unless it is at its end or a write is due
abbrev pub SharedTicks : Bool → Meaning → Meaning → Result (Unit {0}) Refusal → Type 0
SharedTicks write_due m m' r = Answers (check (nat_lt m.clock 1000000) ClockAtEnd ∷ check (not write_due) WriteDue ∷ []) m m' r (λ _. m' ≡ ticked m)
