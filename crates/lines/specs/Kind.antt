-- The memories by their numbers on a first line. Assumes nothing.
use Rattle.std.specs.Prelude.{◌≡◌, ℕ, ◌<◌, ◌⊎◌, Result, MatchResult}
use Rattle.lines.specs.declared.head.MemoryKind.{MemoryKind}
use Rattle.lines.specs.declared.head.MemoryKind.TheVariants.{Held, Immediate, Quiescing}
use Rattle.lines.specs.declared.head.UnknownMemory.{UnknownMemory}

abbrev pub number_of : MemoryKind → ℕ
number_of Held = 1
number_of Immediate = 2
number_of Quiescing = 3

-- the memory with this number, or an error with a number that none has
abbrev pub Names : ℕ → Result MemoryKind UnknownMemory → Type 0
Names number r = MatchResult r (λ kind. number_of kind ≡ number) (λ e. (e.0 ≡ number) × ((number < 1) ⊎ (3 < number)))
