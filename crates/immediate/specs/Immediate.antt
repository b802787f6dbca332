-- What the immediate memory means, and what it lands. Assumes nothing.
use Rattle.std.specs.Prelude.{◌≡◌, ℕ, true, [], replicate}
use Rattle.immediate.specs.declared.Immediate.{Immediate}
use Rattle.memory.specs.Meaning.{Meaning, landed}
use Rattle.memory.specs.SharedCells.{shared_with}

-- nothing ever waits
abbrev pub immediate : Immediate → Meaning
immediate x = shared_with x.shared true (replicate 8 [])

-- after its work a store lands the thread's oldest waiting write, and that is the one it stored
abbrev pub LandsOf : ℕ → Meaning → Meaning → Type 0
LandsOf t m m' = m' ≡ landed t m
