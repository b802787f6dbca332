use Rattle.std.proofs.Common.{◌≡◌, ℕ, ◌<◌}
use Rattle.memory.specs.Meaning.{cell}
use Rattle.memory.proofs.newness.cells_are_zero.Given as goal

abbrev pub invariant-loop-cell : goal.invariant-loop-cell
invariant-loop-cell g l = (g.M.Memory.meaning l.memory ≡ g.M.Memory.meaning l.initial.memory) × ((k : ℕ) → k < l.cell → cell (g.M.Memory.meaning l.initial.memory) k ≡ 0)
