use Rattle.std.proofs.Common.{◌≡◌, ◌≤◌, length, vec_items, vec_len, vec_capacity}
use Rattle.memory.proofs.Carrying.{Upto}
use Rattle.memory.proofs.run.run.Given as goal

abbrev pub invariant-loop-call : goal.invariant-loop-call
invariant-loop-call g l =
    (vec_len l.answers ≡ l.call-index) × (length l.calls ≤ vec_capacity l.answers) × Upto l.calls l.call-index (vec_items l.answers) (g.M.Memory.meaning l.initial.memory) (g.M.Memory.meaning l.memory)
