use Rattle.std.proofs.Common.{◌≡◌, ◌≤◌, length, take, vec_items, vec_len, vec_capacity}
use Rattle.protocol.specs.Calls.{Runs}
use Rattle.machine.specs.State.{state}
use Rattle.machine.proofs.machine.run.run.Given as goal

abbrev pub invariant-loop-call : goal.invariant-loop-call
invariant-loop-call g l =
    (vec_len l.answers ≡ l.call-index) × (length l.calls ≤ vec_capacity l.answers)
    × Runs (g.M.Memory.meaning l.fn.memory) (take l.call-index l.calls) (vec_items l.answers) (state g.M.Memory.meaning l.machine)
