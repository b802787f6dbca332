use Rattle.std.proofs.Common.{◌≡◌, drop}
use Rattle.protocol.specs.Steps.{freed, freeing}
use Rattle.tables.specs.Rows.{loaded_of, states_of}
use Rattle.tables.proofs.rows.sweep.Sweep.free.Given as goal

-- to free what the rest of the list has to free leads to the same states as at the start
abbrev pub invariant-loop-entry : goal.invariant-loop-entry
invariant-loop-entry l =
    freeing (freed l.self.bound l.self.clock (loaded_of l.self.loaded) (drop l.entry-index l.entry-items)) (states_of l.nodes)
    ≡ freeing (freed l.self.bound l.self.clock (loaded_of l.self.loaded) l.entry-items) (states_of l.initial.nodes)
