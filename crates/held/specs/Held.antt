-- What the held memory means. Assumes nothing.
use Rattle.std.specs.Prelude.{false, map}
use Rattle.held.specs.declared.Held.{Held}
use Rattle.memory.specs.Meaning.{Meaning}
use Rattle.memory.specs.SharedCells.{shared_with}
use Rattle.held.specs.StoreBuffer.{row}

abbrev pub held : Held → Meaning
held h = shared_with h.shared false (map row h.buffers)
