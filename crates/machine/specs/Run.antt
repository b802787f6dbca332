-- What a run hands out. Assumes nothing.
use Rattle.std.specs.Prelude.{◌≡◌, ◌<◌, List, length, Ok, Err, vec_items, Result}
use Rattle.memory.specs.Meaning.{Meaning}
use Rattle.protocol.specs.declared.call.Call.{Call}
use Rattle.protocol.specs.Calls.{Runs}
use Rattle.machine.specs.declared.machine.run.NoRoom.{NoRoom}
use Rattle.machine.specs.declared.machine.run.Completed.{Completed}
use Rattle.machine.specs.State.{state}

-- the machine and the answers are those of a history of the calls; where there was no room for the answers, of which there is one at
-- least, the memory comes back as it was
abbrev pub RunAs : {M : Type 0} → (M → Meaning) → M → List Call → Result (Completed M) (NoRoom M) → Type 0
RunAs meaning memory calls (Ok r) = Runs (meaning memory) calls (vec_items r.answers) (state meaning r.machine)
RunAs meaning memory calls (Err e) = (0 < length calls) × (e.memory ≡ memory)
