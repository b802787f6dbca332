-- What a machine means: the state of which the definitions speak. Assumes nothing.
use Rattle.std.specs.Option.{option_map}
use Rattle.memory.specs.Meaning.{Meaning}
use Rattle.protocol.specs.Tables.{State}
use Rattle.tables.specs.State.{tables_of}
use Rattle.machine.specs.declared.machine.Machine.{Machine}

-- there are tables once the machine is set up
abbrev pub state : {M : Type 0} → (M → Meaning) → Machine M → State
state meaning x = record { tables = option_map tables_of x.tables; memory = meaning x.memory }
