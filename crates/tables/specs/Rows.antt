-- What the rows of the tables mean. Assumes nothing.
use Rattle.std.specs.Prelude.{ℕ, List}
use Rattle.dated.specs.declared.fixed_row.FixedRow.{FixedRow}
use Rattle.dated.specs.FixedRow.{entries_of}
use Rattle.protocol.specs.declared.node.NodeState.{NodeState}
use Rattle.protocol.specs.declared.retired.Retired.{Retired}

abbrev pub guards_of : FixedRow ℕ 4 → List ℕ
guards_of g = entries_of g

abbrev pub list_of : FixedRow Retired 48 → List Retired
list_of l = entries_of l

abbrev pub loaded_of : FixedRow ℕ 32 → List ℕ
loaded_of s = entries_of s

abbrev pub states_of : FixedRow NodeState 65 → List NodeState
states_of n = entries_of n
