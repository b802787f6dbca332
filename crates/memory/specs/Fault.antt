-- What is printed of each fault of a run. Assumes nothing.
use Rattle.std.specs.Prelude.{ℕ, List, codes}
use Rattle.memory.specs.declared.run.RunFault.{RunFault}
use Rattle.memory.specs.declared.run.RunFault.TheVariants.{NotNew, NoMemory}

abbrev pub fault_text : RunFault → List ℕ
fault_text NotNew = codes "the memory is not new"
fault_text NoMemory = codes "no memory for the answers"
