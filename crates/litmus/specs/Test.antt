-- What a run of the test promises: the laws of every run, from a new memory of the kind. Assumes nothing.
use Rattle.std.specs.Prelude.{◌≡◌, true, false, List, Ok, Err, vec_items, Result, Vec}
use Rattle.held.specs.declared.Held.{Held as HeldMemory}
use Rattle.quiescing.specs.declared.Quiescing.{Quiescing as Layer}
use Rattle.memory.specs.declared.run.Call.{Call}
use Rattle.held.specs.Held.{held}
use Rattle.quiescing.specs.Quiescing.{quiescing}
use Rattle.memory.specs.Meaning.{Meaning, fresh}
use Rattle.memory.specs.History.{Outcome, Ran, FaultOf}
use Rattle.litmus.specs.declared.kind.Kind.{Kind}
use Rattle.litmus.specs.declared.kind.Kind.TheVariants.{Held, Immediate, Quiescing}
use Rattle.litmus.specs.declared.kind.Failure.{Failure}
use Rattle.litmus.specs.declared.kind.Failure.TheVariants.{NotMade, NotRun}

abbrev pub begun : Kind → Meaning
begun Held = fresh 2 false
begun Immediate = fresh 2 true
begun Quiescing = fresh 2 true

abbrev pub FailsOn : Meaning → Failure → Type 0
FailsOn m NotMade = ⊥
FailsOn m (NotRun fault) = FaultOf fault m

-- the calls ran from this memory with these answers and keep the laws; a new memory fails only for want of memory
abbrev pub Obeys : {Z : Type 0} → Meaning → List Call → Result (Vec Outcome Z) Failure → Type 0
Obeys m calls (Ok answers) = (m' : Meaning) × Ran calls (vec_items answers) m m'
Obeys m calls (Err e) = FailsOn m e

-- the layer is made
abbrev pub Layered : Result (Layer HeldMemory) Failure → Type 0
Layered (Ok q) = quiescing held q ≡ fresh 2 true
Layered (Err e) = ⊥
