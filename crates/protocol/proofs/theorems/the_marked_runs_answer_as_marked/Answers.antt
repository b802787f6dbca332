use Rattle.protocol.proofs.HeldRuns.{marked_runs}
use Rattle.protocol.proofs.theorems.the_marked_runs_answer_as_marked.Goals as goal

pub returns : goal.returns
returns c = marked_runs
