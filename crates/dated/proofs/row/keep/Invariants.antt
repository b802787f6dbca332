use Rattle.dated.proofs.Keeping.{Kept}
use Rattle.dated.proofs.row.keep.Given as goal

abbrev pub invariant-loop-i : goal.invariant-loop-i
invariant-loop-i g l = Kept (g.K.Rule.keeps l.rule) l.initial.entries l.entries l.kept l.i
