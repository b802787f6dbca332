use Rattle.std.proofs.Common.{refl}
use Rattle.dated.specs.FixedRow.{entries_of}
use Rattle.dated.proofs.fixed_row.FixedRow.as_slice.Goals as goal

pub returns-clause-entries : goal.returns-clause-entries
unfolding entries_of
returns-clause-entries g c = refl
