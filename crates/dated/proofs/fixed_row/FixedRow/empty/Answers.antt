use Rattle.std.proofs.Common.{refl}
use Rattle.dated.specs.FixedRow.{entries_of}
use Rattle.dated.proofs.fixed_row.FixedRow.empty.Goals as goal

pub returns : goal.returns
unfolding entries_of
returns g c = refl
