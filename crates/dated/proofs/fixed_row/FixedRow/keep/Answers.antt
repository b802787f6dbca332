use Rattle.dated.specs.FixedRow.{entries_of}
use Rattle.dated.proofs.fixed_row.FixedRow.keep.Goals as goal

pub returns : goal.returns
unfolding entries_of
returns g c = record { row = c.keep-self.ensures.row; dates = c.keep-self.ensures.dates }
