use Rattle.std.proofs.Common.{sym}
use Rattle.std.proofs.lemmas.List.{set_past}
use Rattle.std.proofs.Math.Seq.{take-set-lt}
use Rattle.dated.specs.FixedRow.{entries_of}
use Rattle.dated.proofs.FixedRows.{entries_length}
use Rattle.dated.proofs.fixed_row.FixedRow.set.Goals as goal

pub returns-then-index-self : goal.returns-then-index-self
unfolding entries_of
returns-then-index-self g c = take-set-lt c.args.self.now.len c.args.self.now.places c.args.index c.args.entry c.if-index-self.true

-- a write behind the row changes nothing
pub returns-else-index-self : goal.returns-else-index-self
returns-else-index-self g c = sym (set_past (entries_of c.args.self.now) c.args.index c.args.entry (rw (entries_length c.args.self.now) c.if-index-self.false))
