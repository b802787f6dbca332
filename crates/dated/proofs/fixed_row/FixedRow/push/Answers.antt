use Rattle.std.proofs.Common.{refl, ◌∙◌, arith}
use Rattle.std.proofs.lemmas.List.{take_more_set}
use Rattle.dated.specs.FixedRow.{entries_of}
use Rattle.dated.proofs.FixedRows.{entries_length}
use Rattle.dated.proofs.fixed_row.FixedRow.push.Goals as goal

pub returns-then-self : goal.returns-then-self
returns-then-self g c = (entries_length c.args.self.now ∙ c.if-self.true, refl)

pub returns : goal.returns
unfolding entries_of
returns g c =
    let r = c.args.self.now in
    (omega (arith, entries_length r), take_more_set r.places r.len c.args.entry (omega arith))
