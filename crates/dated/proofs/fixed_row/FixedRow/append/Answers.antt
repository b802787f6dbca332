use Rattle.std.proofs.Common.{length, take, ap, ◌∙◌, arith}
use Rattle.dated.specs.FixedRow.{entries_of}
use Rattle.dated.proofs.FixedRows.{entries_length, append_some, append_none}
use Rattle.dated.proofs.fixed_row.FixedRow.append.Goals as goal

pub returns : goal.returns
unfolding entries_of
returns g c =
    let r = c.args.self.now in
    let some = append_some (length r.places) r.len c.in-Some.len c.in-Some.ensures.answer in
    record { row = (omega (arith, entries_length r), c.in-Some.ensures.row); dates = c.in-Some.ensures.dates }

-- no place is left, and nothing changed
pub returns-in_default : goal.returns-in_default
unfolding entries_of
returns-in_default g c =
    let r = c.args.self.now in
    let full = append_none (length r.places) r.len c.in_default.ensures.answer in
    record { row = (entries_length r ∙ omega arith, ap (take r.len) c.in_default.ensures.row); dates = tt }
