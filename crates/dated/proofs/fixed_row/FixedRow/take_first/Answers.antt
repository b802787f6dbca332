use Rattle.std.proofs.Common.{take, sym, ap, subst, ◌∙◌, arith}
use Rattle.std.specs.List.Sorted.{IsNonDecreasingBy}
use Rattle.dated.specs.FixedRow.{entries_of}
use Rattle.dated.proofs.FixedRows.{first_none}
use Rattle.dated.proofs.fixed_row.FixedRow.take_first.Goals as goal

-- there is no entry, and nothing changed
pub returns-in_err-first : goal.returns-in_err-first
unfolding entries_of
returns-in_err-first g c =
    let r = c.args.self.now in
    let none = first_none r.len r.places (omega arith) c.in_err-first.ensures.answer in
    let same = ap (take r.len) c.in_err-first.ensures.row in
    record { row = rw c.from_residual.ensures (none, same ∙ none); dates = subst (IsNonDecreasingBy g.T.Dated.stamp) (sym same) }

pub returns : goal.returns
unfolding entries_of
returns g c = record { row = c.in_ok-first.ensures.row; dates = c.in_ok-first.ensures.dates }
