use Rattle.std.proofs.Common.{refl, sym, ap, Some}
use Rattle.std.proofs.lemmas.Bool.{le-ltb, lt-ltb}
use Rattle.tables.proofs.RowAnswers.{at_none, at_some}
use Rattle.tables.proofs.ThreadTable.{row_at}
use Rattle.tables.proofs.tables.Tables.guard.Goals as goal

pub returns-in_err-row : goal.returns-in_err-row
returns-in_err-row c =
    let x = c.args.self.now in
    rw (c.from_residual.ensures, le-ltb c.args.thread x.layout.settings.threads (at_none x c.args.thread (sym c.in_err-row.ensures))) refl

pub returns : goal.returns
returns c =
    let x = c.args.self.now in
    let r = c.in_ok-row.row.now in
    let t = c.args.thread in
    let h = at_some x t r r (sym c.in_ok-row.ensures) in
    rw (lt-ltb t x.layout.settings.threads h.0, lt-ltb c.args.index x.layout.settings.hazards c.if-index-self.false, row_at x t r h.0, h.1) (ap Some c.at_or.ensures)
