use Rattle.std.proofs.Common.{◌∙◌, ap}
use Rattle.std.specs.Prelude.{position}
use Rattle.tables.specs.declared.thread.Thread.{Thread}
use Rattle.tables.proofs.RowAnswers.{first_inside}
use Rattle.tables.proofs.tables.Tables.inside.Goals as goal

pub returns : goal.returns
returns c = first_inside c.args.self.now c.first_inside.result (c.first_inside.ensures ∙ ap (position (λ (r : Thread). r.inside)) c.rows.ensures)
