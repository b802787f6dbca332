use Rattle.std.proofs.Common.{arith}
use Rattle.tables.specs.Rows.{states_of}
use Rattle.tables.specs.Threads.{row_of}
use Rattle.tables.proofs.FirstTables.{first_tables_lem}
use Rattle.tables.proofs.tables.Tables.first.Goals as goal

pub returns : goal.returns
returns c =
    let z = c.args.layout.settings in
    first_tables_lem z (row_of c.idle.result) (states_of c.repeat.result) c.args.layout.threads_high c.idle.ensures.row (grind (arith, c.repeat.ensures))
