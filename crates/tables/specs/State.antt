-- What the tables mean, and a machine that has them. Assumes nothing.
use Rattle.std.specs.Prelude.{map, take, Some}
use Rattle.memory.specs.Meaning.{Meaning}
use Rattle.protocol.specs.Tables.{Tables as Table, State}
use Rattle.tables.specs.declared.tables.Tables.{Tables}
use Rattle.tables.specs.Rows.{states_of}
use Rattle.tables.specs.Threads.{row_of}

abbrev pub tables_of : Tables → Table
tables_of x =
    record {
      settings = x.layout.settings;
      threads = take x.layout.settings.threads (map row_of x.threads);
      nodes = states_of x.nodes;
      accepted = x.accepted;
    }

-- a machine that is set up, over a memory with this meaning
abbrev pub running : Tables → Meaning → State
running x m = record { tables = Some (tables_of x); memory = m }
