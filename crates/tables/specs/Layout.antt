-- The settings of a layout, and the cells of the lock's flags. Assumes nothing.
use Rattle.std.specs.Prelude.{ℕ, Some, None, Option}
use Rattle.protocol.specs.declared.settings.Settings.{Settings}
use Rattle.protocol.specs.Settings.{flag0_cell, flag1_cell}
use Rattle.tables.specs.declared.layout.Layout.{Layout}
use Rattle.tables.specs.declared.layout.cells.Flag.{Flag}
use Rattle.tables.specs.declared.layout.cells.Flag.TheVariants.{Owner, Others}

abbrev pub layout_settings : Layout → Settings
layout_settings l = l.settings

abbrev pub settings_of : Option Layout → Option Settings
settings_of None = None
settings_of (Some l) = Some (layout_settings l)

abbrev pub flag_cell : Settings → Flag → ℕ
flag_cell s Owner = flag0_cell s
flag_cell s Others = flag1_cell s
