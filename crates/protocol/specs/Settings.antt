-- The ranges of the settings, and which cell is which. Assumes nothing.
use Rattle.std.specs.Prelude.{ℕ, ◌+◌, ◌*◌, Bool, ◌&&◌, nat_le, nat_lt}
use Rattle.protocol.specs.declared.settings.Settings.{Settings}

-- all hazard cells of the machine
abbrev pub hazard_cells : Settings → ℕ
hazard_cells s = s.threads * s.hazards

abbrev pub within : ℕ → ℕ → ℕ → Bool
within low high n = nat_le low n && nat_le n high

abbrev pub in_range : Settings → Bool
in_range s = within 2 8 s.threads && (within 1 4 s.hazards && (within 1 8 s.roots && (within 1 64 s.nodes && (nat_lt (hazard_cells s) s.places && nat_le s.places 48))))

-- the cells: roots, then the hazard cells thread by thread, then the lock L, flag0 and flag1
abbrev pub root_cell : Settings → ℕ → ℕ
root_cell s r = r

abbrev pub hazard_cell : Settings → ℕ → ℕ → ℕ
hazard_cell s t i = s.roots + (s.hazards * t + i)

abbrev pub lock_cell : Settings → ℕ
lock_cell s = s.roots + hazard_cells s

abbrev pub flag0_cell : Settings → ℕ
flag0_cell s = s.roots + (hazard_cells s + 1)

abbrev pub flag1_cell : Settings → ℕ
flag1_cell s = s.roots + (hazard_cells s + 2)
