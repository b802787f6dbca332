-- Every thread's row fits the settings, by index, so that a ghost field can state it. Assumes nothing.
use Rattle.std.specs.Prelude.{◌≡◌, ℕ, ◌<◌, true, List, length, slice_index_or}
use Rattle.protocol.specs.declared.settings.Settings.{Settings}
use Rattle.tables.specs.declared.thread.Thread.{Thread}
use Rattle.tables.specs.Threads.{fitting}

abbrev pub Fitting : Settings → List Thread → Type 0
Fitting z ts = (d : Thread) (t : ℕ) → t < length ts → fitting z (slice_index_or ts t d) ≡ true
