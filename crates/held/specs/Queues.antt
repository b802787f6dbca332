-- What `Sound` says of the waiting writes, by index, so that a ghost field can state it. Assumes nothing.
use Rattle.std.specs.Prelude.{ℕ, ◌+◌, ◌<◌, ◌≤◌, List, [], length, slice_index_or}
use Rattle.memory.specs.declared.write.Write.{Write}

-- the write at i of thread t
abbrev pub write_at : List (List Write) → ℕ → ℕ → Write
write_at qs t i = slice_index_or (slice_index_or qs t []) i (record { cell = 0; value = 0; date = 0 })

abbrev pub waits : List (List Write) → ℕ → ℕ
waits qs t = length (slice_index_or qs t [])

-- the dates of a thread's writes never fall
abbrev pub DatesRise : List (List Write) → Type 0
DatesRise qs = (t i d : ℕ) → i + d < waits qs t → (write_at qs t i).date ≤ (write_at qs t (i + d)).date

-- no write was stored after the clock
abbrev pub DatesPast : ℕ → List (List Write) → Type 0
DatesPast clock qs = (t i : ℕ) → i < waits qs t → (write_at qs t i).date ≤ clock

-- every write is for a cell that there is
abbrev pub InCells : List (List Write) → Type 0
InCells qs = (t i : ℕ) → i < waits qs t → (write_at qs t i).cell < 64
