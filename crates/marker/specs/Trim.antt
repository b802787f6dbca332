-- The line that stands before a newline. Assumes nothing.
use Rattle.std.specs.Prelude.{ℕ, ◌-◌, cond, ◌&&◌, List, length, take, ◌==◌, nat_lt, slice_index}

-- all bytes but the last, where the last is a newline, byte 10; else all bytes
abbrev pub without_newline : List ℕ → List ℕ
without_newline bs = cond (nat_lt 0 (length bs) && slice_index bs (length bs - 1) == 10) (take (length bs - 1) bs) bs
