-- What a memory means, and what each action does to it. Code and proofs above this file read a meaning only through the
-- projections `clock`, `bound`, `self_landing`, `queue` and `cell`, so that it can gain fields. Assumes nothing.
use Rattle.std.specs.Prelude.{ℕ, ◌+◌, Bool, cond, ◌&&◌, List, [], ◌∷◌, ◌++◌, length, replicate, Some, None, Option, ◌==◌, nat_eq, nat_le, slice_index, slice_index_or, slice_set}
use Rattle.std.specs.List.{list_any, list_all}
use Rattle.memory.specs.declared.write.Write.{Write}

pub record Meaning : Type 0 where
  pub clock : ℕ
  pub cells : List ℕ
  -- how long a write may wait, fixed for life
  pub bound : ℕ
  -- whether the memory may land writes by itself, fixed for life
  pub self_landing : Bool
  -- the waiting writes of each thread, oldest first
  pub waiting : List (List Write)

abbrev pub queue : Meaning → ℕ → List Write
queue m t = slice_index_or m.waiting t []

abbrev pub cell : Meaning → ℕ → ℕ
cell m c = slice_index m.cells c

abbrev pub waiting_count : Meaning → ℕ → ℕ
waiting_count m t = length (queue m t)

abbrev pub date_of_first : List Write → Option ℕ
date_of_first [] = None
date_of_first (w ∷ ws) = Some w.date

abbrev pub oldest_date : Meaning → ℕ → Option ℕ
oldest_date m t = date_of_first (queue m t)

-- a memory in which nothing has happened
abbrev pub fresh : ℕ → Bool → Meaning
fresh b s = record { clock = 0; cells = replicate 64 0; bound = b; self_landing = s; waiting = replicate 8 [] }

-- the only three places that change a meaning
abbrev pub with_queue : Meaning → ℕ → List Write → Meaning
with_queue m t q =
    record {
      clock = m.clock;
      cells = m.cells;
      bound = m.bound;
      self_landing = m.self_landing;
      waiting = slice_set m.waiting t q;
    }

abbrev pub with_cell : Meaning → ℕ → ℕ → Meaning
with_cell m c v =
    record {
      clock = m.clock;
      cells = slice_set m.cells c v;
      bound = m.bound;
      self_landing = m.self_landing;
      waiting = m.waiting;
    }

abbrev pub with_clock : Meaning → ℕ → Meaning
with_clock m n =
    record {
      clock = n;
      cells = m.cells;
      bound = m.bound;
      self_landing = m.self_landing;
      waiting = m.waiting;
    }

-- the same with another bound, for what a layer with a smaller one asks
abbrev pub with_bound : Meaning → ℕ → Meaning
with_bound m b =
    record {
      clock = m.clock;
      cells = m.cells;
      bound = b;
      self_landing = m.self_landing;
      waiting = m.waiting;
    }

-- the newest value for the cell among the writes, which are oldest first; `found` stands where none is for it
abbrev pub newest_or : Option ℕ → List Write → ℕ → Option ℕ
newest_or found [] c = found
newest_or found (w ∷ ws) c = newest_or (cond (w.cell == c) (Some w.value) found) ws c

abbrev pub newest : List Write → ℕ → Option ℕ
newest ws c = newest_or None ws c

abbrev pub value_or : Option ℕ → ℕ → ℕ
value_or None d = d
value_or (Some v) d = v

-- what the thread loads: its own newest waiting value for the cell, else the cell
unfoldable pub loaded : Meaning → ℕ → ℕ → ℕ
loaded m t c = value_or (newest (queue m t) c) (cell m c)

-- a write that is stored now
abbrev pub written : Meaning → ℕ → ℕ → Write
written m c v = record { cell = c; value = v; date = m.clock }

unfoldable pub stored : ℕ → ℕ → ℕ → Meaning → Meaning
stored t c v m = with_queue m t (queue m t ++ written m c v ∷ [])

abbrev pub landed_from : ℕ → Meaning → List Write → Meaning
landed_from t m [] = m
landed_from t m (w ∷ ws) = with_cell (with_queue m t ws) w.cell w.value

-- the thread's oldest waiting write has reached its cell
unfoldable pub landed : ℕ → Meaning → Meaning
landed t m = landed_from t m (queue m t)

-- the new value has gone into the cell, if it held the old one
unfoldable pub exchanged : ℕ → ℕ → ℕ → Meaning → Meaning
exchanged c old new m = cond (cell m c == old) (with_cell m c new) m

unfoldable pub ticked : Meaning → Meaning
ticked m = with_clock m (m.clock + 1)

-- std's word, under the name by which crates above say it
abbrev pub any_of : {X : Type 0} → (X → Bool) → List X → Bool
any_of p xs = list_any p xs

-- a write has waited as long as the bound allows
abbrev pub is_due : Meaning → Write → Bool
is_due m w = nat_le (w.date + m.bound) m.clock

-- some waiting write has
abbrev pub due : Meaning → Bool
due m = list_any (list_any (is_due m)) m.waiting

abbrev pub nothing_waits : Meaning → Bool
nothing_waits m = list_all (λ ws. nat_eq (length ws) 0) m.waiting

abbrev pub cells_are_zero : Meaning → Bool
cells_are_zero m = list_all (λ v. nat_eq v 0) m.cells

-- the clock is 0, nothing waits and every cell is 0
abbrev pub is_new : Meaning → Bool
is_new m = m.clock == 0 && (nothing_waits m && cells_are_zero m)
