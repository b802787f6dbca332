-- The law `sound` of the held memory: its ghost facts are what `Sound` says of its meaning. Assumes nothing.
use Rattle.std.specs.Prelude.{◌≡◌, ℕ, zero, suc, ◌+◌, ◌-◌, ◌<◌, ◌≤◌, List, [], ◌∷◌, map, length, get_or, slice_index_or}
use Rattle.std.proofs.Common.{◌∙◌, arith}
use Rattle.std.specs.List.Sorted.{IsNonDecreasingBy}
use Rattle.std.proofs.ByRecursion.{All-from_get_or}
use Rattle.std.proofs.lemmas.List.{length-map, get_or_default}
use Rattle.dated.proofs.FixedRows.{entries_length}
use Rattle.held.specs.declared.Held.{Held}
use Rattle.held.specs.declared.store_buffer.StoreBuffer.{StoreBuffer}
use Rattle.memory.specs.declared.write.Write.{Write}
use Rattle.memory.specs.Calls.{Sound}
use Rattle.held.specs.Held.{held}
use Rattle.held.specs.Queues.{write_at, DatesRise}
use Rattle.held.specs.StoreBuffer.{row}

-- what a read past the end would give
abbrev pub nil : Write
nil = record { cell = 0; value = 0; date = 0 }

pub row_length : (b : StoreBuffer) → length (row b) ≡ b.writes.len
row_length b = entries_length b.writes

-- no row is longer than a buffer
pub rows_room : (bs : List StoreBuffer) (t : ℕ) → length (slice_index_or (map row bs) t []) ≤ 8
rows_room [] t = omega arith
rows_room (b ∷ bs) zero = rw (row_length b) b.writes.within
rows_room (b ∷ bs) (suc t) = rows_room bs t

-- From the facts by index.
rises_by : (qs : List (List Write)) → DatesRise qs → (t : ℕ) → IsNonDecreasingBy (λ (w : Write). w.date) (slice_index_or qs t [])
rises_by qs h t i j d le lt =
    let back : i + (j - i) ≡ j = omega arith in
    let ups : (write_at qs t i).date ≤ (write_at qs t (i + (j - i))).date = h t i (j - i) (rw back lt) in
    let a : write_at qs t i ≡ get_or (slice_index_or qs t []) i d = get_or_default (slice_index_or qs t []) i nil d (omega arith) in
    let b : write_at qs t j ≡ get_or (slice_index_or qs t []) j d = get_or_default (slice_index_or qs t []) j nil d lt in
    simp (a, b) at (rw back at ups)

pub held_sound : (h : Held) → Sound (held h)
held_sound h =
    record {
      cells = h.shared.places;
      threads = length-map h.buffers row ∙ h.threads;
      bound_low = h.shared.bound_low;
      bound_high = h.shared.bound_high;
      clock_end = h.shared.clock_end;
      room = rows_room h.buffers;
      in_cells = λ t. All-from_get_or (λ (w : Write). w.cell < 64) (slice_index_or (map row h.buffers) t []) nil (h.in_cells t);
      rises = rises_by (map row h.buffers) h.rises;
      past = λ t. All-from_get_or (λ (w : Write). w.date ≤ h.shared.clock) (slice_index_or (map row h.buffers) t []) nil (h.past t);
    }
