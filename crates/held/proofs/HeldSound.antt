-- The ghost facts of a held memory are what `Sound` says of its meaning. Assumes nothing.
use Rattle.std.specs.Prelude.{◌≡◌, ℕ, ◌+◌, ◌<◌, ◌≤◌, false, List, [], ◌∷◌, ◌++◌, map, length, Some, None, Ok, Err, Option, Result, slice_index_or, slice_set, refl}
use Rattle.std.proofs.Common.{sym, ap, subst, ◌∙◌, arith}
use Rattle.std.specs.Option.{unwrap_or}
use Rattle.std.proofs.ByRecursion.{All-get_or}
use Rattle.std.proofs.lemmas.List.{length-map}
use Rattle.held.specs.declared.Held.{Held}
use Rattle.held.specs.declared.store_buffer.StoreBuffer.{StoreBuffer}
use Rattle.memory.specs.declared.refusal.Refusal.{Refusal}
use Rattle.memory.specs.declared.write.Write.{Write}
use Rattle.memory.specs.Calls.{Sound, Stores}
use Rattle.memory.specs.declared.shared_cells.SharedCells.{SharedCells}
use Rattle.memory.specs.SharedCells.{shared_with, clock_of}
use Rattle.held.specs.Held.{held}
use Rattle.memory.specs.Meaning.{Meaning, queue, cell, newest, value_or, loaded, with_cell, written, stored, landed}
use Rattle.held.specs.Queues.{DatesRise, DatesPast, InCells}
use Rattle.held.specs.StoreBuffer.{row, Pushes}
use Rattle.held.specs.SoundLaw.{nil, held_sound}
use Rattle.held.proofs.Rows.{queue_at, with_rows, push_stores, take_lands, same_rows}
use Rattle.memory.proofs.Passing.{store_passes, store_full}
use Rattle.memory.proofs.Soundness.{stored_sound, landed_sound}

-- What `Sound` says gives the ghost facts.
pub facts : (s : SharedCells) (bs : List StoreBuffer)
    → Sound (shared_with s false (map row bs))
    → record { threads : length bs ≡ 8; rises : DatesRise (map row bs); past : DatesPast (clock_of s) (map row bs); in_cells : InCells (map row bs) }
facts s bs sound = record { threads = sym (length-map bs row) ∙ sound.threads; rises = rises; past = past; in_cells = in_cells }
  where
    rises : DatesRise (map row bs)
    rises t i d lt = sound.rises t i (i + d) nil (omega arith) lt

    past : DatesPast (clock_of s) (map row bs)
    past t i lt = All-get_or (λ (w : Write). w.date ≤ clock_of s) (slice_index_or (map row bs) t []) i nil lt (sound.past t)

    in_cells : InCells (map row bs)
    in_cells t i lt = All-get_or (λ (w : Write). w.cell < 64) (slice_index_or (map row bs) t []) i nil lt (sound.in_cells t)

-- What waits for a thread, by its buffer.
pub held_queue : (h : Held) (t : ℕ) (d : StoreBuffer) → t < 8 → queue (held h) t ≡ row (slice_index_or h.buffers t d)
held_queue h t d lt = queue_at h.buffers t d (rw h.threads lt)

-- A store and a landing, as the code makes them: the buffer of t is taken out, changed to b and put back.
pub held_stores : (h : Held) (t c v : ℕ) (d b : StoreBuffer)
    → t < 8 → row b ≡ row (slice_index_or h.buffers t d) ++ written (held h) c v ∷ [] → with_rows (held h) (slice_set h.buffers t b) ≡ stored t c v (held h)
held_stores h t c v d b lt e = push_stores t c v (held h) h.buffers d b refl (rw h.threads lt) e

pub held_lands : (h : Held) (t : ℕ) (d b : StoreBuffer) (w : Write)
    → t < 8 → row (slice_index_or h.buffers t d) ≡ w ∷ row b → with_cell (with_rows (held h) (slice_set h.buffers t b)) w.cell w.value ≡ landed t (held h)
held_lands h t d b w lt e = take_lands t (held h) h.buffers d b w refl (rw h.threads lt) e

pub stores_sound : (h : Held) (t c v : ℕ) (d b : StoreBuffer)
    → t < 8 → c < 64 → length (row (slice_index_or h.buffers t d)) < 8 → row b ≡ row (slice_index_or h.buffers t d) ++ written (held h) c v ∷ [] → Sound (with_rows (held h) (slice_set h.buffers t b))
stores_sound h t c v d b lt inside few e = subst Sound (sym (held_stores h t c v d b lt e)) (stored_sound t c v (held h) lt inside (rw (held_queue h t d lt) few) (held_sound h))

-- The buffer of t as the code leaves it after a refusal: its row is the same, whatever stands behind it.
pub held_same : (h : Held) (t : ℕ) (d b : StoreBuffer)
    → t < 8 → row b ≡ row (slice_index_or h.buffers t d) → with_rows (held h) (slice_set h.buffers t b) ≡ held h
held_same h t d b lt e = same_rows t (held h) h.buffers d b refl e

pub same_sound : (h : Held) (t : ℕ) (d b : StoreBuffer)
    → t < 8 → row b ≡ row (slice_index_or h.buffers t d) → Sound (with_rows (held h) (slice_set h.buffers t b))
same_sound h t d b lt e = subst Sound (sym (held_same h t d b lt e)) (held_sound h)

-- after a push, whether it was refused or not
pub pushed_sound : (h : Held) (t c v : ℕ) (d b : StoreBuffer) (r : Result (Unit {0}) Refusal)
    → t < 8 → c < 64 → Pushes (written (held h) c v) (row (slice_index_or h.buffers t d)) (row b) r → Sound (with_rows (held h) (slice_set h.buffers t b))
pushed_sound h t c v d b (Ok u) lt inside p = stores_sound h t c v d b lt inside p.0 p.1
pushed_sound h t c v d b (Err e) lt inside p = same_sound h t d b lt p.2

pub pushed_stores : (L : Meaning → Meaning → Type 0) → ((m m' : Meaning) → m' ≡ m → L m m') → (h : Held) (t c v : ℕ) (d b : StoreBuffer) (r : Result (Unit {0}) Refusal)
    → t < 8 → c < 64 → Pushes (written (held h) c v) (row (slice_index_or h.buffers t d)) (row b) r → Stores L t c v (held h) (with_rows (held h) (slice_set h.buffers t b)) r
pushed_stores L same h t c v d b (Ok u) lt inside p =
    record { passes = store_passes t c (held h) lt inside (rw (held_queue h t d lt) p.0); does = same _ _ (held_stores h t c v d b lt p.1) }
pushed_stores L same h t c v d b (Err e) lt inside p =
    let waits = ap length (held_queue h t d lt) ∙ p.1 in
    record { fails = store_full t c (held h) lt inside (omega arith) ∙ ap Some (sym p.0); same = held_same h t d b lt p.2 }

pub lands_sound : (h : Held) (t : ℕ) (d b : StoreBuffer) (w : Write)
    → t < 8 → row (slice_index_or h.buffers t d) ≡ w ∷ row b → Sound (with_cell (with_rows (held h) (slice_set h.buffers t b)) w.cell w.value)
lands_sound h t d b w lt e = subst Sound (sym (held_lands h t d b w lt e)) (landed_sound t (held h) (held_sound h))

-- what a thread loads, by what its buffer answered
pub held_loads : (h : Held) (t c : ℕ) (d : StoreBuffer) (found : Option ℕ)
    → t < 8 → found ≡ newest (row (slice_index_or h.buffers t d)) c → unwrap_or found (cell (held h) c) ≡ loaded (held h) t c
unfolding loaded
held_loads h t c d found lt e = or found ∙ ap (λ (o : Option ℕ). value_or o (cell (held h) c)) (e ∙ ap (λ (q : List Write). newest q c) (sym (held_queue h t d lt)))
  where
    or : (o : Option ℕ) → unwrap_or o (cell (held h) c) ≡ value_or o (cell (held h) c)
    or None = refl
    or (Some v) = refl
