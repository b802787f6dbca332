-- The row of a store buffer, and a table of such rows. Assumes nothing.
use Rattle.std.specs.Prelude.{◌≡◌, ℕ, ◌<◌, Bool, true, false, cond, List, [], ◌∷◌, ◌++◌, map, reverse, length, get_or, set, Some, None, Option, ◌==◌, slice_index_or, slice_set, refl}
use Rattle.std.proofs.Common.{sym, ap, ◌∙◌}
use Rattle.std.specs.Option.{option_map, option_or}
use Rattle.std.specs.List.{find}
use Rattle.std.proofs.lemmas.List.{get_or-map, map-set, reverse-append}
use Rattle.std.proofs.Math.Seq.{map-set_same}
use Rattle.std.proofs.lemmas.List.Folds.{find-append}
use Rattle.held.specs.declared.store_buffer.StoreBuffer.{StoreBuffer}
use Rattle.memory.specs.declared.write.Write.{Write}
use Rattle.memory.specs.Meaning.{Meaning, queue, newest, newest_or, with_cell, written, stored, landed, landed_from}
use Rattle.held.specs.StoreBuffer.{row}

-- what a search for the newest finds is the first of the reversed writes that is for the cell
found_from : (found : Option ℕ) (ws : List Write) (c : ℕ) → newest_or found ws c ≡ option_or (option_map (λ (w : Write). w.value) (find (λ w. w.cell == c) (reverse ws))) found
found_from found [] c = refl
found_from found (w ∷ ws) c =
    let more : find (λ (x : Write). x.cell == c) (reverse (w ∷ ws)) ≡ option_or (find (λ x. x.cell == c) (reverse ws)) (cond (w.cell == c) (Some w) None) = ap (find (λ (x : Write). x.cell == c)) (reverse-append (w ∷ []) ws) ∙ find-append (λ x. x.cell == c) (reverse ws) (w ∷ []) in
    rw more (found_from (cond (w.cell == c) (Some w.value) found) ws c ∙ next (find (λ (x : Write). x.cell == c) (reverse ws)) (w.cell == c))
  where
    next : (x : Option Write) (b : Bool) → option_or (option_map (λ (y : Write). y.value) x) (cond b (Some w.value) found) ≡ option_or (option_map (λ (y : Write). y.value) (option_or x (cond b (Some w) None))) found
    next None true = refl
    next None false = refl
    next (Some x) b = refl

pub newest_first : (ws : List Write) (c : ℕ) → option_map (λ (w : Write). w.value) (find (λ w. w.cell == c) (reverse ws)) ≡ newest ws c
newest_first ws c = whole (option_map (λ (w : Write). w.value) (find (λ w. w.cell == c) (reverse ws))) ∙ sym (found_from None ws c)
  where
    whole : (o : Option ℕ) → o ≡ option_or o None
    whole None = refl
    whole (Some v) = refl

-- A table of store buffers, one for each thread: its rows are what waits.
pub queue_at : (bs : List StoreBuffer) (t : ℕ) (d : StoreBuffer) → t < length bs → slice_index_or (map row bs) t [] ≡ row (slice_index_or bs t d)
queue_at bs t d lt = get_or-map row bs t d [] lt

-- a meaning with other cells and other writes waiting, and one with the rows of other buffers
abbrev waits_with : Meaning → List ℕ → List (List Write) → Meaning
waits_with m cs q = record { clock = m.clock; cells = cs; bound = m.bound; self_landing = m.self_landing; waiting = q }

abbrev pub with_rows : Meaning → List StoreBuffer → Meaning
with_rows m bs = waits_with m m.cells (map row bs)

-- a push into the buffer of t is a store
pub push_stores : (t c v : ℕ) (m : Meaning) (bs : List StoreBuffer) (d b : StoreBuffer)
    → m.waiting ≡ map row bs → t < length bs → row b ≡ row (slice_index_or bs t d) ++ written m c v ∷ [] → with_rows m (slice_set bs t b) ≡ stored t c v m
unfolding stored
push_stores t c v m bs d b is lt e =
    let one : List Write = written m c v ∷ [] in
    let q : row b ≡ slice_index_or (map row bs) t [] ++ one = e ∙ ap (λ (ws : List Write). ws ++ one) (sym (queue_at bs t d lt)) in
    ap (waits_with m m.cells) (map-set row bs t b ∙ ap (set (map row bs) t) q ∙ ap (λ (qs : List (List Write)). set qs t (slice_index_or qs t [] ++ one)) (sym is))

-- a buffer of t with the same row changes nothing
pub same_rows : (t : ℕ) (m : Meaning) (bs : List StoreBuffer) (d b : StoreBuffer)
    → m.waiting ≡ map row bs → row b ≡ row (slice_index_or bs t d) → with_rows m (slice_set bs t b) ≡ m
same_rows t m bs d b is e =
    ap (waits_with m m.cells) (map-set_same row bs t b d e ∙ sym is)

-- the oldest write taken out of the buffer of t and put into its cell is a landing
pub take_lands : (t : ℕ) (m : Meaning) (bs : List StoreBuffer) (d b : StoreBuffer) (w : Write)
    → m.waiting ≡ map row bs → t < length bs → row (slice_index_or bs t d) ≡ w ∷ row b → with_cell (with_rows m (slice_set bs t b)) w.cell w.value ≡ landed t m
unfolding landed
take_lands t m bs d b w is lt e =
    let q : queue m t ≡ w ∷ row b = ap (λ (qs : List (List Write)). get_or qs t []) is ∙ queue_at bs t d lt ∙ e in
    ap (waits_with m (slice_set m.cells w.cell w.value)) (map-set row bs t b ∙ ap (λ (qs : List (List Write)). set qs t (row b)) (sym is)) ∙ sym (ap (landed_from t m) q)
