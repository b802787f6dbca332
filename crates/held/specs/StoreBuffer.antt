-- What a store buffer means, and what its calls do. Assumes nothing.
use Rattle.std.specs.Prelude.{◌≡◌, ◌<◌, List, [], ◌∷◌, ◌++◌, length, Ok, Err, Result}
use Rattle.dated.specs.FixedRow.{entries_of}
use Rattle.held.specs.declared.store_buffer.StoreBuffer.{StoreBuffer}
use Rattle.memory.specs.declared.refusal.Refusal.{Refusal}
use Rattle.memory.specs.declared.refusal.Refusal.TheVariants.{BufferFull}
use Rattle.memory.specs.declared.write.Write.{Write}

-- the waiting writes, oldest first
abbrev pub row : StoreBuffer → List Write
row b = entries_of b.writes

-- a write goes behind those that wait, while fewer than 8 do
abbrev pub Pushes : Write → List Write → List Write → Result (Unit {0}) Refusal → Type 0
Pushes w ws ws' (Ok _) = (length ws < 8) × (ws' ≡ ws ++ w ∷ [])
Pushes w ws ws' (Err e) = (e ≡ BufferFull) × (length ws ≡ 8) × (ws' ≡ ws)
