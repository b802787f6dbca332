-- The writes that a memory lands by itself. Assumes nothing.
use Rattle.std.specs.Prelude.{◌≡◌, ℕ, false, List, [], ◌∷◌}
use Rattle.memory.specs.declared.write.Write.{Write}
use Rattle.memory.specs.Meaning.{Meaning, queue, landed}

-- a write of a thread that has reached its cell
pub record Landing : Type 0 where
  pub thread : ℕ
  pub write : Write

-- these landings, one after another, lead from m to m'; each is its thread's oldest waiting write
abbrev pub LandsAs : List Landing → Meaning → Meaning → Type 0
LandsAs [] m m' = m' ≡ m
LandsAs (l ∷ ls) m m' = (queue m l.thread ≡ l.write ∷ queue (landed l.thread m) l.thread) × LandsAs ls (landed l.thread m) m'

-- m' is m after some landings of the memory's own, in any order of threads: none, unless the memory is self-landing
pub record Lands (m m' : Meaning) : Type 0 where
  pub landings : List Landing
  pub lead : LandsAs landings m m'
  pub none : m.self_landing ≡ false → landings ≡ []
