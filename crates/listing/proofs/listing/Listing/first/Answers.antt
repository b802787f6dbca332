use Rattle.std.proofs.Common.{◌≡◌, ℕ, List, Some, None, Option, Ok, sym}
use Rattle.memory.specs.Meaning.{Meaning}
use Rattle.protocol.specs.Tables.{State}
use Rattle.lines.specs.declared.head.Head.{Head}
use Rattle.listing.specs.declared.listing.Stage.{Stage}
use Rattle.listing.specs.Made.{Opened, SetsUp}
use Rattle.listing.specs.Session.{Session, Opens, memory_in, running}
use Rattle.listing.specs.Stages.{session_at}
use Rattle.listing.proofs.listing.Listing.first.Goals as goal

opens : (h : Head) (m : Option Meaning) (st : Stage) (s' : Session) (bs : List ℕ) → Opened m (Ok st) → SetsUp (session_at st) h.settings s' bs → (x : State) × (s' ≡ running x) × Opens h m x bs
opens h None st s' bs w u = absurd w
opens h (Some m) st s' bs w u = let v = rw w.1 at u in (v.0, v.1, (v.2, v.3, v.4))

pub returns-in-Ok : goal.returns-in-Ok
returns-in-Ok c =
    let head = c.in-Some.head in
    rw (sym c.in-Some.ensures) (opens head (memory_in head) c.in-Ok.stage _ _ c.in-Ok.ensures c.set_up.ensures)
