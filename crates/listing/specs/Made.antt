-- The machine that a first line names. Assumes nothing.
use Rattle.std.specs.Prelude.{◌≡◌, List, ℕ, Some, None, Option, Ok, Err, Result}
use Rattle.memory.specs.declared.refusal.Refusal.{Refusal}
use Rattle.memory.specs.declared.refusal.Refusal.TheVariants.{NotMade}
use Rattle.memory.specs.Meaning.{Meaning}
use Rattle.protocol.specs.declared.answer.Answer.{Answer}
use Rattle.protocol.specs.declared.call.Call.TheVariants.{SetUp}
use Rattle.protocol.specs.declared.settings.Settings.{Settings}
use Rattle.protocol.specs.Calls.{Performs, begun_over}
use Rattle.protocol.specs.Tables.{State}
use Rattle.listing.specs.declared.listing.Stage.{Stage}
use Rattle.listing.specs.Session.{Session, begun, running, shown}
use Rattle.listing.specs.Stages.{HoldsMachine, session_at}

-- the machine is begun new over the memory; refused where no memory can be made
abbrev pub Opened : Option Meaning → Result Stage Refusal → Type 0
Opened None (Err e) = e ≡ NotMade
Opened None (Ok st) = ⊥
Opened (Some m) (Err e) = ⊥
Opened (Some m) (Ok st) = HoldsMachine st × (session_at st ≡ running (begun_over m))

-- the machine of a session answers set-up, and these bytes show what it answers
abbrev pub SetsUp : Session → Settings → Session → List ℕ → Type 0
SetsUp begun z s' bs = ⊥
SetsUp (running x) z s' bs = (x' : State) × (s' ≡ running x') × (a : Answer) × Performs x x' (SetUp z) a × (bs ≡ shown a)
