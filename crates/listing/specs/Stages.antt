-- The session that a stage stands for. Assumes nothing.
use Rattle.held.specs.Held.{held}
use Rattle.immediate.specs.Immediate.{immediate}
use Rattle.quiescing.specs.Quiescing.{quiescing}
use Rattle.machine.specs.State.{state}
use Rattle.listing.specs.declared.listing.Listing.{Listing}
use Rattle.listing.specs.declared.listing.Stage.{Stage}
use Rattle.listing.specs.declared.listing.Stage.TheVariants.{Begun, Failed, Held, Immediate, Quiescing}
use Rattle.listing.specs.Session.{Session, begun, never, running}

-- where the first line failed, later lines find a machine that is not set up
abbrev pub session_at : Stage → Session
session_at Begun = begun
session_at Failed = running never
session_at (Held m) = running (state held m)
session_at (Immediate m) = running (state immediate m)
session_at (Quiescing m) = running (state (quiescing held) m)

abbrev pub session_of : Listing → Session
session_of l = session_at l.stage

-- a machine was begun
abbrev pub HoldsMachine : Stage → Type 0
HoldsMachine Begun = ⊥
HoldsMachine Failed = ⊥
HoldsMachine (Held m) = Unit {0}
HoldsMachine (Immediate m) = Unit {0}
HoldsMachine (Quiescing m) = Unit {0}
