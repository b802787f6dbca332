-- What each line of a listing prints, and what it leaves. Assumes nothing.
use Rattle.std.specs.Prelude.{◌≡◌, ℕ, min, true, false, cond, ◌&&◌, List, Some, None, Option, ◌==◌}
use Rattle.memory.specs.Checks.{limit_in_range}
use Rattle.memory.specs.Meaning.{Meaning, fresh}
use Rattle.protocol.specs.declared.answer.Answer.{Answer}
use Rattle.protocol.specs.declared.call.Call.{Call}
use Rattle.protocol.specs.declared.call.Call.TheVariants.{SetUp}
use Rattle.protocol.specs.Calls.{Performs, begun_over}
use Rattle.protocol.specs.Codes.{code_of, value_of}
use Rattle.protocol.specs.Tables.{State}
use Rattle.lines.specs.declared.head.Head.{Head}
use Rattle.lines.specs.Input.{call_in, head_in}
use Rattle.lines.specs.Output.{printed}

-- before the first line, and with a machine
pub data Session : Type 0 where
  begun : Session
  running : (s : State) → Session

-- a line that is malformed
abbrev pub malformed : List ℕ
malformed = printed 38 0

-- a memory that cannot be made
abbrev pub unmade : List ℕ
unmade = printed 7 0

abbrev pub shown : Answer → List ℕ
shown a = printed (code_of a) (value_of a)

-- the memory that a first line names: 1 held, 2 immediate, 3 a quiescing layer with the limit over held; none where the number, the
-- bound or the limit is out of range
abbrev pub memory_in : Head → Option Meaning
memory_in h =
    cond (h.memory == 1) (cond (h.limit == 0 && limit_in_range h.bound) (Some (fresh h.bound false)) None)
    (cond (h.memory == 2) (cond (h.limit == 0 && limit_in_range h.bound) (Some (fresh h.bound true)) None)
    (cond (h.memory == 3) (cond (limit_in_range h.bound && limit_in_range h.limit) (Some (fresh (min h.limit h.bound) true)) None)
    None))

-- a machine that no line can set up
abbrev pub never : State
never = begun_over (fresh 1 false)

-- the first line: the machine is set up over the memory
abbrev pub Opens : Head → Option Meaning → State → List ℕ → Type 0
Opens h None x bs = (x ≡ never) × (bs ≡ unmade)
Opens h (Some m) x bs = (a : Answer) × Performs (begun_over m) x (SetUp h.settings) a × (bs ≡ shown a)

abbrev pub First : Option Head → State → List ℕ → Type 0
First None x bs = (x ≡ never) × (bs ≡ malformed)
First (Some h) x bs = Opens h (memory_in h) x bs

-- a later line: the machine is called
abbrev pub Responds : Option Call → State → State → List ℕ → Type 0
Responds None x x' bs = (x' ≡ x) × (bs ≡ malformed)
Responds (Some c) x x' bs = (a : Answer) × Performs x x' c a × (bs ≡ shown a)

-- the line prints these bytes and leads from s to s'
abbrev pub Prints : Session → List ℕ → Session → List ℕ → Type 0
Prints begun line s' bs = (x : State) × (s' ≡ running x) × First (head_in line) x bs
Prints (running s) line s' bs = (x : State) × (s' ≡ running x) × Responds (call_in line) s x bs
