-- The number and the value of each answer. Assumes nothing.
use Rattle.std.specs.Prelude.{ℕ}
use Rattle.protocol.specs.declared.answer.Answer.{Answer}
use Rattle.protocol.specs.declared.answer.Answer.TheVariants.{Done, GoingOn, Ended, Empty, Moved, Occupied, Refused}
use Rattle.protocol.specs.declared.answer.Refusal.{Refusal}
use Rattle.protocol.specs.declared.answer.Refusal.TheVariants.{AlreadySetUp, SettingsOutOfRange, MemoryNotNew, NotSetUp, CallsUsedUp, NoSuchThread, TickRefused, NothingWaiting, ThreadBusy, BadOperation, GuardOrNode, ListFull, WrongSide, ThreadIdle, BufferFull, WritesWaiting}

abbrev pub number_of : Refusal → ℕ
number_of AlreadySetUp = 11
number_of SettingsOutOfRange = 12
number_of MemoryNotNew = 13
number_of NotSetUp = 14
number_of CallsUsedUp = 15
number_of NoSuchThread = 16
number_of TickRefused = 17
number_of NothingWaiting = 18
number_of ThreadBusy = 19
number_of BadOperation = 20
number_of GuardOrNode = 21
number_of ListFull = 22
number_of WrongSide = 23
number_of ThreadIdle = 24
number_of BufferFull = 25
number_of WritesWaiting = 26

abbrev pub code_of : Answer → ℕ
code_of Done = 0
code_of (GoingOn n) = 1
code_of (Ended v) = 2
code_of Empty = 3
code_of Moved = 4
code_of (Occupied n) = 5
code_of (Refused e) = number_of e

abbrev pub value_of : Answer → ℕ
value_of Done = 0
value_of (GoingOn n) = n
value_of (Ended v) = v
value_of Empty = 0
value_of Moved = 0
value_of (Occupied n) = n
value_of (Refused e) = 0

-- by which an answer is printed
abbrev pub pair_of : Answer → ℕ × ℕ
pair_of a = (code_of a, value_of a)
