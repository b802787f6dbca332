-- What asking the memory for a step's request gives. Assumes nothing.
use Rattle.std.specs.Prelude.{◌≡◌, ℕ, ◌<◌, Some, None, Ok, Err, Result}
use Rattle.memory.specs.Checks.{first_no}
use Rattle.memory.specs.Meaning.{Meaning}
use Rattle.protocol.specs.declared.answer.Answer.{Answer}
use Rattle.protocol.specs.declared.answer.Answer.TheVariants.{Refused}
use Rattle.protocol.specs.declared.answer.Refusal.{Refusal}
use Rattle.protocol.specs.declared.call.Call.TheVariants.{Begin}
use Rattle.protocol.specs.declared.operation.Operation.{Operation}
use Rattle.protocol.specs.declared.request.Request.{Request as PlainRequest}
use Rattle.protocol.specs.declared.told.Told.{Told}
use Rattle.protocol.specs.Begin.{named}
use Rattle.protocol.specs.Plain.{request_of, told_of}
use Rattle.protocol.specs.Steps.{Request, asks_load, asks_store, asks_exchange, asks_clock, asks_fence, asks_nothing}
use Rattle.protocol.specs.Tables.{State}
use Rattle.protocol.specs.Transition.{checks_of, request_checks, Meets}

-- the request is for a cell that there is
abbrev pub InCells : Request → Type 0
InCells (asks_load c) = c < 64
InCells (asks_store c v) = c < 64
InCells (asks_exchange c old new) = c < 64
InCells asks_clock = Unit {0}
InCells asks_fence = Unit {0}
InCells asks_nothing = Unit {0}

abbrev pub Asked : ℕ → PlainRequest → Meaning → Meaning → Result Told Refusal → Type 0
Asked t q m m' (Ok k) = (first_no (request_checks t m (request_of q)) ≡ None) × Meets t (request_of q) m m' (told_of k)
Asked t q m m' (Err e) = (first_no (request_checks t m (request_of q)) ≡ Some e) × (m' ≡ m)

-- the machine's answer where a part of it gives an answer or a refusal
abbrev pub answer_of : Result Answer Refusal → Answer
answer_of (Ok a) = a
answer_of (Err e) = Refused e

-- a begin that passes every check, and the operation that it gives
pub record Admitted (s : State) (t n a b : ℕ) (o : Operation) : Type 0 where
  pub passes : first_no (checks_of (Begin t n a b) s) ≡ None
  pub is : named n a b ≡ Some o

-- the operation that a begin gives the thread, where every check passes; else the first that fails
abbrev pub Admits : State → (t n a b : ℕ) → Result Operation Refusal → Type 0
Admits s t n a b (Ok o) = Admitted s t n a b o
Admits s t n a b (Err e) = first_no (checks_of (Begin t n a b) s) ≡ Some e
