-- Runs over a memory that lands nothing by itself: there each call is a function of the state. Assumes nothing.
use Rattle.std.specs.Prelude.{ℕ, false, List, [], ◌∷◌, Some, None, Option, ◌==◌}
use Rattle.memory.specs.Checks.{first_no}
use Rattle.memory.specs.Meaning.{Meaning, cell, fresh, loaded, stored, landed, exchanged, ticked}
use Rattle.protocol.specs.declared.answer.Answer.{Answer}
use Rattle.protocol.specs.declared.answer.Answer.TheVariants.{Refused}
use Rattle.protocol.specs.declared.answer.Answer as Answer
use Rattle.protocol.specs.declared.answer.Refusal.{Refusal}
use Rattle.protocol.specs.declared.call.Call.{Call}
use Rattle.protocol.specs.declared.call.Call.TheVariants.{SetUp, Tick, Land, Begin, Step}
use Rattle.protocol.specs.declared.operation.Operation.{Operation}
use Rattle.protocol.specs.Begin.{named, begun}
use Rattle.protocol.specs.Codes.{code_of, value_of}
use Rattle.protocol.specs.History.{Event, event}
use Rattle.protocol.specs.Steps.{Request, asks_load, asks_store, asks_exchange, asks_clock, asks_fence, asks_nothing, Told, told_nothing, told_clock, told_value, told_done, request, after}
use Rattle.protocol.specs.Tables.{Tables, State, thread_of, first_tables}
use Rattle.protocol.specs.Transition.{checks_of, here, counted, stepped}

-- what the memory tells, and what it means afterwards
abbrev pub held_told : ℕ → Meaning → Request → Told
held_told t m (asks_load c) = told_value (loaded m t c)
held_told t m (asks_store c v) = told_nothing
held_told t m (asks_exchange c old new) = told_done (cell m c == old)
held_told t m asks_clock = told_clock m.clock
held_told t m asks_fence = told_nothing
held_told t m asks_nothing = told_nothing

abbrev pub held_after : ℕ → Meaning → Request → Meaning
held_after t m (asks_load c) = m
held_after t m (asks_store c v) = stored t c v m
held_after t m (asks_exchange c old new) = exchanged c old new m
held_after t m asks_clock = m
held_after t m asks_fence = m
held_after t m asks_nothing = m

abbrev pub with_tables : Tables → Meaning → State
with_tables x m = record { tables = Some (counted x); memory = m }

abbrev pub began_as : Option Operation → Tables → ℕ → Tables
began_as None x t = x
began_as (Some o) x t = begun x t o

-- what an accepted call answers, what the memory tells in it, and the state it leaves
pub record Done : Type 0 where
  pub answer : Answer
  pub told : Told
  pub state : State

abbrev pub plainly : State → Done
plainly s = record { answer = Answer.TheVariants.Done; told = told_nothing; state = s }

abbrev pub steps_to : ℕ → Tables → Meaning → Request → Done
steps_to t x m q =
    record {
      answer = (after (here x m t) (thread_of x t).point (held_told t m q)).answer;
      told = held_told t m q;
      state = with_tables (stepped x t (after (here x m t) (thread_of x t).point (held_told t m q))) (held_after t m q);
    }

abbrev pub does : Call → Option Tables → State → Done
does (SetUp z) o s = plainly (record { tables = Some (first_tables z); memory = s.memory })
does Tick None s = plainly s
does Tick (Some x) s = plainly (with_tables x (ticked s.memory))
does (Land t) None s = plainly s
does (Land t) (Some x) s = plainly (with_tables x (landed t s.memory))
does (Begin t o a b) None s = plainly s
does (Begin t o a b) (Some x) s = plainly (with_tables (began_as (named o a b) x t) s.memory)
does (Step t) None s = plainly s
does (Step t) (Some x) s = steps_to t x s.memory (request (here x s.memory t) (thread_of x t).point)

abbrev pub decided : Option Refusal → Call → State → Done
decided (Some e) c s = record { answer = Refused e; told = told_nothing; state = s }
decided None c s = does c s.tables s

abbrev pub performs : State → Call → Done
performs s c = decided (first_no (checks_of c s)) c s

-- a machine begun new over a new memory with this bound
abbrev pub begun_new : ℕ → State
begun_new bound = record { tables = None; memory = fresh bound false }

-- the state and the history, newest first, after a list of calls
abbrev pub state_after : State → List Call → State
state_after s [] = s
state_after s (c ∷ cs) = state_after (performs s c).state cs

abbrev pub history_after : State → List Event → List Call → List Event
history_after s h [] = h
history_after s h (c ∷ cs) = history_after (performs s c).state (event c (performs s c).answer (performs s c).told ∷ h) cs

-- codes and values, in the order of the calls
abbrev pub answers_from : State → List Call → List (ℕ × ℕ)
answers_from s [] = []
answers_from s (c ∷ cs) = (code_of (performs s c).answer, value_of (performs s c).answer) ∷ answers_from (performs s c).state cs
