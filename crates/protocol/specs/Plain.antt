-- What the values of code that speak of requests, of what the memory told and of operations mean. Assumes nothing.
use Rattle.protocol.specs.declared.doing.Doing.{Doing as PlainDoing}
use Rattle.protocol.specs.declared.doing.Doing.TheVariants.{Nothing as PlainNothing, Busy}
use Rattle.protocol.specs.declared.request.Request.{Request as PlainRequest}
use Rattle.protocol.specs.declared.request.Request.TheVariants.{Load, Store, Exchange, Clock, Fence, Nothing}
use Rattle.protocol.specs.declared.told.Told.{Told as PlainTold}
use Rattle.protocol.specs.declared.told.Told.TheVariants.{Nothing as ToldNothing, Clock as ToldClock, Value, Done}
use Rattle.protocol.specs.Steps.{Request, asks_load, asks_store, asks_exchange, asks_clock, asks_fence, asks_nothing, Told, told_nothing, told_clock, told_value, told_done}
use Rattle.protocol.specs.Tables.{Doing, nothing, busy}

abbrev pub request_of : PlainRequest → Request
request_of (Load c) = asks_load c
request_of (Store c v) = asks_store c v
request_of (Exchange c old new) = asks_exchange c old new
request_of Clock = asks_clock
request_of Fence = asks_fence
request_of Nothing = asks_nothing

abbrev pub told_of : PlainTold → Told
told_of ToldNothing = told_nothing
told_of (ToldClock n) = told_clock n
told_of (Value v) = told_value v
told_of (Done b) = told_done b

abbrev pub doing_of : PlainDoing → Doing
doing_of PlainNothing = nothing
doing_of (Busy o n) = busy o n
