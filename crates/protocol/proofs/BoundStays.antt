-- No transition changes the memory's bound, and none turns its clock back. Assumes nothing.
use Rattle.std.proofs.Common.{◌≡◌, ℕ, ◌≤◌, Bool, true, false, eqb, refl, ◌∙◌, arith}
use Rattle.memory.specs.Landings.{Lands}
use Rattle.memory.specs.Meaning.{Meaning, cell, stored, landed, exchanged, ticked}
use Rattle.memory.proofs.Views.{lands_fixed, lands_clock, landed_fixed, landed_clock, exchanged_puts, exchanged_none, ticked_moves}
use Rattle.protocol.specs.declared.answer.Answer.{Answer}
use Rattle.protocol.specs.declared.call.Call.{Call}
use Rattle.protocol.specs.Steps.{Request, asks_load, asks_store, asks_exchange, asks_clock, asks_fence, asks_nothing, Told, request}
use Rattle.protocol.specs.Tables.{State, thread_of}
use Rattle.protocol.specs.Transition.{Meets, Trans, refuses, sets_up, ticks, lands, begins, steps, here}

-- m' may come after m
pub record Onward (m m' : Meaning) : Type 0 where
  pub bound : m'.bound ≡ m.bound
  pub clock : m.clock ≤ m'.clock

onward_same : {m m' : Meaning} → m' ≡ m → Onward m m'
onward_same e = rw e (record { bound = refl; clock = omega arith })

onward_trans : {l m n : Meaning} → Onward l m → Onward m n → Onward l n
onward_trans a b = record { bound = b.bound ∙ a.bound; clock = omega arith }

onward_lands : {m m' : Meaning} → Lands m m' → Onward m m'
onward_lands l = let e = lands_clock l in record { bound = (lands_fixed l).bound; clock = omega arith }

pub onward_landed : (t : ℕ) (m : Meaning) → Onward m (landed t m)
onward_landed t m = let e = landed_clock t m in record { bound = (landed_fixed t m).bound; clock = omega arith }

pub onward_stored : (t c v : ℕ) (m : Meaning) → Onward m (stored t c v m)
unfolding stored
onward_stored t c v m = record { bound = refl; clock = omega arith }

pub onward_exchanged : (c old new : ℕ) (m : Meaning) → Onward m (exchanged c old new m)
onward_exchanged c old new m = go (eqb (cell m c) old) refl
  where
    go : (b : Bool) → eqb (cell m c) old ≡ b → Onward m (exchanged c old new m)
    go true e = let p = exchanged_puts c old new m e in let f = p.clock in record { bound = p.fixed.bound; clock = omega arith }
    go false e = onward_same (exchanged_none c old new m e)

pub onward_ticked : (m : Meaning) → Onward m (ticked m)
onward_ticked m = let p = ticked_moves m in let f = p.clock in record { bound = p.fixed.bound; clock = omega arith }

pub meets_onward : (t : ℕ) (q : Request) (m m' : Meaning) (k : Told) → Meets t q m m' k → Onward m m'
meets_onward t (asks_load c) m m' k x = onward_lands x.2.lands
meets_onward t (asks_store c v) m m' k x = onward_trans (onward_stored t c v m) (onward_lands x.1)
meets_onward t (asks_exchange c old new) m m' k x =
    onward_trans (onward_lands x.2.lands) (rw x.2.is (onward_exchanged c old new x.2.between))
meets_onward t asks_clock m m' k x = onward_same x.1
meets_onward t asks_fence m m' k x = onward_same x.1
meets_onward t asks_nothing m m' k x = onward_same x.1

pub onward : (s s' : State) {c : Call} {a : Answer} {k : Told} → Trans s s' c a k → Onward s.memory s'.memory
onward s s' (refuses f e) = rw e (onward_same refl)
onward s s' (sets_up f e g) = onward_same e
onward s s' (ticks e f w) = onward_trans (onward_lands w.memory.lands) (rw w.memory.is (onward_ticked w.memory.between))
onward s s' (lands {t} e f w) = onward_trans (onward_landed t s.memory) (onward_lands w.memory)
onward s s' (begins e g f w) = onward_same w.memory
onward s s' (steps {t} {x} {a} {k} e f w) = meets_onward t (request (here x s.memory t) (thread_of x t).point) s.memory s'.memory k w.memory

pub bound_stays : (s s' : State) {c : Call} {a : Answer} {k : Told} → Trans s s' c a k → s'.memory.bound ≡ s.memory.bound
bound_stays s s' x = (onward s s' x).bound

pub clock_grows : (s s' : State) {c : Call} {a : Answer} {k : Told} → Trans s s' c a k → s.memory.clock ≤ s'.memory.clock
clock_grows s s' x = (onward s s' x).clock
