use Rattle.std.proofs.Common.{false, map, sym, refl, ap, not}
use Rattle.held.specs.Held.{held}
use Rattle.held.specs.SoundLaw.{held_sound}
use Rattle.held.specs.StoreBuffer.{row}
use Rattle.held.proofs.HeldSound.{facts}
use Rattle.memory.specs.Calls.{Stays}
use Rattle.memory.specs.Landings.{Lands}
use Rattle.memory.proofs.Sharing.{shared_ticks, tick_sound}
use Rattle.memory.proofs.Views.{lands_none}
use Rattle.held.proofs.calls.HeldMemory.tick.Goals as goal

pub invariant_of-self : goal.invariant_of-self
invariant_of-self c =
    let h = c.args.self.now in
    facts c.tick.new.self h.buffers (tick_sound c.some_due-write_due.result (held h) _ c.tick.result (c.tick.ensures false (map row h.buffers)) (held_sound h))

pub returns : goal.returns
returns c =
    let h = c.args.self.now in
    let m = held h in
    let due_is = sym c.some_due-write_due.ensures in
    let ticks = c.tick.ensures false (map row h.buffers) in
    record {
      call = shared_ticks Lands lands_none c.some_due-write_due.result m _ c.tick.result due_is (ap not due_is) ticks;
      exact = shared_ticks Stays (λ m. refl) c.some_due-write_due.result m _ c.tick.result due_is (ap not due_is) ticks;
    }
