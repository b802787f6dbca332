use Rattle.std.proofs.Common.{◌<◌, set, arith}
use Rattle.memory.specs.Calls.{Stays}
use Rattle.memory.specs.Landings.{Lands}
use Rattle.held.proofs.HeldSound.{facts, pushed_sound, pushed_stores}
use Rattle.memory.proofs.Views.{lands_same}
use Rattle.held.proofs.calls.HeldMemory.store.Goals as goal

pub invariant_of-self : goal.invariant_of-self
invariant_of-self c =
    let h = c.args.self.now in
    let pushed = rw c.clock.ensures at c.push.ensures in
    facts h.shared (set h.buffers c.args.thread c.push.new.self)
    (pushed_sound h c.args.thread c.args.cell c.args.value c.index-buffers-thread.result c.push.new.self c.push.result (omega arith) (omega arith) pushed)

pub returns : goal.returns
returns c =
    let h = c.args.self.now in
    let pushed = rw c.clock.ensures at c.push.ensures in
    let t = c.args.thread in
    let lt : t < 8 = omega arith in
    let inside : c.args.cell < 64 = omega arith in
    record {
      call = pushed_stores Lands (λ m m' e. lands_same e) h t c.args.cell c.args.value c.index-buffers-thread.result c.push.new.self c.push.result lt inside pushed;
      exact = pushed_stores Stays (λ m m' e. e) h t c.args.cell c.args.value c.index-buffers-thread.result c.push.new.self c.push.result lt inside pushed;
    }
