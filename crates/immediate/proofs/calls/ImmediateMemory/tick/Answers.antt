use Rattle.std.proofs.Common.{true, false, [], replicate, refl}
use Rattle.immediate.specs.Immediate.{immediate}
use Rattle.immediate.proofs.ImmediateLands.{idle_due}
use Rattle.memory.specs.Calls.{Stays}
use Rattle.memory.specs.Landings.{Lands}
use Rattle.memory.proofs.Sharing.{shared_ticks}
use Rattle.memory.proofs.Views.{lands_none}
use Rattle.immediate.proofs.calls.ImmediateMemory.tick.Goals as goal

pub returns : goal.returns
returns c =
    let m = immediate c.args.self.now in
    let ticks = c.tick.ensures true (replicate 8 []) in
    record {
      call = shared_ticks Lands lands_none false m _ c.tick.result (idle_due m refl) refl ticks;
      exact = shared_ticks Stays (λ m. refl) false m _ c.tick.result (idle_due m refl) refl ticks;
    }
