use Rattle.std.proofs.Common.{true, [], length, replicate, refl, ap, arith}
use Rattle.immediate.specs.Immediate.{immediate}
use Rattle.immediate.proofs.ImmediateLands.{idle_queue}
use Rattle.memory.proofs.Passing.{exchange_passes}
use Rattle.memory.proofs.Sharing.{exchanged_lands}
use Rattle.immediate.proofs.calls.ImmediateMemory.exchange.Goals as goal

pub returns : goal.returns
returns c =
    let m = immediate c.args.self.now in
    let passes = exchange_passes c.args.thread c.args.cell m (omega (arith, c.in_ok-check_range.ensures)) (omega (arith, c.in_ok-check_range.ensures)) (ap length (idle_queue m refl c.args.thread)) in
    let does = c.exchange.ensures true (replicate 8 []) in
    record {
      call = record { passes = passes; does = exchanged_lands c.args.cell c.args.old c.args.new m _ c.exchange.result does };
      exact = record { passes = passes; does = does };
    }
