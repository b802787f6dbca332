use Rattle.std.proofs.Common.{◌<◌, false, map, arith}
use Rattle.held.specs.Held.{held}
use Rattle.held.specs.SoundLaw.{held_sound}
use Rattle.held.specs.StoreBuffer.{row}
use Rattle.held.proofs.HeldSound.{facts}
use Rattle.memory.proofs.Passing.{exchange_passes}
use Rattle.memory.proofs.Sharing.{exchanged_lands, exchange_sound}
use Rattle.held.proofs.calls.HeldMemory.exchange.Goals as goal

pub invariant_of-self : goal.invariant_of-self
invariant_of-self c =
    let h = c.args.self.now in
    facts c.exchange.new.self h.buffers
    (exchange_sound c.args.cell c.args.old c.args.new (held h) _ c.exchange.result (c.exchange.ensures false (map row h.buffers)) (held_sound h))

pub returns : goal.returns
returns c =
    let h = c.args.self.now in
    let lt : c.args.thread < 8 = c.in_ok-check_range.ensures.0 in
    let passes = exchange_passes c.args.thread c.args.cell (held h) lt c.in_ok-check_range.ensures.1 (omega arith) in
    let does = c.exchange.ensures false (map row h.buffers) in
    record {
      call = record { passes = passes; does = exchanged_lands c.args.cell c.args.old c.args.new (held h) _ c.exchange.result does };
      exact = record { passes = passes; does = does };
    }
