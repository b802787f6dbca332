use Rattle.std.proofs.Common.{◌<◌, false, length, map, set, sym, ap, subst, ◌∙◌, arith}
use Rattle.held.specs.Held.{held}
use Rattle.held.specs.StoreBuffer.{row}
use Rattle.held.proofs.HeldSound.{facts, held_queue, held_lands, held_same, lands_sound, same_sound}
use Rattle.memory.specs.Calls.{Sound}
use Rattle.memory.proofs.Passing.{land_passes, land_none}
use Rattle.memory.proofs.Views.{lands_same}
use Rattle.held.proofs.calls.HeldMemory.land.Goals as goal

-- where no write waits
pub invariant_of-self : goal.invariant_of-self
invariant_of-self c =
    let h = c.args.self.now in
    facts h.shared (set h.buffers c.args.thread c.take_oldest.new.self)
    (same_sound h c.args.thread c.index-buffers-thread.result c.take_oldest.new.self c.in_ok-check_thread.ensures (c.in_default.ensures.1 ∙ sym c.in_default.ensures.0))

pub returns-in_default : goal.returns-in_default
returns-in_default c =
    let h = c.args.self.now in
    let lt : c.args.thread < 8 = c.in_ok-check_thread.ensures in
    let none = ap length (held_queue h c.args.thread c.index-buffers-thread.result lt ∙ c.in_default.ensures.0) in
    let fails = land_none c.args.thread (held h) lt none in
    let same = held_same h c.args.thread c.index-buffers-thread.result c.take_oldest.new.self lt (c.in_default.ensures.1 ∙ sym c.in_default.ensures.0) in
    record { call = record { fails = fails; same = same }; exact = record { fails = fails; same = same } }

pub invariant_of-self-2 : goal.invariant_of-self-2
invariant_of-self-2 c =
    let h = c.args.self.now in
    let buffers = set h.buffers c.args.thread c.take_oldest.new.self in
    facts c.set.new.self buffers
    (subst Sound (sym (c.set.ensures false (map row buffers))) (lands_sound h c.args.thread c.index-buffers-thread.result c.take_oldest.new.self c.in-Some.write c.in_ok-check_thread.ensures c.in-Some.ensures))

pub returns : goal.returns
returns c =
    let h = c.args.self.now in
    let lt : c.args.thread < 8 = c.in_ok-check_thread.ensures in
    let waits = ap length (held_queue h c.args.thread c.index-buffers-thread.result lt ∙ c.in-Some.ensures) in
    let passes = land_passes c.args.thread (held h) lt (omega arith) in
    let buffers = set h.buffers c.args.thread c.take_oldest.new.self in
    let is = c.set.ensures false (map row buffers) ∙ held_lands h c.args.thread c.index-buffers-thread.result c.take_oldest.new.self c.in-Some.write lt c.in-Some.ensures in
    record { call = record { passes = passes; does = lands_same is }; exact = record { passes = passes; does = is } }
