use Rattle.std.proofs.Common.{◌≡◌, true, false, ap, arith, rules}
use borrow.Author.Tests.{tests}
use Rattle.std.proofs.lemmas.List.{length-map}
use Rattle.std.proofs.lemmas.Iterator.{cases_from_any, YieldsList-from_slice}
use Rattle.held.specs.Held.{held}
use Rattle.held.specs.SoundLaw.{held_sound}
use Rattle.held.specs.StoreBuffer.{row}
use Rattle.held.proofs.HeldSound.{held_queue}
use Rattle.memory.specs.Meaning.{date_of_first}
use Rattle.memory.proofs.DueDates.{late, late_due}
use Rattle.held.proofs.Held.some_due.Goals as goal

pub returns : goal.returns
returns c =
    let h = c.args.self.now in
    let sound = held_sound h in
    late_due h.buffers (λ b. date_of_first (row b)) (held h) sound.rises (length-map h.buffers row) (λ t d lt. ap date_of_first (held_queue h t d (omega arith))) c.any.result
    (cases_from_any _ _ _ (λ b. late h.shared.bound h.shared.clock (date_of_first (row b)) ≡ true) (λ b. late h.shared.bound h.shared.clock (date_of_first (row b)) ≡ false) c.any.ensures.ran (YieldsList-from_slice h.buffers cc) (λ x q k. search (rules, tests)) (λ x q k. search (rules, tests)))
