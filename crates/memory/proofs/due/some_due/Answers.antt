use Rattle.std.proofs.Common.{◌≡◌, true, false, refl, ap, rules}
use borrow.Author.Tests.{tests}
use Rattle.std.proofs.lemmas.Iterator.{cases_from_any, YieldsList-from_range}
use Rattle.std.specs.List.{range_with_len}
use Rattle.memory.specs.Meaning.{oldest_date, with_bound}
use Rattle.memory.proofs.DueDates.{late, late_due, thread_at}
use Rattle.memory.proofs.due.some_due.Goals as goal

pub returns : goal.returns
returns g c =
    let m = with_bound (g.M.Memory.meaning c.args.memory.now) c.args.bound in
    let sound = g.met.M.Memory.sound c.args.memory.now in
    late_due (range_with_len 0 8) (oldest_date m) m sound.rises sound.threads (λ t d lt. ap (oldest_date m) (thread_at t d lt)) c.any.result
    (cases_from_any _ _ _ (λ t. late m.bound m.clock (oldest_date m t) ≡ true) (λ t. late m.bound m.clock (oldest_date m t) ≡ false) c.any.ensures.ran (YieldsList-from_range 0 8 8 refl refl) (λ x q k. search (rules, tests)) (λ x q k. search (rules, tests)))
