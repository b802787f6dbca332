use Rattle.std.proofs.Common.{◌<◌, true, [], replicate, sym, refl, ◌∙◌, rules}
use Rattle.immediate.specs.Immediate.{immediate}
use Rattle.immediate.proofs.ImmediateLands.{lands_own, store_lands}
use Rattle.immediate.proofs.calls.ImmediateMemory.store.Goals as goal

pub returns : goal.returns
returns c =
    let m = immediate c.args.self.now in
    let lt : c.args.thread < 8 = c.in_ok-check_range.ensures.0 in
    let is = c.set.ensures true (replicate 8 []) in
    record {
      call = record { passes = search rules; does = lands_own c.args.thread c.args.cell c.args.value m _ lt refl refl is };
      exact = record { passes = search rules; does = is ∙ sym (store_lands c.args.thread c.args.cell c.args.value m lt refl) };
    }
