use Rattle.std.proofs.Common.{sym, refl, ◌∙◌, rules}
use Rattle.immediate.specs.Immediate.{immediate}
use Rattle.immediate.proofs.ImmediateLands.{idle_loaded}
use Rattle.memory.proofs.Views.{lands_none}
use Rattle.immediate.proofs.calls.ImmediateMemory.load.Goals as goal

pub returns : goal.returns
returns c =
    let value = c.get.ensures ∙ sym (idle_loaded (immediate c.args.self.now) refl c.args.thread c.args.cell) in
    record {
      call = record { passes = search rules; does = record { lands = lands_none _; value = value } };
      exact = record { passes = search rules; does = record { lands = refl; value = value } };
    }
