use Rattle.std.proofs.Common.{refl, ap, arith, ◌∙◌, rules}
use Rattle.std.specs.Option.{unwrap_or}
use Rattle.held.proofs.HeldSound.{held_loads}
use Rattle.memory.proofs.Views.{lands_none}
use Rattle.held.proofs.calls.HeldMemory.load.Goals as goal

pub returns : goal.returns
returns c =
    let value = c.unwrap_or.ensures ∙ ap (unwrap_or c.newest.result) c.get.ensures ∙ held_loads c.args.self.now c.args.thread c.args.cell c.index-self-thread.result c.newest.result (omega arith) c.newest.ensures in
    record {
      call = record { passes = search rules; does = record { lands = lands_none _; value = value } };
      exact = record { passes = search rules; does = record { lands = refl; value = value } };
    }
