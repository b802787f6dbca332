use Rattle.std.proofs.Common.{◌∙◌, eqb, refl, rules, tests}
use Rattle.std.proofs.lemmas.Iterator.{YieldsList-from_range}
use Rattle.std.proofs.lemmas.Iterator.Search.{all_from_yields_List}
use Rattle.memory.specs.Meaning.{waiting_count}
use Rattle.memory.proofs.Emptiness.{all_waiting}
use Rattle.memory.proofs.newness.nothing_waits.Goals as goal

pub returns : goal.returns
returns g c =
    let m = g.M.Memory.meaning c.args.memory.now in
    all_from_yields_List (λ t. eqb (waiting_count m t) 0) _ _ _ c.all.ensures.ran (YieldsList-from_range 0 8 8 refl refl) (λ x b q k. search (rules, tests)) ∙ all_waiting m (g.met.M.Memory.sound c.args.memory.now).threads
