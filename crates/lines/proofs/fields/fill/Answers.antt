use Rattle.std.proofs.Common.{length, rules, tests, arith}
use Rattle.std.proofs.lemmas.Grind.{common_steps}
use Rattle.lines.proofs.Cuts.{no_fields, part_no_number, part_put}
use Rattle.lines.proofs.fields.fill.Goals as goal

pub returns-then-is_empty : goal.returns-then-is_empty
returns-then-is_empty c = grind (arith, common_steps, no_fields)

pub returns-in_err-place : goal.returns-in_err-place
returns-in_err-place c =
    let none = part_no_number _ c.args.limit (length c.args.found.now) c.loop-place.place-index c.loop-place.place-items c.loop-place.fields c.next.new.self c.in_ok-next.field-0 c.in_ok-next.ensures.steps.1 (λ x b q k. search (rules, tests)) (omega arith) c.loop-place.invariant.1 in
    grind (arith, common_steps)

pub loop-place-preserved : goal.loop-place-preserved
loop-place-preserved c =
    let put = part_put _ c.args.limit (length c.args.found.now) c.loop-place.place-index c.loop-place.place-items c.loop-place.fields c.next.new.self c.in_ok-next.field-0 c.in_ok-next.ensures.steps.1 (λ x b q k. search (rules, tests)) (omega arith) c.loop-place.invariant.1 in
    grind (arith, common_steps)
