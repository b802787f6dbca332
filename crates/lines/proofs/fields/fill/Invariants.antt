use Rattle.std.proofs.Common.{◌≡◌, ◌-◌, true, length, take}
use Rattle.lines.specs.Text.{numbers}
use Rattle.lines.proofs.Cuts.{fields_left, numbers_with}
use Rattle.lines.proofs.fields.fill.Given as goal

-- the numbers found so far and the fields that are left give the numbers of the line; behind the last field nothing is left
abbrev pub invariant-loop-place : goal.invariant-loop-place
invariant-loop-place l = (length l.place-items ≡ l.place-index-end)
    × (l.fields.count ≡ l.place-index-end - l.place-index)
    × (l.fields.count ≡ 0 → l.fields.parts.done ≡ true)
    × (numbers l.limit l.place-index-end l.line ≡ numbers_with l.limit (l.place-index-end - l.place-index) (take l.place-index l.place-items) (fields_left l.fields.parts.done l.fields.parts.rest.now))
