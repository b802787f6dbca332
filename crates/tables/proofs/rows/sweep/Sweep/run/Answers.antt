use Rattle.std.proofs.Common.{refl, ◌≡◌, ◌+◌, ◌∙◌, Bool, List, length, filter, not, arith}
use Rattle.std.proofs.lemmas.List.Filters.{length-filter_both}
use Rattle.protocol.specs.declared.retired.Retired.{Retired}
use Rattle.protocol.specs.Steps.{keeps}
use Rattle.tables.specs.Rows.{list_of, loaded_of}
use Rattle.tables.proofs.rows.sweep.Sweep.run.Goals as goal

-- each listed node is kept or freed
parts : (k : Retired → Bool) (list listed left : List Retired) → listed ≡ list → left ≡ filter k list → length left + length (filter (λ x. not (k x)) list) ≡ length listed
parts k list listed left e f = rw (e, f) (length-filter_both k (λ x. not (k x)) (λ x. refl) list)

pub overflow_sub-result : goal.overflow_sub-result
overflow_sub-result c =
    let s = c.args.self.now in
    omega (arith, parts (keeps s.bound s.clock (loaded_of s.loaded)) (list_of c.args.list.now) _ _ c.as_slice-listed.ensures.entries (c.as_slice.ensures.entries ∙ c.keep.ensures.row))

pub returns-clause-number : goal.returns-clause-number
returns-clause-number c =
    let s = c.args.self.now in
    omega (arith, parts (keeps s.bound s.clock (loaded_of s.loaded)) (list_of c.args.list.now) _ _ c.as_slice-listed.ensures.entries (c.as_slice.ensures.entries ∙ c.keep.ensures.row))
