use Rattle.std.proofs.Common.{◌≡◌, ℕ, min, replicate, ap, ◌∙◌, arith}
use Rattle.std.proofs.lemmas.List.{take-replicate}
use Rattle.dated.specs.FixedRow.{entries_of}
use Rattle.dated.proofs.fixed_row.FixedRow.repeat.Goals as goal

pub returns : goal.returns
unfolding entries_of
returns g c =
    let len : c.min.result ≡ min c.args.len g.row.N = omega arith in
    take-replicate c.min.result g.row.N c.args.entry (omega arith) ∙ ap (λ (n : ℕ). replicate n c.args.entry) len
