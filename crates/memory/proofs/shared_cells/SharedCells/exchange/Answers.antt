use Rattle.std.proofs.Common.{◌≡◌, true, false, eqb, sym, refl, ◌∙◌}
use Rattle.std.proofs.lemmas.Bool.{eq-eqb, ne_eqb}
use Rattle.memory.specs.Meaning.{cell, exchanged}
use Rattle.memory.specs.SharedCells.{shared_with}
use Rattle.memory.proofs.Views.{exchanged_none}
use Rattle.memory.proofs.shared_cells.SharedCells.exchange.Goals as goal

pub returns-then-get-old : goal.returns-then-get-old
returns-then-get-old c lands waiting =
    let m = shared_with c.args.self.now lands waiting in
    let other : eqb (cell m c.args.cell) c.args.old ≡ false = ne_eqb _ _ (λ e. c.if-get-old.true (c.get.ensures ∙ e)) in
    record { between = m; lands = refl; answer = sym other; is = sym (exchanged_none c.args.cell c.args.old c.args.new m other) }

pub returns : goal.returns
unfolding exchanged
returns c lands waiting =
    let m = shared_with c.args.self.now lands waiting in
    let same : eqb (cell m c.args.cell) c.args.old ≡ true = eq-eqb _ _ (sym c.get.ensures ∙ c.if-get-old.false) in
    record { between = m; lands = refl; answer = sym same; is = rw same (c.set.ensures lands waiting) }
