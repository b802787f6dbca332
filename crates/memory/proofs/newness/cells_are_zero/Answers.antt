use Rattle.std.proofs.Common.{◌≡◌, true, ℕ, eqb, sym, arith, below_more}
use Rattle.std.proofs.lemmas.List.Elements.{All-from_get_or}
use Rattle.std.proofs.lemmas.List.Folds.{list_all_at}
use Rattle.std.proofs.lemmas.List.Sums.{list_all-from_AllPass}
use Rattle.std.proofs.lemmas.Bool.{eqb-true, eq-eqb}
use Rattle.memory.specs.Meaning.{cell}
use Rattle.memory.proofs.Emptiness.{cell_told}
use Rattle.memory.proofs.newness.cells_are_zero.Goals as goal

pub loop-cell-preserved : goal.loop-cell-preserved
loop-cell-preserved g c =
    let h = cell_told _ c.loop-cell.cell _ _ _ c.load.result _ (omega arith) c.loop-cell.invariant.0 c.requires c.load.ensures c.if-ne.ensures in
    (h.0, below_more (λ k. cell (g.M.Memory.meaning c.args.memory.now) k ≡ 0) c.loop-cell.cell c.loop-cell.invariant.1 (eqb-true _ 0 h.1))

pub returns-then-ne : goal.returns-then-ne
returns-then-ne g c =
    let long = (g.met.M.Memory.sound c.args.memory.now).cells in
    let h = cell_told _ c.loop-cell.cell _ _ _ c.load.result _ (omega arith) c.loop-cell.invariant.0 c.requires c.load.ensures c.if-ne.ensures in
    record { answer = sym (list_all_at (λ (v : ℕ). eqb v 0) (g.M.Memory.meaning c.args.memory.now).cells c.loop-cell.cell 0 (omega arith) h.1); same = h.0 }

pub returns : goal.returns
returns g c =
    let long = (g.met.M.Memory.sound c.args.memory.now).cells in
    record {
      answer = sym (list_all-from_AllPass (λ (v : ℕ). eqb v 0) (g.M.Memory.meaning c.args.memory.now).cells (All-from_get_or (λ v. eqb v 0 ≡ true) _ 0 (λ k lt. eq-eqb _ _ (c.loop-cell.invariant.1 k (omega arith)))));
      same = c.loop-cell.invariant.0;
    }
