use Rattle.std.proofs.Common.{ap, ◌∙◌, arith, length-set, rules}
use Rattle.tables.specs.Rows.{states_of}
use Rattle.tables.specs.Threads.{fitting}
use Rattle.tables.proofs.Admission.{exits}
use Rattle.tables.proofs.BeginMoves.{begin_done, granted}
use Rattle.tables.proofs.ThreadTable.{fitting_set}
use Rattle.tables.proofs.tables.Tables.begin.Goals as goal

pub returns-in_err-operation : goal.returns-in_err-operation
returns-in_err-operation c m = exits _ _ c.from_residual.ensures.1 (c.in_err-operation.ensures m)

pub offset_bounds-threads-thread : goal.offset_bounds-threads-thread
offset_bounds-threads-thread c =
    let p = granted c.args.self.now c.in_ok-operation.ensures in
    search rules

pub listed : goal.listed
listed c = (granted c.args.self.now c.in_ok-operation.ensures).listed

pub bounds-threads-thread : goal.bounds-threads-thread
bounds-threads-thread c = (granted c.args.self.now c.in_ok-operation.ensures).low

pub overflow_add-self : goal.overflow_add-self
overflow_add-self c =
    let p = granted c.args.self.now c.in_ok-operation.ensures in
    omega (arith, p.few)

pub invariant_of-self : goal.invariant_of-self
invariant_of-self c =
    let x = c.args.self.now in
    let t = c.args.thread in
    let z = x.layout.settings in
    let p = granted c.args.self.now c.in_ok-operation.ensures in
    record { eight = length-set x.threads t _ ∙ x.eight; fit = fitting_set z x.threads t _ x.fit (ap (fitting z) c.begin.ensures ∙ p.fits c.index-threads-thread.result) }

pub returns : goal.returns
returns c m = begin_done c.args.self.now c.in_ok-operation.ensures m c.index-threads-thread.result _ (states_of c.take.new.nodes) c.begin.ensures c.take.ensures
