use Rattle.std.proofs.Common.{◌≡◌, Bool, false, Ok, not, refl, ap, ◌∙◌, arith, length-set}
use Rattle.protocol.specs.declared.answer.Refusal.TheVariants.{ThreadIdle}
use Rattle.protocol.specs.Plain.{request_of, told_of}
use Rattle.protocol.specs.Transition.{step_asks}
use Rattle.tables.specs.Rows.{states_of}
use Rattle.tables.specs.State.{tables_of}
use Rattle.tables.specs.Threads.{row_of}
use Rattle.tables.proofs.Admission.{checked, exits, calls_used_up, idle_refused, step_no_thread, said_no, said_yes}
use Rattle.tables.proofs.StepMoves.{fits_settings, in_cells, row_is, step_refused, step_done}
use Rattle.tables.proofs.ThreadTable.{fitting_set}
use Rattle.tables.proofs.tables.Tables.step.Goals as goal

busy : (i j : Bool) (u : Unit {0}) → i ≡ j → Ok u ≡ checked (not i) ThreadIdle → j ≡ false
busy i j u same h = let no = said_yes _ _ _ _ (ap not same) h in grind (arith, no)

pub returns-in_err-calls_left : goal.returns-in_err-calls_left
returns-in_err-calls_left g c = exits _ _ c.from_residual.ensures.1 (calls_used_up (tables_of c.args.self.now) (step_asks c.args.thread (g.M.Memory.meaning c.args.memory.now)) _ c.in_err-calls_left.ensures)

pub returns-in_err-row : goal.returns-in_err-row
returns-in_err-row g c = exits _ _ c.from_residual-in_err-row.ensures.1 (step_no_thread (tables_of c.args.self.now) (g.M.Memory.meaning c.args.memory.now) c.args.thread _ c.in_ok-calls_left.ensures c.in_err-row.ensures)

pub returns-in_err-check : goal.returns-in_err-check
returns-in_err-check g c =
    let x = c.args.self.now in
    let m = g.M.Memory.meaning c.args.memory.now in
    let no = said_no _ _ _ _ (ap not c.is_idle.ensures) c.in_err-check.ensures in
    exits _ _ c.from_residual-in_err-check.ensures.1 (idle_refused (tables_of x) m c.args.thread (row_of c.in_ok-row.row.now) (row_is x m c.args.thread m.bound c.in_ok-row.row.now c.in_ok-calls_left.ensures c.in_ok-row.ensures refl) (grind (arith, no.0)) c.in_ok-calls_left.ensures c.in_ok-row.ensures.0 ∙ no.1)

pub request-requires : goal.request-requires
request-requires g c = fits_settings c.args.self.now (g.M.Memory.meaning c.args.memory.now) c.args.thread c.bound.result c.in_ok-row.row.now c.in_ok-calls_left.ensures c.in_ok-row.ensures c.bound.ensures

pub ask-requires : goal.ask-requires
ask-requires g c =
    let high = c.args.self.now.layout.threads_high in
    (omega (arith, c.in_ok-row.ensures.0), in_cells c.args.self.now (g.M.Memory.meaning c.args.memory.now) c.args.thread c.bound.result c.in_ok-row.row.now c.in_ok-calls_left.ensures c.in_ok-row.ensures c.bound.ensures (request_of c.request.result) (c.request.ensures (states_of c.args.self.now.nodes)))

pub returns-in_err-told : goal.returns-in_err-told
returns-in_err-told g c =
    let h = c.in_err-told.ensures in
    step_refused c.args.self.now (g.M.Memory.meaning c.args.memory.now) c.args.thread c.bound.result c.in_ok-row.row.now c.in_ok-calls_left.ensures c.in_ok-row.ensures c.bound.ensures
    (busy _ _ _ c.is_idle.ensures c.in_ok-check.ensures) (request_of c.request.result) c.request.ensures (g.M.Memory.meaning c.ask.new.memory) _ _ c.from_residual-in_err-told.ensures.1 h.0 h.1

pub invariant_of-self : goal.invariant_of-self
invariant_of-self g c =
    let x = c.args.self.now in
    record { eight = length-set x.threads c.args.thread _ ∙ x.eight; fit = fitting_set x.layout.settings x.threads c.args.thread _ x.fit c.advance-answer.ensures.fits }

pub returns : goal.returns
returns g c =
    let h = c.in_ok-told.ensures in
    step_done c.args.self.now (g.M.Memory.meaning c.args.memory.now) c.args.thread c.bound.result c.in_ok-row.row.now c.in_ok-calls_left.ensures c.in_ok-row.ensures c.bound.ensures
    (busy _ _ _ c.is_idle.ensures c.in_ok-check.ensures) (request_of c.request.result) c.request.ensures (g.M.Memory.meaning c.ask.new.memory) c.index-threads-thread.result _ c.advance-answer.new.nodes c.advance-answer.result (told_of c.in_ok-told.told)
    h.0 h.1 c.advance-answer.ensures.outcome
