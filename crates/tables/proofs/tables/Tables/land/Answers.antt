use Rattle.std.proofs.Common.{◌≡◌, Err, sym, ◌∙◌, rules, arith}
use Rattle.std.specs.Result.{result_or}
use Rattle.protocol.specs.declared.answer.Refusal.TheVariants.{NothingWaiting}
use Rattle.protocol.specs.Transition.{land_asks}
use Rattle.tables.specs.State.{tables_of}
use Rattle.tables.proofs.Admission.{exits, calls_used_up}
use Rattle.tables.proofs.MemoryMoves.{land_no_thread, land_done, land_refused}
use Rattle.tables.proofs.tables.Tables.land.Goals as goal

pub returns-in_err-calls_left : goal.returns-in_err-calls_left
returns-in_err-calls_left g c = exits _ _ c.from_residual.ensures.1 (calls_used_up (tables_of c.args.self.now) (land_asks c.args.thread (g.M.Memory.meaning c.args.memory.now)) _ c.in_err-calls_left.ensures)

pub returns-in_err-known : goal.returns-in_err-known
returns-in_err-known g c = exits _ _ c.from_residual-in_err-known.ensures.1 (land_no_thread (tables_of c.args.self.now) (g.M.Memory.meaning c.args.memory.now) c.args.thread _ c.in_ok-calls_left.ensures c.in_err-known.ensures)

pub returns-in_err-map_err : goal.returns-in_err-map_err
returns-in_err-map_err g c =
    let x = c.args.self.now in
    let high = x.layout.threads_high in
    let e : c.map_err.result ≡ result_or c.land.result (Err NothingWaiting) = search rules in
    land_refused (tables_of x) (g.M.Memory.meaning c.args.memory.now) (g.M.Memory.meaning c.land.new.self) c.args.thread c.in_ok-calls_left.ensures c.in_ok-known.ensures.0 (omega (arith, c.in_ok-known.ensures.0)) c.land.result _ _ c.land.ensures (sym c.in_err-map_err.was ∙ e) c.from_residual-in_err-map_err.ensures.1

pub returns : goal.returns
returns g c =
    let x = c.args.self.now in
    let high = x.layout.threads_high in
    let e : c.map_err.result ≡ result_or c.land.result (Err NothingWaiting) = search rules in
    land_done (tables_of x) (g.M.Memory.meaning c.args.memory.now) (g.M.Memory.meaning c.land.new.self) c.args.thread c.in_ok-calls_left.ensures c.in_ok-known.ensures.0 (omega (arith, c.in_ok-known.ensures.0)) c.land.result _ c.land.ensures (sym c.in_ok-map_err.was ∙ e)
