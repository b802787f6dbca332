use Rattle.std.proofs.Common.{◌≡◌, Err, sym, ◌∙◌, rules}
use Rattle.std.specs.Result.{result_or}
use Rattle.protocol.specs.declared.answer.Refusal.TheVariants.{TickRefused}
use Rattle.protocol.specs.Transition.{tick_asks}
use Rattle.tables.specs.State.{tables_of}
use Rattle.tables.proofs.Admission.{exits, calls_used_up}
use Rattle.tables.proofs.MemoryMoves.{tick_done, tick_refused}
use Rattle.tables.proofs.tables.Tables.tick.Goals as goal

pub returns-in_err-calls_left : goal.returns-in_err-calls_left
returns-in_err-calls_left g c = exits _ _ c.from_residual.ensures.1 (calls_used_up (tables_of c.args.self.now) (λ x. tick_asks (g.M.Memory.meaning c.args.memory.now)) _ c.in_err-calls_left.ensures)

pub returns-in_err-map_err : goal.returns-in_err-map_err
returns-in_err-map_err g c =
    let e : c.map_err.result ≡ result_or c.tick.result (Err TickRefused) = search rules in
    tick_refused (tables_of c.args.self.now) (g.M.Memory.meaning c.args.memory.now) (g.M.Memory.meaning c.tick.new.self) c.in_ok-calls_left.ensures c.tick.result _ _ c.tick.ensures (sym c.in_err-map_err.was ∙ e) c.from_residual-in_err-map_err.ensures.1

pub returns : goal.returns
returns g c =
    let e : c.map_err.result ≡ result_or c.tick.result (Err TickRefused) = search rules in
    tick_done (tables_of c.args.self.now) (g.M.Memory.meaning c.args.memory.now) (g.M.Memory.meaning c.tick.new.self) c.in_ok-calls_left.ensures c.tick.result _ c.tick.ensures (sym c.in_ok-map_err.was ∙ e)
