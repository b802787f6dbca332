use Rattle.std.proofs.Common.{rules}
use Rattle.tables.proofs.BeginMoves.{all_passed, failed, idle_asks, known_asks, named_asks, passed, unnamed}
use Rattle.tables.proofs.tables.Tables.admitted.Goals as goal

pub returns-in_err-check : goal.returns-in_err-check
returns-in_err-check c =
    failed _ (known_asks c.args.self.now c.in_ok-calls_left.ensures c.in_ok-row.ensures) c.is_idle.ensures c.in_err-check.ensures c.from_residual-in_err-check.ensures.1

pub returns-in_err-operation : goal.returns-in_err-operation
returns-in_err-operation c =
    unnamed _ (idle_asks c.args.self.now c.in_ok-calls_left.ensures c.in_ok-row.ensures c.is_idle.ensures c.in_ok-check.ensures) c.named.ensures c.in_err-operation.ensures.value c.from_residual-in_err-operation.ensures.1

pub returns-in_err-check-2 : goal.returns-in_err-check-2
returns-in_err-check-2 c =
    failed _ (named_asks c.args.self.now c.in_ok-calls_left.ensures c.in_ok-row.ensures c.is_idle.ensures c.in_ok-check.ensures c.named.ensures c.in_ok-operation.ensures.value) c.fits.ensures c.in_err-check-2.ensures c.from_residual-in_err-check-2.ensures.1

pub returns-in_err-check-3 : goal.returns-in_err-check-3
returns-in_err-check-3 c =
    failed _ (passed (named_asks c.args.self.now c.in_ok-calls_left.ensures c.in_ok-row.ensures c.is_idle.ensures c.in_ok-check.ensures c.named.ensures c.in_ok-operation.ensures.value) c.fits.ensures c.in_ok-check-2.ensures) c.ready.ensures c.in_err-check-3.ensures c.from_residual-in_err-check-3.ensures.1

pub returns-in_err-check-4 : goal.returns-in_err-check-4
returns-in_err-check-4 c =
    failed _ (passed (passed (named_asks c.args.self.now c.in_ok-calls_left.ensures c.in_ok-row.ensures c.is_idle.ensures c.in_ok-check.ensures c.named.ensures c.in_ok-operation.ensures.value) c.fits.ensures c.in_ok-check-2.ensures) c.ready.ensures c.in_ok-check-3.ensures) c.roomy.ensures c.in_err-check-4.ensures c.from_residual-in_err-check-4.ensures.1

pub returns-in_err-check-5 : goal.returns-in_err-check-5
returns-in_err-check-5 c =
    failed _ (passed (passed (passed (named_asks c.args.self.now c.in_ok-calls_left.ensures c.in_ok-row.ensures c.is_idle.ensures c.in_ok-check.ensures c.named.ensures c.in_ok-operation.ensures.value) c.fits.ensures c.in_ok-check-2.ensures) c.ready.ensures c.in_ok-check-3.ensures) c.roomy.ensures c.in_ok-check-4.ensures) c.sided.ensures c.in_err-check-5.ensures c.from_residual-in_err-check-5.ensures.1

pub returns : goal.returns
returns c =
    all_passed (passed (passed (passed (passed (named_asks c.args.self.now c.in_ok-calls_left.ensures c.in_ok-row.ensures c.is_idle.ensures c.in_ok-check.ensures c.named.ensures c.in_ok-operation.ensures.value) c.fits.ensures c.in_ok-check-2.ensures) c.ready.ensures c.in_ok-check-3.ensures) c.roomy.ensures c.in_ok-check-4.ensures) c.sided.ensures c.in_ok-check-5.ensures) (search rules)
