use Rattle.std.proofs.Common.{◌≤◌}
use Rattle.litmus.proofs.test.both_zero_orders.Given as goal

-- at most every order so far
abbrev pub invariant-loop-order : goal.invariant-loop-order
invariant-loop-order l = l.both ≤ l.order-index
