use Rattle.std.proofs.Common.{rules}
use Rattle.machine.specs.State.{state}
use Rattle.machine.proofs.SetUp.{set_up_again, set_up_range, set_up_old, set_up_done}
use Rattle.machine.proofs.machine.Machine.set_up.Goals as goal

pub returns-then-is_some : goal.returns-then-is_some
returns-then-is_some g c = set_up_again _ _ (search rules)

pub returns-in_default : goal.returns-in_default
returns-in_default g c = set_up_range _ _ (search rules) (search rules)

pub returns-then-not-is_new : goal.returns-then-not-is_new
returns-then-not-is_new g c = search (rules, set_up_old (state g.M.Memory.meaning c.args.self.now) c.args.settings (search rules) (search rules) (search rules))

pub returns : goal.returns
returns g c = set_up_done _ _ _ (search rules) (search rules) (search rules) (search rules) (search rules)
