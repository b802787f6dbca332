use Rattle.std.proofs.Common.{◌≡◌, ◌<◌, min, arith}
use Rattle.quiescing.proofs.Draining.{quiet_ticks}
use Rattle.quiescing.proofs.calls.QuiescingMemory.tick.Goals as goal

pub returns : goal.returns
returns g c =
    let m = g.M.Memory.meaning in
    let below = c.args.self.now.below in
    let early : (m below).clock < 1000000 = omega arith in
    let smaller : c.bound-bound.result ≡ min c.args.self.now.limit (m below).bound = c.bound-bound.ensures in
    quiet_ticks c.args.self.now.limit (m below) (m c.quiesce.new.memory) (m c.tick.new.self) c.tick.result (rw smaller at c.quiesce.ensures) early c.tick.ensures
