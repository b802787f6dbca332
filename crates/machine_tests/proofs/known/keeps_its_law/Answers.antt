use Rattle.machine_tests.proofs.known.keeps_its_law.Goals as goal

pub returns : goal.returns
returns g c = g.met.M.Memory.sound c.args.machine.now.memory
