use Rattle.std.proofs.Common.{rules}
use Rattle.memory.proofs.Performing.{asked, store_happens, load_happens, land_happens, exchange_happens, tick_happens}
use Rattle.memory.proofs.run.perform.Goals as goal

pub returns-in-Store : goal.returns-in-Store
returns-in-Store g c = search (rules, asked, store_happens)

pub returns-in-Load : goal.returns-in-Load
returns-in-Load g c = search (rules, asked, load_happens)

pub returns-in-Land : goal.returns-in-Land
returns-in-Land g c = search (rules, asked, land_happens)

pub returns-in-Exchange : goal.returns-in-Exchange
returns-in-Exchange g c = search (rules, asked, exchange_happens)

pub returns-in-Tick : goal.returns-in-Tick
returns-in-Tick g c = asked c.in-Tick.is (search rules) (tick_happens _ _ _ c.tick.ensures)
