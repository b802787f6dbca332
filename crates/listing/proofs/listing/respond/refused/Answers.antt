use Rattle.std.proofs.Common.{sym, rules}
use Rattle.listing.proofs.NeverSetUp.{refuses_line}
use Rattle.listing.proofs.listing.respond.refused.Goals as goal

pub returns-in-Some : goal.returns-in-Some
returns-in-Some c = rw (sym c.in-Some.ensures) (_, refuses_line c.args.line.now c.in-Some.field-0 (sym c.in-Some.ensures), search rules)
