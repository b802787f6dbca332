use Rattle.lines.proofs.ReadBack.{read_back, no_zero}
use Rattle.lines.proofs.theorems.printed_numbers_read_back.Goals as goal

pub returns : goal.returns
returns c = record { reads = read_back; front = no_zero }
