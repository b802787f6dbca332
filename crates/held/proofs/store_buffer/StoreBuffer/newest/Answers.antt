use Rattle.std.proofs.Common.{List, ap, ◌∙◌}
use Rattle.memory.specs.declared.write.Write.{Write}
use Rattle.memory.specs.Meaning.{newest}
use Rattle.held.proofs.Rows.{newest_first}
use Rattle.held.proofs.store_buffer.StoreBuffer.newest.Goals as goal

pub returns : goal.returns
returns c = c.newest_value.ensures ∙ newest_first c.as_slice.result.now c.args.cell ∙ ap (λ (ws : List Write). newest ws c.args.cell) c.as_slice.ensures.entries
