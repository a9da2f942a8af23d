use Rattle.std.proofs.Common.{lt_of_lt_of_le}
use Rattle.store_laws.specs.View.{look, counter}
use Rattle.store_laws.proofs.cells.CellRules.{tokens_later, below_later}
use Rattle.store_laws.proofs.steps.Known.{doc_later, entry_later}
use Rattle.store_laws.proofs.knowing.marked_cells_last.Goals as goal

pub returns : goal.returns
unfolding look
returns g = record {
  doc = doc_later;
  entry = entry_later;
  behind = λ c d key epoch step less. lt_of_lt_of_le less (step.cells.epochs key);
  tokens = λ c d key queue tokens step. tokens_later step.later key queue tokens;
  nonces = λ c d tokens step. below_later (counter c) (counter d) step.later.counter tokens;
}
