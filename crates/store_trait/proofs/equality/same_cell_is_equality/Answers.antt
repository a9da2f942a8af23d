use Rattle.store_trait.proofs.SameCells.{cell-Decides}
use Rattle.store_trait.proofs.equality.same_cell_is_equality.Goals as goal

pub returns : goal.returns
returns c = cell-Decides
