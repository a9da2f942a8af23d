use Rattle.std.proofs.Common.{drop}
use Rattle.store_laws.specs.View.{IsOn}
use Rattle.listed_cells.proofs.tokens.is_on.Given as goal

abbrev pub invariant-loop-op : goal.invariant-loop-op
invariant-loop-op l = IsOn l.key l.ops → IsOn l.key (drop l.op-index l.ops)
