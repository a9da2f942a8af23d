use Rattle.std.proofs.Common.{refl}
use Rattle.listed_cells.proofs.TokenSets.{on_read}
use Rattle.listed_cells.proofs.tokens.is_on.Goals as goal

pub returns-then-equals : goal.returns-then-equals
returns-then-equals c =
    (λ t. on_read c.args.key.now c.args.ops.now c.loop-op.op-index c.op-item.result c.loop-op-test.true c.op-item.is (c.equals.ensures.0 c.if-equals.true), λ on. refl)
