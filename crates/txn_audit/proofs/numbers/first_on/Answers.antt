use Rattle.std.proofs.Common.{sym, ◌∙◌}
use Rattle.txn_audit.proofs.ChainTests.{first_past}
use Rattle.txn_audit.proofs.numbers.first_on.Goals as goal

pub loop-place-preserved : goal.loop-place-preserved
loop-place-preserved c =
    c.loop-place.invariant
    ∙ first_past c.args.key.now c.args.ops.now c.args.revnos.now c.loop-place.place c.index-ops-place.result c.requires c.loop-place-test.true (sym c.is_same.ensures ∙ c.if-is_same.false)
