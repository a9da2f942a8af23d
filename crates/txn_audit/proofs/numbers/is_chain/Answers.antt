use Rattle.txn_audit.proofs.ChainTests.{unchained}
use Rattle.txn_audit.proofs.numbers.is_chain.Goals as goal

pub returns-then-ops-revnos : goal.returns-then-ops-revnos
returns-then-ops-revnos c = unchained c.args.ops.now c.args.revnos.now c.if-ops-revnos.true
