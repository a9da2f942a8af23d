use Rattle.std.proofs.Common.{subst}
use Rattle.txn_audit.specs.Checks.{IsFirstFlaw}
use Rattle.txn_audit.proofs.Audited.{names_flaw}
use Rattle.txn_audit.proofs.checked.check.Goals as goal

pub returns-in-Some-clause-flaw : goal.returns-in-Some-clause-flaw
returns-in-Some-clause-flaw c =
    let flaw = subst (IsFirstFlaw c.args.cells.now) c.in-Some.is c.in_ok-flaw.ensures in
    names_flaw _ _ _ _ flaw.0 c.in_ok-unsound.ensures flaw.1
