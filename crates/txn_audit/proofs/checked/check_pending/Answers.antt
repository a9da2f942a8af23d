use Rattle.std.proofs.Common.{subst}
use Rattle.txn_audit.specs.Bodies.{IsUnfit}
use Rattle.txn_audit.specs.Completion.{IsCompletion}
use Rattle.txn_audit.proofs.Audited.{means_them, unfit_broken, names_flaw}
use Rattle.txn_audit.proofs.checked.check_pending.Goals as goal

pub returns-in-Docs-clause-sound : goal.returns-in-Docs-clause-sound
returns-in-Docs-clause-sound c =
    means_them _ _ c.requires.listed c.requires.lower (subst (IsCompletion c.args.cells.now) c.in-Docs.is c.in_ok-docs.ensures)

pub returns-in_ok-unsound-in-Unfit-clause-flaw : goal.returns-in_ok-unsound-in-Unfit-clause-flaw
returns-in_ok-unsound-in-Unfit-clause-flaw c =
    let u : IsUnfit c.args.cells.now c.in-Unfit.place = subst (IsCompletion c.args.cells.now) c.in-Unfit.is c.in_ok-docs.ensures in
    names_flaw _ 10 _ _ u.within c.in_ok-unsound-in-Unfit.ensures (unfit_broken _ _ c.requires.listed c.requires.lower u)
