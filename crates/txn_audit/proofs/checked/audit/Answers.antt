use Rattle.std.proofs.Common.{List, subst}
use Rattle.std.proofs.lemmas.Result.{err_from_is_err_and}
use Rattle.store_trait.specs.declared.cell.Named.{Named}
use Rattle.txn_audit.specs.Audits.{IsFlawOf, Means}
use Rattle.listed_cells.specs.Listing.{content_of}
use Rattle.txn_audit.proofs.Audited.{audited, fault_found, reads_err, reads_judged, reads_ok, shown_err, shown_judged}
use Rattle.txn_audit.proofs.checked.audit.Goals as goal

pub returns-in_err-docs-clause-fault : goal.returns-in_err-docs-clause-fault
returns-in_err-docs-clause-fault g c = λ told.
    let p = err_from_is_err_and c.from_residual-in_err-docs.result c.from_residual-in_err-docs.ensures.1 in
    rw (p.1, p.2) (fault_found _ _ (c.in_ok-cells.ensures.listed told) c.in_ok-cells.ensures.few _ (subst (λ (xs : List Named). IsFlawOf (content_of xs) c.in_err-docs.field-0.0) c.as_slice.ensures c.in_err-docs.ensures.flaw))

pub returns-clause-sound : goal.returns-clause-sound
returns-clause-sound g c = λ told.
    audited _ _ _ (c.in_ok-cells.ensures.listed told) c.in_ok-cells.ensures.few (subst (λ (xs : List Named). Means (content_of xs) c.in_ok-docs.docs) c.as_slice.ensures c.in_ok-docs.ensures.sound)

pub returns-in_err-cells-clause-kept : goal.returns-in_err-cells-clause-kept
returns-in_err-cells-clause-kept g c =
    let p = err_from_is_err_and c.from_residual.result c.from_residual.ensures.1 in
    rw (p.1, p.2) (reads_err _ _ _ _ c.in_err-cells.ensures.kept)

pub returns-in_err-cells-clause-shown : goal.returns-in_err-cells-clause-shown
returns-in_err-cells-clause-shown g c =
    let p = err_from_is_err_and c.from_residual.result c.from_residual.ensures.1 in
    rw (p.1, p.2) (shown_err _ _ _ _ c.in_err-cells.ensures.other c.in_err-cells.ensures.shown)

pub returns-in_err-docs-clause-kept : goal.returns-in_err-docs-clause-kept
returns-in_err-docs-clause-kept g c =
    let p = err_from_is_err_and c.from_residual-in_err-docs.result c.from_residual-in_err-docs.ensures.1 in
    rw (p.1, p.2) (reads_judged _ _ _ _ _ _ c.in_err-docs.ensures.flaw c.in_ok-cells.ensures.kept)

pub returns-in_err-docs-clause-shown : goal.returns-in_err-docs-clause-shown
returns-in_err-docs-clause-shown g c =
    let p = err_from_is_err_and c.from_residual-in_err-docs.result c.from_residual-in_err-docs.ensures.1 in
    rw (p.1, p.2) (shown_judged _ _ _ _ _ c.in_ok-cells.ensures.listing c.in_ok-cells.ensures.shown (subst (λ (xs : List Named). IsFlawOf (content_of xs) c.in_err-docs.field-0.0) c.as_slice.ensures c.in_err-docs.ensures.flaw))

pub returns-clause-kept : goal.returns-clause-kept
returns-clause-kept g c = reads_ok _ _ _ _ _ c.in_ok-cells.ensures.kept

pub returns-clause-shown : goal.returns-clause-shown
returns-clause-shown g c =
    (c.in_ok-cells.ensures.shown, subst (λ (xs : List Named). Means (content_of xs) c.in_ok-docs.docs) c.as_slice.ensures c.in_ok-docs.ensures.sound)
