use Rattle.txn_runner.proofs.Answered.{missed_cause}
use Rattle.std.proofs.Common.{refl}
use Rattle.txn_runner.proofs.Answered.{on_the_way}
use Rattle.std.proofs.Common.{Some, None, true, [], ◌∷◌, refl, arith}
use Rattle.std.proofs.lemmas.Int.{to_z-of_z}
use Rattle.std.proofs.lemmas.Result.{err_from_is_err_and}
use Rattle.txn_record.specs.declared.state.State.TheVariants as state
use Rattle.store_trait.specs.declared.edit.Edit.TheVariants as edit
use Rattle.txn_runner.proofs.Beside.{record_others}
use Rattle.txn_runner.proofs.Works.{works_idly, works_applied, comes_edited, comes_to_nothing}
use Rattle.txn_runner.proofs.Deciding.{apply_hits, apply_applies, apply_worth}
use Rattle.txn_runner.proofs.Numbers.{uses_within, uses_same, uses_made, uses_record, uses_up_to}
use Rattle.txn_runner.proofs.Unended.{same_record}
use Rattle.txn_runner.proofs.steps.decide_to_apply.Goals as goal

pub returns-clause-works : goal.returns-clause-works
returns-clause-works g c = λ told.
    let fits = c.ranges.revno in
    let made = simp to_z-of_z at (c.in_ok-record_decision.ensures.made told) in
    works_applied _ _ _ _ _ told (g.met.S.Store.present _ told) c.record_decision.ensures.call _ _ _ _ _ c.in_ok-record_decision.ensures.call.counted made (apply_applies _ _ c.args.nonce c.args.revno (c.requires.worth told)) (record_others _ _ (edit.Move state.Prepared state.Applying None (Some (c.args.revno ∷ [])))) refl (simp to_z-of_z at c.in_ok-record_decision.ensures.added)

pub returns-clause-comes : goal.returns-clause-comes
returns-clause-comes g c = λ told.
    let fits = c.ranges.revno in
    let made = simp to_z-of_z at (c.in_ok-record_decision.ensures.made told) in
    let after = simp to_z-of_z at c.after_decision.ensures in
    comes_edited _ _ _ _ made (apply_worth _ _ c.args.nonce c.args.revno (c.requires.worth told) _ c.only.ensures.only _ after.changes after.idle)

pub returns-clause-uses : goal.returns-clause-uses
returns-clause-uses g c = λ told.
    let fits = c.ranges.revno in
    let made = simp to_z-of_z at (c.in_ok-record_decision.ensures.made told) in
    uses_up_to _ _ _ c.after_decision.ensures.nearer (uses_made made (uses_record _ _ (edit.Move state.Prepared state.Applying None (Some (c.args.revno ∷ [])))))

pub returns-clause-suits : goal.returns-clause-suits
returns-clause-suits g c = rw c.only.ensures.only c.after_decision.ensures.suits

pub returns-in_err-record_decision-clause-works : goal.returns-in_err-record_decision-clause-works
returns-in_err-record_decision-clause-works g c = λ told.
    let fits = c.ranges.revno in
    rw c.in_err-record_decision.ensures.kept (works_idly _ _ _ _ _ told (g.met.S.Store.present _ told) c.record_decision.ensures.call _ c.args.order.now.items (c.requires.worth told).sound ((simp to_z-of_z at (c.in_err-record_decision.ensures.left told)) (apply_hits _ _ c.args.nonce c.args.revno true (c.requires.worth told) state.Applying (Some (c.args.revno ∷ [])))))

pub returns-in_err-record_decision-clause-comes : goal.returns-in_err-record_decision-clause-comes
returns-in_err-record_decision-clause-comes g c = λ told.
    let fits = c.ranges.revno in
    let p = err_from_is_err_and c.from_residual.result c.from_residual.ensures.1 in
    rw (p.1, p.2) (comes_to_nothing _ _ _ ((simp to_z-of_z at (c.in_err-record_decision.ensures.never told)) (apply_hits _ _ c.args.nonce c.args.revno true (c.requires.worth told) state.Applying (Some (c.args.revno ∷ [])))))

pub returns-in_err-record_decision-clause-uses : goal.returns-in_err-record_decision-clause-uses
returns-in_err-record_decision-clause-uses g c = λ told.
    let fits = c.ranges.revno in
    let p = err_from_is_err_and c.from_residual.result c.from_residual.ensures.1 in
    rw p.1 (uses_within (uses_same _ _ ((simp to_z-of_z at (c.in_err-record_decision.ensures.left told)) (apply_hits _ _ c.args.nonce c.args.revno true (c.requires.worth told) state.Applying (Some (c.args.revno ∷ []))))) (omega arith) (omega arith))

pub returns-in_err-record_decision-clause-stays : goal.returns-in_err-record_decision-clause-stays
returns-in_err-record_decision-clause-stays g c = λ told. let fits = c.ranges.revno in let p = err_from_is_err_and c.from_residual.result c.from_residual.ensures.1 in rw p.1 (same_record _ _ _ ((simp to_z-of_z at (c.in_err-record_decision.ensures.left told)) (apply_hits _ _ c.args.nonce c.args.revno true (c.requires.worth told) state.Applying (Some (c.args.revno ∷ [])))))

pub returns-clause-shown : goal.returns-clause-shown
returns-clause-shown g c = on_the_way _ _ _ _ _ c.after_decision.ensures.goes_on

pub returns-in_err-record_decision-clause-cause : goal.returns-in_err-record_decision-clause-cause
returns-in_err-record_decision-clause-cause g c = let p = err_from_is_err_and c.from_residual.result c.from_residual.ensures.1 in rw (p.1, p.2) (missed_cause _ _ _ _ _ _ _ (λ found. (refl, refl)) c.in_err-record_decision.ensures.cause)
