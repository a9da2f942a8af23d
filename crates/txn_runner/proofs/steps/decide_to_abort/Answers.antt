use Rattle.txn_runner.proofs.Answered.{missed_cause}
use Rattle.std.proofs.Common.{refl}
use Rattle.std.proofs.Common.{refl, None, false, arith}
use Rattle.std.proofs.lemmas.Result.{err_from_is_err_and}
use Rattle.txn_record.specs.declared.state.State.TheVariants as state
use Rattle.store_trait.specs.declared.edit.Edit.TheVariants as edit
use Rattle.txn_runner.proofs.Beside.{record_others}
use Rattle.txn_runner.proofs.Works.{works_idly, works_given_up, comes_edited, comes_to_nothing}
use Rattle.txn_runner.proofs.Deciding.{apply_hits, give_up_aborts, give_up_worth}
use Rattle.txn_runner.proofs.Numbers.{uses_within, uses_same, uses_made, uses_record}
use Rattle.txn_runner.proofs.Unended.{same_record}
use Rattle.txn_runner.proofs.steps.decide_to_abort.Goals as goal

pub returns-clause-works : goal.returns-clause-works
returns-clause-works g c = λ told.
    works_given_up _ _ _ _ _ told (g.met.S.Store.present _ told) c.record_decision.ensures.call _ _ _ _ _ c.in_ok-record_decision.ensures.call.counted (c.in_ok-record_decision.ensures.made told) (give_up_aborts _ _ c.args.nonce c.args.revno (c.requires.worth told)) (record_others _ _ (edit.Move state.Prepared state.Aborting None None)) refl c.in_ok-record_decision.ensures.added

pub returns-clause-comes : goal.returns-clause-comes
returns-clause-comes g c = λ told. comes_edited _ _ _ _ (c.in_ok-record_decision.ensures.made told) (give_up_worth _ _ c.args.nonce c.args.revno (c.requires.worth told))

pub returns-clause-uses : goal.returns-clause-uses
returns-clause-uses g c = λ told. uses_within (uses_made (c.in_ok-record_decision.ensures.made told) (uses_record _ _ (edit.Move state.Prepared state.Aborting None None))) (omega arith) (omega arith)

pub returns-in_err-record_decision-clause-works : goal.returns-in_err-record_decision-clause-works
returns-in_err-record_decision-clause-works g c = λ told.
    rw c.in_err-record_decision.ensures.kept (works_idly _ _ _ _ _ told (g.met.S.Store.present _ told) c.record_decision.ensures.call _ c.args.order.now.items (c.requires.worth told).sound (c.in_err-record_decision.ensures.left told (apply_hits _ _ c.args.nonce c.args.revno false (c.requires.worth told) state.Aborting None)))

pub returns-in_err-record_decision-clause-comes : goal.returns-in_err-record_decision-clause-comes
returns-in_err-record_decision-clause-comes g c = λ told.
    let p = err_from_is_err_and c.from_residual.result c.from_residual.ensures.1 in
    rw (p.1, p.2) (comes_to_nothing _ _ _ (c.in_err-record_decision.ensures.never told (apply_hits _ _ c.args.nonce c.args.revno false (c.requires.worth told) state.Aborting None)))

pub returns-in_err-record_decision-clause-uses : goal.returns-in_err-record_decision-clause-uses
returns-in_err-record_decision-clause-uses g c = λ told.
    let p = err_from_is_err_and c.from_residual.result c.from_residual.ensures.1 in
    rw p.1 (uses_within (uses_same _ _ (c.in_err-record_decision.ensures.left told (apply_hits _ _ c.args.nonce c.args.revno false (c.requires.worth told) state.Aborting None))) (omega arith) (omega arith))

pub returns-in_err-record_decision-clause-stays : goal.returns-in_err-record_decision-clause-stays
returns-in_err-record_decision-clause-stays g c = λ told. let p = err_from_is_err_and c.from_residual.result c.from_residual.ensures.1 in rw p.1 (same_record _ _ _ (c.in_err-record_decision.ensures.left told (apply_hits _ _ c.args.nonce c.args.revno false (c.requires.worth told) state.Aborting None)))

pub returns-in_err-record_decision-clause-cause : goal.returns-in_err-record_decision-clause-cause
returns-in_err-record_decision-clause-cause g c = let p = err_from_is_err_and c.from_residual.result c.from_residual.ensures.1 in rw (p.1, p.2) (missed_cause _ _ _ _ _ _ _ (λ found. (refl, refl)) c.in_err-record_decision.ensures.cause)
