use Rattle.txn_runner.proofs.Answered.{missed_cause}
use Rattle.std.proofs.Common.{refl}
use Rattle.txn_record.specs.declared.entry.Outcome.TheVariants as outcome
use Rattle.txn_runner.proofs.Answered.{end_shown}
use Rattle.std.proofs.lemmas.Result.{err_from_is_err_and}
use Rattle.std.proofs.Common.{None}
use Rattle.txn_record.specs.declared.state.State.TheVariants as state
use Rattle.store_trait.specs.declared.edit.Edit.TheVariants as edit
use Rattle.txn_runner.proofs.Beside.{record_others}
use Rattle.txn_runner.proofs.Works.{works_edited, works_idly, comes_edited, comes_to_nothing}
use Rattle.txn_runner.proofs.Deciding.{abort_hits, abort_quietly, abort_worth}
use Rattle.txn_runner.proofs.Numbers.{uses_within, uses_same, uses_made, uses_record}
use Rattle.std.proofs.Common.{arith}
use Rattle.txn_runner.proofs.Unended.{same_record}
use Rattle.txn_runner.proofs.steps.abort.Goals as goal

pub returns-clause-works : goal.returns-clause-works
returns-clause-works g c = λ told order.
    works_edited _ _ _ _ _ told (g.met.S.Store.present _ told) c.must_hit.ensures.call _ _ (c.in_ok-must_hit.ensures.made told) (abort_quietly _ _ (c.requires.worth told)) (record_others _ _ (edit.Move state.Aborting state.Aborted None None)) order

pub returns-clause-comes : goal.returns-clause-comes
returns-clause-comes g c = λ told.
    comes_edited _ _ _ _ (c.in_ok-must_hit.ensures.made told) (abort_worth _ _ (c.requires.worth told))

pub returns-in_err-must_hit-clause-works : goal.returns-in_err-must_hit-clause-works
returns-in_err-must_hit-clause-works g c = λ told order.
    works_idly _ _ _ _ _ told (g.met.S.Store.present _ told) c.must_hit.ensures.call _ order (c.requires.worth told).sound (c.in_err-must_hit.ensures.left told (abort_hits _ _ (c.requires.worth told)))

pub returns-in_err-must_hit-clause-comes : goal.returns-in_err-must_hit-clause-comes
returns-in_err-must_hit-clause-comes g c = λ told. let p = err_from_is_err_and c.from_residual.result c.from_residual.ensures.1 in rw (p.1, p.2) (comes_to_nothing _ _ _ (c.in_err-must_hit.ensures.never told (abort_hits _ _ (c.requires.worth told))))

pub returns-clause-uses : goal.returns-clause-uses
returns-clause-uses g c = λ told. uses_within (uses_made (c.in_ok-must_hit.ensures.made told) (uses_record _ _ (edit.Move state.Aborting state.Aborted None None))) (omega arith) (omega arith)

pub returns-in_err-must_hit-clause-uses : goal.returns-in_err-must_hit-clause-uses
returns-in_err-must_hit-clause-uses g c = λ told. let p = err_from_is_err_and c.from_residual.result c.from_residual.ensures.1 in rw p.1 (uses_within (uses_same _ _ (c.in_err-must_hit.ensures.left told (abort_hits _ _ (c.requires.worth told)))) (omega arith) (omega arith))

pub returns-in_err-must_hit-clause-stays : goal.returns-in_err-must_hit-clause-stays
returns-in_err-must_hit-clause-stays g c = λ told. let p = err_from_is_err_and c.from_residual.result c.from_residual.ensures.1 in rw p.1 (same_record _ _ _ (c.in_err-must_hit.ensures.left told (abort_hits _ _ (c.requires.worth told))))

pub returns-clause-shown : goal.returns-clause-shown
returns-clause-shown g c = end_shown _ _ _ _ outcome.Aborted state.Aborting state.Aborted None None refl c.in_ok-must_hit.ensures.hit

pub returns-in_err-must_hit-clause-cause : goal.returns-in_err-must_hit-clause-cause
returns-in_err-must_hit-clause-cause g c = let p = err_from_is_err_and c.from_residual.result c.from_residual.ensures.1 in rw (p.1, p.2) (missed_cause _ _ _ _ _ _ _ (λ found. (refl, refl)) c.in_err-must_hit.ensures.cause)
