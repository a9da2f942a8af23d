use Rattle.txn_runner.proofs.Works.{refused_idly}
use Rattle.txn_runner.proofs.Answered.{missed_cause}
use Rattle.std.proofs.Common.{refl}
use Rattle.std.proofs.lemmas.Result.{err_from_is_err_and}
use Rattle.store_laws.specs.Readiness.{token}
use Rattle.txn_runner.proofs.Beside.{add_others}
use Rattle.txn_runner.proofs.Works.{works_edited, works_idly, comes_edited, comes_to_nothing}
use Rattle.txn_runner.proofs.Preparing.{queue_hits, queue_quietly, queue_worth}
use Rattle.txn_runner.proofs.Numbers.{uses_within, uses_same, uses_made, uses_add}
use Rattle.std.proofs.Common.{arith}
use Rattle.txn_runner.proofs.Unended.{same_record}
use Rattle.txn_runner.proofs.steps.queue.Goals as goal

pub returns-clause-works : goal.returns-clause-works
returns-clause-works g c = λ told order.
    works_edited _ _ _ _ _ told (g.met.S.Store.present _ told) c.must_hit.ensures.call _ _ (rw c.in_ok-copy.ensures at (c.in_ok-must_hit.ensures.made told)) (queue_quietly _ _ _ c.only.ensures.only _ (c.requires.worth told)) (add_others _ _ _ (token c.args.txn.now.id c.args.nonce)) order

pub returns-clause-comes : goal.returns-clause-comes
returns-clause-comes g c = λ told.
    comes_edited _ _ _ _ (rw c.in_ok-copy.ensures at (c.in_ok-must_hit.ensures.made told)) (queue_worth _ _ _ c.only.ensures.only _ (c.requires.worth told))

pub returns-in_err-must_hit-clause-works : goal.returns-in_err-must_hit-clause-works
returns-in_err-must_hit-clause-works g c = λ told order.
    works_idly _ _ _ _ _ told (g.met.S.Store.present _ told) c.must_hit.ensures.call _ order (c.requires.worth told).sound (c.in_err-must_hit.ensures.left told (rw c.in_ok-copy.ensures (queue_hits _ _ _ c.only.ensures.only _ (c.requires.worth told))))

pub returns-in_err-must_hit-clause-comes : goal.returns-in_err-must_hit-clause-comes
returns-in_err-must_hit-clause-comes g c = λ told. let p = err_from_is_err_and c.from_residual-in_err-must_hit.result c.from_residual-in_err-must_hit.ensures.1 in rw (p.1, p.2) (comes_to_nothing _ _ _ (c.in_err-must_hit.ensures.never told (rw c.in_ok-copy.ensures (queue_hits _ _ _ c.only.ensures.only _ (c.requires.worth told)))))

pub returns-clause-uses : goal.returns-clause-uses
returns-clause-uses g c = λ told. uses_within (uses_made (rw c.in_ok-copy.ensures at (c.in_ok-must_hit.ensures.made told)) (uses_add _ _ (token c.args.txn.now.id c.args.nonce))) (omega arith) (omega arith)

pub returns-in_err-must_hit-clause-uses : goal.returns-in_err-must_hit-clause-uses
returns-in_err-must_hit-clause-uses g c = λ told. let p = err_from_is_err_and c.from_residual-in_err-must_hit.result c.from_residual-in_err-must_hit.ensures.1 in rw p.1 (uses_within (uses_same _ _ (c.in_err-must_hit.ensures.left told (rw c.in_ok-copy.ensures (queue_hits _ _ _ c.only.ensures.only _ (c.requires.worth told))))) (omega arith) (omega arith))

pub returns-in_err-must_hit-clause-stays : goal.returns-in_err-must_hit-clause-stays
returns-in_err-must_hit-clause-stays g c = λ told. let p = err_from_is_err_and c.from_residual-in_err-must_hit.result c.from_residual-in_err-must_hit.ensures.1 in rw p.1 (same_record _ _ _ (c.in_err-must_hit.ensures.left told (rw c.in_ok-copy.ensures (queue_hits _ _ _ c.only.ensures.only _ (c.requires.worth told)))))

pub returns-in_err-copy-clause-call : goal.returns-in_err-copy-clause-call
returns-in_err-copy-clause-call g c = let p = err_from_is_err_and c.from_residual.result c.from_residual.ensures.1 in rw (p.1, p.2) (refused_idly _ _ (g.met.S.Store.present _))

pub returns-in_err-must_hit-clause-cause : goal.returns-in_err-must_hit-clause-cause
returns-in_err-must_hit-clause-cause g c = let p = err_from_is_err_and c.from_residual-in_err-must_hit.result c.from_residual-in_err-must_hit.ensures.1 in rw (p.1, p.2) (missed_cause _ _ _ _ _ _ _ (λ found. (refl, refl)) c.in_err-must_hit.ensures.cause)
