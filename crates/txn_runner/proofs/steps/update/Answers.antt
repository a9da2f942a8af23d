use Rattle.txn_runner.proofs.Works.{refused_idly}
use Rattle.std.proofs.lemmas.Result.{err_from_is_err_and}
use Rattle.store_laws.specs.Readiness.{token}
use Rattle.txn_runner.proofs.Beside.{update_others}
use Rattle.txn_runner.proofs.Works.{works_edited, works_idly, comes_edited}
use Rattle.std.proofs.lemmas.Int.{to_z-of_z}
use Rattle.txn_runner.proofs.Deciding.{update_quietly, update_worth}
use Rattle.txn_runner.proofs.Numbers.{uses_within, uses_same, uses_made, uses_update}
use Rattle.std.proofs.Common.{arith}
use Rattle.txn_runner.proofs.steps.update.Goals as goal

pub returns-clause-works : goal.returns-clause-works
returns-clause-works g c = λ told order.
    let fits = c.ranges.revno in
    let made = simp to_z-of_z at (rw (c.in_ok-copy.ensures, c.in_ok-update.ensures) at (c.in_ok-hits.ensures.made told)) in
    works_edited _ _ _ _ _ told (g.met.S.Store.present _ told) c.may_hit-hits.ensures.call _ _ made (update_quietly _ _ _ c.only-op.ensures.only _ _ _ c.update_of.ensures (c.requires.worth told)) (update_others _ _ _ c.args.revno (token c.args.txn.now.id c.args.nonce) c.update_of.result.now) order

pub returns-clause-comes : goal.returns-clause-comes
returns-clause-comes g c = λ told.
    let fits = c.ranges.revno in
    let made = simp to_z-of_z at (rw (c.in_ok-copy.ensures, c.in_ok-update.ensures) at (c.in_ok-hits.ensures.made told)) in
    comes_edited _ _ _ _ made (update_worth _ _ _ c.only-op.ensures.only _ _ _ c.update_of.ensures (c.requires.worth told))

pub returns-in_err-hits-clause-works : goal.returns-in_err-hits-clause-works
returns-in_err-hits-clause-works g c = λ told order.
    works_idly _ _ _ _ _ told (g.met.S.Store.present _ told) c.may_hit-hits.ensures.call _ order (c.requires.worth told).sound (c.in_err-hits.ensures.left told)

pub returns-clause-uses : goal.returns-clause-uses
returns-clause-uses g c = λ told. let fits = c.ranges.revno in uses_within (uses_made (simp to_z-of_z at (rw (c.in_ok-copy.ensures, c.in_ok-update.ensures) at (c.in_ok-hits.ensures.made told))) (uses_update _ _ c.args.revno (token c.args.txn.now.id c.args.nonce) c.update_of.result.now)) (omega arith) (omega arith)

pub returns-in_err-hits-clause-uses : goal.returns-in_err-hits-clause-uses
returns-in_err-hits-clause-uses g c = λ told. let p = err_from_is_err_and c.from_residual-in_err-hits.result c.from_residual-in_err-hits.ensures.1 in rw p.1 (uses_within (uses_same _ _ (c.in_err-hits.ensures.left told)) (omega arith) (omega arith))

pub returns-in_err-copy-clause-call : goal.returns-in_err-copy-clause-call
returns-in_err-copy-clause-call g c = let p = err_from_is_err_and c.from_residual.result c.from_residual.ensures.1 in rw (p.1, p.2) (refused_idly _ _ (g.met.S.Store.present _))

pub returns-in_err-update-clause-call : goal.returns-in_err-update-clause-call
returns-in_err-update-clause-call g c = let p = err_from_is_err_and c.from_residual-in_err-update.result c.from_residual-in_err-update.ensures.1 in rw (p.1, p.2) (refused_idly _ _ (g.met.S.Store.present _))
