use Rattle.txn_runner.proofs.Works.{refused_idly}
use Rattle.std.proofs.lemmas.Result.{err_from_is_err_and}
use Rattle.txn_runner.proofs.Answered.{repeated}
use Rattle.std.proofs.Common.{sym, subst}
use Rattle.store_trait.specs.declared.edit.Edit.TheVariants as edit
use Rattle.txn_runner.proofs.Beside.{record_others}
use Rattle.txn_runner.proofs.Works.{works_edited, works_idly}
use Rattle.txn_runner.proofs.Submitting.{submit_quietly, submit_calm, submit_hits, submit_stands, made_or_left, made_stands}
use Rattle.std.proofs.Common.{⊎_elim}
use Rattle.txn_runner.specs.Settling.{preparing_record}
use Rattle.txn_runner.specs.Calm.{IsCalm}
use Rattle.txn_runner.proofs.Numbers.{uses_same, uses_made, uses_record}
use Rattle.txn_runner.proofs.steps.submit.Goals as goal

pub returns-clause-works : goal.returns-clause-works
returns-clause-works g c = λ told order.
    let calm = c.requires.calm told in
    ⊎_elim
    (λ made. works_edited _ _ _ _ _ told (g.met.S.Store.present _ told) c.may_hit-hits.ensures.call _ _ made (submit_quietly _ calm c.args.txn.now) (record_others _ _ (edit.InsertRecord (preparing_record c.args.txn.now))) order)
    (λ same. works_idly _ _ _ _ _ told (g.met.S.Store.present _ told) c.may_hit-hits.ensures.call _ order calm.sound same)
    (made_or_left c.may_hit-hits.result _ _ _ (rw c.in_ok-rec.ensures at (c.may_hit-hits.ensures.made told)) (c.may_hit-hits.ensures.left told))

pub returns-clause-calm : goal.returns-clause-calm
returns-clause-calm g c = λ told.
    let calm = c.requires.calm told in
    ⊎_elim
    (λ made. subst IsCalm (sym made) (submit_calm _ calm c.args.txn.now))
    (λ same. subst IsCalm (sym same) calm)
    (made_or_left c.may_hit-hits.result _ _ _ (rw c.in_ok-rec.ensures at (c.may_hit-hits.ensures.made told)) (c.may_hit-hits.ensures.left told))

pub returns-clause-stands : goal.returns-clause-stands
returns-clause-stands g c = λ told.
    let calm = c.requires.calm told in
    let fresh = c.requires.fresh told in
    made_stands c.may_hit-hits.result _ _ _ _ (rw c.in_ok-rec.ensures at (c.may_hit-hits.ensures.hit told)) (submit_hits _ calm c.args.txn.now fresh) (rw c.in_ok-rec.ensures at (c.may_hit-hits.ensures.made told)) (submit_stands _ calm c.args.txn.now fresh)

pub returns-clause-uses : goal.returns-clause-uses
returns-clause-uses g c = λ told.
    ⊎_elim
    (λ made. uses_made made (uses_record _ _ (edit.InsertRecord (preparing_record c.args.txn.now))))
    (λ same. uses_same _ _ same)
    (made_or_left c.may_hit-hits.result _ _ _ (rw c.in_ok-rec.ensures at (c.may_hit-hits.ensures.made told)) (c.may_hit-hits.ensures.left told))

pub returns-in_err-rec-clause-call : goal.returns-in_err-rec-clause-call
returns-in_err-rec-clause-call g c = let p = err_from_is_err_and c.from_residual.result c.from_residual.ensures.1 in rw (p.1, p.2) (refused_idly _ _ (g.met.S.Store.present _))

pub returns-clause-repeated : goal.returns-clause-repeated
returns-clause-repeated g c = repeated _ _ _ _ _ _ c.may_hit-hits.ensures.answered
