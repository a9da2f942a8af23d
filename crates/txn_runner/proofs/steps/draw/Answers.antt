use Rattle.txn_runner.proofs.Answered.{drawn_cause}
use Rattle.std.proofs.Common.{◌≡◌, sym, subst}
use Rattle.std.proofs.lemmas.Result.{err_from_is_err_and}
use Rattle.std.specs.FinMap.{get}
use Rattle.store_trait.specs.declared.edit.Edit.TheVariants as edit
use Rattle.store_trait.specs.declared.name.Name.TheVariants as name
use Rattle.store_trait.specs.Contents.{Content}
use Rattle.txn_runner.specs.Settling.{MayStop}
use Rattle.txn_runner.proofs.Beside.{nonce_others}
use Rattle.txn_runner.proofs.Drawing.{draw_quietly, draw_ok, draw_err}
use Rattle.txn_runner.proofs.Works.{works_edited, works_idly, comes_err, comes_edited}
use Rattle.txn_runner.proofs.Numbers.{uses_within, uses_same, uses_made, uses_draw}
use Rattle.std.proofs.Common.{arith}
use Rattle.txn_runner.proofs.Unended.{drawn_record}
use Rattle.txn_runner.proofs.steps.draw.Goals as goal

pub returns-in_err-drawn-clause-works : goal.returns-in_err-drawn-clause-works
returns-in_err-drawn-clause-works g c = λ told order.
    works_idly _ _ _ _ _ told (g.met.S.Store.present _ told) c.edit.ensures.call _ order (c.requires.worth told).sound (c.in_err-drawn.ensures.left told)

pub returns-in_err-nonce-clause-works : goal.returns-in_err-nonce-clause-works
returns-in_err-nonce-clause-works g c = λ told order.
    works_edited _ _ _ _ _ told (g.met.S.Store.present _ told) c.edit.ensures.call _ _ (c.in_ok-drawn.ensures.made told).made (draw_quietly _ _ (c.requires.worth told)) (nonce_others _ _ edit.DrawNonce) order

pub returns-in_err-nonce-clause-comes : goal.returns-in_err-nonce-clause-comes
returns-in_err-nonce-clause-comes g c = λ told.
    let p = err_from_is_err_and c.from_residual-in_err-nonce.result c.from_residual-in_err-nonce.ensures.1 in
    let made = (c.in_ok-drawn.ensures.made told).made in
    rw (p.1, p.2) (comes_err _ _ _ (subst (λ (x : Content). MayStop x c.in_err-nonce.field-0.0) (sym made)
    (draw_err _ _ (c.requires.worth told) c.in_ok-drawn.drawn.hit c.in_ok-drawn.drawn.cell _ (c.in_ok-drawn.ensures.made told).hit (subst (λ (x : Content). c.in_ok-drawn.drawn.cell ≡ get x name.Nonce) made (c.in_ok-drawn.ensures.made told).cell) (sym (rw c.counter_in.ensures at c.in_err-nonce.ensures)))))

pub returns-clause-works : goal.returns-clause-works
returns-clause-works g c = λ told order.
    works_edited _ _ _ _ _ told (g.met.S.Store.present _ told) c.edit.ensures.call _ _ (c.in_ok-drawn.ensures.made told).made (draw_quietly _ _ (c.requires.worth told)) (nonce_others _ _ edit.DrawNonce) order

pub returns-clause-comes : goal.returns-clause-comes
returns-clause-comes g c = λ told.
    let made = (c.in_ok-drawn.ensures.made told).made in
    comes_edited _ _ _ _ made
    (draw_ok _ _ (c.requires.worth told) c.in_ok-drawn.drawn.hit c.in_ok-drawn.drawn.cell _ (c.in_ok-drawn.ensures.made told).hit (subst (λ (x : Content). c.in_ok-drawn.drawn.cell ≡ get x name.Nonce) made (c.in_ok-drawn.ensures.made told).cell) (sym (rw c.counter_in.ensures at c.in_ok-nonce.ensures)))

pub returns-in_err-drawn-clause-uses : goal.returns-in_err-drawn-clause-uses
returns-in_err-drawn-clause-uses g c =
    let p = err_from_is_err_and c.from_residual.result c.from_residual.ensures.1 in
    λ told. rw p.1 (uses_within (uses_same _ _ (c.in_err-drawn.ensures.left told)) (omega arith) (omega arith))

pub returns-in_err-nonce-clause-uses : goal.returns-in_err-nonce-clause-uses
returns-in_err-nonce-clause-uses g c =
    let p = err_from_is_err_and c.from_residual-in_err-nonce.result c.from_residual-in_err-nonce.ensures.1 in
    λ told. rw (p.1) (uses_within (uses_made (c.in_ok-drawn.ensures.made told).made (uses_draw _)) (omega arith) (omega arith))

pub returns-clause-uses : goal.returns-clause-uses
returns-clause-uses g c = λ told. uses_within (uses_made (c.in_ok-drawn.ensures.made told).made (uses_draw _)) (omega arith) (omega arith)

pub returns-in_err-nonce-clause-stays : goal.returns-in_err-nonce-clause-stays
returns-in_err-nonce-clause-stays g c = λ told. let p = err_from_is_err_and c.from_residual-in_err-nonce.result c.from_residual-in_err-nonce.ensures.1 in rw p.1 (drawn_record _ _ _ (c.in_ok-drawn.ensures.made told).made)

pub returns-in_err-nonce-clause-cause : goal.returns-in_err-nonce-clause-cause
returns-in_err-nonce-clause-cause g c =
    let p = err_from_is_err_and c.from_residual-in_err-nonce.result c.from_residual-in_err-nonce.ensures.1 in
    rw (p.1, p.2) (drawn_cause _ _ _ _ c.in_ok-drawn.drawn.hit c.in_ok-drawn.drawn.cell _ c.in_ok-drawn.ensures.call.counted c.in_ok-drawn.ensures.answered (sym (rw c.counter_in.ensures at c.in_err-nonce.ensures)))
