use Rattle.std.proofs.lemmas.Result.{err_from_is_err_and}
use Rattle.store_trait.proofs.OneCalls.{one_call}
use Rattle.flush_prepare.proofs.CallsMade.{answered_on, refused_on}
use Rattle.flush_prepare.proofs.calls.edit.Goals as goal

pub returns-in_err-done-clause-kept : goal.returns-in_err-done-clause-kept
returns-in_err-done-clause-kept g c =
    let p = err_from_is_err_and c.from_residual.result c.from_residual.ensures.1 in
    rw (p.1, p.2) (refused_on g.S.Store _ _ _ (rw c.in_err-done.was at (one_call g.S.Store _ _ _ c.edit-done.result c.edit-done.ensures.trail c.edit-done.ensures.answered c.edit-done.ensures.counted)))

pub returns-clause-kept : goal.returns-clause-kept
returns-clause-kept g c =
    answered_on g.S.Store _ _ _ _ _ _ (rw c.in_ok-done.was at (one_call g.S.Store _ _ _ c.edit-done.result c.edit-done.ensures.trail c.edit-done.ensures.answered c.edit-done.ensures.counted))
