use Rattle.std.proofs.lemmas.Result.{err_from_is_err_and}
use Rattle.flush_prepare.proofs.CallsMade.{refused_before}
use Rattle.flush_prepare.proofs.PrepareSteps.{never_begun}
use Rattle.flush_prepare.proofs.prepare.Prepare.call.Goals as goal

pub returns-in_err-name-clause-kept : goal.returns-in_err-name-clause-kept
returns-in_err-name-clause-kept g c =
    let p = err_from_is_err_and c.from_residual.result c.from_residual.ensures.1 in
    rw (p.1, p.2) (refused_before g.S.Store c.args.store.now (λ told. g.met.S.Store.present c.args.store.now told))

pub returns-in_err-name-clause-goes : goal.returns-in_err-name-clause-goes
returns-in_err-name-clause-goes g c =
    let p = err_from_is_err_and c.from_residual.result c.from_residual.ensures.1 in
    rw (p.1, p.2) (never_begun g.S.Store c.args.store.now c.args.self.now)
