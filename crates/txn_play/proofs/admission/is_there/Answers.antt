use Rattle.std.proofs.lemmas.Result.{err_from_is_err_and}
use Rattle.store_trait.proofs.OneCalls.{one_call}
use Rattle.store_laws.proofs.trails.CallsMade.{call_after, calls_none}
use Rattle.txn_play.proofs.Attending.{store_failed}
use Rattle.txn_play.proofs.admission.is_there.Goals as goal

pub returns-clause-kept : goal.returns-clause-kept
returns-clause-kept g c = record {
  calls = call_after _ _ _ _ _ _ (calls_none _ _ (λ told. g.met.S.Store.present _ told)) (one_call _ _ _ _ _ c.read.ensures.trail c.read.ensures.answered c.read.ensures.counted);
  fault = λ e. absurd (cc);
  other = tt;
}

pub returns-in_err-found-clause-kept : goal.returns-in_err-found-clause-kept
returns-in_err-found-clause-kept g c =
    let p = err_from_is_err_and c.from_residual.result c.from_residual.ensures.1 in
    rw (p.1, p.2) (store_failed _ _ _ _ (call_after _ _ _ _ _ _ (calls_none _ _ (λ told. g.met.S.Store.present _ told)) (one_call _ _ _ _ _ c.read.ensures.trail c.read.ensures.answered c.read.ensures.counted)) c.in_err-found.ensures.counted.fault)
