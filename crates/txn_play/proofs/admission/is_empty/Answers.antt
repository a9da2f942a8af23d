use Rattle.std.proofs.lemmas.Result.{err_from_is_err_and}
use Rattle.store_trait.proofs.OneCalls.{one_call}
use Rattle.store_laws.proofs.trails.CallsMade.{call_after, calls_none}
use Rattle.txn_play.proofs.Attending.{store_failed}
use Rattle.txn_play.proofs.Opening.{none_found}
use Rattle.txn_play.proofs.admission.is_empty.Goals as goal

pub returns-clause-answer : goal.returns-clause-answer
returns-clause-answer g c = λ told. none_found _ _ _ c.is_none.ensures (c.in_ok-first.ensures.found told)

pub returns-clause-kept : goal.returns-clause-kept
returns-clause-kept g c = record {
  calls = call_after _ _ _ _ _ _ (calls_none _ _ (λ told. g.met.S.Store.present _ told)) (one_call _ _ _ _ _ c.next.ensures.trail c.next.ensures.answered c.next.ensures.counted);
  fault = λ e. absurd (cc);
  other = tt;
}

pub returns-in_err-first-clause-kept : goal.returns-in_err-first-clause-kept
returns-in_err-first-clause-kept g c =
    let p = err_from_is_err_and c.from_residual.result c.from_residual.ensures.1 in
    rw (p.1, p.2) (store_failed _ _ _ _ (call_after _ _ _ _ _ _ (calls_none _ _ (λ told. g.met.S.Store.present _ told)) (one_call _ _ _ _ _ c.next.ensures.trail c.next.ensures.answered c.next.ensures.counted)) c.in_err-first.ensures.counted.fault)
