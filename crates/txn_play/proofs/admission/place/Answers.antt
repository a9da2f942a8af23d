use Rattle.std.proofs.lemmas.Result.{err_from_is_err_and}
use Rattle.store_trait.proofs.OneCalls.{one_call}
use Rattle.store_laws.proofs.trails.CallsMade.{call_after, calls_none}
use Rattle.txn_play.proofs.Attending.{store_failed}
use Rattle.txn_play.proofs.Placing.{places}
use Rattle.txn_play.proofs.admission.place.Goals as goal

pub returns-clause-free : goal.returns-clause-free
returns-clause-free g c = λ told. (places _ _ _ _ _ (c.in_ok-edited.ensures.made told)).free

pub returns-clause-made : goal.returns-clause-made
returns-clause-made g c = λ told. (places _ _ _ _ _ (c.in_ok-edited.ensures.made told)).made

pub returns-clause-missed : goal.returns-clause-missed
returns-clause-missed g c = λ told. (places _ _ _ _ _ (c.in_ok-edited.ensures.made told)).missed

pub returns-clause-kept : goal.returns-clause-kept
returns-clause-kept g c = record {
  calls = call_after _ _ _ _ _ _ (calls_none _ _ (λ told. g.met.S.Store.present _ told)) (one_call _ _ _ _ _ c.edit.ensures.trail c.edit.ensures.answered c.edit.ensures.counted);
  fault = λ e. absurd (cc);
  other = tt;
}

pub returns-in_err-edited-clause-kept : goal.returns-in_err-edited-clause-kept
returns-in_err-edited-clause-kept g c =
    let p = err_from_is_err_and c.from_residual.result c.from_residual.ensures.1 in
    rw (p.1, p.2) (store_failed _ _ _ _ (call_after _ _ _ _ _ _ (calls_none _ _ (λ told. g.met.S.Store.present _ told)) (one_call _ _ _ _ _ c.edit.ensures.trail c.edit.ensures.answered c.edit.ensures.counted)) c.in_err-edited.ensures.counted.fault)
