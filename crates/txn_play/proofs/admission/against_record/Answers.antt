use Rattle.store_laws.proofs.trails.CallsMade.{calls_then}
use Rattle.std.proofs.lemmas.Result.{err_from_is_err_and}
use Rattle.txn_play.proofs.Attending.{calls_after}
use Rattle.txn_play.proofs.admission.against_record.Goals as goal

pub returns-in_err-is_there-2-clause-kept : goal.returns-in_err-is_there-2-clause-kept
returns-in_err-is_there-2-clause-kept g c =
    let p = err_from_is_err_and c.from_residual-in_err-is_there-2.result c.from_residual-in_err-is_there-2.ensures.1 in
    rw (p.1, p.2) (calls_after _ _ _ _ _ c.is_there.ensures.kept.calls c.in_err-is_there-2.ensures.kept)

pub returns-then-branch-2-clause-kept : goal.returns-then-branch-2-clause-kept
returns-then-branch-2-clause-kept g c = record {
  calls = calls_then _ _ _ _ c.is_there.ensures.kept.calls c.is_there-2.ensures.kept.calls;
  fault = λ e. absurd (cc);
  other = tt;
}

pub returns-clause-kept : goal.returns-clause-kept
returns-clause-kept g c = record {
  calls = calls_then _ _ _ _ c.is_there.ensures.kept.calls c.is_there-2.ensures.kept.calls;
  fault = λ e. absurd (cc);
  other = tt;
}
