use Rattle.std.proofs.Common.{rules}
use Rattle.std.proofs.lemmas.Result.{err_from_is_err_and}
use Rattle.txn_runner.proofs.Works.{call_err}
use Rattle.txn_runner.proofs.calls.may_hit.Goals as goal

pub returns-in_err-edited-clause-call : goal.returns-in_err-edited-clause-call
returns-in_err-edited-clause-call g c = let p = err_from_is_err_and c.from_residual.result c.from_residual.ensures.1 in rw (p.1, p.2) (call_err _ _ _ _ _ _ c.in_err-edited.was c.edit.ensures.call)

pub returns-clause-answered : goal.returns-clause-answered
returns-clause-answered g c = record {
  found = c.in_ok-edited.edited.cell;
  counted = search rules;
  answer = c.in_ok-edited.ensures.answered;
}
