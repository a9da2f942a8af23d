use Rattle.txn_runner.proofs.Works.{refused_idly}
use Rattle.std.proofs.lemmas.Result.{err_from_is_err_and}
use Rattle.txn_runner.proofs.Answered.{missing_cause}
use Rattle.txn_runner.proofs.Looking.{found_doc, never_missing}
use Rattle.txn_runner.proofs.calls.read_document.Goals as goal

pub returns-clause-found : goal.returns-clause-found
returns-clause-found g c = λ told. found_doc _ _ c.in_ok-found.found _ _ (rw c.in_ok-copy.ensures at (c.in_ok-found.ensures.found told)) (rw c.doc_in.ensures at c.ok_or.ensures.value)

pub returns-clause-never : goal.returns-clause-never
returns-clause-never g c = λ told there. never_missing _ _ c.in_ok-found.found _ _ (rw c.in_ok-copy.ensures at (c.in_ok-found.ensures.found told)) (rw c.doc_in.ensures at c.ok_or.ensures.value) there

pub returns-in_err-copy-clause-call : goal.returns-in_err-copy-clause-call
returns-in_err-copy-clause-call g c = let p = err_from_is_err_and c.from_residual.result c.from_residual.ensures.1 in rw (p.1, p.2) (refused_idly _ _ (g.met.S.Store.present _))

pub returns-clause-cause : goal.returns-clause-cause
returns-clause-cause g c = missing_cause _ _ _ _ c.in_ok-copy.field-0 c.in_ok-found.found _ c.in_ok-found.ensures.call.counted c.in_ok-found.ensures.answered (rw c.doc_in.ensures at c.ok_or.ensures.value)
