use Rattle.std.proofs.lemmas.Result.{err_from_is_err_and}
use Rattle.flush_prepare.specs.Preparations.{PrepareGoes}
use Rattle.flush_prepare.proofs.PrepareSteps.{judged, edit_refused}
use Rattle.flush_prepare.proofs.prepare.Prepare.make_edit.Goals as goal

pub returns-in_err-done-clause-goes : goal.returns-in_err-done-clause-goes
returns-in_err-done-clause-goes g c =
    let p = err_from_is_err_and c.from_residual.result c.from_residual.ensures.1 in
    rw (p.1, p.2) (edit_refused g.S.Store c.args.store.now c.edit.new.store c.args.self.now _ c.args.change c.requires.edits c.in_err-done.ensures.kind (rw c.requires.name at c.in_err-done.ensures.left))

pub returns-clause-kept : goal.returns-clause-kept
returns-clause-kept g c = judged g.S.Store c.args.store.now c.edit.new.store _ c.args.self.now c.in_ok-done.done c.take_edit.result c.take_edit.ensures.answer c.in_ok-done.ensures.kept

pub returns-clause-goes : goal.returns-clause-goes
returns-clause-goes g c = PrepareGoes.ByEdit c.args.change c.in_ok-done.done c.requires.edits (rw c.requires.name at c.in_ok-done.ensures.made) c.take_edit.ensures.answer c.take_edit.ensures.after
