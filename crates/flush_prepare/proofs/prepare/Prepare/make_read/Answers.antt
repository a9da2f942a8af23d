use Rattle.std.proofs.Common.{Ok, ap}
use Rattle.std.proofs.lemmas.Result.{err_from_is_err_and}
use Rattle.flush_prepare.specs.Preparations.{PrepareGoes}
use Rattle.flush_prepare.proofs.PrepareSteps.{read_refused}
use Rattle.flush_prepare.proofs.prepare.Prepare.make_read.Goals as goal

pub returns-in_err-found-clause-goes : goal.returns-in_err-found-clause-goes
returns-in_err-found-clause-goes g c =
    let p = err_from_is_err_and c.from_residual.result c.from_residual.ensures.1 in
    rw (p.1, p.2) (read_refused g.S.Store c.args.store.now c.read.new.store c.args.self.now _ c.requires.reads c.in_err-found.ensures.kind c.in_err-found.ensures.left)

pub returns-clause-goes : goal.returns-clause-goes
returns-clause-goes g c = PrepareGoes.ByRead c.in_ok-found.found c.requires.reads (rw c.requires.name at c.in_ok-found.ensures.found) (ap Ok c.take_read.ensures.answer) c.take_read.ensures.after
