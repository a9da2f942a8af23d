use Rattle.std.proofs.Common.{refl, sym, ap, ◌∙◌, subst}
use Rattle.std.proofs.lemmas.Result.{err_from_is_err_and}
use Rattle.txn_runner.specs.Calm.{IsCalm}
use Rattle.txn_script.specs.declared.statement.Statement.TheVariants as statement
use Rattle.txn_play.specs.Sessions.{at}
use Rattle.txn_play.proofs.Attending.{placing_doc, placing_refused}
use Rattle.txn_play.proofs.Sessions.{placed_calm}
use Rattle.txn_play.proofs.session.Session.place_document.Goals as goal

pub returns : goal.returns
returns g c =
    let it = c.in_ok-place_at.ensures in
    placing_doc _ c.args.self.now c.place_at.new.self c.requires.stands c.requires.cleared _ _ it.rest.0 it.rest.1 it.rest.3 it.calls c.args.key c.args.body refl c.placed_doc-cell.ensures it.unbegun it.rest.2 it.placed
    (λ told alone. subst IsCalm (sym (rw c.placed_doc-cell.ensures at (it.placed told)).1) (placed_calm (at g.S.Store c.args.self.now) c.args.key c.args.body ((c.requires.stands told).may_run (sym it.rest.2 ∙ alone)).calm (rw c.placed_doc-cell.ensures at (it.placed told)).0))

pub returns-in_err-place_at : goal.returns-in_err-place_at
returns-in_err-place_at g c =
    let it = c.in_err-place_at.ensures in
    let p = err_from_is_err_and c.from_residual.result c.from_residual.ensures.1 in
    rw (p.1, p.2) (placing_refused _ c.args.self.now c.place_at.new.self c.requires.stands c.requires.cleared _ _ it.rest.0 it.rest.1 it.rest.3 it.calls (statement.Doc c.args.key c.args.body) _ (rw c.placed_doc-cell.ensures refl) it.against it.left it.idle it.rest.2 it.caused it.found)
