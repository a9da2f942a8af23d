use Rattle.std.proofs.Common.{refl, false}
use Rattle.std.proofs.lemmas.Result.{err_from_is_err_and}
use Rattle.txn_script.specs.declared.statement.Statement.TheVariants as statement
use Rattle.txn_play.proofs.Attending.{placing_cell, placing_refused}
use Rattle.txn_play.proofs.session.Session.place_cell.Goals as goal

pub returns : goal.returns
returns g c =
    let it = c.in_ok-place_at.ensures in
    placing_cell _ c.args.self.now (record { store = c.place_at.new.self.store; runs = c.place_at.new.self.runs; batch = c.place_at.new.self.batch; begun = c.place_at.new.self.begun; documents_alone = false }) c.requires.stands c.requires.cleared _ _ it.rest.0 it.rest.1 it.rest.3 it.calls it.unbegun refl it.placed

pub returns-in_err-place_at : goal.returns-in_err-place_at
returns-in_err-place_at g c =
    let it = c.in_err-place_at.ensures in
    let p = err_from_is_err_and c.from_residual.result c.from_residual.ensures.1 in
    rw (p.1, p.2) (placing_refused _ c.args.self.now c.place_at.new.self c.requires.stands c.requires.cleared _ _ it.rest.0 it.rest.1 it.rest.3 it.calls (statement.Place c.args.name c.args.cell) _ refl it.against it.left it.idle it.rest.2 it.caused it.found)
