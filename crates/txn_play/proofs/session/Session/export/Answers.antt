use Rattle.std.proofs.Common.{ap, refl, true}
use Rattle.std.proofs.lemmas.Result.{err_from_is_err_and}
use Rattle.txn_play.specs.declared.answer.Answer.TheVariants.{Cells}
use Rattle.txn_script.specs.declared.statement.Statement.TheVariants as statement
use Rattle.txn_play.proofs.Attending.{reading_done, reading_refused}
use Rattle.txn_play.proofs.session.Session.export.Goals as goal

pub returns : goal.returns
returns g c =
    reading_done _ statement.Export c.args.self.now (record { store = c.cells.new.store; runs = c.args.self.now.runs; batch = c.args.self.now.batch; begun = true; documents_alone = c.args.self.now.documents_alone }) (Cells c.in_ok-cells.cells)
    c.requires.stands c.cells.ensures.reads.only c.cells.ensures.reads.calls c.requires.cleared refl
    (λ told stays. (c.in_ok-cells.ensures.few told, record { stays = stays; answers = ap Cells (c.in_ok-cells.ensures.listed told) })) refl (record { batch = refl; begun = refl; alone = refl }) refl

pub returns-in_err-cells : goal.returns-in_err-cells
returns-in_err-cells g c =
    let p = err_from_is_err_and c.from_residual.result c.from_residual.ensures.1 in
    rw (p.1, p.2) (reading_refused _ statement.Export _ _ _ c.requires.stands c.in_err-cells.ensures.reads (c.in_err-cells.ensures.found) refl (record { batch = refl; begun = refl; alone = refl }))
