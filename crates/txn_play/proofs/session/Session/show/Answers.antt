use Rattle.std.proofs.Common.{ap, refl, true}
use Rattle.std.proofs.lemmas.Result.{err_from_is_err_and}
use Rattle.txn_play.specs.declared.answer.Answer.TheVariants.{Documents}
use Rattle.txn_script.specs.declared.statement.Statement.TheVariants as statement
use Rattle.txn_play.proofs.Attending.{reading_done, reading_refused, shows_found}
use Rattle.txn_play.proofs.session.Session.show.Goals as goal

pub returns : goal.returns
returns g c =
    reading_done _ statement.Show c.args.self.now (record { store = c.documents.new.store; runs = c.args.self.now.runs; batch = c.args.self.now.batch; begun = true; documents_alone = c.args.self.now.documents_alone }) (Documents c.in_ok-docs.docs)
    c.requires.stands c.documents.ensures.reads.only c.documents.ensures.reads.calls c.requires.cleared refl
    (λ told stays. ((c.in_ok-docs.ensures.means told).passes, record { stays = stays; answers = ap Documents (c.in_ok-docs.ensures.means told).docs_are })) refl (record { batch = refl; begun = refl; alone = refl }) refl

pub returns-in_err-docs : goal.returns-in_err-docs
returns-in_err-docs g c =
    let p = err_from_is_err_and c.from_residual.result c.from_residual.ensures.1 in
    rw (p.1, p.2) (reading_refused _ statement.Show _ _ _ c.requires.stands c.in_err-docs.ensures.reads (shows_found _) refl (record { batch = refl; begun = refl; alone = refl }))
