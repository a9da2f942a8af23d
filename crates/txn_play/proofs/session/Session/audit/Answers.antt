use Rattle.std.proofs.Common.{refl, true}
use Rattle.std.proofs.lemmas.Result.{err_from_is_err_and}
use Rattle.txn_play.specs.declared.answer.Answer.TheVariants.{Audited}
use Rattle.txn_script.specs.declared.statement.Statement.TheVariants as statement
use Rattle.txn_play.proofs.Attending.{reading_done, reading_refused, unfound}
use Rattle.txn_play.proofs.session.Session.audit.Goals as goal

pub returns : goal.returns
returns g c =
    reading_done _ statement.Audit c.args.self.now (record { store = c.finding.new.store; runs = c.args.self.now.runs; batch = c.args.self.now.batch; begun = true; documents_alone = c.args.self.now.documents_alone }) (Audited c.in_ok-found.found)
    c.requires.stands c.finding.ensures.reads.only c.finding.ensures.reads.calls c.requires.cleared refl
    (λ told stays. record { found = c.in_ok-found.found; is = c.in_ok-found.ensures.verdict told; tells = record { stays = stays; answers = refl } }) refl (record { batch = refl; begun = refl; alone = refl }) refl

pub returns-in_err-found : goal.returns-in_err-found
returns-in_err-found g c =
    let p = err_from_is_err_and c.from_residual.result c.from_residual.ensures.1 in
    rw (p.1, p.2) (reading_refused _ statement.Audit _ _ _ c.requires.stands c.in_err-found.ensures.reads (unfound statement.Audit _ c.in_err-found.ensures.none) refl (record { batch = refl; begun = refl; alone = refl }))
