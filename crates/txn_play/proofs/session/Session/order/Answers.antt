use Rattle.std.proofs.lemmas.Result.{err_from_is_err_and}
use Rattle.std.proofs.Common.{false}
use Rattle.txn_play.proofs.Attending.{memory_refused}
use Rattle.std.proofs.Common.{true, refl, sym, ap, ◌∙◌, rules}
use Rattle.store_laws.proofs.trails.OnlyReading.{reads_none}
use Rattle.txn_play.specs.declared.answer.Answer.TheVariants.{Order}
use Rattle.txn_script.specs.declared.statement.Statement.TheVariants as statement
use Rattle.txn_play.specs.Sessions.{at}
use Rattle.txn_play.proofs.Attending.{nothing_first}
use Rattle.store_laws.proofs.trails.CallsMade.{calls_none}
use Rattle.txn_play.proofs.Sessions.{kept_reading, refused_idly}
use Rattle.txn_play.proofs.session.Session.order.Goals as goal

pub returns : goal.returns
returns g c = record {
  done = λ told. record {
    cleared = λ lets. c.requires.cleared;
    allowed = nothing_first (at g.S.Store c.args.self.now) statement.Order c.requires.cleared;
    performs = record { stays = refl; answers = ap Order (rw c.as_slice.ensures.value at c.in_ok-order.ensures) };
  };
  against = λ told. tt;
  found = tt;
  refused = tt;
  kept = kept_reading _ c.args.self.now (record { store = c.args.self.now.store; runs = c.args.self.now.runs; batch = c.args.self.now.batch; begun = true; documents_alone = c.args.self.now.documents_alone }) _ c.requires.stands
      (λ told. reads_none _ _ (g.met.S.Store.present _ told)) (calls_none _ _ (λ told. g.met.S.Store.present _ told)) refl refl refl refl;
}

pub returns-in_err-order : goal.returns-in_err-order
returns-in_err-order g c =
    let p = err_from_is_err_and c.from_residual.result c.from_residual.ensures.1 in
    rw (p.1, p.2) (record {
      done = λ told. tt;
      against = λ told. tt;
      found = tt;
      refused = memory_refused _ false _ _ (λ told. refl) refl (record { batch = refl; begun = refl; alone = refl });
      kept = refused_idly _ _ _ _ c.requires.stands (λ told. g.met.S.Store.present _ told) refl refl;
    })
