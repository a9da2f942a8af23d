use Rattle.std.proofs.Common.{true, false, Some, None, refl, rules, sym, ap, ◌∙◌}
use Rattle.std.proofs.lemmas.Result.{err_from_is_err_and}
use Rattle.txn_script.specs.declared.statement.Statement.TheVariants as statement
use Rattle.txn_play.specs.Sessions.{at}
use Rattle.txn_play.proofs.Attending.{against_submitted, failed_against, failed_refused, failed_unfound, memory_refused, none_first, nothing_against, objected_refused, unfound}
use Rattle.std.proofs.lemmas.Bool.{and_parts}
use Rattle.txn_play.proofs.Sessions.{adding_stands, reading_runs, refused_idly, refused_reading}
use Rattle.txn_play.proofs.session.Session.add_to_batch.Goals as goal

pub returns-in_err-why : goal.returns-in_err-why
returns-in_err-why g c =
    let p = err_from_is_err_and c.from_residual.result c.from_residual.ensures.1 in
    rw (p.1, p.2) (record {
      done = λ told. tt;
      against = λ told. failed_against _ _ c.in_err-why.ensures.kept.other;
      found = unfound (statement.Submit c.args.id c.args.ops c.args.info) _ (failed_unfound _ c.in_err-why.ensures.kept.other);
      refused = failed_refused _ false _ _ _ c.in_err-why.ensures.kept (λ told. (c.against_record.ensures.reads told).same) refl (record { batch = refl; begun = refl; alone = refl });
      kept = refused_reading _ _ _ _ c.requires.stands c.against_record.ensures.reads c.against_record.ensures.kept.calls refl;
    })

pub returns-in-Some : goal.returns-in-Some
returns-in-Some g c = record {
  found = tt;
  done = λ told. tt;
  against = λ told.
      let p = at g.S.Store c.args.self.now in
      none_first p (statement.Submit c.args.id c.args.ops c.args.info) refl
      ∙ against_submitted p c.args.id c.args.ops (Some c.in-Some.why) (sym c.is_full.ensures ∙ c.if-is_full.false) (sym c.has.ensures ∙ c.if-has.false) (rw c.in-Some.is at (c.in_ok-why.ensures.answer told));
  refused = objected_refused _ false _ _ c.in-Some.why (λ told. (c.against_record.ensures.reads told).same) refl (record { batch = refl; begun = refl; alone = refl });
  kept = refused_reading _ _ _ _ c.requires.stands c.against_record.ensures.reads c.against_record.ensures.kept.calls refl;
}

pub returns-in_err-push : goal.returns-in_err-push
returns-in_err-push g c =
    let p = err_from_is_err_and c.from_residual-in_err-push.result c.from_residual-in_err-push.ensures.1 in
    rw (p.1, p.2) (record {
      done = λ told. tt;
      against = λ told. tt;
      found = tt;
      refused = memory_refused _ false _ _ (λ told. (c.against_record.ensures.reads told).same) refl (record { batch = c.in_err-push.ensures.err; begun = refl; alone = refl });
      kept = refused_reading _ _ _ _ c.requires.stands c.against_record.ensures.reads c.against_record.ensures.kept.calls refl;
    })

pub returns : goal.returns
returns g c =
    let p = at g.S.Store c.args.self.now in
    let full = sym c.is_full.ensures ∙ c.if-is_full.false in
    let waits = sym c.has.ensures ∙ c.if-has.false in
    record {
      done = λ told. record {
        cleared = λ lets. absurd (cc lets);
        allowed = none_first p (statement.Submit c.args.id c.args.ops c.args.info) refl ∙ against_submitted p c.args.id c.args.ops None full waits (rw c.in_default.is at (c.in_ok-why.ensures.answer told));
        performs = (λ i. record { content = (c.against_record.ensures.reads told).same i; calls = g.S.Store.calls c.against_record.new.store; waiting = c.in_ok-push.ensures.ok i; begun = true; documents_alone = c.args.self.now.documents_alone; runs = c.args.self.now.runs.items }, refl);
      };
      against = λ told. tt;
      found = tt;
      refused = tt;
      kept = record {
        stands = λ told.
            let nothing = nothing_against _ _ (rw c.in_default.is at (c.in_ok-why.ensures.answer told)) in
            adding_stands _ c.args.self.now (record { store = c.against_record.new.store; runs = c.args.self.now.runs; batch = c.push.new.self; begun = true; documents_alone = c.args.self.now.documents_alone }) (c.requires.stands told) _ told (c.against_record.ensures.reads told) c.against_record.ensures.kept.calls refl refl c.in_ok-push.ensures.ok refl waits nothing.0 (and_parts _ _ nothing.1).1;
        runs = λ told. reading_runs _ c.args.self.now (record { store = c.against_record.new.store; runs = c.args.self.now.runs; batch = c.push.new.self; begun = true; documents_alone = c.args.self.now.documents_alone }) (c.requires.stands told) told (c.against_record.ensures.reads told) c.against_record.ensures.kept.calls refl;
        calls = c.against_record.ensures.kept.calls;
      };
    }

pub returns-then-is_full : goal.returns-then-is_full
returns-then-is_full g c = record {
  done = λ told. tt;
  against = search rules;
  found = tt;
  refused = search rules;
  kept = refused_idly _ _ _ _ c.requires.stands (λ told. g.met.S.Store.present _ told) refl refl;
}

pub returns-then-has : goal.returns-then-has
returns-then-has g c = record {
  done = λ told. tt;
  against = search rules;
  found = tt;
  refused = search rules;
  kept = refused_idly _ _ _ _ c.requires.stands (λ told. g.met.S.Store.present _ told) refl refl;
}
