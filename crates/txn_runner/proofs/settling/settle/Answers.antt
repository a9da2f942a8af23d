use Rattle.std.proofs.Common.{Err, ap, rules}
use Rattle.std.proofs.lemmas.Result.{err_from_is_err_and}
use Rattle.txn_runner.proofs.Works.{works_none, works_then, same_error}
use Rattle.txn_runner.proofs.Answered.{caused_before, end_before}
use Rattle.store_laws.proofs.trails.CallsMade.{call_after, calls_none, rose_before}
use Rattle.txn_runner.proofs.Numbers.{uses_then}
use Rattle.txn_runner.proofs.Unended.{unended_still}
use Rattle.txn_runner.proofs.settling.settle.Goals as goal

pub returns-in_err-stage : goal.returns-in_err-stage
returns-in_err-stage g c =
    let p = err_from_is_err_and c.from_residual.result c.from_residual.ensures.1 in
    rw (p.1, p.2) (record {
      works = λ told. works_then _ _ _ _ _ _ _ _ (c.loop-stage.invariant.works told) (c.advance.ensures.works told);
      settled = λ told. tt;
      shown = tt;
      unended = λ told. unended_still _ _ _ _ (search rules) (c.loop-stage.invariant.worth told) (c.in_err-stage.ensures.stays told);
      reason = λ told. (c.in_err-stage.ensures.comes told).cause;
      cause = caused_before _ _ _ _ _ _ c.loop-stage.invariant.made.chain c.in_err-stage.ensures.cause;
      uses = λ told. uses_then (c.loop-stage.invariant.uses told) (c.in_err-stage.ensures.uses told);
      spares = λ told. tt;
      calls = call_after _ _ _ _ _ _ c.loop-stage.invariant.made c.advance.ensures.call;
      fault = λ same. rose_before c.loop-stage.invariant.made.later (c.in_err-stage.ensures.call.fault (ap Err (same_error _ _ same)));
    })

pub loop-stage-preserved : goal.loop-stage-preserved
loop-stage-preserved g c = record {
  works = λ told. works_then _ _ _ _ _ _ _ _ (c.loop-stage.invariant.works told) (c.advance.ensures.works told);
  worth = λ told. (c.in_ok-stage.ensures.comes told).worth;
  uses = λ told. uses_then (c.loop-stage.invariant.uses told) (c.in_ok-stage.ensures.uses told);
  made = call_after _ _ _ _ _ _ c.loop-stage.invariant.made c.advance.ensures.call;
  suits = c.in_ok-stage.ensures.suits;
  shown = end_before _ _ _ _ _ _ c.loop-stage.invariant.made.chain c.in_ok-stage.ensures.shown;
}

pub loop-stage-init : goal.loop-stage-init
loop-stage-init g c = record {
  works = λ told. works_none _ _ _ _ (c.requires.worth told).sound;
  worth = λ told. search rules;
  uses = λ told. search rules;
  made = calls_none _ _ (λ told. g.met.S.Store.present _ told);
  suits = search rules;
  shown = tt;
}
