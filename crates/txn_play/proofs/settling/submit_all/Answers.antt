use Rattle.std.proofs.Common.{subst, List, rules}
use Rattle.txn_play.specs.Batches.{IsSubmitting}
use Rattle.txn_runner.specs.declared.waiting.Waiting.{Waiting}
use Rattle.txn_play.proofs.Batches.{at_item, none_left, submitting_begins, submitting_next, submitting_refused, submitting_ends, batch_works}
use Rattle.store_laws.proofs.trails.CallsMade.{call_after, calls_none}
use Rattle.txn_runner.proofs.Numbers.{uses_then}
use Rattle.txn_play.proofs.settling.submit_all.Goals as goal

pub loop-txn-init : goal.loop-txn-init
loop-txn-init g c = record {
  told = λ told. submitting_begins g.S.Store _ _ (c.requires.may_run told);
  made = calls_none _ _ (λ told. g.met.S.Store.present _ told);
}

pub submit-requires-clause-calm : goal.submit-requires-clause-calm
submit-requires-clause-calm g c = λ told. (c.loop-txn.invariant.told told).calm

pub submit-requires-clause-fresh : goal.submit-requires-clause-fresh
submit-requires-clause-fresh g c = λ told.
    (subst (λ (l : List Waiting). IsSubmitting g.S.Store c.args.store.now c.loop-txn.store c.args.batch.now l) (at_item _ _ _ c.txn-item.is c.loop-txn-test.true) (c.loop-txn.invariant.told told)).may_begin.0.fresh

pub returns-in-Err-clause-works : goal.returns-in-Err-clause-works
returns-in-Err-clause-works g c = λ told order.
    let h = subst (λ (l : List Waiting). IsSubmitting g.S.Store c.args.store.now c.loop-txn.store c.args.batch.now l) (at_item _ _ _ c.txn-item.is c.loop-txn-test.true) (c.loop-txn.invariant.told told) in
    batch_works _ _ _ _ _ _ _ _ _ h.within.0 (h.works order) (c.submit.ensures.works told order)

pub returns-clause-works : goal.returns-clause-works
returns-clause-works g c = λ told. (c.loop-txn.invariant.told told).works

pub returns-clause-begun : goal.returns-clause-begun
returns-clause-begun g c = λ told.
    submitting_ends _ _ _ _ (c.requires.may_run told)
    (subst (λ (l : List Waiting). IsSubmitting g.S.Store c.args.store.now c.loop-txn.store c.args.batch.now l) (none_left _ _ c.loop-txn-test.false) (c.loop-txn.invariant.told told))

pub loop-txn-preserved : goal.loop-txn-preserved
loop-txn-preserved g c = record {
  told = λ told.
      let h = subst (λ (l : List Waiting). IsSubmitting g.S.Store c.args.store.now c.loop-txn.store c.args.batch.now l) (at_item _ _ _ c.txn-item.is c.loop-txn-test.true) (c.loop-txn.invariant.told told) in
      submitting_next _ _ _ _ _ _ _ h (c.submit.ensures.works told) (c.submit.ensures.uses told) (c.submit.ensures.calm told) (c.in-Ok-true.ensures.stands told).1;
  made = call_after _ _ _ _ _ _ c.loop-txn.invariant.made c.submit.ensures.call;
}

pub returns-in-Err-clause-uses : goal.returns-in-Err-clause-uses
returns-in-Err-clause-uses g c = λ told. uses_then (c.loop-txn.invariant.told told).uses (c.submit.ensures.uses told)

pub returns-clause-uses : goal.returns-clause-uses
returns-clause-uses g c = λ told. (c.loop-txn.invariant.told told).uses

pub returns-in-Err-clause-own : goal.returns-in-Err-clause-own
returns-in-Err-clause-own g c = λ told.
    let h = subst (λ (l : List Waiting). IsSubmitting g.S.Store c.args.store.now c.loop-txn.store c.args.batch.now l) (at_item _ _ _ c.txn-item.is c.loop-txn-test.true) (c.loop-txn.invariant.told told) in
    submitting_refused _ _ _ _ _ _ _ h (c.submit.ensures.works told) (c.in-Err.ensures.stays told)

pub returns-clause-own : goal.returns-clause-own
returns-clause-own g c = λ told.
    (subst (λ (l : List Waiting). IsSubmitting g.S.Store c.args.store.now c.loop-txn.store c.args.batch.now l) (none_left _ _ c.loop-txn-test.false) (c.loop-txn.invariant.told told)).own _ (λ id rec there. there) tt

pub returns-in-Ok-false-clause-calls : goal.returns-in-Ok-false-clause-calls
returns-in-Ok-false-clause-calls g c = call_after _ _ _ _ _ _ c.loop-txn.invariant.made c.submit.ensures.call

pub returns-in-Err-clause-calls : goal.returns-in-Err-clause-calls
returns-in-Err-clause-calls g c = call_after _ _ _ _ _ _ c.loop-txn.invariant.made c.submit.ensures.call
