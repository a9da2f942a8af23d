use Rattle.txn_play.proofs.Causing.{caused_before, caused_step}
use Rattle.std.proofs.Common.{subst, List, rules}
use Rattle.txn_play.specs.Batches.{IsSettling}
use Rattle.txn_runner.specs.declared.waiting.Waiting.{Waiting}
use Rattle.txn_play.proofs.Batches.{at_item, none_left, settling_begins, settling_next, settling_ends, begins_worth, batch_works, uses_up_to_here}
use Rattle.store_laws.proofs.trails.CallsMade.{calls_none, calls_then}
use Rattle.std.proofs.lemmas.Bool.{and_parts}
use Rattle.txn_play.proofs.settling.settle_all.Goals as goal

pub loop-txn-init : goal.loop-txn-init
loop-txn-init g c = record {
  told = λ told. rw c.new-states.ensures (settling_begins g.S.Store _ _ _ (c.requires.begun told));
  made = calls_none _ _ (λ told. g.met.S.Store.present _ told);
  built = c.requires.built;
}

pub settle-requires : goal.settle-requires
settle-requires g c = record { built = (and_parts _ _ (rw (at_item _ _ _ c.txn-item.is c.loop-txn-test.true) at c.loop-txn.invariant.built)).0; worth = λ told. begins_worth _ _ _ (subst (λ (l : List Waiting). IsSettling g.S.Store c.args.store.now c.loop-txn.store c.args.order.now.items c.loop-txn.order.items c.args.batch.now l c.loop-txn.states) (at_item _ _ _ c.txn-item.is c.loop-txn-test.true) (c.loop-txn.invariant.told told)).begun }

pub returns-in_err-push-in-Ok-clause-works : goal.returns-in_err-push-in-Ok-clause-works
returns-in_err-push-in-Ok-clause-works g c = λ told.
    let h = subst (λ (l : List Waiting). IsSettling g.S.Store c.args.store.now c.loop-txn.store c.args.order.now.items c.loop-txn.order.items c.args.batch.now l c.loop-txn.states) (at_item _ _ _ c.txn-item.is c.loop-txn-test.true) (c.loop-txn.invariant.told told) in
    batch_works _ _ _ _ _ _ _ _ _ h.within.0 h.works (c.settle.ensures.works told)

pub returns-in-Err-clause-works : goal.returns-in-Err-clause-works
returns-in-Err-clause-works g c = λ told.
    let h = subst (λ (l : List Waiting). IsSettling g.S.Store c.args.store.now c.loop-txn.store c.args.order.now.items c.loop-txn.order.items c.args.batch.now l c.loop-txn.states) (at_item _ _ _ c.txn-item.is c.loop-txn-test.true) (c.loop-txn.invariant.told told) in
    batch_works _ _ _ _ _ _ _ _ _ h.within.0 h.works (c.settle.ensures.works told)

pub loop-txn-preserved : goal.loop-txn-preserved
loop-txn-preserved g c = record {
  told = λ told.
      let h = subst (λ (l : List Waiting). IsSettling g.S.Store c.args.store.now c.loop-txn.store c.args.order.now.items c.loop-txn.order.items c.args.batch.now l c.loop-txn.states) (at_item _ _ _ c.txn-item.is c.loop-txn-test.true) (c.loop-txn.invariant.told told) in
      settling_next _ _ _ _ _ _ _ _ _ _ _ _ c.in-Ok.outcome h (c.settle.ensures.works told) (c.settle.ensures.uses told) (c.in-Ok.ensures.settled told) (rw c.end_of.ensures at c.in_ok-push-in-Ok.ensures.ok);
  made = calls_then _ _ _ _ c.loop-txn.invariant.made c.settle.ensures.calls;
  built = (and_parts _ _ (rw (at_item _ _ _ c.txn-item.is c.loop-txn-test.true) at c.loop-txn.invariant.built)).1;
}

pub returns-clause-done : goal.returns-clause-done
returns-clause-done g c = λ told. settling_ends _ _ _ _ _ _ _ (subst (λ (l : List Waiting). IsSettling g.S.Store c.args.store.now c.loop-txn.store c.args.order.now.items c.loop-txn.order.items c.args.batch.now l c.loop-txn.states) (none_left _ _ c.loop-txn-test.false) (c.loop-txn.invariant.told told))

pub returns-in_err-push-in-Ok-clause-uses : goal.returns-in_err-push-in-Ok-clause-uses
returns-in_err-push-in-Ok-clause-uses g c = λ told.
    let h = subst (λ (l : List Waiting). IsSettling g.S.Store c.args.store.now c.loop-txn.store c.args.order.now.items c.loop-txn.order.items c.args.batch.now l c.loop-txn.states) (at_item _ _ _ c.txn-item.is c.loop-txn-test.true) (c.loop-txn.invariant.told told) in
    uses_up_to_here _ h.uses (c.settle.ensures.uses told)

pub returns-in-Err-clause-uses : goal.returns-in-Err-clause-uses
returns-in-Err-clause-uses g c = λ told.
    let h = subst (λ (l : List Waiting). IsSettling g.S.Store c.args.store.now c.loop-txn.store c.args.order.now.items c.loop-txn.order.items c.args.batch.now l c.loop-txn.states) (at_item _ _ _ c.txn-item.is c.loop-txn-test.true) (c.loop-txn.invariant.told told) in
    uses_up_to_here _ h.uses (c.settle.ensures.uses told)

pub returns-clause-uses : goal.returns-clause-uses
returns-clause-uses g c = λ told. (subst (λ (l : List Waiting). IsSettling g.S.Store c.args.store.now c.loop-txn.store c.args.order.now.items c.loop-txn.order.items c.args.batch.now l c.loop-txn.states) (none_left _ _ c.loop-txn-test.false) (c.loop-txn.invariant.told told)).uses

pub returns-in-Err-clause-cause : goal.returns-in-Err-clause-cause
returns-in-Err-clause-cause g c = caused_before _ _ _ _ _ c.loop-txn.invariant.made.chain (rw c.refusal_of.ensures.exact (caused_step _ _ _ _ _ c.in-Err.ensures.cause))

pub returns-in_err-push-in-Ok-clause-calls : goal.returns-in_err-push-in-Ok-clause-calls
returns-in_err-push-in-Ok-clause-calls g c = calls_then _ _ _ _ c.loop-txn.invariant.made c.settle.ensures.calls

pub returns-in-Err-clause-calls : goal.returns-in-Err-clause-calls
returns-in-Err-clause-calls g c = calls_then _ _ _ _ c.loop-txn.invariant.made c.settle.ensures.calls
