use Rattle.std.proofs.Common.{◌≡◌, ◌<◌, length, Some, None, Ok, ap, ◌∙◌, refl, subst, arith}
use Rattle.std.proofs.lemmas.Result.{err_from_is_err_and}
use Rattle.std.specs.Option.{option_map}
use Rattle.store_trait.specs.Contents.{Content, first_past, named}
use Rattle.store_laws.proofs.trails.CallsMade.{calls_none}
use Rattle.store_laws.proofs.trails.OnlyReading.{reads_none}
use Rattle.txn_audit.specs.Reading.{Lists}
use Rattle.txn_audit.proofs.Readings.{lists_none, lists_all, more_than, rises_none, rises_all, reads_answered, reads_many, reads_more, reads_refused}
use Rattle.txn_audit.proofs.reading.list_cells.Goals as goal

pub loop-after-init : goal.loop-after-init
loop-after-init g c = rw c.new-cells.ensures (record {
  listed = λ told. lists_none (g.S.Store.content c.args.store.now);
  lists = Lists.Nothing;
  reads = λ told. reads_none g.S.Store c.args.store.now (g.met.S.Store.present c.args.store.now told);
  go_on = calls_none g.S.Store c.args.store.now (λ told. g.met.S.Store.present c.args.store.now told);
  made = omega arith;
  still = refl;
  rises = rises_none;
  few = omega arith;
})

pub loop-after-preserved : goal.loop-after-preserved
loop-after-preserved g c =
    let few : length c.loop-after.cells < 200000 = omega arith in
    let found = rw (c.in-Some.is, c.as_ref.ensures.value) at c.in_ok-named.ensures in
    rw (c.in_ok-push.ensures.ok, c.in_ok-copy.ensures)
    (reads_more g.S.Store c.args.store.now c.loop-after.store c.next_past.new.store c.loop-after.after c.loop-after.cells c.loop-after.invariant (λ told. g.met.S.Store.present c.loop-after.store told)
    c.next_past.result c.next_past.ensures.call c.next_past.ensures.same c.in-Some.named (c.in_ok-named.was ∙ ap Ok c.in-Some.is) found.past found.kind found.found found.asked few)

pub returns-in_err-named-clause-kept : goal.returns-in_err-named-clause-kept
returns-in_err-named-clause-kept g c =
    let p = err_from_is_err_and c.from_residual.result c.from_residual.ensures.1 in
    rw (p.1, p.2) (reads_refused g.S.Store c.args.store.now c.loop-after.store c.next_past.new.store c.loop-after.after c.loop-after.cells c.loop-after.invariant (λ told. g.met.S.Store.present c.loop-after.store told)
    c.next_past.result c.next_past.ensures.call c.next_past.ensures.same _ c.in_err-named.was)

pub returns-then-len-ge-MAX_CELLS-clause-too_many : goal.returns-then-len-ge-MAX_CELLS-clause-too_many
returns-then-len-ge-MAX_CELLS-clause-too_many g c = λ told many.
    let found = subst (λ (held : Content). Some c.in-Some.named ≡ option_map named (first_past c.loop-after.after held)) ((c.loop-after.invariant.reads told).same) (rw (c.in-Some.is, c.as_ref.ensures.value) at (c.in_ok-named.ensures.found told)) in
    more_than (g.S.Store.content c.args.store.now) c.loop-after.after c.loop-after.cells c.in-Some.named 200000 (c.loop-after.invariant.listed told) found (omega arith)

pub returns-then-len-ge-MAX_CELLS-clause-kept : goal.returns-then-len-ge-MAX_CELLS-clause-kept
returns-then-len-ge-MAX_CELLS-clause-kept g c =
    reads_answered g.S.Store c.args.store.now c.loop-after.store c.next_past.new.store c.loop-after.after c.loop-after.cells c.loop-after.invariant (λ told. g.met.S.Store.present c.loop-after.store told)
    c.next_past.result c.next_past.ensures.call c.next_past.ensures.same _ _ c.in_ok-named.was (λ e. cc)

pub returns-then-len-ge-MAX_CELLS-clause-shown : goal.returns-then-len-ge-MAX_CELLS-clause-shown
returns-then-len-ge-MAX_CELLS-clause-shown g c =
    reads_many g.S.Store c.args.store.now c.loop-after.store c.next_past.new.store c.loop-after.after c.loop-after.cells c.loop-after.invariant (λ told. g.met.S.Store.present c.loop-after.store told)
    c.next_past.result c.next_past.ensures.call c.next_past.ensures.same c.in-Some.named (c.in_ok-named.was ∙ ap Ok c.in-Some.is) (rw (c.in-Some.is, c.as_ref.ensures.value) at c.in_ok-named.ensures.asked) (omega arith)

pub returns-in_err-copy-clause-kept : goal.returns-in_err-copy-clause-kept
returns-in_err-copy-clause-kept g c =
    let p = err_from_is_err_and c.from_residual-in_err-copy.result c.from_residual-in_err-copy.ensures.1 in
    rw (p.1, p.2) (reads_answered g.S.Store c.args.store.now c.loop-after.store c.next_past.new.store c.loop-after.after c.loop-after.cells c.loop-after.invariant (λ told. g.met.S.Store.present c.loop-after.store told)
    c.next_past.result c.next_past.ensures.call c.next_past.ensures.same _ _ c.in_ok-named.was (λ e. cc))

pub returns-in_err-push-clause-kept : goal.returns-in_err-push-clause-kept
returns-in_err-push-clause-kept g c =
    let p = err_from_is_err_and c.from_residual-in_err-push.result c.from_residual-in_err-push.ensures.1 in
    rw (p.1, p.2) (reads_answered g.S.Store c.args.store.now c.loop-after.store c.next_past.new.store c.loop-after.after c.loop-after.cells c.loop-after.invariant (λ told. g.met.S.Store.present c.loop-after.store told)
    c.next_past.result c.next_past.ensures.call c.next_past.ensures.same _ _ c.in_ok-named.was (λ e. cc))

pub returns-clause-listed : goal.returns-clause-listed
returns-clause-listed g c = λ told.
    let found = subst (λ (held : Content). None ≡ option_map named (first_past c.loop-after.after held)) ((c.loop-after.invariant.reads told).same) (rw (c.in_default.is, c.as_ref.ensures.value) at (c.in_ok-named.ensures.found told)) in
    lists_all (g.S.Store.content c.args.store.now) c.loop-after.after c.loop-after.cells (c.loop-after.invariant.listed told) found

pub returns-clause-kept : goal.returns-clause-kept
returns-clause-kept g c =
    reads_answered g.S.Store c.args.store.now c.loop-after.store c.next_past.new.store c.loop-after.after c.loop-after.cells c.loop-after.invariant (λ told. g.met.S.Store.present c.loop-after.store told)
    c.next_past.result c.next_past.ensures.call c.next_past.ensures.same _ _ c.in_ok-named.was (λ e. cc)

pub returns-clause-shown : goal.returns-clause-shown
returns-clause-shown g c = record {
  last = c.loop-after.store;
  after = c.loop-after.after;
  lists = c.loop-after.invariant.lists;
  ended = rw (c.in_default.is, c.as_ref.ensures.value) at c.in_ok-named.ensures.asked;
}
