use Rattle.std.proofs.Common.{rules}
use Rattle.cycle_order.proofs.LinkedEdges.{linked_none, linked_more, linked_all}
use Rattle.cycle_order.proofs.incoming.Incoming.new.Goals as goal

pub loop-place-init : goal.loop-place-init
loop-place-init c = linked_none _ _ _ _ c.in_ok-last.ensures c.new-previous.ensures.items

pub loop-place-preserved : goal.loop-place-preserved
loop-place-preserved c = linked_more _ _ _ _ _ c.index.result.now (search rules) c.index.ensures c.loop-place.invariant _ c.in_ok-push.ensures.items

pub returns-clause-linked : goal.returns-clause-linked
returns-clause-linked c = record {
  linked = linked_all _ _ _ _ _ _ c.deref-edge-items.ensures.value c.loop-place-test.false c.loop-place.auto.place-end c.loop-place.invariant;
  inside = c.requires;
}
