use Rattle.std.proofs.Common.{subst, List}
use Rattle.txn_key.specs.declared.id.Token.{Token}
use Rattle.listed_cells.specs.Standing.{IsSetOf}
use Rattle.listed_cells.proofs.Waiting.{queues_none, queues_next, queues_all}
use Rattle.listed_cells.proofs.standing.Standing.new.Goals as goal

pub loop-named-init : goal.loop-named-init
loop-named-init c = queues_none c.args.cells.now _ c.new-queues.ensures.items

pub loop-named-preserved : goal.loop-named-preserved
loop-named-preserved c =
    queues_next _ _ _ _ _ _ c.loop-named-test.true c.named-item.is c.in_ok-push.ensures.items c.loop-named.invariant
    (subst (λ (xs : List Token). IsSetOf xs c.in_ok-set_of.field-0) c.queue_of.ensures c.in_ok-set_of.ensures)

pub returns : goal.returns
returns c = queues_all _ _ _ c.loop-named-test.false c.loop-named.invariant
