use Rattle.std.proofs.Common.{◌∙◌}
use Rattle.listed_cells.proofs.WalkAll.{walked_none, walked_more, walked_all, queue_read}
use Rattle.listed_cells.proofs.walks.walk_all.Goals as goal

pub loop-place-init : goal.loop-place-init
loop-place-init c = walked_none _ _ _ _ _ c.new-edges.ensures.items (c.in_ok-marks.ensures.items_if_clones_equal (λ y e. e))

pub loop-place-preserved : goal.loop-place-preserved
loop-place-preserved c =
    walked_more _ _ _ _ _ _ _ _ _ (c.owner_queue-queue.ensures ∙ queue_read _ _ _ _ c.loop-place-test.true) c.in_ok-walk.ensures.edges c.in_ok-walk.ensures.marks c.loop-place.invariant

pub returns : goal.returns
returns c = walked_all _ _ c.requires.listed _ _ _ c.loop-place-test.false c.loop-place.invariant
