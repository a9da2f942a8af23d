use Rattle.cycle_order.proofs.TurnedEdges.{ahead_of, behind_of, ready_by_searches}
use Rattle.cycle_order.proofs.ready.is_ready_by.Goals as goal

pub returns : goal.returns
returns c =
    ready_by_searches _ _ _ _ _
    (ahead_of _ _ _ c.requires.links _ _ c.as_slice.ensures.value c.in_ok-before.ensures.exact)
    (behind_of _ _ _ c.requires.links _ _ c.as_slice-2.ensures.value c.in_ok-after.ensures.exact)
    c.all_give_way.ensures
