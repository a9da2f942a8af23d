use Rattle.std.proofs.Common.{◌∙◌}
use Rattle.listed_cells.proofs.OrderMade.{not_ready, ready_answer, vertex_flagged}
use Rattle.listed_cells.proofs.order.Order.is_ready.Goals as goal

pub returns-then-index : goal.returns-then-index
returns-then-index c =
    let v = c.vertex-v.ensures in
    not_ready _ _ _ c.requires.order _ _ v.within v.is (vertex_flagged _ _ _ c.requires.order _ _ v.within c.index.ensures ∙ c.if-index.true)

pub returns : goal.returns
returns c =
    let v = c.vertex-v.ensures in
    ready_answer _ _ _ c.requires.order _ _ v.within v.is (vertex_flagged _ _ _ c.requires.order _ _ v.within c.index.ensures ∙ c.if-index.false) _ c.is_ready.ensures
