use Rattle.std.proofs.Common.{sym}
use Rattle.listed_cells.proofs.OrderMade.{sealed_answer, vertex_flagged}
use Rattle.listed_cells.proofs.order.Order.is_sealed.Goals as goal

pub returns : goal.returns
returns c =
    let v = c.vertex-v.ensures in
    sealed_answer _ _ _ c.requires.order _ _ v.within v.is _ (sym (vertex_flagged _ _ _ c.requires.order _ _ v.within c.index.ensures))
