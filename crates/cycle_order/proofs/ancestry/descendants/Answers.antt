use Rattle.std.proofs.lemmas.Result.{IfOk-weaker}
use Rattle.cycle_order.proofs.TurnedEdges.{descendants_found}
use Rattle.cycle_order.proofs.ancestry.descendants.Goals as goal

pub returns-clause-exact : goal.returns-clause-exact
returns-clause-exact c =
    IfOk-weaker c.find_all_ancestors.result _ _ (λ found exact. descendants_found c.args.graph.now _ c.in_ok-links.ensures.out_of_edges _ _ exact) c.find_all_ancestors.ensures.exact
