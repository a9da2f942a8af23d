use Rattle.txn_record.specs.Walks.{Leads}
use Rattle.cycle_order.proofs.Leasts.{least_ancestor}
use Rattle.cycle_order.proofs.TurnedEdges.{ahead_of}
use Rattle.cycle_order.proofs.least.least_ahead.Goals as goal

pub least_marked-requires-clause-here : goal.least_marked-requires-clause-here
least_marked-requires-clause-here c =
    (ahead_of _ _ _ c.requires.links _ _ c.as_slice.ensures.value c.in_ok-before.ensures.exact c.args.v).1 (Leads.Here _)

pub returns : goal.returns
returns c = least_ancestor _ _ _ _ (ahead_of _ _ _ c.requires.links _ _ c.as_slice.ensures.value c.in_ok-before.ensures.exact) c.least_marked.ensures
