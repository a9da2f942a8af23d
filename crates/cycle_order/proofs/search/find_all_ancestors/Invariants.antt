use Rattle.cycle_order.proofs.Searches.{IsBeginning}
use Rattle.cycle_order.proofs.search.find_all_ancestors.Given as goal

abbrev pub invariant-loop-v : goal.invariant-loop-v
invariant-loop-v l = IsBeginning l.marked l.v l.search.found.items l.search.frontier.items
