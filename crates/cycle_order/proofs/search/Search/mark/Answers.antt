use Rattle.std.proofs.Common.{false, sym, ◌∙◌}
use Rattle.std.proofs.lemmas.List.{get_or_read}
use Rattle.cycle_order.proofs.Searches.{finds_one}
use Rattle.cycle_order.proofs.search.Search.mark.Goals as goal

pub returns-in_ok-push-clause-finds : goal.returns-in_ok-push-clause-finds
returns-in_ok-push-clause-finds c =
    rw c.in_ok-push.ensures.items (finds_one _ _ _ c.requires (sym (get_or_read _ _ _ c.requires c.index.ensures false) ∙ c.if-not-index.true))
