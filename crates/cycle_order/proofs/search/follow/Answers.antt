use Rattle.std.proofs.Common.{arith, refl}
use Rattle.cycle_order.proofs.Searches.{search_begins, search_within, search_more, search_ends}
use Rattle.cycle_order.proofs.search.follow.Goals as goal

pub loop-t-init : goal.loop-t-init
loop-t-init c = search_begins _ _ _ _ _ refl (λ a m. m) (λ a m. m) c.requires.begun

pub mark_before-requires-clause-within : goal.mark_before-requires-clause-within
mark_before-requires-clause-within c = search_within _ _ _ _ _ _ _ c.in-Some.ensures.items c.loop-t.invariant

pub loop-t-preserved : goal.loop-t-preserved
loop-t-preserved c = search_more _ _ _ _ _ _ _ _ _ c.in-Some.ensures.items c.loop-t.invariant c.in_ok-mark_before.ensures.finds c.in_ok-mark_before.ensures.all

pub returns-clause-exact : goal.returns-clause-exact
returns-clause-exact c = search_ends _ _ _ _ _ (omega (arith, c.in_default.ensures.cases)) c.loop-t.invariant
