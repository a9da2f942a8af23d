use Rattle.std.proofs.Common.{rules}
use Rattle.std.proofs.lemmas.Result.{IfOk-weaker}
use Rattle.cycle_order.proofs.Searches.{beginning, beginning_here, beginning_on, all_begun, leads_to_same}
use Rattle.cycle_order.proofs.search.find_all_ancestors.Goals.{then-marked-v+in_ok-mark, else-marked-v}
use Rattle.cycle_order.proofs.search.find_all_ancestors.Goals as goal

pub loop-v-init : goal.loop-v-init
loop-v-init c = beginning _ _ _ (c.in_ok-vec.ensures.items_if_clones_equal (λ y e. e)) c.new.ensures.items

pub loop-v-preserved : goal.loop-v-preserved
loop-v-preserved c = elim c.if-marked-v.branch [
  | then-marked-v+in_ok-mark w ↦ rw w.search-is (beginning_here _ _ _ _ _ _ (search rules) w.in_ok-mark.ensures.finds w.in_ok-mark.ensures.here c.loop-v.invariant)
  | else-marked-v w ↦ rw w.search-is (beginning_on _ _ _ _ (search rules) c.loop-v.invariant)
]

pub returns-clause-exact : goal.returns-clause-exact
returns-clause-exact c =
    IfOk-weaker c.follow.result _ _ (λ found exact. leads_to_same _ _ _ (all_begun _ _ _ _ c.loop-v.invariant c.loop-v-test.false) c.loop-v.invariant.only _ exact) c.follow.ensures.exact
