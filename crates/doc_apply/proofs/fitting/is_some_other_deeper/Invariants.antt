use Rattle.std.proofs.Common.{◌≡◌, drop, map, nat_lt}
use Rattle.doc_value.specs.Depth.{nesting, deepest}
use Rattle.doc_update.specs.Effects.{without_item}
use Rattle.doc_apply.proofs.fitting.is_some_other_deeper.Given as goal

abbrev pub invariant-loop-item : goal.invariant-loop-item
invariant-loop-item l = nat_lt l.limit (deepest (map nesting (without_item l.operand (drop l.item-index l.items)))) ≡ nat_lt l.limit (deepest (map nesting (without_item l.operand l.items)))
