use Rattle.std.proofs.Common.{◌≡◌, drop, map}
use Rattle.doc_value.specs.Fields.{judged}
use Rattle.doc_value.specs.Order.{is_ordered, all_ordered, fields_ordered}
use Rattle.doc_value.proofs.ordered.+ordered.Given as goal

abbrev pub invariant-items_ordered-loop-item : goal.invariant-items_ordered-loop-item
invariant-items_ordered-loop-item l = all_ordered (map is_ordered (drop l.item-index l.items)) ≡ all_ordered (map is_ordered l.items)

abbrev pub invariant-fields_ordered-loop-i : goal.invariant-fields_ordered-loop-i
invariant-fields_ordered-loop-i l = fields_ordered (map (judged is_ordered) (drop l.i l.fields)) ≡ fields_ordered (map (judged is_ordered) l.fields)
