use Rattle.std.proofs.Common.{◌≡◌, nat_lt, map, drop}
use Rattle.doc_value.specs.Fields.{judged}
use Rattle.doc_value.specs.Depth.{nesting, deepest, deepest_field}
use Rattle.doc_value.proofs.nesting.+nesting.Given as goal

abbrev pub invariant-some_item_is_deeper-loop-item : goal.invariant-some_item_is_deeper-loop-item
invariant-some_item_is_deeper-loop-item l = nat_lt l.limit (deepest (map nesting (drop l.item-index l.items))) ≡ nat_lt l.limit (deepest (map nesting l.items))

abbrev pub invariant-some_field_is_deeper-loop-field : goal.invariant-some_field_is_deeper-loop-field
invariant-some_field_is_deeper-loop-field l = nat_lt l.limit (deepest_field (map (judged nesting) (drop l.field-index l.fields))) ≡ nat_lt l.limit (deepest_field (map (judged nesting) l.fields))
