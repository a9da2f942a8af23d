use Rattle.std.proofs.Common.{◌≡◌, nat_lt, drop}
use Rattle.serde_json.specs.Data.{items_depth, members_depth}
use Rattle.serde_json.specs.View.{items_view, members_view}
use Rattle.doc_value.proofs.read.+json_depth.Given as goal

abbrev pub invariant-some_item_is_deeper-loop-item : goal.invariant-some_item_is_deeper-loop-item
invariant-some_item_is_deeper-loop-item l = nat_lt l.limit (items_depth (items_view (drop l.item-index l.item-items))) ≡ nat_lt l.limit (items_depth (items_view l.items.items))

abbrev pub invariant-some_member_is_deeper-loop-value : goal.invariant-some_member_is_deeper-loop-value
invariant-some_member_is_deeper-loop-value l = nat_lt l.limit (members_depth (members_view l.value-iterator)) ≡ nat_lt l.limit (members_depth (members_view l.members.entries))
