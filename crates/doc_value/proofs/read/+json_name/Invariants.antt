use Rattle.std.proofs.Common.{◌≡◌, drop}
use Rattle.serde_json.specs.View.{items_view, members_view}
use Rattle.doc_value.specs.JsonFaults.{some_item_has_bad_name, some_member_has_bad_name}
use Rattle.doc_value.proofs.read.+json_name.Given as goal

abbrev pub invariant-some_item_has_refused_name-loop-item : goal.invariant-some_item_has_refused_name-loop-item
invariant-some_item_has_refused_name-loop-item l = some_item_has_bad_name (items_view (drop l.item-index l.item-items)) ≡ some_item_has_bad_name (items_view l.items.items)

abbrev pub invariant-some_member_has_refused_name-loop-name : goal.invariant-some_member_has_refused_name-loop-name
invariant-some_member_has_refused_name-loop-name l = some_member_has_bad_name (members_view l.name-iterator) ≡ some_member_has_bad_name (members_view l.members.entries)
