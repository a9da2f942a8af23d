use Rattle.std.proofs.Common.{◌≡◌, drop}
use Rattle.serde_json.specs.View.{items_view, members_view}
use Rattle.doc_value.specs.JsonFaults.{items_are_whole, members_are_whole}
use Rattle.doc_value.proofs.read.+json_numbers.Given as goal

abbrev pub invariant-items_have_whole_numbers-loop-item : goal.invariant-items_have_whole_numbers-loop-item
invariant-items_have_whole_numbers-loop-item l = items_are_whole (items_view (drop l.item-index l.item-items)) ≡ items_are_whole (items_view l.items.items)

abbrev pub invariant-members_have_whole_numbers-loop-value : goal.invariant-members_have_whole_numbers-loop-value
invariant-members_have_whole_numbers-loop-value l = members_are_whole (members_view l.value-iterator) ≡ members_are_whole (members_view l.members.entries)
