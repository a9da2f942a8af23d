use Rattle.std.proofs.Common.{◌≡◌, ◌++◌, drop, map}
use Rattle.serde_json.specs.View.{items_view, members_view}
use Rattle.doc_value.specs.Fields.{judged}
use Rattle.doc_value.specs.JsonValue.{values_of, fields_of}
use Rattle.doc_value.specs.Sound.{is_sound, all_sound, fields_sound}
use Rattle.doc_value.proofs.read.+convert.Given as goal

-- what is converted, before what is left, is the whole; and all that was converted is sound
abbrev pub invariant-convert_items-loop-item : goal.invariant-convert_items-loop-item
invariant-convert_items-loop-item l = record {
  all : l.values ++ values_of (items_view (drop l.item-index l.item-items)) ≡ values_of (items_view l.items.items);
  sound : all_sound (map is_sound (values_of (items_view (drop l.item-index l.item-items)))) ≡ all_sound (map is_sound (values_of (items_view l.items.items)));
}

abbrev pub invariant-convert_members-loop-name : goal.invariant-convert_members-loop-name
invariant-convert_members-loop-name l = record {
  all : l.fields ++ fields_of (members_view l.name-iterator) ≡ fields_of (members_view l.members.entries);
  sound : fields_sound (map (judged is_sound) (fields_of (members_view l.name-iterator))) ≡ fields_sound (map (judged is_sound) (fields_of (members_view l.members.entries)));
}
