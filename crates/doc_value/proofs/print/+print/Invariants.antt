use Rattle.std.proofs.Common.{◌≡◌, ◌++◌, false, map, drop}
use Rattle.doc_value.specs.Fields.{judged}
use Rattle.doc_value.specs.Texts.{compact, items_text, fields_text}
use Rattle.doc_value.specs.Sound.{is_sound, all_sound, fields_sound}
use Rattle.doc_value.proofs.print.+print.Given as goal

-- what is written, before the text of what is left, is the whole; and all that was written is sound
abbrev pub invariant-write_items-loop-item : goal.invariant-write_items-loop-item
invariant-write_items-loop-item l = record {
  written : l.out.items ++ items_text l.later (map compact (drop l.item-index l.items)) ≡ l.initial.out.items ++ items_text false (map compact l.items);
  sound : all_sound (map is_sound (drop l.item-index l.items)) ≡ all_sound (map is_sound l.items);
}

abbrev pub invariant-write_fields-loop-field : goal.invariant-write_fields-loop-field
invariant-write_fields-loop-field l = record {
  written : l.out.items ++ fields_text l.later (map (judged compact) (drop l.field-index l.fields)) ≡ l.initial.out.items ++ fields_text false (map (judged compact) l.fields);
  sound : fields_sound (map (judged is_sound) (drop l.field-index l.fields)) ≡ fields_sound (map (judged is_sound) l.fields);
}
