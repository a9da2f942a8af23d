-- What the definitions over values say of a list and of an object, in terms of what stands inside.
use Rattle.std.proofs.Common.{◌≡◌, suc, List, map, rules}
use Rattle.doc_value.specs.declared.value.Named.{Named}
use Rattle.doc_value.specs.declared.value.Value.{Value, List as Items_of, Object, the_lemmas}
use Rattle.doc_value.specs.Fields.{judged}
use Rattle.doc_value.specs.Depth.{nesting, deepest, deepest_field}
use Rattle.doc_value.specs.Order.{is_ordered, all_ordered, fields_ordered}
use Rattle.doc_value.specs.Readable.{holds_bad_name, some_bad, some_field_bad}
use Rattle.doc_value.specs.Sound.{is_sound, fields_sound}

pub nesting-List : (values : List Value) → nesting (Items_of values) ≡ suc (deepest (map nesting values))
nesting-List values = search (rules, the_lemmas)

pub nesting-Object : (fields : List (Named Value)) → nesting (Object fields) ≡ suc (deepest_field (map (judged nesting) fields))
nesting-Object fields = search (rules, the_lemmas)

pub names-List : (values : List Value) → holds_bad_name (Items_of values) ≡ some_bad (map holds_bad_name values)
names-List values = search (rules, the_lemmas)

pub names-Object : (fields : List (Named Value)) → holds_bad_name (Object fields) ≡ some_field_bad (map (judged holds_bad_name) fields)
names-Object fields = search (rules, the_lemmas)

pub ordered-List : (values : List Value) → is_ordered (Items_of values) ≡ all_ordered (map is_ordered values)
ordered-List values = search (rules, the_lemmas)

pub ordered-Object : (fields : List (Named Value)) → is_ordered (Object fields) ≡ fields_ordered (map (judged is_ordered) fields)
ordered-Object fields = search (rules, the_lemmas)

pub sound-Object : (fields : List (Named Value)) → is_sound (Object fields) ≡ fields_sound (map (judged is_sound) fields)
sound-Object fields = search (rules, the_lemmas)
