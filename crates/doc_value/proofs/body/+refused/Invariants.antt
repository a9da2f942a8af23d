use Rattle.std.proofs.Common.{◌≡◌, map, drop}
use Rattle.doc_value.specs.Fields.{judged}
use Rattle.doc_value.specs.Bodies.{refused_inside, first_found, first_in_fields}
use Rattle.doc_value.proofs.body.+refused.Given as goal

abbrev pub invariant-first_refused_in_items-loop-item : goal.invariant-first_refused_in_items-loop-item
invariant-first_refused_in_items-loop-item l = first_found (map refused_inside (drop l.item-index l.items)) ≡ first_found (map refused_inside l.items)

abbrev pub invariant-first_refused_in_fields-loop-field : goal.invariant-first_refused_in_fields-loop-field
invariant-first_refused_in_fields-loop-field l = first_in_fields (map (judged refused_inside) (drop l.field-index l.fields)) ≡ first_in_fields (map (judged refused_inside) l.fields)
