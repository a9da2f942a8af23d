-- What a value is as the body of a document, or the fault for which it is refused.
use Rattle.std.specs.Prelude.{ℕ, not, List, [], ◌∷◌, nat_lt, if◌then◌else◌, Option, Some, None, Result, Ok, Err, filter, ◌||◌}
use Rattle.std.specs.Option.{option_or}
use Rattle.doc_value.specs.declared.doc_id.DocId.{DocId}
use Rattle.doc_value.specs.declared.fault.BodyFault.{BodyFault}
use Rattle.doc_value.specs.declared.fault.BodyFault.TheVariants.{NotObject, TooDeep, BadField}
use Rattle.doc_value.specs.declared.value.Named.{Named}
use Rattle.doc_value.specs.declared.value.Value.{Value, Object, out-Value, fold-Value}
use Rattle.doc_value.specs.declared.value.Value.TheOpen.{Value-F}
use Rattle.doc_value.specs.Ids.{is_value_of_id}
use Rattle.doc_value.specs.Names.{is_id_name, is_transaction_name, is_refused_name}
use Rattle.doc_value.specs.Depth.{nesting}

-- ---- the first refused name in the order of a walk: a name, the names inside its value, the next name

abbrev pub first_found : List (Option (List ℕ)) → Option (List ℕ)
first_found [] = None
first_found (found ∷ rest) = option_or found (first_found rest)

abbrev pub first_in_fields : List (Named (Option (List ℕ))) → Option (List ℕ)
first_in_fields [] = None
first_in_fields (field ∷ fields) =
    if is_refused_name field.name then Some field.name
    else option_or field.value (first_in_fields fields)

abbrev pub refused_step : Value-F (Option (List ℕ)) → Option (List ℕ)
refused_step (Value-F.List found) = first_found found
refused_step (Value-F.Object fields) = first_in_fields fields
refused_step _ = None

abbrev pub refused_inside : Value → Option (List ℕ)
refused_inside = fold-Value (Option (List ℕ)) refused_step

-- ---- the top of a body

-- A field `_id` is no fault where it is the document's id.
abbrev pub refused_at_top : DocId → Named Value → Option (List ℕ)
refused_at_top id field =
    if is_id_name field.name then (if is_value_of_id id field.value then None else Some field.name)
    else (if is_refused_name field.name || is_transaction_name field.name then Some field.name
    else refused_inside field.value)

abbrev pub first_refused : DocId → List (Named Value) → Option (List ℕ)
first_refused id [] = None
first_refused id (field ∷ fields) = option_or (refused_at_top id field) (first_refused id fields)

abbrev pub without_id : List (Named Value) → List (Named Value)
without_id = filter (λ field. not (is_id_name field.name))

abbrev pub unless_refused : Option (List ℕ) → List (Named Value) → Result Value BodyFault
unless_refused (Some name) fields = Err (BadField name)
unless_refused None fields = Ok (Object (without_id fields))

abbrev pub body_from : DocId → Value → Value-F Value → Result Value BodyFault
body_from id value (Value-F.Object fields) =
    if nat_lt 90 (nesting value) then Err TooDeep
    else unless_refused (first_refused id fields) fields
body_from id value _ = Err NotObject

abbrev pub body_in : DocId → Value → Result Value BodyFault
body_in id value = body_from id value (out-Value value)
