-- What bytes are as a value, or the fault for which they are refused.
use Rattle.std.specs.Prelude.{ℕ, List, nat_lt, if◌then◌else◌, Option, Some, None, Result, Ok, Err}
use Rattle.std.specs.Str.{is_utf8}
use Rattle.serde_json.specs.Data.{Data, depth}
use Rattle.serde_json.specs.Read.{read}
use Rattle.doc_value.specs.declared.value.Value.{Value}
use Rattle.doc_value.specs.declared.fault.ValueFault.{ValueFault}
use Rattle.doc_value.specs.declared.fault.ValueFault.TheVariants.{NotJson, TooDeep, BadName, NotWhole}
use Rattle.doc_value.specs.JsonFaults.{has_bad_name, is_whole}
use Rattle.doc_value.specs.JsonValue.{value_of}

-- the JSON that the bytes are, as serde_json reads it
unfoldable pub json_in : List ℕ → Option Data
json_in bytes = if is_utf8 bytes then read bytes else None

abbrev pub value_from : Option Data → Result Value ValueFault
value_from None = Err NotJson
value_from (Some json) =
    if nat_lt 100 (depth json) then Err TooDeep
    else (if has_bad_name json then Err BadName
    else (if is_whole json then Ok (value_of json) else Err NotWhole))

abbrev pub value_in : List ℕ → Result Value ValueFault
value_in bytes = value_from (json_in bytes)
