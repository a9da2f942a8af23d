-- The value that JSON without fractions stands for.
use Rattle.std.specs.Prelude.{pos, List, [], ◌∷◌, unwrap_or}
use Rattle.serde_json.specs.Data.{Data, null, boolean, number, string, array, object, Items, no_items, item, Members, no_members, member}
use Rattle.serde_json.specs.Find.{as_i64}
use Rattle.doc_value.specs.declared.value.Named.{Named}
use Rattle.doc_value.specs.declared.value.Value.{Value, Null, Bool as Truth, Int, Text, List as Items_of, Object}

-- A number that is not whole has no value of its own: it stands as 0 here, and reading refuses it.
abbrev mutual
  pub value_of : Data → Value
  value_of null = Null
  value_of (boolean b) = Truth b
  value_of (number n) = Int (unwrap_or (as_i64 n) (pos 0))
  value_of (string s) = Text s
  value_of (array ds) = Items_of (values_of ds)
  value_of (object ms) = Object (fields_of ms)

  pub values_of : Items → List Value
  values_of no_items = []
  values_of (item d ds) = value_of d ∷ values_of ds

  pub fields_of : Members → List (Named Value)
  fields_of no_members = []
  fields_of (member k d ms) = record { name = k; value = value_of d } ∷ fields_of ms
