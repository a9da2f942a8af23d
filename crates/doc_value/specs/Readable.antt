-- The values that reading gives, and that their printed text gives back.
use Rattle.std.specs.Prelude.{◌≡◌, ◌≤◌, Bool, true, false, ◌||◌, List, [], ◌∷◌}
use Rattle.doc_value.specs.declared.value.Named.{Named}
use Rattle.doc_value.specs.declared.value.Value.{Value, fold-Value}
use Rattle.doc_value.specs.declared.value.Value.TheOpen.{Value-F}
use Rattle.doc_value.specs.JsonFaults.{is_bad_name}
use Rattle.doc_value.specs.Depth.{nesting}
use Rattle.doc_value.specs.Order.{is_ordered}
use Rattle.doc_value.specs.Sound.{is_sound}

abbrev pub some_bad : List Bool → Bool
some_bad [] = false
some_bad (bad ∷ rest) = bad || some_bad rest

abbrev pub some_field_bad : List (Named Bool) → Bool
some_field_bad [] = false
some_field_bad (field ∷ fields) = is_bad_name field.name || field.value || some_field_bad fields

-- one level, with each value inside already judged
abbrev pub bad_name_step : Value-F Bool → Bool
bad_name_step (Value-F.List items) = some_bad items
bad_name_step (Value-F.Object fields) = some_field_bad fields
bad_name_step _ = false

-- some name, at any depth, is empty or holds a NUL
abbrev pub holds_bad_name : Value → Bool
holds_bad_name = fold-Value Bool bad_name_step

pub record IsReadable (value : Value) : Type 0 where
  pub nests : nesting value ≤ 100
  pub names : holds_bad_name value ≡ false
  pub ordered : is_ordered value ≡ true
  pub sound : is_sound value ≡ true
