-- The compact text of a value: no blanks, fields as they stand, numbers in decimal.
use Rattle.std.specs.Prelude.{ℕ, List, [], ◌∷◌, ◌++◌, Bool, true, false}
use Rattle.std.specs.Fmt.{signed_decimal}
use Rattle.json.specs.Print.{quoted}
use Rattle.serde_json.specs.Written.{comma_if}
use Rattle.doc_value.specs.declared.value.Named.{Named}
use Rattle.doc_value.specs.declared.value.Value.{Value, fold-Value}
use Rattle.doc_value.specs.declared.value.Value.TheOpen.{Value-F}

-- the texts of a list's items from some place on, with the commas between and the closing bracket
abbrev pub items_text : Bool → List (List ℕ) → List ℕ
items_text later [] = 93 ∷ []
items_text later (text ∷ texts) = comma_if later ++ (text ++ items_text true texts)

-- the same of an object's fields, each a quoted name, a colon and the text of its value
abbrev pub fields_text : Bool → List (Named (List ℕ)) → List ℕ
fields_text later [] = 125 ∷ []
fields_text later (field ∷ fields) =
    comma_if later ++ (quoted field.name ++ 58 ∷ (field.value ++ fields_text true fields))

-- one level, with each value inside already its text
abbrev pub compact_step : Value-F (List ℕ) → List ℕ
compact_step Value-F.Null = 110 ∷ 117 ∷ 108 ∷ 108 ∷ []
compact_step (Value-F.Bool true) = 116 ∷ 114 ∷ 117 ∷ 101 ∷ []
compact_step (Value-F.Bool false) = 102 ∷ 97 ∷ 108 ∷ 115 ∷ 101 ∷ []
compact_step (Value-F.Int number) = signed_decimal number
compact_step (Value-F.Text text) = quoted text
compact_step (Value-F.List texts) = 91 ∷ items_text false texts
compact_step (Value-F.Object fields) = 123 ∷ fields_text false fields

abbrev pub compact : Value → List ℕ
compact = fold-Value (List ℕ) compact_step
