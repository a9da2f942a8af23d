-- A field with another thing in its value's place.
use Rattle.doc_value.specs.declared.value.Named.{Named}

-- the field under its name, with what f gives of its value
abbrev pub judged : {A B : Type 0} → (A → B) → Named A → Named B
judged f field = record { name = field.name; value = f field.value }
