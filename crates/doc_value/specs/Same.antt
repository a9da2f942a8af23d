-- Whether two values are the same tree, as a test that computes. That it is equality is a law.
use Rattle.std.specs.Prelude.{Bool, true, false, not, ◌&&◌, List, [], ◌∷◌}
use Rattle.std.specs.Ordering.{int_eq}
use Rattle.std.specs.Str.{bytes_eq}
use Rattle.doc_value.specs.declared.value.Named.{Named}
use Rattle.doc_value.specs.declared.value.Value.{Value, out-Value, fold-Value}
use Rattle.doc_value.specs.declared.value.Value.TheOpen.{Value-F}

-- the tests are those of the one list's items, each waiting for the other's
abbrev pub same_items : List (Value → Bool) → List Value → Bool
same_items [] [] = true
same_items (test ∷ tests) (item ∷ items) = test item && same_items tests items
same_items _ _ = false

abbrev pub same_fields : List (Named (Value → Bool)) → List (Named Value) → Bool
same_fields [] [] = true
same_fields (test ∷ tests) (field ∷ fields) =
    bytes_eq test.name field.name && (test.value field.value && same_fields tests fields)
same_fields _ _ = false

abbrev pub same_layers : Value-F (Value → Bool) → Value-F Value → Bool
same_layers Value-F.Null Value-F.Null = true
same_layers (Value-F.Bool true) (Value-F.Bool other) = other
same_layers (Value-F.Bool false) (Value-F.Bool other) = not other
same_layers (Value-F.Int number) (Value-F.Int other) = int_eq number other
same_layers (Value-F.Text text) (Value-F.Text other) = bytes_eq text other
same_layers (Value-F.List tests) (Value-F.List items) = same_items tests items
same_layers (Value-F.Object tests) (Value-F.Object fields) = same_fields tests fields
same_layers _ _ = false

abbrev pub same_step : Value-F (Value → Bool) → Value → Bool
same_step layer value = same_layers layer (out-Value value)

abbrev pub same : Value → Value → Bool
same = fold-Value (Value → Bool) same_step
