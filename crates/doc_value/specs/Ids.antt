-- The ids of documents: equality with a value, and their order.
use Rattle.std.specs.Prelude.{Bool, false}
use Rattle.std.specs.Str.{bytes_eq}
use Rattle.std.specs.Ordering.{nat_cmp, int_cmp, int_eq}
use Rattle.std.specs.Cmp.Lexicographic.{slice_cmp}
use Rattle.std.specs.declared.cmp.Ordering.{Ordering}
use Rattle.std.specs.declared.cmp.Ordering.TheVariants.{Less, Greater}
use Rattle.doc_value.specs.declared.doc_id.DocId.{DocId}
use Rattle.doc_value.specs.declared.doc_id.DocId.TheVariants.{Text, Int}
use Rattle.doc_value.specs.declared.value.Value.{Value, out-Value}
use Rattle.doc_value.specs.declared.value.Value.TheOpen.{Value-F}

abbrev pub is_layer_of_id : DocId → Value-F Value → Bool
is_layer_of_id (Text text) (Value-F.Text other) = bytes_eq text other
is_layer_of_id (Int number) (Value-F.Int other) = int_eq number other
is_layer_of_id _ _ = false

-- the value is the id
abbrev pub is_value_of_id : DocId → Value → Bool
is_value_of_id id value = is_layer_of_id id (out-Value value)

-- texts by their bytes, before whole numbers by their values
abbrev pub id_cmp : DocId → DocId → Ordering
id_cmp (Text text) (Text other) = slice_cmp nat_cmp text other
id_cmp (Text text) (Int other) = Less
id_cmp (Int number) (Text other) = Greater
id_cmp (Int number) (Int other) = int_cmp number other
