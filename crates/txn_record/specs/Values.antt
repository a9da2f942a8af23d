-- The value that operations print as: fields in byte order, those that are there.
use Rattle.std.specs.Prelude.{ℕ, true, map, codes, Option, Some, None, List, [], ◌∷◌, ◌++◌}
use Rattle.doc_value.specs.declared.doc_id.DocId.{DocId}
use Rattle.doc_value.specs.declared.doc_id.DocId.TheVariants as doc_id
use Rattle.doc_value.specs.declared.value.Named.{Named}
use Rattle.doc_value.specs.declared.value.Value.{Value, Bool as Truth, Int, Text, List as Items_of, Object}
use Rattle.txn_record.specs.declared.op.Assert.{Assert}
use Rattle.txn_record.specs.declared.op.Assert.TheVariants as assertion
use Rattle.txn_record.specs.declared.op.Change.{Change}
use Rattle.txn_record.specs.declared.op.Change.TheVariants as change
use Rattle.txn_record.specs.declared.op.Op.{Op}

abbrev pub id_value : DocId → Value
id_value (doc_id.Text text) = Text text
id_value (doc_id.Int number) = Int number

abbrev pub assert_value : Assert → Option Value
assert_value assertion.Nothing = None
assert_value assertion.Exists = Some (Text (codes "d+"))
assert_value assertion.Missing = Some (Text (codes "d-"))
assert_value (assertion.Query query) = Some query

abbrev pub insert_value : Change → Option Value
insert_value (change.Insert body) = Some body
insert_value _ = None

abbrev pub remove_value : Change → Option Value
remove_value change.Remove = Some (Truth true)
remove_value _ = None

abbrev pub update_value : Change → Option Value
update_value (change.Update update) = Some update
update_value _ = None

abbrev pub field_of : List ℕ → Option Value → List (Named Value)
field_of name (Some value) = record { name = name; value = value } ∷ []
field_of name None = []

abbrev pub op_fields : Op → List (Named Value)
op_fields op =
    field_of (codes "a") (assert_value op.assert)
    ++ field_of (codes "c") (Some (Text op.key.c))
    ++ field_of (codes "d") (Some (id_value op.key.d))
    ++ field_of (codes "i") (insert_value op.change)
    ++ field_of (codes "r") (remove_value op.change)
    ++ field_of (codes "u") (update_value op.change)

abbrev pub op_value : Op → Value
op_value op = Object (op_fields op)

abbrev pub ops_value : List Op → Value
ops_value ops = Items_of (map op_value ops)
