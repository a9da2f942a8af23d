-- The value that a cell prints as: the fields that are there, in byte order of their names.
use Rattle.std.specs.Prelude.{ℕ, ℤ, pos, map, codes, Option, Some, None, List, [], ◌∷◌, ◌++◌, if◌then◌else◌}
use Rattle.std.specs.Option.{option_map}
use Rattle.std.specs.Ordering.{int_eq}
use Rattle.doc_value.specs.Texts.{compact}
use Rattle.doc_value.specs.declared.doc_id.DocId.{DocId}
use Rattle.doc_value.specs.declared.value.Named.{Named as Field}
use Rattle.doc_value.specs.declared.value.Value.{Value, Null, Int, Text, List as Items_of, Object, out-Value}
use Rattle.txn_key.specs.Ids.{id_text, nonce_text, token_text}
use Rattle.txn_key.specs.declared.id.Token.{Token}
use Rattle.txn_key.specs.declared.key.Key.{Key}
use Rattle.txn_record.specs.States.{state_number}
use Rattle.txn_record.specs.Values.{id_value, field_of, ops_value}
use Rattle.txn_record.specs.declared.record.Record.{Record}
use Rattle.store_trait.specs.declared.cell.Cell.{Cell}
use Rattle.store_trait.specs.declared.cell.Cell.TheVariants as cell
use Rattle.store_trait.specs.declared.cell.DocCell.{DocCell}
use Rattle.store_trait.specs.declared.cell.Named.{Named}
use Rattle.store_trait.specs.declared.cell.StashCell.{StashCell}
use Rattle.store_trait.specs.declared.name.Name.{Name}
use Rattle.store_trait.specs.declared.name.Name.TheVariants as name
use Rattle.cell_text.specs.Fields.{field, fields_in, with_field}

-- ---- what a document and a stash entry have beside the key

abbrev pub token_value : Token → Value
token_value token = Text (token_text token)

-- an empty queue is not printed
abbrev pub queue_value : List Token → Option Value
queue_value [] = None
queue_value (token ∷ tokens) = Some (Items_of (map token_value (token ∷ tokens)))

abbrev pub mark_value : Option Token → Option Value
mark_value mark = option_map token_value mark

-- a document's revision number is printed where it is not 0
abbrev pub revno_value : ℤ → Option Value
revno_value revno = if int_eq revno (pos 0) then None else Some (Int revno)

-- ---- what stands under `is`

abbrev pub nonce_value : Option ℕ → Option Value
nonce_value nonce = option_map (λ n. Text (nonce_text n)) nonce

abbrev pub revnos_value : Option (List ℤ) → Option Value
revnos_value revnos = option_map (λ list. Items_of (map Int list)) revnos

abbrev pub record_fields : Record → List (Field Value)
record_fields rec =
    field_of (codes "_id") (Some (Text (id_text rec.id)))
    ++ field_of (codes "i") rec.info
    ++ field_of (codes "n") (nonce_value rec.nonce)
    ++ field_of (codes "o") (Some (ops_value rec.ops))
    ++ field_of (codes "r") (revnos_value rec.revnos)
    ++ field_of (codes "s") (Some (Int (pos (state_number rec.state))))

-- a document's own fields stand among those of its body
abbrev pub doc_fields : DocId → DocCell → List (Field Value)
doc_fields id doc =
    with_field (codes "_id") (Some (id_value id))
    (with_field (codes "txn-queue") (queue_value doc.queue)
    (with_field (codes "txn-remove") (mark_value doc.remove)
    (with_field (codes "txn-revno") (revno_value doc.revno) (fields_in (out-Value doc.body)))))

abbrev pub key_value : Key → Value
key_value key =
    Object (field (codes "c") (Text key.c) ∷ field (codes "d") (id_value key.d) ∷ [])

abbrev pub stash_fields : Key → StashCell → List (Field Value)
stash_fields key stash =
    field_of (codes "_id") (Some (key_value key))
    ++ field_of (codes "txn-insert") (mark_value stash.insert)
    ++ field_of (codes "txn-queue") (queue_value stash.queue)
    ++ field_of (codes "txn-revno") (Some (Int stash.revno))

abbrev pub nonce_fields : ℕ → List (Field Value)
nonce_fields next = field (codes "next") (Int (pos next)) ∷ []

-- ---- the cell

-- a cell of that kind with these fields
abbrev pub of_kind : List ℕ → List (Field Value) → List (Field Value)
of_kind kind fields =
    field (codes "cell") (Text kind) ∷ field (codes "is") (Object fields) ∷ []

-- a cell under a name of another kind has no form
abbrev pub value_under : Name → Cell → Value
value_under (name.Record _) (cell.Record rec) =
    Object (of_kind (codes "record") (record_fields rec))
value_under (name.Doc key) (cell.Doc doc) =
    Object (field (codes "c") (Text key.c) ∷ of_kind (codes "doc") (doc_fields key.d doc))
value_under (name.Stash key) (cell.Stash stash) =
    Object (of_kind (codes "stash") (stash_fields key stash))
value_under name.Nonce (cell.Nonce next) = Object (of_kind (codes "nonce") (nonce_fields next))
value_under _ _ = Null

abbrev pub cell_value : Named → Value
cell_value named = value_under named.name named.cell

-- the line of a cell
abbrev pub cell_text : Named → List ℕ
cell_text named = compact (cell_value named)
