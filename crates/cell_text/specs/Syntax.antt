-- The cell that a value is, where it has the form of one and no part of it is faulty.
use Rattle.std.specs.Prelude.{ℕ, ℤ, codes, filter, not, Bool, true, false, ◌||◌, ◌&&◌, Option, Some, None, option_and_then, Result, Ok, Err, List, [], ◌∷◌, if◌then◌else◌}
use Rattle.std.specs.Option.{option_map}
use Rattle.std.specs.Result.{result_ok}
use Rattle.std.specs.Str.{bytes_eq}
use Rattle.doc_value.specs.Bodies.{body_in}
use Rattle.doc_value.specs.Syntax.{value_in}
use Rattle.doc_value.specs.declared.value.Named.{Named as Field}
use Rattle.doc_value.specs.declared.value.Value.{Value, Object, out-Value}
use Rattle.doc_value.specs.declared.value.Value.TheOpen.{Value-F}
use Rattle.txn_key.specs.Ids.{id_of}
use Rattle.txn_key.specs.Syntax.{key_in}
use Rattle.txn_key.specs.declared.id.Token.{Token}
use Rattle.txn_key.specs.declared.id.TxnId.{TxnId}
use Rattle.txn_key.specs.declared.key.Key.{Key}
use Rattle.txn_record.specs.declared.op.Op.{Op}
use Rattle.txn_record.specs.declared.record.Record.{Record}
use Rattle.txn_record.specs.declared.state.State.{State}
use Rattle.store_trait.specs.declared.cell.Cell.TheVariants as cell
use Rattle.store_trait.specs.declared.cell.DocCell.{DocCell}
use Rattle.store_trait.specs.declared.cell.Named.{Named}
use Rattle.store_trait.specs.declared.cell.StashCell.{StashCell}
use Rattle.store_trait.specs.declared.name.Name.TheVariants as name
use Rattle.cell_text.specs.Fields.{fields_in, has_only, is_named, part}
use Rattle.cell_text.specs.Parts.{text_in, needed, state_in, counter_in, number_in, ops_there, key_object_in, queue_in, revno_in, mark_in, nonce_in, revnos_in, info_in}
use Rattle.cell_text.specs.declared.fault.CellFault.{CellFault}
use Rattle.cell_text.specs.declared.fault.CellFault.TheVariants.{Bad}

-- ---- a record

abbrev pub is_record_name : List ℕ → Bool
is_record_name name =
    bytes_eq name (codes "_id") || bytes_eq name (codes "i") || bytes_eq name (codes "n")
    || bytes_eq name (codes "o") || bytes_eq name (codes "r") || bytes_eq name (codes "s")

abbrev pub record_with : Option TxnId → Option (Option Value) → Option (Option ℕ) →
    Option (List Op) → Option (Option (List ℤ)) → Option State → Option Record
record_with (Some id) (Some info) (Some nonce) (Some ops) (Some revnos) (Some state) =
    Some (record { id = id; state = state; info = info; ops = ops; nonce = nonce; revnos = revnos })
record_with _ _ _ _ _ _ = None

unfoldable pub record_of : Value → Option Record
record_of value =
    record_with (needed (text_in id_of) (part (codes "_id") value))
    (info_in (part (codes "i") value)) (nonce_in (part (codes "n") value))
    (ops_there (part (codes "o") value)) (revnos_in (part (codes "r") value))
    (needed state_in (part (codes "s") value))

abbrev pub record_in : Value → Option Record
record_in value = if has_only is_record_name (out-Value value) then record_of value else None

-- ---- a document

-- the names of what a document has beside its body
abbrev pub is_own_name : List ℕ → Bool
is_own_name name =
    bytes_eq name (codes "_id") || bytes_eq name (codes "txn-queue")
    || bytes_eq name (codes "txn-remove") || bytes_eq name (codes "txn-revno")

-- the object without these
abbrev pub without_own : Value-F Value → Value
without_own layer = Object (filter (λ field. not (is_own_name field.name)) (fields_in layer))

abbrev pub doc_with : Option Value → Option ℤ → Option (List Token) → Option (Option Token) →
    Option DocCell
doc_with (Some body) (Some revno) (Some queue) (Some remove) =
    Some (record { body = body; revno = revno; queue = queue; remove = remove })
doc_with _ _ _ _ = None

unfoldable pub doc_under : Key → Value → Option DocCell
doc_under key value =
    doc_with (result_ok (body_in key.d (without_own (out-Value value))))
    (revno_in (part (codes "txn-revno") value)) (queue_in (part (codes "txn-queue") value))
    (mark_in (part (codes "txn-remove") value))

-- the key of a document in that collection
abbrev pub doc_key_in : Value → Option Value → Option Key
doc_key_in c (Some id) = key_in c id
doc_key_in c None = None

abbrev pub named_doc : Key → Option DocCell → Option Named
named_doc key found =
    option_map (λ doc. record { name = name.Doc key; cell = cell.Doc doc }) found

unfoldable pub doc_in : Value → Value → Option Named
doc_in c value =
    option_and_then (λ key. named_doc key (doc_under key value))
    (doc_key_in c (part (codes "_id") value))

-- ---- a stash entry

abbrev pub is_stash_name : List ℕ → Bool
is_stash_name name =
    bytes_eq name (codes "_id") || bytes_eq name (codes "txn-insert")
    || bytes_eq name (codes "txn-queue") || bytes_eq name (codes "txn-revno")

abbrev pub stash_with : Option ℤ → Option (List Token) → Option (Option Token) → Option StashCell
stash_with (Some revno) (Some queue) (Some insert) =
    Some (record { revno = revno; queue = queue; insert = insert })
stash_with _ _ _ = None

-- its number has to be there
abbrev pub stash_cell_in : Value → Option StashCell
stash_cell_in value =
    stash_with (needed number_in (part (codes "txn-revno") value))
    (queue_in (part (codes "txn-queue") value)) (mark_in (part (codes "txn-insert") value))

abbrev pub named_stash : Key → Option StashCell → Option Named
named_stash key found =
    option_map (λ stash. record { name = name.Stash key; cell = cell.Stash stash }) found

unfoldable pub stash_in : Value → Option Named
stash_in value =
    if has_only is_stash_name (out-Value value)
    then option_and_then (λ key. named_stash key (stash_cell_in value))
    (needed key_object_in (part (codes "_id") value))
    else None

-- ---- the nonce

abbrev pub nonce_of_fields : List (Field Value) → Option ℕ
nonce_of_fields (next ∷ []) =
    if is_named next (codes "next") then counter_in (out-Value next.value) else None
nonce_of_fields _ = None

-- ---- the cell

abbrev pub named_record : Option Record → Option Named
named_record found =
    option_map (λ rec. record { name = name.Record rec.id; cell = cell.Record rec }) found

abbrev pub named_nonce : Option ℕ → Option Named
named_nonce found = option_map (λ next. record { name = name.Nonce; cell = cell.Nonce next }) found

-- a cell of a kind that is written without a collection
abbrev pub of_kind_in : Value → List ℕ → Option Named
of_kind_in value kind =
    if bytes_eq kind (codes "record") then named_record (record_in value)
    else (if bytes_eq kind (codes "stash") then stash_in value
    else (if bytes_eq kind (codes "nonce")
    then named_nonce (nonce_of_fields (fields_in (out-Value value))) else None))

abbrev pub is_doc_kind : Value-F Value → Bool
is_doc_kind (Value-F.Text kind) = bytes_eq kind (codes "doc")
is_doc_kind _ = false

-- the fields stand in byte order of their names
abbrev pub cell_of_fields : List (Field Value) → Option Named
cell_of_fields (kind ∷ is ∷ []) =
    if is_named kind (codes "cell") && is_named is (codes "is")
    then text_in (of_kind_in is.value) (out-Value kind.value) else None
cell_of_fields (c ∷ kind ∷ is ∷ []) =
    if is_named c (codes "c") && is_named kind (codes "cell") && is_named is (codes "is")
    && is_doc_kind (out-Value kind.value)
    then doc_in c.value is.value else None
cell_of_fields _ = None

unfoldable pub cell_in : Value → Option Named
cell_in value = cell_of_fields (fields_in (out-Value value))

-- the cell that a line is
abbrev pub cell_of_line : List ℕ → Option Named
cell_of_line line = option_and_then cell_in (result_ok (value_in line))

-- ---- what code answers

abbrev pub or_bad : {A : Type 0} → Option A → Result A CellFault
or_bad (Some read) = Ok read
or_bad None = Err Bad
