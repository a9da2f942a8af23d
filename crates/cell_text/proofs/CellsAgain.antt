-- What a cell prints as is read as that cell.
use Rattle.std.proofs.Common.{◌≡◌, ◌++◌, ◌&&◌, ℕ, pos, Bool, true, codes, filter, List, [], ◌∷◌, Option, Some, None, option_and_then, Result, Ok, refl, sym, ap, ◌∙◌, if◌then◌else◌}
use Rattle.std.specs.List.{list_all}
use Rattle.std.specs.Result.{result_ok}
use Rattle.std.specs.Str.{bytes_eq}
use Rattle.std.proofs.lemmas.Slice.Eq.{bytes_eq-Decides}
use Rattle.doc_value.specs.Bodies.{body_in}
use Rattle.doc_value.specs.Paths.{field_in, field_named}
use Rattle.doc_value.specs.Readable.{IsReadable}
use Rattle.doc_value.specs.declared.fault.BodyFault.{BodyFault}
use Rattle.doc_value.specs.declared.fault.ValueFault.{ValueFault}
use Rattle.doc_value.specs.declared.value.Named.{Named as Field}
use Rattle.doc_value.specs.declared.value.Value.{Value, Int, Text, Object, out-Value}
use Rattle.doc_value.specs.declared.value.Value.TheOpen.{Value-F}
use Rattle.doc_value.proofs.RoundTrip.{reads_back}
use Rattle.txn_key.specs.Ids.{id_of, id_text}
use Rattle.txn_key.specs.declared.key.Key.{Key}
use Rattle.txn_record.specs.States.{state_number}
use Rattle.txn_record.specs.Values.{field_of, id_value, ops_value}
use Rattle.txn_record.specs.declared.record.Record.{Record}
use Rattle.store_trait.specs.declared.cell.Cell.{Cell}
use Rattle.store_trait.specs.declared.cell.Cell.TheVariants as cell
use Rattle.store_trait.specs.declared.cell.DocCell.{DocCell}
use Rattle.store_trait.specs.declared.cell.Named.{Named}
use Rattle.store_trait.specs.declared.cell.StashCell.{StashCell}
use Rattle.store_trait.specs.declared.name.Name.{Name}
use Rattle.store_trait.specs.declared.name.Name.TheVariants as name
use Rattle.cell_text.specs.Fields.{field, fields_in, has_only, with_field}
use Rattle.cell_text.specs.Parts.{text_in, needed, state_in, number_in, ops_there, key_object_in, queue_in, revno_in, mark_in, nonce_in, revnos_in, info_in}
use Rattle.cell_text.specs.Storable.{IsRecord, IsDocument, IsEntry, IsStorable, StoredUnder}
use Rattle.cell_text.specs.Syntax.{cell_in, cell_of_fields, cell_of_line, doc_in, doc_key_in, doc_under, doc_with, is_doc_kind, is_own_name, is_record_name, is_stash_name, named_doc, named_nonce, named_record, named_stash, nonce_of_fields, of_kind_in, record_in, record_of, record_with, stash_cell_in, stash_in, stash_with, without_own}
use Rattle.cell_text.specs.Values.{cell_text, cell_value, doc_fields, key_value, mark_value, nonce_fields, nonce_value, of_kind, queue_value, record_fields, revno_value, revnos_value, stash_fields, value_under}
use Rattle.cell_text.proofs.BodiesAgain.{Bodied, bodied}
use Rattle.cell_text.proofs.FieldsAgain.{Fields, found_with, found_without, have_no_own, is_other, others_are_all, others_with, own_is_absent}
use Rattle.cell_text.proofs.PartsAgain.{counter_again, id_again, info_again, key_again, key_object_again, mark_again, nonce_again, number_again, object_layer, ops_again_there, queue_again, revno_again, revnos_again, state_again, text_layer}

-- ---- a record

record RecordLook (id : Value) (info nonce : Option Value) (ops : Value) (revnos : Option Value) (state : Value) (fs : Fields) : Type 0 where
  known : list_all (λ f. is_record_name f.name) fs ≡ true
  id_there : field_named (codes "_id") fs ≡ Some id
  info_there : field_named (codes "i") fs ≡ info
  nonce_there : field_named (codes "n") fs ≡ nonce
  ops_found : field_named (codes "o") fs ≡ Some ops
  revnos_there : field_named (codes "r") fs ≡ revnos
  state_there : field_named (codes "s") fs ≡ Some state

abbrev record_list : Value → Option Value → Option Value → Value → Option Value → Value → Fields
record_list id info nonce ops revnos state =
    field_of (codes "_id") (Some id) ++ field_of (codes "i") info ++ field_of (codes "n") nonce
    ++ field_of (codes "o") (Some ops) ++ field_of (codes "r") revnos ++ field_of (codes "s") (Some state)

record_look : (id : Value) (info nonce : Option Value) (ops : Value) (revnos : Option Value) (state : Value) → RecordLook id info nonce ops revnos state (record_list id info nonce ops revnos state)
record_look id None None ops None state = record { known = refl; id_there = refl; info_there = refl; nonce_there = refl; ops_found = refl; revnos_there = refl; state_there = refl }
record_look id None None ops (Some r) state = record { known = refl; id_there = refl; info_there = refl; nonce_there = refl; ops_found = refl; revnos_there = refl; state_there = refl }
record_look id None (Some n) ops None state = record { known = refl; id_there = refl; info_there = refl; nonce_there = refl; ops_found = refl; revnos_there = refl; state_there = refl }
record_look id None (Some n) ops (Some r) state = record { known = refl; id_there = refl; info_there = refl; nonce_there = refl; ops_found = refl; revnos_there = refl; state_there = refl }
record_look id (Some i) None ops None state = record { known = refl; id_there = refl; info_there = refl; nonce_there = refl; ops_found = refl; revnos_there = refl; state_there = refl }
record_look id (Some i) None ops (Some r) state = record { known = refl; id_there = refl; info_there = refl; nonce_there = refl; ops_found = refl; revnos_there = refl; state_there = refl }
record_look id (Some i) (Some n) ops None state = record { known = refl; id_there = refl; info_there = refl; nonce_there = refl; ops_found = refl; revnos_there = refl; state_there = refl }
record_look id (Some i) (Some n) ops (Some r) state = record { known = refl; id_there = refl; info_there = refl; nonce_there = refl; ops_found = refl; revnos_there = refl; state_there = refl }

record_again : (rec : Record) → IsRecord rec → record_in (Object (record_fields rec)) ≡ Some rec
unfolding record_of
record_again rec is =
    let layer = object_layer (record_fields rec) in
    let at = record_look (Text (id_text rec.id)) rec.info (nonce_value rec.nonce) (ops_value rec.ops) (revnos_value rec.revnos) (Int (pos (state_number rec.state))) in
    (λ j. if has_only is_record_name (layer j)
    then record_with (needed (text_in id_of) (field_in (codes "_id") (layer j))) (info_in (field_in (codes "i") (layer j)))
    (nonce_in (field_in (codes "n") (layer j))) (ops_there (field_in (codes "o") (layer j)))
    (revnos_in (field_in (codes "r") (layer j))) (needed state_in (field_in (codes "s") (layer j))) else None)
    ∙ (λ j. if at.known j
    then record_with (needed (text_in id_of) (at.id_there j)) (info_in (at.info_there j)) (nonce_in (at.nonce_there j))
    (ops_there (at.ops_found j)) (revnos_in (at.revnos_there j)) (needed state_in (at.state_there j)) else None)
    ∙ (λ j. record_with (id_again rec.id is.id j) (info_again rec.info is.info j) (nonce_again rec.nonce is.nonce j)
    (ops_again_there rec.ops is.ops j) (revnos_again rec.revnos j) (state_again rec.state j))

-- ---- a stash entry

record StashLook (id : Value) (insert queue : Option Value) (revno : Value) (fs : Fields) : Type 0 where
  known : list_all (λ f. is_stash_name f.name) fs ≡ true
  id_there : field_named (codes "_id") fs ≡ Some id
  insert_there : field_named (codes "txn-insert") fs ≡ insert
  queue_there : field_named (codes "txn-queue") fs ≡ queue
  revno_there : field_named (codes "txn-revno") fs ≡ Some revno

abbrev stash_list : Value → Option Value → Option Value → Value → Fields
stash_list id insert queue revno =
    field_of (codes "_id") (Some id) ++ field_of (codes "txn-insert") insert
    ++ field_of (codes "txn-queue") queue ++ field_of (codes "txn-revno") (Some revno)

stash_look : (id : Value) (insert queue : Option Value) (revno : Value) → StashLook id insert queue revno (stash_list id insert queue revno)
stash_look id None None revno = record { known = refl; id_there = refl; insert_there = refl; queue_there = refl; revno_there = refl }
stash_look id None (Some q) revno = record { known = refl; id_there = refl; insert_there = refl; queue_there = refl; revno_there = refl }
stash_look id (Some i) None revno = record { known = refl; id_there = refl; insert_there = refl; queue_there = refl; revno_there = refl }
stash_look id (Some i) (Some q) revno = record { known = refl; id_there = refl; insert_there = refl; queue_there = refl; revno_there = refl }

entry_again : (key : Key) (stash : StashCell) → IsEntry key stash → stash_in (Object (stash_fields key stash)) ≡ Some (record { name = name.Stash key; cell = cell.Stash stash })
unfolding stash_in
entry_again key stash is =
    let layer = object_layer (stash_fields key stash) in
    let at = stash_look (key_value key) (mark_value stash.insert) (queue_value stash.queue) (Int stash.revno) in
    (λ j. if has_only is_stash_name (layer j)
    then option_and_then (λ key. named_stash key (stash_with (needed number_in (field_in (codes "txn-revno") (layer j)))
    (queue_in (field_in (codes "txn-queue") (layer j))) (mark_in (field_in (codes "txn-insert") (layer j)))))
    (needed key_object_in (field_in (codes "_id") (layer j))) else None)
    ∙ (λ j. if at.known j
    then option_and_then (λ key. named_stash key (stash_with (needed number_in (at.revno_there j)) (queue_in (at.queue_there j)) (mark_in (at.insert_there j))))
    (needed key_object_in (at.id_there j)) else None)
    ∙ (λ j. option_and_then (λ key. named_stash key (stash_with (number_again stash.revno j) (queue_again stash.queue is.queue j) (mark_again stash.insert is.insert j)))
    (key_object_again key is.names j))

-- ---- a document

-- a name that equals an own one is one
queue_is_own : (other : List ℕ) → bytes_eq other (codes "txn-queue") ≡ true → is_own_name other ≡ true
queue_is_own other h = ap is_own_name ((bytes_eq-Decides other (codes "txn-queue")).0 h)

remove_is_own : (other : List ℕ) → bytes_eq other (codes "txn-remove") ≡ true → is_own_name other ≡ true
remove_is_own other h = ap is_own_name ((bytes_eq-Decides other (codes "txn-remove")).0 h)

revno_is_own : (other : List ℕ) → bytes_eq other (codes "txn-revno") ≡ true → is_own_name other ≡ true
revno_is_own other h = ap is_own_name ((bytes_eq-Decides other (codes "txn-revno")).0 h)

id_is_own : (other : List ℕ) → bytes_eq other (codes "_id") ≡ true → is_own_name other ≡ true
id_is_own other h = ap is_own_name ((bytes_eq-Decides other (codes "_id")).0 h)

record DocLook (id : Value) (queue remove revno : Option Value) (rest fs : Fields) : Type 0 where
  id_there : field_named (codes "_id") fs ≡ Some id
  queue_there : field_named (codes "txn-queue") fs ≡ queue
  remove_there : field_named (codes "txn-remove") fs ≡ remove
  revno_there : field_named (codes "txn-revno") fs ≡ revno
  others : filter is_other fs ≡ rest

abbrev doc_list : Value → Option Value → Option Value → Option Value → Fields → Fields
doc_list id queue remove revno rest =
    with_field (codes "_id") (Some id) (with_field (codes "txn-queue") queue
    (with_field (codes "txn-remove") remove (with_field (codes "txn-revno") revno rest)))

doc_look : (id : Value) (queue remove revno : Option Value) (rest : Fields) → have_no_own rest ≡ true → DocLook id queue remove revno rest (doc_list id queue remove revno rest)
doc_look id queue remove revno rest none =
    let one = with_field (codes "txn-revno") revno rest in
    let two = with_field (codes "txn-remove") remove one in
    let three = with_field (codes "txn-queue") queue two in
    let absent_id = own_is_absent (codes "_id") rest id_is_own none in
    let absent_queue = own_is_absent (codes "txn-queue") rest queue_is_own none in
    let absent_remove = own_is_absent (codes "txn-remove") rest remove_is_own none in
    let absent_revno = own_is_absent (codes "txn-revno") rest revno_is_own none in
    record {
      id_there = found_with (codes "_id") (Some id) three refl
          (found_without (codes "_id") (codes "txn-queue") queue two refl ∙ found_without (codes "_id") (codes "txn-remove") remove one refl
          ∙ found_without (codes "_id") (codes "txn-revno") revno rest refl ∙ absent_id);
      queue_there = found_without (codes "txn-queue") (codes "_id") (Some id) three refl
          ∙ found_with (codes "txn-queue") queue two refl
          (found_without (codes "txn-queue") (codes "txn-remove") remove one refl ∙ found_without (codes "txn-queue") (codes "txn-revno") revno rest refl ∙ absent_queue);
      remove_there = found_without (codes "txn-remove") (codes "_id") (Some id) three refl
          ∙ found_without (codes "txn-remove") (codes "txn-queue") queue two refl
          ∙ found_with (codes "txn-remove") remove one refl (found_without (codes "txn-remove") (codes "txn-revno") revno rest refl ∙ absent_remove);
      revno_there = found_without (codes "txn-revno") (codes "_id") (Some id) three refl
          ∙ found_without (codes "txn-revno") (codes "txn-queue") queue two refl
          ∙ found_without (codes "txn-revno") (codes "txn-remove") remove one refl
          ∙ found_with (codes "txn-revno") revno rest refl absent_revno;
      others = others_with (codes "_id") (Some id) three refl ∙ others_with (codes "txn-queue") queue two refl
          ∙ others_with (codes "txn-remove") remove one refl ∙ others_with (codes "txn-revno") revno rest refl ∙ others_are_all rest none;
    }

document_again : (key : Key) (doc : DocCell) → IsDocument key doc → doc_in (Text key.c) (Object (doc_fields key.d doc)) ≡ Some (record { name = name.Doc key; cell = cell.Doc doc })
unfolding doc_in doc_under
document_again key doc is =
    let layer = object_layer (doc_fields key.d doc) in
    let whole = bodied doc.body is.body in
    let at = doc_look (id_value key.d) (queue_value doc.queue) (mark_value doc.remove) (revno_value doc.revno) (fields_in (out-Value doc.body)) whole.others in
    (λ j. option_and_then (λ key. named_doc key (doc_with (result_ok (body_in key.d (without_own (layer j))))
    (revno_in (field_in (codes "txn-revno") (layer j))) (queue_in (field_in (codes "txn-queue") (layer j)))
    (mark_in (field_in (codes "txn-remove") (layer j)))))
    (doc_key_in (Text key.c) (field_in (codes "_id") (layer j))))
    ∙ (λ j. option_and_then (λ key. named_doc key (doc_with (result_ok (body_in key.d (Object (at.others j))))
    (revno_in (at.revno_there j)) (queue_in (at.queue_there j)) (mark_in (at.remove_there j))))
    (doc_key_in (Text key.c) (at.id_there j)))
    ∙ (λ j. option_and_then (λ key. named_doc key (doc_with (result_ok (body_in key.d (whole.object j)))
    (revno_again doc.revno j) (queue_again doc.queue is.queue j) (mark_again doc.remove is.remove j)))
    (key_again key is.names j))
    ∙ ap (λ (read : Result Value BodyFault). named_doc key (doc_with (result_ok read) (Some doc.revno) (Some doc.queue) (Some doc.remove))) (is.body key.d)

-- ---- the cell

keyless : (kind : List ℕ) (fs : Fields) → cell_in (Object (of_kind kind fs)) ≡ of_kind_in (Object fs) kind
unfolding cell_in
keyless kind fs =
    ap (λ (layer : Value-F Value). cell_of_fields (fields_in layer)) (object_layer (of_kind kind fs))
    ∙ ap (text_in (of_kind_in (Object fs))) (text_layer kind)

keyed : (c : List ℕ) (fs : Fields) → cell_in (Object (field (codes "c") (Text c) ∷ of_kind (codes "doc") fs)) ≡ doc_in (Text c) (Object fs)
unfolding cell_in
keyed c fs =
    ap (λ (layer : Value-F Value). cell_of_fields (fields_in layer)) (object_layer (field (codes "c") (Text c) ∷ of_kind (codes "doc") fs))
    ∙ ap (λ (layer : Value-F Value). if is_doc_kind layer then doc_in (Text c) (Object fs) else None) (text_layer (codes "doc"))

pub cell_again : (name : Name) (cell : Cell) → StoredUnder name cell → cell_in (value_under name cell) ≡ Some (record { name = name; cell = cell })
cell_again (name.Record id) (cell.Record rec) is =
    keyless (codes "record") (record_fields rec) ∙ ap named_record (record_again rec is.1)
    ∙ ap (λ i. let found : Named = record { name = name.Record i; cell = cell.Record rec } in Some found) (sym is.0)
cell_again (name.Doc key) (cell.Doc doc) is = keyed key.c (doc_fields key.d doc) ∙ document_again key doc is
cell_again (name.Stash key) (cell.Stash stash) is = keyless (codes "stash") (stash_fields key stash) ∙ entry_again key stash is
cell_again name.Nonce (cell.Nonce next) is =
    keyless (codes "nonce") (nonce_fields next)
    ∙ ap (λ (layer : Value-F Value). named_nonce (nonce_of_fields (fields_in layer))) (object_layer (nonce_fields next))
    ∙ ap named_nonce (counter_again next is)
cell_again _ _ is = absurd is

-- ---- the line

pub line_again : (named : Named) → IsStorable named → IsReadable (cell_value named) → cell_of_line (cell_text named) ≡ Some named
line_again named is readable =
    ap (λ (read : Result Value ValueFault). option_and_then cell_in (result_ok read)) (reads_back (cell_value named) readable)
    ∙ cell_again named.name named.cell is
