-- What is read as a cell is one that may be stored, so its text gives it back.
use Rattle.std.proofs.Common.{◌≡◌, ◌≢◌, ◌&&◌, ℕ, ℤ, Bool, true, false, codes, List, [], ◌∷◌, Option, Some, None, option_and_then, Result, Ok, Err, IfOk, refl, sym, subst, if◌then◌else◌}
use Rattle.std.specs.List.{All}
use Rattle.std.specs.Result.{result_ok}
use Rattle.std.specs.Str.{bytes_eq}
use Rattle.doc_value.specs.Bodies.{body_in}
use Rattle.doc_value.specs.declared.fault.BodyFault.{BodyFault}
use Rattle.doc_value.specs.declared.value.Named.{Named as Field}
use Rattle.doc_value.specs.declared.value.Value.{Value, out-Value}
use Rattle.txn_key.specs.Ids.{id_of}
use Rattle.txn_key.specs.declared.id.Token.{Token}
use Rattle.txn_key.specs.declared.id.TxnId.{TxnId}
use Rattle.txn_key.specs.declared.key.Key.{Key}
use Rattle.txn_record.specs.Transactions.{IsBody, IsTransaction}
use Rattle.txn_record.specs.declared.op.Op.{Op}
use Rattle.txn_record.specs.declared.state.State.{State}
use Rattle.store_trait.specs.declared.cell.Named.{Named}
use Rattle.cell_text.specs.Fields.{fields_in, has_only, is_named, part}
use Rattle.cell_text.specs.Parts.{info_in, key_object_in, mark_in, needed, nonce_in, number_in, ops_there, queue_in, revno_in, revnos_in, state_in, text_in}
use Rattle.cell_text.specs.Storable.{IfThere, IsId, IsInfo, IsKey, IsNonce, IsRecord, IsStorable, IsToken}
use Rattle.cell_text.specs.Syntax.{cell_in, cell_of_fields, doc_in, doc_key_in, doc_under, doc_with, is_doc_kind, is_record_name, is_stash_name, named_doc, named_nonce, named_record, named_stash, nonce_of_fields, of_kind_in, or_bad, record_in, record_of, record_with, stash_in, stash_with, without_own}
use Rattle.cell_text.specs.Values.{cell_value}
use Rattle.cell_text.specs.declared.fault.CellFault.{CellFault}
use Rattle.cell_text.specs.declared.fault.CellFault.TheVariants.{OutOfMemory}
use Rattle.cell_text.proofs.CellsAgain.{cell_again}
use Rattle.cell_text.proofs.PartsStorable.{body_read, counter_read, id_read, info_read, key_object_read, key_read, mapped, mark_read, nonce_in_read, of_needed, of_text, queue_read, transaction_read, where_true}

-- ---- a record

record_read : (value : Value) → IfThere IsRecord (record_of value)
unfolding record_of
record_read value =
    by (needed (text_in id_of) (part (codes "_id") value)) (info_in (part (codes "i") value)) (nonce_in (part (codes "n") value))
    (ops_there (part (codes "o") value)) (revnos_in (part (codes "r") value)) (needed state_in (part (codes "s") value))
    (of_needed IsId (text_in id_of) (of_text IsId id_of id_read) (part (codes "_id") value)) (info_read (part (codes "i") value))
    (nonce_in_read (part (codes "n") value)) (transaction_read (part (codes "o") value))
  where
    by : (id : Option TxnId) (info : Option (Option Value)) (nonce : Option (Option ℕ)) (ops : Option (List Op)) (revnos : Option (Option (List ℤ))) (state : Option State)
        → IfThere IsId id → IfThere (IfThere IsInfo) info → IfThere (IfThere IsNonce) nonce → IfThere IsTransaction ops → IfThere IsRecord (record_with id info nonce ops revnos state)
    by (Some id) (Some info) (Some number) (Some ops) (Some revnos) (Some state) a b c d = record { id = a; info = b; nonce = c; ops = d }
    by _ _ _ _ _ _ a b c d = tt

-- ---- a stash entry

entry_read : (value : Value) → IfThere IsStorable (stash_in value)
unfolding stash_in
entry_read value =
    where_true IsStorable (has_only is_stash_name (out-Value value)) _
    (by (needed key_object_in (part (codes "_id") value)) (needed number_in (part (codes "txn-revno") value)) (queue_in (part (codes "txn-queue") value)) (mark_in (part (codes "txn-insert") value))
    (of_needed IsKey key_object_in key_object_read (part (codes "_id") value)) (queue_read (part (codes "txn-queue") value)) (mark_read (part (codes "txn-insert") value)))
  where
    by : (key : Option Key) (revno : Option ℤ) (queue : Option (List Token)) (insert : Option (Option Token)) → IfThere IsKey key → IfThere (All IsToken) queue → IfThere (IfThere IsToken) insert
        → IfThere IsStorable (option_and_then (λ key. named_stash key (stash_with revno queue insert)) key)
    by (Some key) (Some revno) (Some queue) (Some insert) a b c = record { names = a; queue = b; insert = c }
    by _ _ _ _ a b c = tt

-- ---- a document

document_read : (c value : Value) → IfThere IsStorable (doc_in c value)
unfolding doc_in doc_under
document_read c value = by (doc_key_in c (part (codes "_id") value)) (keyed (part (codes "_id") value))
  where
    keyed : (id : Option Value) → IfThere IsKey (doc_key_in c id)
    keyed (Some id) = key_read c id
    keyed None = tt

    under : (key : Key) → IsKey key → (body : Result Value BodyFault) (revno : Option ℤ) (queue : Option (List Token)) (remove : Option (Option Token)) → IfOk body IsBody → IfThere (All IsToken) queue → IfThere (IfThere IsToken) remove
        → IfThere IsStorable (named_doc key (doc_with (result_ok body) revno queue remove))
    under key named (Ok body) (Some revno) (Some queue) (Some remove) a b c = record { names = named; body = a; queue = b; remove = c }
    under key named _ _ _ _ a b c = tt

    by : (key : Option Key) → IfThere IsKey key → IfThere IsStorable (option_and_then (λ key. named_doc key (doc_under key value)) key)
    by (Some key) named =
        under key named (body_in key.d (without_own (out-Value value))) (revno_in (part (codes "txn-revno") value)) (queue_in (part (codes "txn-queue") value)) (mark_in (part (codes "txn-remove") value))
        (body_read key.d (without_own (out-Value value))) (queue_read (part (codes "txn-queue") value)) (mark_read (part (codes "txn-remove") value))
    by None named = tt

-- ---- the cell

kind_read : (value : Value) (kind : List ℕ) → IfThere IsStorable (of_kind_in value kind)
kind_read value kind = by (bytes_eq kind (codes "record")) (bytes_eq kind (codes "stash")) (bytes_eq kind (codes "nonce"))
  where
    counted : (fs : List (Field Value)) → IfThere IsNonce (nonce_of_fields fs)
    counted (next ∷ []) = where_true IsNonce (is_named next (codes "next")) _ (counter_read (out-Value next.value))
    counted _ = tt

    by : (is_record is_stash is_nonce : Bool) → IfThere IsStorable (if is_record then named_record (record_in value) else (if is_stash then stash_in value else (if is_nonce then named_nonce (nonce_of_fields (fields_in (out-Value value))) else None)))
    by true is_stash is_nonce = mapped IsRecord IsStorable _ (λ rec is. (refl, is)) (record_in value) (where_true IsRecord (has_only is_record_name (out-Value value)) (record_of value) (record_read value))
    by false true is_nonce = entry_read value
    by false false true = mapped IsNonce IsStorable _ (λ next is. is) _ (counted (fields_in (out-Value value)))
    by false false false = tt

fields_read : (fs : List (Field Value)) → IfThere IsStorable (cell_of_fields fs)
fields_read (kind ∷ is ∷ []) =
    where_true IsStorable (is_named kind (codes "cell") && is_named is (codes "is")) _ (of_text IsStorable (of_kind_in is.value) (kind_read is.value) (out-Value kind.value))
fields_read (c ∷ kind ∷ is ∷ []) =
    where_true IsStorable (is_named c (codes "c") && is_named kind (codes "cell") && is_named is (codes "is") && is_doc_kind (out-Value kind.value)) _ (document_read c.value is.value)
fields_read _ = tt

of_some : {A : Type 0} (P : A → Type 0) (o : Option A) → IfThere P o → (x : A) → o ≡ Some x → P x
of_some P o h x is = subst (IfThere P) is h

pub cell_read : (value : Value) (named : Named) → cell_in value ≡ Some named → IsStorable named
unfolding cell_in
cell_read value = of_some IsStorable (cell_in value) (fields_read (fields_in (out-Value value)))

pub read_again : (value : Value) (named : Named) → cell_in value ≡ Some named → cell_in (cell_value named) ≡ Some named
read_again value named is = cell_again named.name named.cell (cell_read value named is)

-- what code answers
pub answer_read : (fs : List (Field Value)) (answer : Result Named CellFault) → (answer ≢ Err OutOfMemory → answer ≡ or_bad (cell_of_fields fs)) → IfOk answer IsStorable
answer_read fs answer is = by answer (cell_of_fields fs) (fields_read fs) is
  where
    by : (answer : Result Named CellFault) (found : Option Named) → IfThere IsStorable found → (answer ≢ Err OutOfMemory → answer ≡ or_bad found) → IfOk answer IsStorable
    by (Ok named) (Some found) h is = subst (λ r. IfOk r IsStorable) (sym (is (λ e. cc e))) h
    by (Ok named) None h is = cc (is (λ e. cc e))
    by (Err why) found h is = tt
