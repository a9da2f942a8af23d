-- What the parts of a cell print as is read as these parts.
use Rattle.std.proofs.Common.{◌≡◌, ◌≤◌, ◌==◌, ℕ, ℤ, pos, Bool, true, false, nat_lt, map, codes, List, [], ◌∷◌, Option, Some, None, option_and_then, Result, Ok, refl, sym, ap, ◌∙◌, arith, rules, if◌then◌else◌}
use Rattle.std.specs.List.{All}
use Rattle.std.specs.Option.{option_map}
use Rattle.std.specs.Result.{result_ok}
use Rattle.std.proofs.lemmas.Bool.Decides.{nat_tests, Decides-int_eq}
use Rattle.std.specs.Ordering.{int_eq}
use Rattle.std.proofs.lemmas.List.Elements.{All-head, All-tail}
use Rattle.doc_value.specs.Depth.{nesting}
use Rattle.doc_value.specs.declared.doc_id.DocId.{DocId}
use Rattle.doc_value.specs.declared.doc_id.DocId.TheVariants as doc_id
use Rattle.doc_value.specs.declared.value.Named.{Named as Field}
use Rattle.doc_value.specs.declared.value.Value.{Value, Int, Text, List as Items_of, Object, out-Value, the_lemmas}
use Rattle.doc_value.specs.declared.value.Value.TheOpen.{Value-F}
use Rattle.txn_key.specs.Ids.{id_of, id_text, nonce_of, nonce_text, token_of, token_text}
use Rattle.txn_key.specs.Syntax.{is_collection, is_text_id, key_with, collection_of, doc_id_of, key_in}
use Rattle.txn_key.specs.declared.id.Token.{Token}
use Rattle.txn_key.specs.declared.id.TxnId.{TxnId}
use Rattle.txn_key.specs.declared.key.Key.{Key}
use Rattle.txn_key.proofs.TokenTexts.{id_reads_back, nonce_reads_back, token_of-token_text}
use Rattle.txn_record.specs.States.{state_number}
use Rattle.txn_record.specs.Syntax.{ops_in}
use Rattle.txn_record.specs.Transactions.{IsTransaction, is_doc_id}
use Rattle.txn_record.specs.Values.{id_value, ops_value}
use Rattle.txn_record.specs.declared.op.Op.{Op}
use Rattle.txn_record.specs.declared.state.State.{State}
use Rattle.txn_record.specs.declared.state.State.TheVariants.{Preparing, Prepared, Aborting, Applying, Aborted, Applied}
use Rattle.txn_record.proofs.ReadBack.{ops_again}
use Rattle.cell_text.specs.Parts.{all_read, text_in, token_in, list_in, number_in, needed, state_in, counter_in, ops_there, key_object_in, key_of_fields, queue_in, revno_in, mark_in, nonce_in, revnos_in, info_in}
use Rattle.cell_text.specs.Storable.{IfThere, IsId, IsNonce, IsToken, IsInfo, IsKey}
use Rattle.cell_text.specs.Values.{token_value, queue_value, mark_value, revno_value, nonce_value, revnos_value, key_value}

-- ---- values of one kind

pub object_layer : (fs : List (Field Value)) → out-Value (Object fs) ≡ Value-F.Object fs
object_layer fs = search (rules, the_lemmas)

pub list_layer : (vs : List Value) → out-Value (Items_of vs) ≡ Value-F.List vs
list_layer vs = search (rules, the_lemmas)

pub text_layer : (t : List ℕ) → out-Value (Text t) ≡ Value-F.Text t
text_layer t = search (rules, the_lemmas)

pub number_layer : (n : ℤ) → out-Value (Int n) ≡ Value-F.Int n
number_layer n = search (rules, the_lemmas)

-- ---- a record's parts

pub id_again : (id : TxnId) → IsId id → needed (text_in id_of) (Some (Text (id_text id))) ≡ Some id
id_again id is = ap (text_in id_of) (text_layer (id_text id)) ∙ id_reads_back id is.0 is.1

pub info_again : (info : Option Value) → IfThere IsInfo info → info_in info ≡ Some info
info_again None is = refl
info_again (Some value) is = ap (λ (deep : Bool). if deep then None else Some (Some value)) (shallow value is)
  where
    shallow : (value : Value) → nesting value ≤ 90 → nat_lt 90 (nesting value) ≡ false
    shallow value is = grind (arith, nat_tests, is)

pub nonce_again : (nonce : Option ℕ) → IfThere IsNonce nonce → nonce_in (nonce_value nonce) ≡ Some nonce
nonce_again None is = refl
nonce_again (Some n) is = ap (λ (layer : Value-F Value). option_map Some (text_in nonce_of layer)) (text_layer (nonce_text n)) ∙ ap (option_map Some) (nonce_reads_back n is)

pub ops_again_there : (ops : List Op) → IsTransaction ops → ops_there (Some (ops_value ops)) ≡ Some ops
ops_again_there ops is = ap result_ok (ops_again ops is)

pub numbers_again : (list : List ℤ) → all_read (map (λ value. number_in (out-Value value)) (map Int list)) ≡ Some list
numbers_again [] = refl
numbers_again (number ∷ list) =
    ap (λ (layer : Value-F Value). all_read (number_in layer ∷ map (λ value. number_in (out-Value value)) (map Int list))) (number_layer number)
    ∙ ap (option_map (λ others. number ∷ others)) (numbers_again list)

pub revnos_again : (revnos : Option (List ℤ)) → revnos_in (revnos_value revnos) ≡ Some revnos
revnos_again None = refl
revnos_again (Some list) = ap (λ (layer : Value-F Value). option_map Some (list_in number_in layer)) (list_layer (map Int list)) ∙ ap (option_map Some) (numbers_again list)

pub state_again : (state : State) → needed state_in (Some (Int (pos (state_number state)))) ≡ Some state
state_again Preparing = ap state_in (number_layer (pos 1))
state_again Prepared = ap state_in (number_layer (pos 2))
state_again Aborting = ap state_in (number_layer (pos 3))
state_again Applying = ap state_in (number_layer (pos 4))
state_again Aborted = ap state_in (number_layer (pos 5))
state_again Applied = ap state_in (number_layer (pos 6))

-- ---- queues, marks and numbers

token_again : (token : Token) → IsToken token → token_in (out-Value (token_value token)) ≡ Some token
unfolding token_in
token_again token is = ap token_in (text_layer (token_text token)) ∙ token_of-token_text token is.0.0 is.0.1 is.1

tokens_again : (queue : List Token) → All IsToken queue → all_read (map (λ value. token_in (out-Value value)) (map token_value queue)) ≡ Some queue
tokens_again [] is = refl
tokens_again (token ∷ queue) is =
    ap (λ (read : Option Token). all_read (read ∷ map (λ value. token_in (out-Value value)) (map token_value queue))) (token_again token (All-head IsToken token queue is))
    ∙ ap (option_map (λ others. token ∷ others)) (tokens_again queue (All-tail IsToken token queue is))

pub queue_again : (queue : List Token) → All IsToken queue → queue_in (queue_value queue) ≡ Some queue
queue_again [] is = refl
queue_again (token ∷ queue) is = ap (list_in token_in) (list_layer (map token_value (token ∷ queue))) ∙ tokens_again (token ∷ queue) is

pub mark_again : (mark : Option Token) → IfThere IsToken mark → mark_in (mark_value mark) ≡ Some mark
mark_again None is = refl
mark_again (Some token) is = ap (option_map Some) (token_again token is)

pub number_again : (number : ℤ) → needed number_in (Some (Int number)) ≡ Some number
number_again number = ap number_in (number_layer number)

pub revno_again : (revno : ℤ) → revno_in (revno_value revno) ≡ Some revno
revno_again revno = by (int_eq revno (pos 0)) refl
  where
    by : (b : Bool) → int_eq revno (pos 0) ≡ b → revno_in (if b then None else Some (Int revno)) ≡ Some revno
    by true is = ap Some (sym ((Decides-int_eq revno (pos 0)).0 is))
    by false is = ap number_in (number_layer revno)

-- ---- keys

pub key_again : (key : Key) → IsKey key → key_in (Text key.c) (id_value key.d) ≡ Some key
key_again key is = by key.d is.id
  where
    named : collection_of (out-Value (Text key.c)) ≡ Some key.c
    named = ap collection_of (text_layer key.c) ∙ ap (λ (b : Bool). if b then Some key.c else None) is.collection

    by : (d : DocId) → is_doc_id d ≡ true → key_in (Text key.c) (id_value d) ≡ Some (record { c = key.c; d = d })
    by (doc_id.Text text) h =
        ap (option_and_then (λ name. key_with name (doc_id_of (out-Value (Text text))))) named
        ∙ ap (λ (layer : Value-F Value). key_with key.c (doc_id_of layer)) (text_layer text)
        ∙ ap (λ (b : Bool). key_with key.c (if b then Some (doc_id.Text text) else None)) h
    by (doc_id.Int number) h =
        ap (option_and_then (λ name. key_with name (doc_id_of (out-Value (Int number))))) named
        ∙ ap (λ (layer : Value-F Value). key_with key.c (doc_id_of layer)) (number_layer number)

pub key_object_again : (key : Key) → IsKey key → needed key_object_in (Some (key_value key)) ≡ Some key
key_object_again key is = ap key_object_in (object_layer _) ∙ key_again key is

pub counter_again : (next : ℕ) → IsNonce next → counter_in (out-Value (Int (pos next))) ≡ Some next
counter_again next is = ap counter_in (number_layer (pos next)) ∙ ap (λ (wide : Bool). if wide then None else Some next) (narrow next is)
  where
    narrow : (next : ℕ) → IsNonce next → nat_lt 4294967295 next ≡ false
    narrow next is = grind (arith, nat_tests, is)
