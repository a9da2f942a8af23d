-- What is read as a part of a cell is one as it may be.
use Rattle.std.proofs.Common.{◌≡◌, ◌<◌, ◌^◌, ◌==◌, ◌*◌, ◌&&◌, ℕ, pos, suc, Bool, true, false, nat_lt, map, List, [], ◌∷◌, length, take, drop, slice_index, Option, Some, None, option_and_then, Result, Ok, Err, IfOk, refl, sym, ap, ◌∙◌, arith, if◌then◌else◌}
use Rattle.std.specs.Int.{w32, from_be_bytes}
use Rattle.std.specs.List.{All}
use Rattle.std.specs.Option.{option_map}
use Rattle.std.specs.Result.{result_ok}
use Rattle.std.proofs.lemmas.Bool.{eqb-true}
use Rattle.std.proofs.lemmas.Bool.Decides.{nat_tests}
use Rattle.std.proofs.lemmas.List.Elements.{All-nil, All-cons}
use Rattle.hex.specs.Hex.{decode_of, IsBytes}
use Rattle.hex.specs.declared.error.FromHexError.{FromHexError}
use Rattle.hex.proofs.HexLemmas.{decode_of-ok}
use Rattle.doc_value.specs.Bodies.{body_from, body_in, first_refused, unless_refused}
use Rattle.doc_value.specs.Depth.{nesting}
use Rattle.doc_value.specs.declared.doc_id.DocId.{DocId}
use Rattle.doc_value.specs.declared.doc_id.DocId.TheVariants as doc_id
use Rattle.doc_value.specs.declared.fault.BodyFault.{BodyFault}
use Rattle.doc_value.specs.declared.fault.BodyFault.TheVariants.{TooDeep}
use Rattle.doc_value.specs.declared.value.Named.{Named as Field}
use Rattle.doc_value.specs.declared.value.Value.{Value, Object, out-Value}
use Rattle.doc_value.specs.declared.value.Value.TheOpen.{Value-F}
use Rattle.doc_value.proofs.BodyAgain.{body_again}
use Rattle.doc_update.specs.Syntax.{update_in}
use Rattle.doc_update.specs.declared.fault.UpdateFault.{UpdateFault}
use Rattle.doc_update.proofs.PlacedLaws.{rolled-Object}
use Rattle.txn_key.specs.Ids.{bytes_of, id_of, nonce_of, token_of, token_with}
use Rattle.txn_key.specs.Syntax.{is_collection, is_text_id, collection_of, doc_id_of, key_with, key_in}
use Rattle.txn_key.specs.declared.id.TxnId.{TxnId}
use Rattle.txn_key.specs.declared.key.Key.{Key}
use Rattle.txn_record.specs.Syntax.{collection_field, id_field, assert_field, insert_field, update_field, is_removal, has_form, key_of, fault_of_parts, or_bad_insert, or_bad_update, change_of, assert_of, op_of, unless_fault, op_at, op_in, numbered, before, ops_from, ops_of_list}
use Rattle.txn_record.specs.Transactions.{InsertsBody, IsBody, IsSoundOp, IsTransaction, is_doc_id}
use Rattle.txn_record.specs.declared.fault.OpFault.{OpFault}
use Rattle.txn_record.specs.declared.fault.OpFault.TheVariants.{BadOperation}
use Rattle.txn_record.specs.declared.fault.OpsFault.{OpsFault}
use Rattle.txn_record.specs.declared.fault.OpsFault.TheVariants.{Empty, TooMany}
use Rattle.txn_record.specs.declared.op.Assert.{Assert}
use Rattle.txn_record.specs.declared.op.Change.{Change}
use Rattle.txn_record.specs.declared.op.Op.{Op}
use Rattle.txn_record.proofs.SoundReading.{read_sound}
use Rattle.cell_text.specs.Parts.{all_read, counter_in, if_there, info_in, key_object_in, list_in, mark_in, needed, nonce_in, ops_there, queue_in, text_in, token_in}
use Rattle.cell_text.specs.Storable.{IfThere, IsId, IsInfo, IsKey, IsNonce, IsToken}

-- ---- what may be absent

pub mapped : {A B : Type 0} (P : A → Type 0) (Q : B → Type 0) (f : A → B) → ((x : A) → P x → Q (f x)) → (o : Option A) → IfThere P o → IfThere Q (option_map f o)
mapped P Q f h (Some x) is = h x is
mapped P Q f h None is = tt

pub where_true : {A : Type 0} (P : A → Type 0) (b : Bool) (o : Option A) → IfThere P o → IfThere P (if b then o else None)
where_true P true o is = is
where_true P false o is = tt

tested : {A : Type 0} (P : A → Type 0) (b : Bool) (x : A) → (b ≡ true → P x) → IfThere P (if b then Some x else None)
tested P true x is = is refl
tested P false x is = tt

unless : {A : Type 0} (P : A → Type 0) (b : Bool) (x : A) → (b ≡ false → P x) → IfThere P (if b then None else Some x)
unless P true x is = tt
unless P false x is = is refl

pub of_text : {A : Type 0} (P : A → Type 0) (read : List ℕ → Option A) → ((text : List ℕ) → IfThere P (read text)) → (layer : Value-F Value) → IfThere P (text_in read layer)
of_text P read is (Value-F.Text text) = is text
of_text P read is _ = tt

pub of_needed : {A : Type 0} (P : A → Type 0) (read : Value-F Value → Option A) → ((layer : Value-F Value) → IfThere P (read layer)) → (value : Option Value) → IfThere P (needed read value)
of_needed P read is (Some value) = is (out-Value value)
of_needed P read is None = tt

of_if_there : {A : Type 0} (P : A → Type 0) (absent : A) (read : Value-F Value → Option A) → P absent → ((layer : Value-F Value) → IfThere P (read layer)) → (value : Option Value) → IfThere P (if_there absent read value)
of_if_there P absent read none is (Some value) = is (out-Value value)
of_if_there P absent read none is None = none

of_all : {A : Type 0} (P : A → Type 0) (read : Value → Option A) → ((value : Value) → IfThere P (read value)) → (values : List Value) → IfThere (All P) (all_read (map read values))
of_all P read is [] = All-nil P
of_all {A = A} P read is (value ∷ values) = by (read value) (map read values) (is value) (of_all P read is values)
  where
    by : (first : Option A) (rest : List (Option A)) → IfThere P first → IfThere (All P) (all_read rest) → IfThere (All P) (all_read (first ∷ rest))
    by (Some x) rest h hs = mapped (All P) (All P) (λ others. x ∷ others) (λ xs. All-cons P x xs h) (all_read rest) hs
    by None rest h hs = tt

-- ---- ids, nonces and tokens

bytes_read : (n : ℕ) (text : List ℕ) → IfThere (λ bytes. (length bytes ≡ n) × IsBytes bytes) (bytes_of n text)
bytes_read n text = by (length text == 2 * n) refl (decode_of text) refl
  where
    by : (b : Bool) → (length text == 2 * n) ≡ b → (read : Result (List ℕ) FromHexError) → decode_of text ≡ read → IfThere (λ bytes. (length bytes ≡ n) × IsBytes bytes) (if b then result_ok read else None)
    by true long (Ok bytes) is =
        let read = decode_of-ok text bytes is in
        let twice = eqb-true (length text) (2 * n) long in
        (omega (arith, read.2, twice), read.3)
    by true long (Err why) is = tt
    by false long read is = tt

pub id_read : (text : List ℕ) → IfThere IsId (id_of text)
id_read text = mapped _ IsId _ (λ bytes is. is) (bytes_of 12 text) (bytes_read 12 text)

number_small : (bytes : List ℕ) → IsBytes bytes → from_be_bytes w32 bytes < 2 ^ 32
number_small bytes is = omega (arith, is 0, is 1, is 2, is 3)

pub nonce_read : (text : List ℕ) → IfThere IsNonce (nonce_of text)
nonce_read text = mapped _ IsNonce (from_be_bytes w32) (λ bytes is. number_small bytes is.1) (bytes_of 4 text) (bytes_read 4 text)

token_read : (text : List ℕ) → IfThere IsToken (token_of text)
token_read text =
    where_true IsToken ((length text == 33) && (slice_index text 24 == 95)) _
    (by (id_of (take 24 text)) (nonce_of (drop 25 text)) (id_read (take 24 text)) (nonce_read (drop 25 text)))
  where
    by : (id : Option TxnId) (nonce : Option ℕ) → IfThere IsId id → IfThere IsNonce nonce → IfThere IsToken (option_and_then (λ id. token_with id nonce) id)
    by (Some id) (Some nonce) h k = (h, k)
    by _ _ h k = tt

token_in_read : (layer : Value-F Value) → IfThere IsToken (token_in layer)
unfolding token_in
token_in_read layer = of_text IsToken token_of token_read layer

pub nonce_in_read : (value : Option Value) → IfThere (IfThere IsNonce) (nonce_in value)
nonce_in_read value =
    of_if_there (IfThere IsNonce) None _ tt
    (λ layer. mapped IsNonce (IfThere IsNonce) Some (λ nonce is. is) (text_in nonce_of layer) (of_text IsNonce nonce_of nonce_read layer)) value

pub mark_read : (value : Option Value) → IfThere (IfThere IsToken) (mark_in value)
mark_read value =
    of_if_there (IfThere IsToken) None _ tt
    (λ layer. mapped IsToken (IfThere IsToken) Some (λ token is. is) (token_in layer) (token_in_read layer)) value

pub queue_read : (value : Option Value) → IfThere (All IsToken) (queue_in value)
queue_read value = of_if_there (All IsToken) [] _ (All-nil IsToken) listed value
  where
    listed : (layer : Value-F Value) → IfThere (All IsToken) (list_in token_in layer)
    listed (Value-F.List values) = of_all IsToken (λ value. token_in (out-Value value)) (λ value. token_in_read (out-Value value)) values
    listed _ = tt

-- ---- numbers and what is noted

pub counter_read : (layer : Value-F Value) → IfThere IsNonce (counter_in layer)
counter_read (Value-F.Int (pos number)) = unless IsNonce (nat_lt 4294967295 number) number (λ h. grind (arith, nat_tests, h))
counter_read _ = tt

pub info_read : (value : Option Value) → IfThere (IfThere IsInfo) (info_in value)
info_read None = tt
info_read (Some value) = unless (IfThere IsInfo) (nat_lt 90 (nesting value)) (Some value) (λ h. grind (arith, nat_tests, h))

-- ---- keys

pub key_read : (c d : Value) → IfThere IsKey (key_in c d)
key_read c d = by (collection_of (out-Value c)) (doc_id_of (out-Value d)) (collection (out-Value c)) (id (out-Value d))
  where
    collection : (layer : Value-F Value) → IfThere (λ name. is_collection name ≡ true) (collection_of layer)
    collection (Value-F.Text name) = tested (λ name. is_collection name ≡ true) (is_collection name) name (λ h. h)
    collection _ = tt

    id : (layer : Value-F Value) → IfThere (λ d. is_doc_id d ≡ true) (doc_id_of layer)
    id (Value-F.Text text) = tested (λ d. is_doc_id d ≡ true) (is_text_id text) (doc_id.Text text) (λ h. h)
    id (Value-F.Int number) = refl
    id _ = tt

    by : (name : Option (List ℕ)) (d : Option DocId) → IfThere (λ name. is_collection name ≡ true) name → IfThere (λ d. is_doc_id d ≡ true) d → IfThere IsKey (option_and_then (λ name. key_with name d) name)
    by (Some name) (Some d) h k = record { collection = h; id = k }
    by _ _ h k = tt

pub key_object_read : (layer : Value-F Value) → IfThere IsKey (key_object_in layer)
key_object_read (Value-F.Object (c ∷ d ∷ [])) = where_true IsKey _ (key_in c.value d.value) (key_read c.value d.value)
key_object_read _ = tt

-- ---- bodies

pub body_read : (id : DocId) (value : Value) → IfOk (body_in id value) IsBody
body_read id value = by (out-Value value) refl
  where
    of_fields : (fs : List (Field Value)) → value ≡ Object fs → (deep : Bool) → nat_lt 90 (nesting value) ≡ deep → (found : Option (List ℕ)) → first_refused id fs ≡ found
        → IfOk (if deep then Err TooDeep else unless_refused found fs) IsBody
    of_fields fs is false shallow None fine = λ other. body_again other id fs (sym (ap (λ v. nat_lt 90 (nesting v)) is) ∙ shallow) fine
    of_fields fs is _ deep _ found = tt

    by : (layer : Value-F Value) → out-Value value ≡ layer → IfOk (body_from id value layer) IsBody
    by (Value-F.Object fs) is = of_fields fs (rolled-Object value fs is) (nat_lt 90 (nesting value)) refl (first_refused id fs) refl
    by _ is = tt

-- ---- operations

inserted_body : (id : DocId) (insert update : Option Value) (removal : Bool) → IfOk (change_of id insert update removal) InsertsBody
inserted_body id (Some value) update removal = by (body_in id value) (body_read id value)
  where
    by : (read : Result Value BodyFault) → IfOk read IsBody → IfOk (or_bad_insert read) InsertsBody
    by (Ok body) is = is
    by (Err why) is = tt
inserted_body id None (Some value) removal = by (update_in value)
  where
    by : (read : Result Value UpdateFault) → IfOk (or_bad_update read) InsertsBody
    by (Ok update) = tt
    by (Err why) = tt
inserted_body id None None true = tt
inserted_body id None None false = tt

op_read : (value : Value) → IfOk (op_in value) IsSoundOp
op_read value = formed (has_form value)
  where
    c : Option Value
    c = collection_field value

    d : Option Value
    d = id_field value

    a : Option Value
    a = assert_field value

    i : Option Value
    i = insert_field value

    u : Option Value
    u = update_field value

    r : Bool
    r = is_removal value

    whole : (key : Key) (change : Result Change OpFault) (assert : Result Assert OpFault) → key_of c d ≡ Ok key → fault_of_parts a i u r ≡ None → change_of key.d i u r ≡ change → assert_of a ≡ assert → IfOk change InsertsBody
        → IfOk (op_of key change assert) IsSoundOp
    whole key (Ok change) (Ok assert) named faultless changed asked inserted = read_sound c d a i u r key assert change named faultless changed asked inserted
    whole key (Ok change) (Err why) named faultless changed asked inserted = tt
    whole key (Err why) assert named faultless changed asked inserted = tt

    of_parts : (key : Key) → key_of c d ≡ Ok key → (fault : Option OpFault) → fault_of_parts a i u r ≡ fault → IfOk (unless_fault fault (op_of key (change_of key.d i u r) (assert_of a))) IsSoundOp
    of_parts key named (Some why) is = tt
    of_parts key named None is = whole key (change_of key.d i u r) (assert_of a) named is refl refl (inserted_body key.d i u r)

    keyed : (key : Result Key OpFault) → key_of c d ≡ key → IfOk (op_at value key) IsSoundOp
    keyed (Ok key) is = of_parts key is (fault_of_parts a i u r) refl
    keyed (Err why) is = tt

    formed : (b : Bool) → IfOk (if b then op_at value (key_of c d) else Err BadOperation) IsSoundOp
    formed true = keyed (key_of c d) refl
    formed false = tt

abbrev AreSound : ℕ → List Op → Type 0
AreSound count ops = (length ops ≡ count) × All IsSoundOp ops

ops_read : (number : ℕ) (values : List Value) → IfOk (ops_from number values) (AreSound (length values))
ops_read number [] = (refl, All-nil IsSoundOp)
ops_read number (value ∷ values) = by (op_in value) (ops_from (suc number) values) (op_read value) (ops_read (suc number) values)
  where
    by : (op : Result Op OpFault) (ops : Result (List Op) OpsFault) → IfOk op IsSoundOp → IfOk ops (AreSound (length values)) → IfOk (before (numbered number op) ops) (AreSound (suc (length values)))
    by (Ok op) (Ok ops) h hs = (ap suc hs.0, All-cons IsSoundOp op ops h hs.1)
    by (Ok op) (Err why) h hs = tt
    by (Err why) ops h hs = tt

pub transaction_read : (value : Option Value) → IfThere IsTransaction (ops_there value)
transaction_read None = tt
transaction_read (Some value) = by (out-Value value)
  where
    counted : (count : ℕ) (none many : Bool) → (count == 0) ≡ none → nat_lt 1000 count ≡ many → (ops : Result (List Op) OpsFault) → IfOk ops (AreSound count)
        → IfThere IsTransaction (result_ok (if none then Err Empty else (if many then Err TooMany else ops)))
    counted count false false some few (Ok ops) is = (grind (arith, nat_tests, is.0, some), grind (arith, nat_tests, is.0, few), is.1)
    counted count _ _ some few _ is = tt

    by : (layer : Value-F Value) → IfThere IsTransaction (result_ok (ops_of_list layer))
    by (Value-F.List values) = counted (length values) (length values == 0) (nat_lt 1000 (length values)) refl refl (ops_from 0 values) (ops_read 0 values)
    by _ = tt
