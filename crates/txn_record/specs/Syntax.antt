-- What values are as operations, or the fault for which they are refused.
use Rattle.std.specs.Prelude.{◌≡◌, ℕ, suc, Bool, true, false, ◌&&◌, ◌||◌, not, ◌==◌, nat_lt, List, [], ◌∷◌, length, codes, Option, Some, None, is_some, Result, Ok, Err, if◌then◌else◌}
use Rattle.std.specs.List.{list_all}
use Rattle.std.specs.Str.{bytes_eq}
use Rattle.doc_query.specs.Syntax.{query_in}
use Rattle.doc_query.specs.declared.fault.QueryFault.{QueryFault}
use Rattle.doc_update.specs.Syntax.{update_in}
use Rattle.doc_update.specs.declared.fault.UpdateFault.{UpdateFault}
use Rattle.doc_value.specs.Bodies.{body_in}
use Rattle.doc_value.specs.Depth.{nesting}
use Rattle.doc_value.specs.Paths.{field_in}
use Rattle.doc_value.specs.declared.doc_id.DocId.{DocId}
use Rattle.doc_value.specs.declared.fault.BodyFault.{BodyFault}
use Rattle.doc_value.specs.declared.value.Named.{Named}
use Rattle.doc_value.specs.declared.value.Value.{Value, out-Value}
use Rattle.doc_value.specs.declared.value.Value.TheOpen.{Value-F}
use Rattle.txn_key.specs.Syntax.{key_in}
use Rattle.txn_key.specs.declared.key.Key.{Key}
use Rattle.txn_record.specs.declared.fault.OpFault.{OpFault}
use Rattle.txn_record.specs.declared.fault.OpFault.TheVariants.{BadOperation, KeyMissing, BadKey, SeveralChanges, NothingSet, InsertAssert, TooDeep, BadInsert, BadUpdate, BadAssert}
use Rattle.txn_record.specs.declared.fault.OpsFault.{OpsFault}
use Rattle.txn_record.specs.declared.fault.OpsFault.TheVariants.{NotList, Empty, TooMany, At}
use Rattle.txn_record.specs.declared.fault.Refusal.{Refusal}
use Rattle.txn_record.specs.declared.fault.Refusal.TheVariants.{Fault, OutOfMemory}
use Rattle.txn_record.specs.declared.op.Assert.{Assert}
use Rattle.txn_record.specs.declared.op.Assert.TheVariants as assertion
use Rattle.txn_record.specs.declared.op.Change.{Change}
use Rattle.txn_record.specs.declared.op.Change.TheVariants as change
use Rattle.txn_record.specs.declared.op.Op.{Op}

-- ---- an operation's fields

abbrev pub collection_field : Value → Option Value
collection_field value = field_in (codes "c") (out-Value value)

abbrev pub id_field : Value → Option Value
id_field value = field_in (codes "d") (out-Value value)

abbrev pub assert_field : Value → Option Value
assert_field value = field_in (codes "a") (out-Value value)

abbrev pub insert_field : Value → Option Value
insert_field value = field_in (codes "i") (out-Value value)

abbrev pub update_field : Value → Option Value
update_field value = field_in (codes "u") (out-Value value)

abbrev pub remove_field : Value → Option Value
remove_field value = field_in (codes "r") (out-Value value)

abbrev pub is_field_name : List ℕ → Bool
is_field_name name =
    bytes_eq name (codes "a") || bytes_eq name (codes "c") || bytes_eq name (codes "d")
    || bytes_eq name (codes "i") || bytes_eq name (codes "r") || bytes_eq name (codes "u")

abbrev pub are_fields : List (Named Value) → Bool
are_fields fields = list_all (λ field. is_field_name field.name) fields

abbrev pub has_only_fields : Value-F Value → Bool
has_only_fields (Value-F.Object fields) = are_fields fields
has_only_fields _ = false

abbrev pub is_text : Value-F Value → Bool
is_text (Value-F.Text _) = true
is_text _ = false

abbrev pub is_truth : Value-F Value → Bool
is_truth (Value-F.Bool _) = true
is_truth _ = false

-- what is absent is of any kind
abbrev pub if_there : (Value-F Value → Bool) → Option Value → Bool
if_there is_kind None = true
if_there is_kind (Some value) = is_kind (out-Value value)

-- an object of these fields, `c` a text and `r` a truth value where they are there
abbrev pub has_form : Value → Bool
has_form value =
    has_only_fields (out-Value value)
    && if_there is_text (collection_field value)
    && if_there is_truth (remove_field value)

-- ---- its key

abbrev pub is_empty_text : Value-F Value → Bool
is_empty_text (Value-F.Text text) = length text == 0
is_empty_text _ = false

abbrev pub is_null : Value-F Value → Bool
is_null Value-F.Null = true
is_null _ = false

abbrev pub or_bad_key : Option Key → Result Key OpFault
or_bad_key (Some key) = Ok key
or_bad_key None = Err BadKey

abbrev pub key_of : Option Value → Option Value → Result Key OpFault
key_of (Some c) (Some d) =
    if is_empty_text (out-Value c) || is_null (out-Value d) then Err KeyMissing
    else or_bad_key (key_in c d)
key_of (Some c) None = Err KeyMissing
key_of None d = Err KeyMissing

-- ---- which parts it has

abbrev pub is_true : Value-F Value → Bool
is_true (Value-F.Bool truth) = truth
is_true _ = false

abbrev pub is_there : (Value-F Value → Bool) → Option Value → Bool
is_there is_kind None = false
is_there is_kind (Some value) = is_kind (out-Value value)

-- `r` false counts as absent
abbrev pub is_removal : Value → Bool
is_removal value = is_there is_true (remove_field value)

abbrev pub has_several_changes : Option Value → Option Value → Bool → Bool
has_several_changes insert update removal =
    (is_some insert && is_some update) || ((is_some insert || is_some update) && removal)

abbrev pub is_the_text : List ℕ → Value-F Value → Bool
is_the_text word (Value-F.Text text) = bytes_eq text word
is_the_text word _ = false

-- an assertion beside an insertion is `d-`
abbrev pub is_missing_or_absent : Option Value → Bool
is_missing_or_absent assert = if_there (is_the_text (codes "d-")) assert

abbrev pub is_too_deep : Option Value → Bool
is_too_deep None = false
is_too_deep (Some value) = nat_lt 90 (nesting value)

abbrev pub is_some_too_deep : Option Value → Option Value → Option Value → Bool
is_some_too_deep assert insert update =
    is_too_deep assert || is_too_deep insert || is_too_deep update

-- the first fault in which parts an operation has, or in how deep they are
abbrev pub fault_of_parts : Option Value → Option Value → Option Value → Bool → Option OpFault
fault_of_parts assert insert update removal =
    if has_several_changes insert update removal then Some SeveralChanges
    else (if not (is_some assert || is_some insert || is_some update || removal)
    then Some NothingSet
    else (if is_some insert && not (is_missing_or_absent assert) then Some InsertAssert
    else (if is_some_too_deep assert insert update then Some TooDeep else None)))

-- ---- its change and its assertion

abbrev pub or_bad_insert : Result Value BodyFault → Result Change OpFault
or_bad_insert (Ok body) = Ok (change.Insert body)
or_bad_insert (Err _) = Err BadInsert

abbrev pub or_bad_update : Result Value UpdateFault → Result Change OpFault
or_bad_update (Ok update) = Ok (change.Update update)
or_bad_update (Err _) = Err BadUpdate

abbrev pub change_of : DocId → Option Value → Option Value → Bool → Result Change OpFault
change_of id (Some insert) update removal = or_bad_insert (body_in id insert)
change_of id None (Some update) removal = or_bad_update (update_in update)
change_of id None None true = Ok change.Remove
change_of id None None false = Ok change.Nothing

abbrev pub or_bad_assert : Result Value QueryFault → Result Assert OpFault
or_bad_assert (Ok query) = Ok (assertion.Query query)
or_bad_assert (Err _) = Err BadAssert

abbrev pub assert_of : Option Value → Result Assert OpFault
assert_of None = Ok assertion.Nothing
assert_of (Some value) =
    if is_the_text (codes "d+") (out-Value value) then Ok assertion.Exists
    else (if is_the_text (codes "d-") (out-Value value) then Ok assertion.Missing
    else or_bad_assert (query_in value))

-- ---- the operation

abbrev pub op_of : Key → Result Change OpFault → Result Assert OpFault → Result Op OpFault
op_of key (Ok change) (Ok assert) = Ok (record { key = key; assert = assert; change = change })
op_of key (Ok change) (Err why) = Err why
op_of key (Err why) assert = Err why

abbrev pub unless_fault : {A : Type 0} → Option OpFault → Result A OpFault → Result A OpFault
unless_fault (Some why) answer = Err why
unless_fault None answer = answer

abbrev pub op_of_parts : Key → Option Value → Option Value → Option Value → Bool → Result Op OpFault
op_of_parts key assert insert update removal =
    unless_fault (fault_of_parts assert insert update removal)
    (op_of key (change_of key.d insert update removal) (assert_of assert))

abbrev pub op_at : Value → Result Key OpFault → Result Op OpFault
op_at value (Ok key) =
    op_of_parts key (assert_field value) (insert_field value) (update_field value)
    (is_removal value)
op_at value (Err why) = Err why

-- the operation that a value is, or its first fault
abbrev pub op_in : Value → Result Op OpFault
op_in value =
    if has_form value then op_at value (key_of (collection_field value) (id_field value))
    else Err BadOperation

-- ---- the operations of a transaction

-- an operation as the one of that number, counted from 0
abbrev pub numbered : ℕ → Result Op OpFault → Result Op OpsFault
numbered number (Ok op) = Ok op
numbered number (Err why) = Err (At number why)

abbrev pub before : Result Op OpsFault → Result (List Op) OpsFault → Result (List Op) OpsFault
before (Err fault) ops = Err fault
before (Ok op) (Err fault) = Err fault
before (Ok op) (Ok ops) = Ok (op ∷ ops)

-- all values as operations, the first of that number, or the first fault
abbrev pub ops_from : ℕ → List Value → Result (List Op) OpsFault
ops_from number [] = Ok []
ops_from number (value ∷ values) =
    before (numbered number (op_in value)) (ops_from (suc number) values)

abbrev pub ops_of_list : Value-F Value → Result (List Op) OpsFault
ops_of_list (Value-F.List values) =
    if length values == 0 then Err Empty
    else (if nat_lt 1000 (length values) then Err TooMany else ops_from 0 values)
ops_of_list _ = Err NotList

abbrev pub ops_in : Value → Result (List Op) OpsFault
ops_in value = ops_of_list (out-Value value)

-- ---- what code answers

-- the answer, where it is known: it is not for want of memory
abbrev pub Reads : {A : Type 0} → Result A Refusal → Result A OpFault → Type 0
Reads (Ok read) answer = answer ≡ Ok read
Reads (Err (Fault why)) answer = answer ≡ Err why
Reads (Err OutOfMemory) answer = Unit {0}
