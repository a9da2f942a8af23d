-- What operations print as is read as these operations.
use Rattle.std.proofs.Common.{◌≡◌, ℕ, zero, suc, Bool, true, false, ◌&&◌, ◌||◌, not, ◌==◌, nat_lt, List, [], ◌∷◌, ◌++◌, length, map, codes, Option, Some, None, is_some, is_none, is_ok, option_and_then, ℤ, pos, Result, Ok, Err, refl, sym, ap, ◌∙◌, arith, rules, if◌then◌else◌, true≢false}
use Rattle.std.specs.List.{All}
use Rattle.std.proofs.lemmas.List.{length-map}
use Rattle.std.proofs.lemmas.Bool.Decides.{nat_tests}
use Rattle.doc_query.specs.Syntax.{query_in, is_query, FaultAt, fault_at, as_query, fault_step, unless_faulty, beside_fault}
use Rattle.doc_query.specs.declared.fault.QueryFault.{QueryFault}
use Rattle.doc_update.specs.Syntax.{update_in, unless_fault as unless_update_fault, fault_in}
use Rattle.doc_update.specs.declared.fault.UpdateFault.{UpdateFault}
use Rattle.doc_value.specs.Bodies.{body_from}
use Rattle.doc_value.specs.Depth.{nesting}
use Rattle.doc_value.specs.Paths.{field_named, field_in}
use Rattle.doc_value.specs.declared.doc_id.DocId.{DocId}
use Rattle.doc_value.specs.declared.doc_id.DocId.TheVariants as doc_id
use Rattle.doc_value.specs.declared.value.Named.{Named}
use Rattle.doc_value.specs.declared.value.Value.{Value, Bool as Truth, Int, Text, List as Items_of, Object, out-Value, map-Value, para-Value, para-roll-Value, the_lemmas}
use Rattle.doc_value.specs.declared.value.Value.TheOpen.{Value-F}
use Rattle.doc_value.specs.declared.value.Value.TheViews.{roll-out-Value}
use Rattle.txn_key.specs.Syntax.{holds_byte, is_collection, collection_of, doc_id_of, key_with}
use Rattle.txn_record.specs.Values.{id_value, assert_value, insert_value, remove_value, update_value, field_of, op_fields, op_value, ops_value}
use Rattle.txn_record.specs.Syntax.{collection_field, id_field, assert_field, insert_field, update_field, remove_field, are_fields, has_form, is_text, is_truth, is_true, is_there, if_there, is_the_text, is_empty_text, is_null, is_missing_or_absent, is_too_deep, or_bad_key, key_of, has_only_fields, has_several_changes, fault_of_parts, change_of, assert_of, or_bad_assert, or_bad_update, or_bad_insert, op_in, op_at, op_of_parts, op_of, unless_fault, ops_in, ops_of_list, ops_from, numbered, before}
use Rattle.txn_record.specs.Transactions.{IsBody, IsTransaction, IsSoundOp, IsSoundAssert, IsSoundChange, is_doc_id, is_shallow, go_together, may_insert, asks}
use Rattle.txn_record.specs.declared.fault.OpFault.{OpFault}
use Rattle.std.specs.Str.{bytes_eq}
use Rattle.txn_key.specs.declared.key.Key.{Key}
use Rattle.txn_record.specs.declared.fault.OpFault.TheVariants.{BadOperation, KeyMissing, SeveralChanges, NothingSet, InsertAssert, TooDeep}
use Rattle.txn_record.specs.declared.fault.OpsFault.TheVariants.{Empty, TooMany}
use Rattle.txn_record.specs.declared.op.Assert.{Assert}
use Rattle.txn_record.specs.declared.op.Assert.TheVariants as assertion
use Rattle.txn_record.specs.declared.op.Change.{Change}
use Rattle.txn_record.specs.declared.op.Change.TheVariants as change
use Rattle.txn_record.specs.declared.op.Op.{Op}

-- ---- values of one kind

object_layer : (fs : List (Named Value)) → out-Value (Object fs) ≡ Value-F.Object fs
object_layer fs = search (rules, the_lemmas)

list_layer : (vs : List Value) → out-Value (Items_of vs) ≡ Value-F.List vs
list_layer vs = search (rules, the_lemmas)

text_layer : (t : List ℕ) → out-Value (Text t) ≡ Value-F.Text t
text_layer t = search (rules, the_lemmas)

number_layer : (n : ℤ) → out-Value (Int n) ≡ Value-F.Int n
number_layer n = search (rules, the_lemmas)

truth_layer : (b : Bool) → out-Value (Truth b) ≡ Value-F.Bool b
truth_layer b = search (rules, the_lemmas)

query_level : (v : Value) → fault_at v ≡ fault_step (map-Value Value (Value × FaultAt) beside_fault (out-Value v))
query_level v = ap (para-Value FaultAt fault_step) (sym (roll-out-Value v)) ∙ para-roll-Value FaultAt fault_step (out-Value v)

-- no text is a query
no_text : (word : List ℕ) (v : Value) → is_query v ≡ true → is_the_text word (out-Value v) ≡ false
no_text word v h = by (out-Value v) refl
  where
    by : (layer : Value-F Value) → out-Value v ≡ layer → is_the_text word layer ≡ false
    by (Value-F.Text t) e = absurd (true≢false (sym h ∙ ap (λ (f : FaultAt). is_none (f as_query)) (query_level v) ∙ ap (λ (layer : Value-F Value). is_none (fault_step (map-Value Value (Value × FaultAt) beside_fault layer) as_query)) e))
    by _ e = refl

-- ---- fields by their names

record Looked (a : Option Value) (c d : Value) (i r u : Option Value) (fs : List (Named Value)) : Type 0 where
  asked : field_named (codes "a") fs ≡ a
  collection : field_named (codes "c") fs ≡ Some c
  id : field_named (codes "d") fs ≡ Some d
  inserted : field_named (codes "i") fs ≡ i
  removed : field_named (codes "r") fs ≡ r
  updated : field_named (codes "u") fs ≡ u
  known : are_fields fs ≡ true

abbrev fields_of : Option Value → Value → Value → Change → List (Named Value)
fields_of a c d ch =
    field_of (codes "a") a ++ field_of (codes "c") (Some c) ++ field_of (codes "d") (Some d)
    ++ field_of (codes "i") (insert_value ch) ++ field_of (codes "r") (remove_value ch) ++ field_of (codes "u") (update_value ch)

looked : (a : Option Value) (c d : Value) (ch : Change) → Looked a c d (insert_value ch) (remove_value ch) (update_value ch) (fields_of a c d ch)
looked None c d change.Nothing = record { asked = refl; collection = refl; id = refl; inserted = refl; removed = refl; updated = refl; known = refl }
looked None c d (change.Insert body) = record { asked = refl; collection = refl; id = refl; inserted = refl; removed = refl; updated = refl; known = refl }
looked None c d (change.Update update) = record { asked = refl; collection = refl; id = refl; inserted = refl; removed = refl; updated = refl; known = refl }
looked None c d change.Remove = record { asked = refl; collection = refl; id = refl; inserted = refl; removed = refl; updated = refl; known = refl }
looked (Some a) c d change.Nothing = record { asked = refl; collection = refl; id = refl; inserted = refl; removed = refl; updated = refl; known = refl }
looked (Some a) c d (change.Insert body) = record { asked = refl; collection = refl; id = refl; inserted = refl; removed = refl; updated = refl; known = refl }
looked (Some a) c d (change.Update update) = record { asked = refl; collection = refl; id = refl; inserted = refl; removed = refl; updated = refl; known = refl }
looked (Some a) c d change.Remove = record { asked = refl; collection = refl; id = refl; inserted = refl; removed = refl; updated = refl; known = refl }

-- ---- keys

key_from : Value-F Value → Value-F Value → Result Key OpFault
key_from c d = if is_empty_text c || is_null d then Err KeyMissing else or_bad_key (option_and_then (λ name. key_with name (doc_id_of d)) (collection_of c))

not_empty : (e n z i : Bool) → not (e || n || z || i) ≡ true → e ≡ false
not_empty true n z i h = cc h
not_empty false n z i h = refl

named_key : (c : List ℕ) (d : DocId) → is_collection c ≡ true → is_doc_id d ≡ true → key_of (Some (Text c)) (Some (id_value d)) ≡ Ok (record { c = c; d = d })
unfolding key_from
named_key c (doc_id.Text t) named held =
    (λ j. key_from (text_layer c j) (text_layer t j))
    ∙ (λ j. if not_empty (length c == 0) (nat_lt 120 (length c)) (holds_byte 0 c) (bytes_eq c (codes "_id")) named j || false then Err KeyMissing
    else or_bad_key (option_and_then (λ name. key_with name (if held j then Some (doc_id.Text t) else None)) (if named j then Some c else None)))
named_key c (doc_id.Int n) named held =
    (λ j. key_from (text_layer c j) (number_layer n j))
    ∙ (λ j. if not_empty (length c == 0) (nat_lt 120 (length c)) (holds_byte 0 c) (bytes_eq c (codes "_id")) named j || false then Err KeyMissing
    else or_bad_key (option_and_then (λ name. key_with name (Some (doc_id.Int n))) (if named j then Some c else None)))

-- ---- parts

shown_assert : (a : Assert) → IsSoundAssert a → assert_of (assert_value a) ≡ Ok a
shown_assert assertion.Nothing h = refl
shown_assert assertion.Exists h = ap (λ (layer : Value-F Value). if is_the_text (codes "d+") layer then Ok assertion.Exists else (if is_the_text (codes "d-") layer then Ok assertion.Missing else or_bad_assert (query_in (Text (codes "d+"))))) (text_layer (codes "d+"))
shown_assert assertion.Missing h = ap (λ (layer : Value-F Value). if is_the_text (codes "d+") layer then Ok assertion.Exists else (if is_the_text (codes "d-") layer then Ok assertion.Missing else or_bad_assert (query_in (Text (codes "d-"))))) (text_layer (codes "d-"))
shown_assert (assertion.Query q) h =
    (λ j. if no_text (codes "d+") q h.0 j then Ok assertion.Exists else (if no_text (codes "d-") q h.0 j then Ok assertion.Missing else or_bad_assert (query_in q)))
    ∙ by (fault_at q as_query) refl
  where
    by : (fault : Option QueryFault) → fault_at q as_query ≡ fault → or_bad_assert (query_in q) ≡ Ok (assertion.Query q)
    by None e = ap (λ (f : Option QueryFault). or_bad_assert (unless_faulty q f)) e
    by (Some why) e = absurd (true≢false (sym h.0 ∙ ap is_none e))

shown_change : (id : DocId) (ch : Change) → IsSoundChange ch → change_of id (insert_value ch) (update_value ch) (is_there is_true (remove_value ch)) ≡ Ok ch
shown_change id change.Nothing h = refl
shown_change id (change.Insert body) h = ap or_bad_insert (h id)
shown_change id (change.Update update) h = by (fault_in (out-Value update)) refl
  where
    by : (fault : Option UpdateFault) → fault_in (out-Value update) ≡ fault → or_bad_update (update_in update) ≡ Ok (change.Update update)
    by None e = ap (λ (f : Option UpdateFault). or_bad_update (unless_update_fault update f)) e
    by (Some why) e = absurd (true≢false (sym h.0 ∙ ap (λ (f : Option UpdateFault). is_ok (unless_update_fault update f)) e))
shown_change id change.Remove h = ap (λ (layer : Value-F Value). change_of id None None (is_true layer)) (truth_layer true)

-- ---- no fault

no_deep : (v : Value) → is_shallow v ≡ true → is_too_deep (Some v) ≡ false
no_deep v h = by (is_too_deep (Some v)) refl
  where
    by : (b : Bool) → is_too_deep (Some v) ≡ b → is_too_deep (Some v) ≡ false
    by true e = absurd (true≢false (sym h ∙ ap not e))
    by false e = e

text_depth : (t : List ℕ) → nesting (Text t) ≡ 0
text_depth t = search (rules, the_lemmas)

body_shallow : (body : Value) → IsBody body → is_too_deep (Some body) ≡ false
body_shallow body h = by (out-Value body) refl (nat_lt 90 (nesting body)) refl (h (doc_id.Int (pos 0)))
  where
    by : (layer : Value-F Value) → out-Value body ≡ layer → (b : Bool) → nat_lt 90 (nesting body) ≡ b → body_from (doc_id.Int (pos 0)) body (out-Value body) ≡ Ok body → nat_lt 90 (nesting body) ≡ false
    by (Value-F.Object fs) e false is read = is
    by (Value-F.Object fs) e true is read = cc (e, is, read)
    by _ e b is read = cc (e, read)

assert_shallow : (a : Assert) → IsSoundAssert a → is_too_deep (assert_value a) ≡ false
assert_shallow assertion.Nothing h = refl
assert_shallow assertion.Exists h = ap (nat_lt 90) (text_depth (codes "d+"))
assert_shallow assertion.Missing h = ap (nat_lt 90) (text_depth (codes "d-"))
assert_shallow (assertion.Query q) h = no_deep q h.1

insert_shallow : (ch : Change) → IsSoundChange ch → is_too_deep (insert_value ch) ≡ false
insert_shallow change.Nothing h = refl
insert_shallow (change.Insert body) h = body_shallow body h
insert_shallow (change.Update update) h = refl
insert_shallow change.Remove h = refl

update_shallow : (ch : Change) → IsSoundChange ch → is_too_deep (update_value ch) ≡ false
update_shallow change.Nothing h = refl
update_shallow (change.Insert body) h = refl
update_shallow (change.Update update) h = no_deep update h.1
update_shallow change.Remove h = refl

abbrev removes : Change → Bool
removes ch = is_there is_true (remove_value ch)

one_change : (ch : Change) → has_several_changes (insert_value ch) (update_value ch) (removes ch) ≡ false
one_change change.Nothing = refl
one_change (change.Insert body) = refl
one_change (change.Update update) = refl
one_change change.Remove = refl

asked_there : (a : Assert) → asks a ≡ true → is_some (assert_value a) ≡ true
asked_there assertion.Nothing h = cc h
asked_there assertion.Exists h = refl
asked_there assertion.Missing h = refl
asked_there (assertion.Query q) h = refl

or_true : (b : Bool) → (b || true) ≡ true
or_true true = refl
or_true false = refl

some_part : (a : Assert) (ch : Change) → go_together a ch ≡ true → (is_some (assert_value a) || is_some (insert_value ch) || is_some (update_value ch) || removes ch) ≡ true
some_part a change.Nothing h = ap (λ (b : Bool). b || false || false || false) (asked_there a h)
some_part a (change.Insert body) h = ap (λ (b : Bool). b || false || false) (or_true (is_some (assert_value a)))
some_part a (change.Update update) h = ap (λ (b : Bool). b || false) (or_true (is_some (assert_value a) || false))
some_part a change.Remove h = ap (λ (layer : Value-F Value). is_some (assert_value a) || false || false || is_true layer) (truth_layer true) ∙ or_true (is_some (assert_value a) || false || false)

missing_beside : (a : Assert) → may_insert a ≡ true → is_missing_or_absent (assert_value a) ≡ true
missing_beside assertion.Nothing h = refl
missing_beside assertion.Exists h = cc h
missing_beside assertion.Missing h = ap (is_the_text (codes "d-")) (text_layer (codes "d-"))
missing_beside (assertion.Query q) h = cc h

beside_insert : (a : Assert) (ch : Change) → go_together a ch ≡ true → (is_some (insert_value ch) && not (is_missing_or_absent (assert_value a))) ≡ false
beside_insert a change.Nothing h = refl
beside_insert a (change.Insert body) h = ap not (missing_beside a h)
beside_insert a (change.Update update) h = refl
beside_insert a change.Remove h = refl

no_fault : (a : Assert) (ch : Change) → IsSoundAssert a → IsSoundChange ch → go_together a ch ≡ true → fault_of_parts (assert_value a) (insert_value ch) (update_value ch) (removes ch) ≡ None
no_fault a ch asked done together = λ j.
    if one_change ch j then Some SeveralChanges
    else (if not (some_part a ch together j) then Some NothingSet
    else (if beside_insert a ch together j then Some InsertAssert
    else (if assert_shallow a asked j || insert_shallow ch done j || update_shallow ch done j then Some TooDeep else None)))

-- ---- one operation

true_kind : (ch : Change) → if_there is_truth (remove_value ch) ≡ true
true_kind change.Nothing = refl
true_kind (change.Insert body) = refl
true_kind (change.Update update) = refl
true_kind change.Remove = ap is_truth (truth_layer true)

op_again : (op : Op) → IsSoundOp op → op_in (op_value op) ≡ Ok op
op_again op sound =
    let c = Text op.key.c in
    let d = id_value op.key.d in
    let fs = op_fields op in
    let at = looked (assert_value op.assert) c d op.change in
    let layer = object_layer fs in
    let found_c : collection_field (op_value op) ≡ Some c = ap (field_in (codes "c")) layer ∙ at.collection in
    let found_d : id_field (op_value op) ≡ Some d = ap (field_in (codes "d")) layer ∙ at.id in
    let found_a : assert_field (op_value op) ≡ assert_value op.assert = ap (field_in (codes "a")) layer ∙ at.asked in
    let found_i : insert_field (op_value op) ≡ insert_value op.change = ap (field_in (codes "i")) layer ∙ at.inserted in
    let found_u : update_field (op_value op) ≡ update_value op.change = ap (field_in (codes "u")) layer ∙ at.updated in
    let found_r : remove_field (op_value op) ≡ remove_value op.change = ap (field_in (codes "r")) layer ∙ at.removed in
    let named : key_of (Some c) (Some d) ≡ Ok op.key = named_key op.key.c op.key.d sound.collection sound.id in
    let formed : has_form (op_value op) ≡ true =
    (λ j. has_only_fields (layer j) && if_there is_text (found_c j) && if_there is_truth (found_r j))
    ∙ (λ j. at.known j && is_text (text_layer op.key.c j) && true_kind op.change j) in
    (λ j. if formed j then op_at (op_value op) (key_of (found_c j) (found_d j)) else Err BadOperation)
    ∙ ap (op_at (op_value op)) named
    ∙ (λ j. op_of_parts op.key (found_a j) (found_i j) (found_u j) (is_there is_true (found_r j)))
    ∙ (λ j. unless_fault (no_fault op.assert op.change sound.assert sound.change sound.together j) (op_of op.key (shown_change op.key.d op.change sound.change j) (shown_assert op.assert sound.assert j)))

-- ---- the operations

each_sound : (op : Op) (ops : List Op) → All IsSoundOp (op ∷ ops) → IsSoundOp op × All IsSoundOp ops
each_sound op ops h = (h zero op (omega arith), λ k d within. h (suc k) d (omega (arith, within)))

all_again : (number : ℕ) (ops : List Op) → All IsSoundOp ops → ops_from number (map op_value ops) ≡ Ok ops
all_again number [] h = refl
all_again number (op ∷ ops) h =
    let parts = each_sound op ops h in
    λ j. before (numbered number (op_again op parts.0 j)) (all_again (suc number) ops parts.1 j)

pub ops_again : (ops : List Op) → IsTransaction ops → ops_in (ops_value ops) ≡ Ok ops
ops_again ops h =
    let count = length-map ops op_value in
    ap ops_of_list (list_layer (map op_value ops))
    ∙ (λ j. if count j == 0 then Err Empty else (if nat_lt 1000 (count j) then Err TooMany else ops_from 0 (map op_value ops)))
    ∙ (λ j. if counted ops h j then Err Empty else (if few ops h j then Err TooMany else all_again 0 ops h.2 j))
  where
    counted : (ops : List Op) → IsTransaction ops → (length ops == 0) ≡ false
    counted ops h = grind (arith, nat_tests, h.0)

    few : (ops : List Op) → IsTransaction ops → nat_lt 1000 (length ops) ≡ false
    few ops h = grind (arith, nat_tests, h.1)
