-- What is read as an operation is one as it may be.
use Rattle.std.proofs.Common.{◌≡◌, ℕ, Bool, true, false, ◌||◌, not, List, codes, Option, Some, None, is_none, is_ok, Result, Ok, Err, option_and_then, if◌then◌else◌, true≢false, sym, ap, ◌∙◌, refl, subst}
use Rattle.std.specs.Str.{bytes_eq}
use Rattle.std.proofs.lemmas.Slice.Eq.{bytes_eq-Decides}
use Rattle.doc_query.specs.Syntax.{query_in, fault_at, as_query, unless_faulty}
use Rattle.doc_query.specs.declared.fault.QueryFault.{QueryFault}
use Rattle.doc_update.specs.Syntax.{update_in, unless_fault as unless_update_fault, fault_in}
use Rattle.doc_update.specs.declared.fault.UpdateFault.{UpdateFault}
use Rattle.doc_value.specs.Bodies.{body_in}
use Rattle.doc_value.specs.declared.doc_id.DocId.{DocId}
use Rattle.doc_value.specs.declared.fault.BodyFault.{BodyFault}
use Rattle.doc_value.specs.declared.value.Value.{Value, out-Value}
use Rattle.doc_value.specs.declared.value.Value.TheOpen.{Value-F}
use Rattle.txn_key.specs.Syntax.{is_collection, is_text_id, collection_of, doc_id_of, key_with, key_in}
use Rattle.txn_key.specs.declared.key.Key.{Key}
use Rattle.txn_record.specs.Syntax.{key_of, is_the_text, is_missing_or_absent, is_too_deep, fault_of_parts, change_of, assert_of, or_bad_insert, or_bad_update, or_bad_assert, is_empty_text, is_null}
use Rattle.txn_record.specs.Transactions.{is_doc_id, is_shallow, InsertsBody, IsSoundAssert, IsSoundChange, IsSoundOp, go_together, may_insert, asks}
use Rattle.txn_record.specs.declared.fault.OpFault.TheVariants.{SeveralChanges, NothingSet, InsertAssert, TooDeep}
use Rattle.txn_record.specs.declared.op.Assert.{Assert}
use Rattle.txn_record.specs.declared.op.Assert.TheVariants as assertion
use Rattle.txn_record.specs.declared.op.Change.{Change}
use Rattle.txn_record.specs.declared.op.Change.TheVariants as change

some_is : {A : Type 0} (a b : A) → Some a ≡ Some b → a ≡ b
some_is a b h = cc h

ok_is : {A E : Type 0} (a b : A) → ◌≡◌ {A = Result A E} (Ok a) (Ok b) → a ≡ b
ok_is a b h = cc h

-- ---- keys

collection_sound : (layer : Value-F Value) (name : List ℕ) → collection_of layer ≡ Some name → is_collection name ≡ true
collection_sound (Value-F.Text text) name e = by (is_collection text) refl
  where
    by : (b : Bool) → is_collection text ≡ b → is_collection name ≡ true
    by true is = cc (is, e)
    by false is = cc (is, e)
collection_sound _ name e = cc e

id_sound : (layer : Value-F Value) (id : DocId) → doc_id_of layer ≡ Some id → is_doc_id id ≡ true
id_sound (Value-F.Text text) id e = by (is_text_id text) refl
  where
    by : (b : Bool) → is_text_id text ≡ b → is_doc_id id ≡ true
    by true is = cc (is, e)
    by false is = cc (is, e)
id_sound (Value-F.Int number) id e = cc e
id_sound _ id e = cc e

key_sound : (c d : Value-F Value) (key : Key) → option_and_then (λ name. key_with name (doc_id_of d)) (collection_of c) ≡ Some key → (is_collection key.c ≡ true) × (is_doc_id key.d ≡ true)
key_sound c d key e = by (collection_of c) (doc_id_of d) refl refl e
  where
    by : (name : Option (List ℕ)) (id : Option DocId) → collection_of c ≡ name → doc_id_of d ≡ id → option_and_then (λ n. key_with n id) name ≡ Some key → (is_collection key.c ≡ true) × (is_doc_id key.d ≡ true)
    by None id p q h = cc h
    by (Some name) None p q h = cc h
    by (Some name) (Some id) p q h =
        let is = some_is _ _ h in
        (ap (λ (k : Key). is_collection k.c) (sym is) ∙ collection_sound c name p, ap (λ (k : Key). is_doc_id k.d) (sym is) ∙ id_sound d id q)

named_sound : (c d : Option Value) (key : Key) → key_of c d ≡ Ok key → (is_collection key.c ≡ true) × (is_doc_id key.d ≡ true)
named_sound None d key e = cc e
named_sound (Some c) None key e = cc e
named_sound (Some c) (Some d) key e = by (is_empty_text (out-Value c) || is_null (out-Value d)) refl (key_in c d) refl
  where
    by : (b : Bool) → (is_empty_text (out-Value c) || is_null (out-Value d)) ≡ b → (o : Option Key) → key_in c d ≡ o → (is_collection key.c ≡ true) × (is_doc_id key.d ≡ true)
    by true missing o is = cc (missing, e)
    by false missing None is = cc (missing, is, e)
    by false missing (Some k) is = key_sound (out-Value c) (out-Value d) key (cc (missing, is, e))

-- ---- assertions

shallow_part : (v : Value) → is_too_deep (Some v) ≡ false → is_shallow v ≡ true
shallow_part v e = ap not e

query_sound : (v : Value) (assert : Assert) → or_bad_assert (query_in v) ≡ Ok assert → is_too_deep (Some v) ≡ false → IsSoundAssert assert
query_sound v assert e shallow = by (fault_at v as_query) refl
  where
    by : (fault : Option QueryFault) → fault_at v as_query ≡ fault → IsSoundAssert assert
    by None is = subst IsSoundAssert (ok_is _ _ (sym (ap (λ (f : Option QueryFault). or_bad_assert (unless_faulty v f)) is) ∙ e)) (ap is_none is, shallow_part v shallow)
    by (Some why) is = cc (is, e)

assert_sound : (a : Option Value) (assert : Assert) → assert_of a ≡ Ok assert → is_too_deep a ≡ false → IsSoundAssert assert
assert_sound None assert e shallow = subst IsSoundAssert (ok_is _ _ e) tt
assert_sound (Some v) assert e shallow = by (is_the_text (codes "d+") (out-Value v)) (is_the_text (codes "d-") (out-Value v)) refl refl
  where
    by : (p m : Bool) → is_the_text (codes "d+") (out-Value v) ≡ p → is_the_text (codes "d-") (out-Value v) ≡ m → IsSoundAssert assert
    by true m is other = subst {A = Assert} IsSoundAssert {x = assertion.Exists} (cc (is, e)) tt
    by false true is other = subst {A = Assert} IsSoundAssert {x = assertion.Missing} (cc (is, other, e)) tt
    by false false is other = query_sound v assert (cc (is, other, e)) shallow

-- ---- changes

update_sound : (v : Value) (change : Change) → or_bad_update (update_in v) ≡ Ok change → is_too_deep (Some v) ≡ false → IsSoundChange change
update_sound v change e shallow = by (fault_in (out-Value v)) refl
  where
    by : (fault : Option UpdateFault) → fault_in (out-Value v) ≡ fault → IsSoundChange change
    by None is = subst IsSoundChange (ok_is _ _ (sym (ap (λ (f : Option UpdateFault). or_bad_update (unless_update_fault v f)) is) ∙ e)) (ap (λ (f : Option UpdateFault). is_ok (unless_update_fault v f)) is, shallow_part v shallow)
    by (Some why) is = cc (is, e)

insert_sound : (read : Result Value BodyFault) (change : Change) → or_bad_insert read ≡ Ok change → InsertsBody change → IsSoundChange change
insert_sound (Ok body) change e h = subst IsSoundChange (ok_is _ _ e) (subst InsertsBody (sym (ok_is _ _ e)) h)
insert_sound (Err why) change e h = cc e

change_sound : (id : DocId) (i u : Option Value) (r : Bool) (change : Change) → change_of id i u r ≡ Ok change → is_too_deep u ≡ false → InsertsBody change → IsSoundChange change
change_sound id (Some insert) u r change e shallow h = insert_sound (body_in id insert) change e h
change_sound id None (Some update) r change e shallow h = update_sound update change e shallow
change_sound id None None true change e shallow h = subst IsSoundChange (ok_is _ _ e) tt
change_sound id None None false change e shallow h = subst IsSoundChange (ok_is _ _ e) tt

-- ---- together

other_text : (layer : Value-F Value) → is_the_text (codes "d-") layer ≡ true → is_the_text (codes "d+") layer ≡ false
other_text (Value-F.Text text) e = ap (λ (t : List ℕ). bytes_eq t (codes "d+")) ((bytes_eq-Decides text (codes "d-")).0 e)
other_text _ e = refl

asks_something : (v : Value) (assert : Assert) → assert_of (Some v) ≡ Ok assert → asks assert ≡ true
asks_something v assert e = by (is_the_text (codes "d+") (out-Value v)) (is_the_text (codes "d-") (out-Value v)) (query_in v) refl refl refl
  where
    by : (p m : Bool) (q : Result Value QueryFault) → is_the_text (codes "d+") (out-Value v) ≡ p → is_the_text (codes "d-") (out-Value v) ≡ m → query_in v ≡ q → asks assert ≡ true
    by true m q is other read = subst {A = Assert} (λ a. asks a ≡ true) {x = assertion.Exists} (cc (is, e)) refl
    by false true q is other read = subst {A = Assert} (λ a. asks a ≡ true) {x = assertion.Missing} (cc (is, other, e)) refl
    by false false (Ok query) is other read = subst {A = Assert} (λ a. asks a ≡ true) {x = assertion.Query query} (cc (is, other, read, e)) refl
    by false false (Err why) is other read = cc (is, other, read, e)

insert_asks_little : (a : Option Value) (assert : Assert) → assert_of a ≡ Ok assert → is_missing_or_absent a ≡ true → may_insert assert ≡ true
insert_asks_little None assert e h = subst (λ (x : Assert). may_insert x ≡ true) (ok_is _ _ e) refl
insert_asks_little (Some v) assert e h =
    let other = other_text (out-Value v) h in
    subst {A = Assert} (λ x. may_insert x ≡ true) {x = assertion.Missing} (cc (other, h, e)) refl

tested : (p q r s : Bool) → (if p then Some SeveralChanges else (if not q then Some NothingSet else (if r then Some InsertAssert else (if s then Some TooDeep else None)))) ≡ None → (q ≡ true) × (r ≡ false) × (s ≡ false)
tested true q r s e = cc e
tested false false r s e = cc e
tested false true true s e = cc e
tested false true false true e = cc e
tested false true false false e = (refl, refl, refl)

neither : (p q r : Bool) → (p || q || r) ≡ false → (p ≡ false) × (r ≡ false)
neither true q r e = cc e
neither false true r e = cc e
neither false false r e = (refl, e)

parts_together : (id : DocId) (a i u : Option Value) (r : Bool) (asked : Assert) (done : Change) → fault_of_parts a i u r ≡ None → change_of id i u r ≡ Ok done → assert_of a ≡ Ok asked → go_together asked done ≡ true
parts_together id a (Some insert) u r asked done faultless e f = by (body_in id insert) refl (is_missing_or_absent a) refl
  where
    by : (read : Result Value BodyFault) → body_in id insert ≡ read → (b : Bool) → is_missing_or_absent a ≡ b → go_together asked done ≡ true
    by (Err why) is b beside = cc (is, e)
    by (Ok body) is false beside = absurd (true≢false (sym (ap not beside) ∙ (tested _ _ _ _ faultless).1))
    by (Ok body) is true beside = subst {A = Change} (λ c. go_together asked c ≡ true) {x = change.Insert body} (cc (is, e)) (insert_asks_little a asked f beside)
parts_together id a None (Some update) r asked done faultless e f = by (update_in update) refl
  where
    by : (read : Result Value UpdateFault) → update_in update ≡ read → go_together asked done ≡ true
    by (Err why) is = cc (is, e)
    by (Ok source) is = subst {A = Change} (λ c. go_together asked c ≡ true) {x = change.Update source} (cc (is, e)) refl
parts_together id a None None true asked done faultless e f = subst (λ (c : Change). go_together asked c ≡ true) (ok_is _ _ e) refl
parts_together id (Some v) None None false asked done faultless e f = subst (λ (c : Change). go_together asked c ≡ true) (ok_is _ _ e) (asks_something v asked f)
parts_together id None None None false asked done faultless e f = cc faultless

pub read_sound : (c d a i u : Option Value) (r : Bool) (key : Key) (assert : Assert) (change : Change) → key_of c d ≡ Ok key → fault_of_parts a i u r ≡ None → change_of key.d i u r ≡ Ok change → assert_of a ≡ Ok assert → InsertsBody change → IsSoundOp (record { key = key; assert = assert; change = change })
read_sound c d a i u r key assert change named faultless changed asked inserted =
    let shallow = neither (is_too_deep a) (is_too_deep i) (is_too_deep u) (tested _ _ _ _ faultless).2 in
    let keyed = named_sound c d key named in
    record {
      collection = keyed.0;
      id = keyed.1;
      assert = assert_sound a assert asked shallow.0;
      change = change_sound key.d i u r change changed shallow.1 inserted;
      together = parts_together key.d a i u r assert change faultless changed asked;
    }
