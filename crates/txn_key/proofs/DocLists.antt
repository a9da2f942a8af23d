-- Lists of documents in key order, and the maps that they stand for.
use Rattle.std.proofs.Common.{◌≡◌, true, List, [], ◌∷◌, ◌++◌, Result, Ok, Err, OnOk, OnErr, sym, ap, ◌∙◌, subst}
use Rattle.std.specs.FinMap.{insert, from_sorted, is_sorted}
use Rattle.std.proofs.lemmas.List.{map-append}
use Rattle.doc_value.specs.declared.value.Value.{Value}
use Rattle.txn_key.proofs.KeyOrder.{key_cmp_total}
use Rattle.txn_key.proofs.SortedEntries.{AllBefore, AllBefore-from_keys, is_sorted-push, from_sorted-push, entries_of_sorted}
use Rattle.txn_key.specs.Documents.{Docs, pairs_of, IsPast}
use Rattle.txn_key.specs.Keys.{key_cmp}
use Rattle.txn_key.specs.declared.docs.Doc.{Doc}
use Rattle.txn_key.specs.declared.key.Key.{Key}

abbrev pub map_of : List Doc → Docs
map_of docs = from_sorted (pairs_of docs)

pairs_of-push : (docs : List Doc) (doc : Doc) → pairs_of (docs ++ doc ∷ []) ≡ pairs_of docs ++ (doc.key, doc.body) ∷ []
pairs_of-push docs doc = map-append _ docs (doc ∷ [])

before_of_past : (docs : List Doc) (key : Key) → is_sorted key_cmp (pairs_of docs) ≡ true → IsPast key (map_of docs) → AllBefore key_cmp_total (pairs_of docs) key
before_of_past docs key s past =
    subst (λ (es : List (Key × Value)). AllBefore key_cmp_total es key) (entries_of_sorted key_cmp (pairs_of docs) s) (AllBefore-from_keys key_cmp_total (map_of docs) key past)

sorted_with : (docs new : List Doc) (doc : Doc) → new ≡ docs ++ doc ∷ [] → is_sorted key_cmp (pairs_of docs) ≡ true → IsPast doc.key (map_of docs)
    → is_sorted key_cmp (pairs_of new) ≡ true
sorted_with docs new doc e s past =
    ap (is_sorted key_cmp) (ap pairs_of e ∙ pairs_of-push docs doc) ∙ is_sorted-push key_cmp_total (pairs_of docs) doc.key doc.body s (before_of_past docs doc.key s past)

-- after a push that may fail the keys still rise
pub sorted_after : {E : Type 0} (r : Result (Unit {0}) E) (docs new : List Doc) (doc : Doc) (m : Docs) → OnOk r (new ≡ docs ++ doc ∷ []) → OnErr r (new ≡ docs)
    → is_sorted key_cmp (pairs_of docs) ≡ true → map_of docs ≡ m → IsPast doc.key m → is_sorted key_cmp (pairs_of new) ≡ true
sorted_after (Ok u) docs new doc m ok err s view past = sorted_with docs new doc ok s (subst (IsPast doc.key) (sym view) past)
sorted_after (Err f) docs new doc m ok err s view past = ap (λ (list : List Doc). is_sorted key_cmp (pairs_of list)) err ∙ s

map_with : (docs new : List Doc) (doc : Doc) → new ≡ docs ++ doc ∷ [] → is_sorted key_cmp (pairs_of docs) ≡ true → IsPast doc.key (map_of docs)
    → map_of new ≡ insert (map_of docs) doc.key doc.body
map_with docs new doc e s past =
    ap (from_sorted {R = key_cmp}) (ap pairs_of e ∙ pairs_of-push docs doc) ∙ from_sorted-push key_cmp_total (pairs_of docs) doc.key doc.body s (before_of_past docs doc.key s past)

-- a push that is made inserts the document
pub map_after : {E : Type 0} (r : Result (Unit {0}) E) (docs new : List Doc) (doc : Doc) (m : Docs) → OnOk r (new ≡ docs ++ doc ∷ [])
    → is_sorted key_cmp (pairs_of docs) ≡ true → map_of docs ≡ m → IsPast doc.key m → OnOk r (map_of new ≡ insert m doc.key doc.body)
map_after (Ok u) docs new doc m ok s view past =
    map_with docs new doc ok s (subst (IsPast doc.key) (sym view) past) ∙ ap (λ (d : Docs). insert d doc.key doc.body) view
map_after (Err f) docs new doc m ok s view past = ok
