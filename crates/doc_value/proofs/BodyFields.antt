-- What the fields of a body keep when those called `_id` are left out.
use Rattle.std.proofs.Common.{◌≡◌, ℕ, max, ◌≤◌, List, [], ◌∷◌, Bool, true, false, not, ◌&&◌, ◌||◌, cond, Option, Some, None, Ordering, Less, Equal, Greater, nat_cmp, map, refl, ap, arith}
use Rattle.std.specs.Option.{option_or}
use Rattle.std.specs.Ordering.{is_lt}
use Rattle.std.specs.Cmp.Lexicographic.{slice_cmp}
use Rattle.std.proofs.lemmas.Bool.{and_parts, and_from, or_parts, or_from}
use Rattle.std.proofs.lemmas.Cmp.{nat_list_cmp_total}
use Rattle.doc_value.specs.declared.doc_id.DocId.{DocId}
use Rattle.doc_value.specs.declared.value.Named.{Named}
use Rattle.doc_value.specs.declared.value.Value.{Value}
use Rattle.doc_value.specs.Fields.{judged}
use Rattle.doc_value.specs.Bodies.{refused_at_top, first_refused, without_id}
use Rattle.doc_value.specs.JsonFaults.{is_bad_name}
use Rattle.doc_value.specs.Names.{is_id_name}
use Rattle.doc_value.specs.Depth.{nesting, deepest_field}
use Rattle.doc_value.specs.Order.{precedes, is_ordered, fields_ordered}
use Rattle.doc_value.specs.Readable.{holds_bad_name, some_field_bad}
use Rattle.doc_value.specs.Sound.{is_sound, fields_sound}
use Rattle.std.specs.Str.{is_utf8}

-- ---- once left out, nothing more is

choose_again : (b : Bool) (field : Named Value) (fields : List (Named Value)) → not (is_id_name field.name) ≡ b → without_id fields ≡ fields
    → without_id (cond b (field ∷ fields) fields) ≡ cond b (field ∷ fields) fields
choose_again true field fields is rest = rw is (ap (λ fs. field ∷ fs) rest)
choose_again false field fields is rest = rest

pub without_id-again : (fields : List (Named Value)) → without_id (without_id fields) ≡ without_id fields
without_id-again [] = refl
without_id-again (field ∷ fields) = choose_again (not (is_id_name field.name)) field (without_id fields) refl (without_id-again fields)

-- ---- no name is refused under another id

none_of : (first rest : Option (List ℕ)) → option_or first rest ≡ None → (first ≡ None) × (rest ≡ None)
none_of None rest h = (refl, h)
none_of (Some name) rest h = absurd (cc)

choose_fine : (b : Bool) (other id : DocId) (field : Named Value) (fields : List (Named Value)) → is_id_name field.name ≡ b → refused_at_top id field ≡ None → first_refused other fields ≡ None
    → first_refused other (cond (not b) (field ∷ fields) fields) ≡ None
choose_fine true other id field fields is own rest = rest
choose_fine false other id field fields is own rest = rw is (rw (rw is at own) rest)

pub first_refused-without_id : (other id : DocId) (fields : List (Named Value)) → first_refused id fields ≡ None → first_refused other (without_id fields) ≡ None
first_refused-without_id other id [] h = refl
first_refused-without_id other id (field ∷ fields) h =
    let fine = none_of (refused_at_top id field) _ h in
    choose_fine (is_id_name field.name) other id field (without_id fields) refl fine.0 (first_refused-without_id other id fields fine.1)

-- ---- nesting, names, order and soundness stay

choose_nesting : (b : Bool) (field : Named Value) (kept : List (Named Value)) (n : ℕ) → deepest_field (map (judged nesting) kept) ≤ n
    → deepest_field (map (judged nesting) (cond b (field ∷ kept) kept)) ≤ max (nesting field.value) n
choose_nesting true field kept n h = omega arith
choose_nesting false field kept n h = omega arith

pub nesting-without_id : (fields : List (Named Value)) → deepest_field (map (judged nesting) (without_id fields)) ≤ deepest_field (map (judged nesting) fields)
nesting-without_id [] = omega arith
nesting-without_id (field ∷ fields) = choose_nesting (not (is_id_name field.name)) field (without_id fields) _ (nesting-without_id fields)

choose_names : (b : Bool) (field : Named Value) (kept : List (Named Value)) → (is_bad_name field.name || holds_bad_name field.value) ≡ false → some_field_bad (map (judged holds_bad_name) kept) ≡ false
    → some_field_bad (map (judged holds_bad_name) (cond b (field ∷ kept) kept)) ≡ false
choose_names true field kept own rest = or_from _ _ own rest
choose_names false field kept own rest = rest

pub names-without_id : (fields : List (Named Value)) → some_field_bad (map (judged holds_bad_name) fields) ≡ false → some_field_bad (map (judged holds_bad_name) (without_id fields)) ≡ false
names-without_id [] h = refl
names-without_id (field ∷ fields) h =
    let p = or_parts (is_bad_name field.name || holds_bad_name field.value) _ h in
    choose_names (not (is_id_name field.name)) field (without_id fields) p.0 (names-without_id fields p.1)

choose_sound : (b : Bool) (field : Named Value) (kept : List (Named Value)) → is_utf8 field.name ≡ true → is_sound field.value ≡ true → fields_sound (map (judged is_sound) kept) ≡ true
    → fields_sound (map (judged is_sound) (cond b (field ∷ kept) kept)) ≡ true
choose_sound true field kept name own rest = and_from _ _ name (and_from _ _ own rest)
choose_sound false field kept name own rest = rest

pub sound-without_id : (fields : List (Named Value)) → fields_sound (map (judged is_sound) fields) ≡ true → fields_sound (map (judged is_sound) (without_id fields)) ≡ true
sound-without_id [] h = refl
sound-without_id (field ∷ fields) h =
    let p = and_parts _ _ h in
    let q = and_parts _ _ p.1 in
    choose_sound (not (is_id_name field.name)) field (without_id fields) p.0 q.0 (sound-without_id fields q.1)

less_is : (o : Ordering) → is_lt o ≡ true → o ≡ Less
less_is Less h = refl
less_is Equal h = cc
less_is Greater h = cc

-- the name is below that of each field
abbrev below_all : List ℕ → List (Named Value) → Bool
below_all name [] = true
below_all name (field ∷ fields) = is_lt (slice_cmp nat_cmp name field.name) && below_all name fields

below_all-below : (low name : List ℕ) (fields : List (Named Value)) → slice_cmp nat_cmp low name ≡ Less → below_all name fields ≡ true → below_all low fields ≡ true
below_all-below low name [] less h = refl
below_all-below low name (field ∷ fields) less h =
    let p = and_parts _ _ h in
    and_from _ _ (ap is_lt (nat_list_cmp_total.trans low name field.name less (less_is _ p.0))) (below_all-below low name fields less p.1)

below_all-precedes : (name : List ℕ) (fields : List (Named Value)) → precedes name (map (judged is_ordered) fields) ≡ true → fields_ordered (map (judged is_ordered) fields) ≡ true → below_all name fields ≡ true
below_all-precedes name [] first order = refl
below_all-precedes name (field ∷ fields) first order =
    let p = and_parts _ _ order in
    let q = and_parts _ _ p.1 in
    let next = below_all-precedes field.name fields p.0 q.1 in
    and_from _ _ first (below_all-below name field.name fields (less_is _ first) next)

choose_below : (b : Bool) (name : List ℕ) (field : Named Value) (kept : List (Named Value)) → is_lt (slice_cmp nat_cmp name field.name) ≡ true → below_all name kept ≡ true → below_all name (cond b (field ∷ kept) kept) ≡ true
choose_below true name field kept own rest = and_from _ _ own rest
choose_below false name field kept own rest = rest

below_all-without_id : (name : List ℕ) (fields : List (Named Value)) → below_all name fields ≡ true → below_all name (without_id fields) ≡ true
below_all-without_id name [] h = refl
below_all-without_id name (field ∷ fields) h =
    let p = and_parts _ _ h in choose_below (not (is_id_name field.name)) name field (without_id fields) p.0 (below_all-without_id name fields p.1)

precedes-below_all : (name : List ℕ) (fields : List (Named Value)) → below_all name fields ≡ true → precedes name (map (judged is_ordered) fields) ≡ true
precedes-below_all name [] h = refl
precedes-below_all name (field ∷ fields) h = (and_parts _ _ h).0

choose_order : (b : Bool) (field : Named Value) (kept : List (Named Value)) → below_all field.name kept ≡ true → is_ordered field.value ≡ true → fields_ordered (map (judged is_ordered) kept) ≡ true
    → fields_ordered (map (judged is_ordered) (cond b (field ∷ kept) kept)) ≡ true
choose_order true field kept below own rest = and_from _ _ (precedes-below_all field.name kept below) (and_from _ _ own rest)
choose_order false field kept below own rest = rest

pub order-without_id : (fields : List (Named Value)) → fields_ordered (map (judged is_ordered) fields) ≡ true → fields_ordered (map (judged is_ordered) (without_id fields)) ≡ true
order-without_id [] h = refl
order-without_id (field ∷ fields) h =
    let p = and_parts _ _ h in
    let q = and_parts _ _ p.1 in
    let below = below_all-without_id field.name fields (below_all-precedes field.name fields p.0 q.1) in
    choose_order (not (is_id_name field.name)) field (without_id fields) below q.0 (order-without_id fields q.1)
