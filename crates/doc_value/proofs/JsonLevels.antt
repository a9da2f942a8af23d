-- What a value of JSON says of the value that it stands for: nesting, refused names, order.
use Rattle.std.proofs.Common.{◌≡◌, ℕ, suc, max, List, Bool, true, ◌||◌, map, Ordering, Less, Equal, Greater, nat_cmp, refl, sym, ap, ap₂, ◌∙◌, rules}
use Rattle.std.specs.Ordering.{is_lt}
use Rattle.std.specs.Cmp.Lexicographic.{slice_cmp}
use Rattle.std.proofs.lemmas.Bool.{and_from, and_parts}
use Rattle.serde_json.specs.Data.{Data, null, boolean, number, string, array, object, Items, no_items, item, Members, no_members, member, depth, items_depth, members_depth}
use Rattle.doc_value.specs.declared.value.Value.{the_lemmas}
use Rattle.doc_value.specs.Fields.{judged}
use Rattle.doc_value.specs.JsonFaults.{is_bad_name, has_bad_name, some_item_has_bad_name, some_member_has_bad_name}
use Rattle.doc_value.specs.JsonValue.{value_of, values_of, fields_of}
use Rattle.doc_value.specs.Depth.{nesting, deepest, deepest_field}
use Rattle.doc_value.specs.Order.{precedes, is_ordered, all_ordered, fields_ordered}
use Rattle.doc_value.specs.Readable.{holds_bad_name, some_bad, some_field_bad}
use Rattle.doc_value.proofs.Levels.{nesting-List, nesting-Object, names-List, names-Object, ordered-List, ordered-Object}
use Rattle.doc_value.proofs.JsonOrder.{InOrder, ItemsInOrder, MembersInOrder, IsBelow}

-- ---- nesting

mutual
  pub nesting-value_of : (d : Data) → nesting (value_of d) ≡ depth d
  nesting-value_of null = search (rules, the_lemmas)
  nesting-value_of (boolean b) = search (rules, the_lemmas)
  nesting-value_of (number n) = search (rules, the_lemmas)
  nesting-value_of (string s) = search (rules, the_lemmas)
  nesting-value_of (array ds) = nesting-List (values_of ds) ∙ ap suc (deepest-values_of ds)
  nesting-value_of (object ms) = nesting-Object (fields_of ms) ∙ ap suc (deepest-fields_of ms)

  deepest-values_of : (ds : Items) → deepest (map nesting (values_of ds)) ≡ items_depth ds
  deepest-values_of no_items = refl
  deepest-values_of (item d ds) = ap₂ max (nesting-value_of d) (deepest-values_of ds)

  deepest-fields_of : (ms : Members) → deepest_field (map (judged nesting) (fields_of ms)) ≡ members_depth ms
  deepest-fields_of no_members = refl
  deepest-fields_of (member k d ms) = ap₂ max (nesting-value_of d) (deepest-fields_of ms)

-- ---- refused names

mutual
  pub bad-value_of : (d : Data) → holds_bad_name (value_of d) ≡ has_bad_name d
  bad-value_of null = search (rules, the_lemmas)
  bad-value_of (boolean b) = search (rules, the_lemmas)
  bad-value_of (number n) = search (rules, the_lemmas)
  bad-value_of (string s) = search (rules, the_lemmas)
  bad-value_of (array ds) = names-List (values_of ds) ∙ bad-values_of ds
  bad-value_of (object ms) = names-Object (fields_of ms) ∙ bad-fields_of ms

  bad-values_of : (ds : Items) → some_bad (map holds_bad_name (values_of ds)) ≡ some_item_has_bad_name ds
  bad-values_of no_items = refl
  bad-values_of (item d ds) = ap₂ (λ (a b : Bool). a || b) (bad-value_of d) (bad-values_of ds)

  bad-fields_of : (ms : Members) → some_field_bad (map (judged holds_bad_name) (fields_of ms)) ≡ some_member_has_bad_name ms
  bad-fields_of no_members = refl
  bad-fields_of (member k d ms) = ap₂ (λ (a b : Bool). is_bad_name k || a || b) (bad-value_of d) (bad-fields_of ms)

-- ---- order

precedes-fields_of : (k : List ℕ) (ms : Members) → IsBelow k ms → precedes k (map (judged is_ordered) (fields_of ms)) ≡ true
precedes-fields_of k no_members h = refl
precedes-fields_of k (member l d ms) h = ap is_lt h

mutual
  pub ordered-value_of : (d : Data) → InOrder d → is_ordered (value_of d) ≡ true
  ordered-value_of null h = search (rules, the_lemmas)
  ordered-value_of (boolean b) h = search (rules, the_lemmas)
  ordered-value_of (number n) h = search (rules, the_lemmas)
  ordered-value_of (string s) h = search (rules, the_lemmas)
  ordered-value_of (array ds) h = ordered-List (values_of ds) ∙ ordered-values_of ds h
  ordered-value_of (object ms) h = ordered-Object (fields_of ms) ∙ ordered-fields_of ms h

  ordered-values_of : (ds : Items) → ItemsInOrder ds → all_ordered (map is_ordered (values_of ds)) ≡ true
  ordered-values_of no_items h = refl
  ordered-values_of (item d ds) h = and_from _ _ (ordered-value_of d h.0) (ordered-values_of ds h.1)

  ordered-fields_of : (ms : Members) → MembersInOrder ms → fields_ordered (map (judged is_ordered) (fields_of ms)) ≡ true
  ordered-fields_of no_members h = refl
  ordered-fields_of (member k d ms) h = and_from _ _ (precedes-fields_of k ms h.0) (and_from _ _ (ordered-value_of d h.1) (ordered-fields_of ms h.2))

-- ---- and back: what stands for an ordered value is in order

less_is : (o : Ordering) → is_lt o ≡ true → o ≡ Less
less_is Less h = refl
less_is Equal h = cc
less_is Greater h = cc

IsBelow-precedes : (k : List ℕ) (ms : Members) → precedes k (map (judged is_ordered) (fields_of ms)) ≡ true → IsBelow k ms
IsBelow-precedes k no_members h = tt
IsBelow-precedes k (member l d ms) h = less_is (slice_cmp nat_cmp k l) h

mutual
  pub InOrder-is_ordered : (d : Data) → is_ordered (value_of d) ≡ true → InOrder d
  InOrder-is_ordered null h = tt
  InOrder-is_ordered (boolean b) h = tt
  InOrder-is_ordered (number n) h = tt
  InOrder-is_ordered (string s) h = tt
  InOrder-is_ordered (array ds) h = ItemsInOrder-all_ordered ds (sym (ordered-List (values_of ds)) ∙ h)
  InOrder-is_ordered (object ms) h = MembersInOrder-fields_ordered ms (sym (ordered-Object (fields_of ms)) ∙ h)

  ItemsInOrder-all_ordered : (ds : Items) → all_ordered (map is_ordered (values_of ds)) ≡ true → ItemsInOrder ds
  ItemsInOrder-all_ordered no_items h = tt
  ItemsInOrder-all_ordered (item d ds) h = let p = and_parts _ _ h in (InOrder-is_ordered d p.0, ItemsInOrder-all_ordered ds p.1)

  MembersInOrder-fields_ordered : (ms : Members) → fields_ordered (map (judged is_ordered) (fields_of ms)) ≡ true → MembersInOrder ms
  MembersInOrder-fields_ordered no_members h = tt
  MembersInOrder-fields_ordered (member k d ms) h =
      let p = and_parts _ _ h in
      let q = and_parts _ _ p.1 in
      (IsBelow-precedes k ms p.0, InOrder-is_ordered d q.0, MembersInOrder-fields_ordered ms q.1)
