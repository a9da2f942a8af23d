-- No two changes of an update conflict, and each has a path.
use Rattle.std.proofs.Common.{◌≡◌, ◌==◌, ℕ, Bool, true, false, ◌&&◌, ◌||◌, not, List, [], ◌∷◌, ◌++◌, length, nat_lt, map, Option, Some, None, is_ok, if◌then◌else◌, refl, sym, ap, ap₂, ◌∙◌, arith}
use Rattle.std.specs.List.{list_any, list_all}
use Rattle.std.specs.Option.{option_or}
use Rattle.std.proofs.lemmas.Bool.{true≢false, or_parts}
use Rattle.std.proofs.lemmas.Bool.Decides.{nat_tests}
use Rattle.std.proofs.lemmas.List.Folds.{list_any-append, list_all-append}
use Rattle.std.proofs.lemmas.List.Splits.{length-slice_split}
use Rattle.doc_value.specs.declared.value.Named.{Named}
use Rattle.doc_value.specs.declared.value.Value.{Value, out-Value}
use Rattle.doc_value.specs.declared.value.Value.TheOpen.{Value-F}
use Rattle.doc_value.specs.Paths.{parts_of}
use Rattle.doc_update.specs.Changes.{Change, change_of, changes_under, changes_in, changes_of, fields_of, fields_within}
use Rattle.doc_update.specs.Conflicts.{conflict, first_conflict, first_conflict_after, are_apart}
use Rattle.doc_update.specs.Operators.{operator_named}
use Rattle.doc_update.specs.Syntax.{is_update, unless_fault, fault_in, fault_of_shape, fault_among, fault_of_operators, conflict_fault, are_operators, is_empty, some_empty}
use Rattle.doc_update.specs.declared.fault.UpdateFault.{UpdateFault}
use Rattle.doc_update.specs.declared.operator.Operator.{Operator}
use Rattle.doc_update.proofs.Reordering.{paths_conflict-turned}
use Rattle.std.proofs.Math.Bool.{or-false}

either_test : (p q : Change → Bool) (cs : List Change) → list_any (λ c. p c || q c) cs ≡ (list_any p cs || list_any q cs)
either_test p q [] = refl
either_test p q (c ∷ cs) = ap (λ b. (p c || q c) || b) (either_test p q cs) ∙ mixed (p c) (q c) (list_any p cs) (list_any q cs)
  where
    mixed : (a b x y : Bool) → ((a || b) || (x || y)) ≡ ((a || x) || (b || y))
    mixed true b x y = refl
    mixed false true true y = refl
    mixed false true false y = refl
    mixed false false x y = refl

same_test : (p q : Change → Bool) → ((c : Change) → p c ≡ q c) → (cs : List Change) → list_any p cs ≡ list_any q cs
same_test p q same [] = refl
same_test p q same (c ∷ cs) = ap₂ (λ a b. a || b) (same c) (same_test p q same cs)

-- no change conflicts with one before it, so no two conflict
clear_after : (before changes : List Change) → first_conflict_after before changes ≡ None → (list_any (λ c. list_any (conflict c) before) changes ≡ false) × (are_apart changes ≡ true)
clear_after before [] h = (refl, refl)
clear_after before (change ∷ changes) h = by (list_any (conflict change) before) refl (λ rest. clear_after (before ++ change ∷ []) changes rest)
  where
    joined : (c : Change) → list_any (conflict c) (before ++ change ∷ []) ≡ (list_any (conflict c) before || conflict change c)
    joined c = list_any-append (conflict c) before (change ∷ []) ∙ ap (λ b. list_any (conflict c) before || b) (or-false (conflict c change) ∙ paths_conflict-turned c.path change.path)

    by : (b : Bool) → list_any (conflict change) before ≡ b
        → (first_conflict_after (before ++ change ∷ []) changes ≡ None → (list_any (λ c. list_any (conflict c) (before ++ change ∷ [])) changes ≡ false) × (are_apart changes ≡ true))
        → (list_any (λ c. list_any (conflict c) before) (change ∷ changes) ≡ false) × (are_apart (change ∷ changes) ≡ true)
    by true is more = absurd (no_path (sym (ap (λ (b : Bool). if b then Some change.name else first_conflict_after (before ++ change ∷ []) changes) is) ∙ h))
      where
        no_path : {G : Type 0} → Some change.name ≡ None → G
        no_path e = cc
    by false is more =
        let rest = more (sym (ap (λ (b : Bool). if b then Some change.name else first_conflict_after (before ++ change ∷ []) changes) is) ∙ h) in
        let split = or_parts _ _ (sym (same_test _ (λ c. list_any (conflict c) before || conflict change c) joined changes ∙ either_test (λ c. list_any (conflict c) before) (conflict change) changes) ∙ rest.0) in
        (ap₂ (λ a b. a || b) is (split.0), ap₂ (λ a b. not a && b) (split.1) (rest.1))

no_conflict : (found : Option (List ℕ)) → conflict_fault found ≡ None → found ≡ None
no_conflict None h = refl
no_conflict (Some path) h = cc

second_none : (a b : Option UpdateFault) → option_or a b ≡ None → b ≡ None
second_none None b h = h
second_none (Some fault) b h = cc

clear_among : (operators : List (Named Value)) → fault_among operators ≡ None → first_conflict (changes_in operators) ≡ None
clear_among operators h = by (is_empty operators) (some_empty operators) refl refl
  where
    by : (a b : Bool) → is_empty operators ≡ a → some_empty operators ≡ b → first_conflict (changes_in operators) ≡ None
    by true b e f = absurd (some_fault (simp e at h))
      where
        some_fault : {G : Type 0} {a : UpdateFault} → Some a ≡ None → G
        some_fault e = cc
    by false true e f = absurd (some_fault (simp (e, f) at h))
      where
        some_fault : {G : Type 0} {a : UpdateFault} → Some a ≡ None → G
        some_fault e = cc
    by false false e f = no_conflict (first_conflict (changes_in operators)) (second_none (fault_of_operators operators) _ (simp (e, f) at h))

read_fault : (value : Value) (fault : Option UpdateFault) → is_ok (unless_fault value fault) ≡ true → fault ≡ None
read_fault value None h = refl
read_fault value (Some fault) h = absurd (true≢false (sym h))

clear_shape : (operators : List (Named Value)) → fault_of_shape operators ≡ None → fault_among operators ≡ None
clear_shape operators h = by (are_operators operators) refl
  where
    by : (b : Bool) → are_operators operators ≡ b → fault_among operators ≡ None
    by true e = simp e at h
    by false e = absurd (some_fault (simp e at h))
      where
        some_fault : {G : Type 0} {a : UpdateFault} → Some a ≡ None → G
        some_fault e = cc

clear_layer : (layer : Value-F Value) → fault_in layer ≡ None → first_conflict (changes_in (fields_within layer)) ≡ None
clear_layer (Value-F.Object operators) h = clear_among operators (clear_shape operators h)
clear_layer _ h = refl

pub update_apart : (update : Value) → is_update update ≡ true → are_apart (changes_of update) ≡ true
update_apart update h = (clear_after [] (changes_of update) (clear_layer (out-Value update) (read_fault update (fault_in (out-Value update)) h))).1

-- ---- each has a path

abbrev pub has_path : Change → Bool
has_path change = nat_lt 0 (length change.path)

some_parts : (text : List ℕ) → nat_lt 0 (length (parts_of text)) ≡ true
some_parts text = ap (nat_lt 0) (length-slice_split (λ byte. byte == 46) text) ∙ grind (arith, nat_tests)

mapped_paths : (operator : Operator) (fields : List (Named Value)) → list_all has_path (map (change_of operator) fields) ≡ true
mapped_paths operator [] = refl
mapped_paths operator (field ∷ fields) = ap₂ (λ a b. a && b) (some_parts field.name) (mapped_paths operator fields)

paths_under : (operator : Option Operator) (fields : List (Named Value)) → list_all has_path (changes_under operator fields) ≡ true
paths_under None fields = refl
paths_under (Some operator) fields = mapped_paths operator fields

pub have_paths : (operators : List (Named Value)) → list_all has_path (changes_in operators) ≡ true
have_paths [] = refl
have_paths (operator ∷ operators) =
    list_all-append has_path (changes_under (operator_named operator.name) (fields_of operator.value)) (changes_in operators)
    ∙ ap₂ (λ a b. a && b) (paths_under (operator_named operator.name) (fields_of operator.value)) (have_paths operators)
