-- How deep fields nest, with one of them as it is afterwards.
use Rattle.std.proofs.Common.{◌≡◌, ℕ, suc, Bool, true, false, ◌||◌, List, [], ◌∷◌, ◌++◌, max, map, nat_lt, Option, Some, None, if◌then◌else◌, refl, sym, ap, ap₂, ◌∙◌, arith, rules}
use Rattle.std.specs.Str.{bytes_eq}
use Rattle.std.proofs.Math.Bool.{or_assoc, or-false}
use Rattle.std.proofs.lemmas.Bool.{true≢false, or_parts}
use Rattle.std.proofs.lemmas.Bool.Decides.{nat_tests}
use Rattle.doc_value.specs.declared.value.Named.{Named}
use Rattle.doc_value.specs.declared.value.Value.{Value, Object, the_lemmas}
use Rattle.doc_value.specs.Fields.{judged}
use Rattle.doc_value.specs.Depth.{nesting, deepest_field}
use Rattle.doc_value.specs.Paths.{field_named}
use Rattle.doc_update.specs.Places.{with_field, field_or_none}
use Rattle.doc_update.proofs.FieldLaws.{kept}
use Rattle.doc_value.proofs.NameOrder.{before, past}

abbrev pub too_deep : ℕ → Option Value → Bool
too_deep limit (Some value) = nat_lt limit (nesting value)
too_deep limit None = false

-- some field's value is too deep
abbrev pub deep_fields : ℕ → List (Named Value) → Bool
deep_fields limit fields = nat_lt limit (deepest_field (map (judged nesting) fields))

nesting-Object : (fields : List (Named Value)) → nesting (Object fields) ≡ suc (deepest_field (map (judged nesting) fields))
nesting-Object fields = search (rules, the_lemmas)

pub below_none : (limit : ℕ) → nat_lt limit 0 ≡ false
below_none limit = grind (arith, nat_tests)

below_max : (limit a b : ℕ) → nat_lt limit (max a b) ≡ (nat_lt limit a || nat_lt limit b)
below_max limit a b = grind (arith, nat_tests)

pub below_next : (limit depth : ℕ) → nat_lt (suc limit) (suc depth) ≡ nat_lt limit depth
below_next limit depth = grind (arith, nat_tests)

pub below_first : (depth : ℕ) → nat_lt 0 (suc depth) ≡ true
below_first depth = grind (arith, nat_tests)

pub deep-Object : (limit : ℕ) (fields : List (Named Value)) → too_deep (suc limit) (Some (Object fields)) ≡ deep_fields limit fields
deep-Object limit fields = ap (nat_lt (suc limit)) (nesting-Object fields) ∙ below_next limit (deepest_field (map (judged nesting) fields))

pub deep-Object-first : (fields : List (Named Value)) → too_deep 0 (Some (Object fields)) ≡ true
deep-Object-first fields = ap (nat_lt 0) (nesting-Object fields) ∙ below_first (deepest_field (map (judged nesting) fields))

deep-cons : (limit : ℕ) (field : Named Value) (fields : List (Named Value)) → deep_fields limit (field ∷ fields) ≡ (nat_lt limit (nesting field.value) || deep_fields limit fields)
deep-cons limit field fields = below_max limit (nesting field.value) (deepest_field (map (judged nesting) fields))

pub deep-append : (limit : ℕ) (xs ys : List (Named Value)) → deep_fields limit (xs ++ ys) ≡ (deep_fields limit xs || deep_fields limit ys)
deep-append limit [] ys = ap (λ b. b || deep_fields limit ys) (sym (below_none limit))
deep-append limit (x ∷ xs) ys =
    deep-cons limit x (xs ++ ys) ∙ ap (λ b. nat_lt limit (nesting x.value) || b) (deep-append limit xs ys) ∙ sym (or_assoc (nat_lt limit (nesting x.value)) (deep_fields limit xs) (deep_fields limit ys))
    ∙ ap (λ b. b || deep_fields limit ys) (sym (deep-cons limit x xs))

pub deep-one : (limit : ℕ) (name : List ℕ) (after : Option Value) → deep_fields limit (field_or_none name after) ≡ too_deep limit after
deep-one limit name None = below_none limit
deep-one limit name (Some value) = deep-cons limit (record { name = name; value = value }) [] ∙ ap (λ b. nat_lt limit (nesting value) || b) (below_none limit) ∙ or-false (nat_lt limit (nesting value))

pub shallow-kept : (limit : ℕ) (test : List ℕ → Bool) (xs : List (Named Value)) → deep_fields limit xs ≡ false → deep_fields limit (kept test xs) ≡ false
shallow-kept limit test [] h = h
shallow-kept limit test (x ∷ xs) h =
    let parts = or_parts (nat_lt limit (nesting x.value)) (deep_fields limit xs) (sym (deep-cons limit x xs) ∙ h) in
    by (test x.name) (parts.0) (shallow-kept limit test xs (parts.1))
  where
    by : (b : Bool) → nat_lt limit (nesting x.value) ≡ false → deep_fields limit (kept test xs) ≡ false → deep_fields limit (if b then x ∷ kept test xs else kept test xs) ≡ false
    by true here rest = deep-cons limit x (kept test xs) ∙ ap₂ (λ a b. a || b) here rest
    by false here rest = rest

-- among fields that are not too deep, the one that was put is all that counts
pub deep-with : (limit : ℕ) (name : List ℕ) (after : Option Value) (fields : List (Named Value)) → deep_fields limit fields ≡ false → deep_fields limit (with_field name after fields) ≡ too_deep limit after
deep-with limit name after fields h =
    deep-append limit (kept (λ n. before n name) fields ++ field_or_none name after) (kept (λ n. past n name) fields)
    ∙ ap₂ (λ a b. a || b) (deep-append limit (kept (λ n. before n name) fields) (field_or_none name after) ∙ ap₂ (λ a b. a || b) (shallow-kept limit (λ n. before n name) fields h) (deep-one limit name after)) (shallow-kept limit (λ n. past n name) fields h)
    ∙ or-false (too_deep limit after)

pub shallow-named : (limit : ℕ) (name : List ℕ) (fields : List (Named Value)) → deep_fields limit fields ≡ false → too_deep limit (field_named name fields) ≡ false
shallow-named limit name [] h = refl
shallow-named limit name (x ∷ xs) h =
    let parts = or_parts (nat_lt limit (nesting x.value)) (deep_fields limit xs) (sym (deep-cons limit x xs) ∙ h) in
    by (bytes_eq x.name name) (parts.0) (shallow-named limit name xs (parts.1))
  where
    by : (b : Bool) → nat_lt limit (nesting x.value) ≡ false → too_deep limit (field_named name xs) ≡ false → too_deep limit (if b then Some x.value else field_named name xs) ≡ false
    by true here rest = here
    by false here rest = rest

pub deep-named : (limit : ℕ) (name : List ℕ) (fields : List (Named Value)) → too_deep limit (field_named name fields) ≡ true → deep_fields limit fields ≡ true
deep-named limit name fields h = by (deep_fields limit fields) refl
  where
    by : (b : Bool) → deep_fields limit fields ≡ b → deep_fields limit fields ≡ true
    by true e = e
    by false e = absurd (true≢false (sym h ∙ shallow-named limit name fields e))
