-- Two changes among an object's fields: of one name the later counts, of two names the order makes no difference.
use Rattle.std.proofs.Common.{◌≡◌, ℕ, Bool, true, false, ◌&&◌, List, [], ◌∷◌, ◌++◌, Option, if◌then◌else◌, refl, sym, ap, ap₂, ◌∙◌, append_assoc}
use Rattle.std.specs.Str.{bytes_eq}
use Rattle.doc_value.specs.declared.value.Named.{Named}
use Rattle.doc_value.specs.declared.value.Value.{Value}
use Rattle.doc_update.specs.Places.{with_field, field_or_none}
use Rattle.doc_value.proofs.NameOrder.{before, past, past-before, before-trans, before-itself, past-itself, before-not-past, past-not-before, by_order}
use Rattle.doc_update.proofs.FieldLaws.{kept, kept-append, kept-kept, kept-same, kept-none, kept-one}

-- ---- tests of names, joined

twice : (b : Bool) → (b && b) ≡ b
twice true = refl
twice false = refl

turned : (b c : Bool) → (b && c) ≡ (c && b)
turned true true = refl
turned true false = refl
turned false true = refl
turned false false = refl

-- where the first implies the second
implied : (b c : Bool) → (b ≡ true → c ≡ true) → (b && c) ≡ b
implied true c h = h refl
implied false c h = refl

-- where the first excludes the second
excluded : (b c : Bool) → (b ≡ true → c ≡ false) → (b && c) ≡ false
excluded true c h = h refl
excluded false c h = refl

after_trans : (n p q : List ℕ) → before p q ≡ true → past n q ≡ true → past n p ≡ true
after_trans n p q order h = past-before n p ∙ before-trans p q n order (sym (past-before n q) ∙ h)

-- ---- what passes a test, after a change

kept-with : (test : List ℕ → Bool) (name : List ℕ) (after : Option Value) (fields : List (Named Value))
    → kept test (with_field name after fields)
    ≡ (kept (λ n. before n name && test n) fields ++ (if test name then field_or_none name after else [])) ++ kept (λ n. past n name && test n) fields
kept-with test name after fields =
    kept-append test (kept (λ n. before n name) fields ++ field_or_none name after) (kept (λ n. past n name) fields)
    ∙ ap₂ (λ (xs ys : List (Named Value)). xs ++ ys)
    (kept-append test (kept (λ n. before n name) fields) (field_or_none name after) ∙ ap₂ (λ (xs ys : List (Named Value)). xs ++ ys) (kept-kept test (λ n. before n name) fields) (kept-one test name after))
    (kept-kept test (λ n. past n name) fields)

nothing_more : {A : Type 0} (xs : List A) → (xs ++ []) ++ [] ≡ xs
nothing_more [] = refl
nothing_more (x ∷ xs) = ap (λ ys. x ∷ ys) (nothing_more xs)

below-own : (name : List ℕ) (after : Option Value) (fields : List (Named Value)) → kept (λ n. before n name) (with_field name after fields) ≡ kept (λ n. before n name) fields
below-own name after fields =
    kept-with (λ n. before n name) name after fields
    ∙ simp (before-itself name, kept-same (λ n. before n name && before n name) (λ n. before n name) (λ n. twice (before n name)) fields, kept-none (λ n. past n name && before n name) (λ n. excluded _ _ (past-not-before n name)) fields)
    (nothing_more (kept (λ n. before n name) fields))

above-own : (name : List ℕ) (after : Option Value) (fields : List (Named Value)) → kept (λ n. past n name) (with_field name after fields) ≡ kept (λ n. past n name) fields
above-own name after fields =
    kept-with (λ n. past n name) name after fields
    ∙ simp (past-itself name, kept-same (λ n. past n name && past n name) (λ n. past n name) (λ n. twice (past n name)) fields, kept-none (λ n. before n name && past n name) (λ n. excluded _ _ (before-not-past n name)) fields)

pub with-again : (name : List ℕ) (after later : Option Value) (fields : List (Named Value)) → with_field name later (with_field name after fields) ≡ with_field name later fields
with-again name after later fields =
    ap₂ (λ (below above : List (Named Value)). (below ++ field_or_none name later) ++ above) (below-own name after fields) (above-own name after fields)

-- the fields between two names
abbrev between : List ℕ → List ℕ → List (Named Value) → List (Named Value)
between p q fields = kept (λ n. past n p && before n q) fields

regrouped : {A : Type 0} (a b c d : List A) → ((a ++ b) ++ c) ++ d ≡ a ++ ((b ++ c) ++ d)
regrouped a b c d = simp append_assoc

-- ---- in this order of the names p and q

below_higher : (p q : List ℕ) (r : Option Value) (fields : List (Named Value)) → before p q ≡ true
    → kept (λ n. before n q) (with_field p r fields) ≡ (kept (λ n. before n p) fields ++ field_or_none p r) ++ between p q fields
below_higher p q r fields order =
    kept-with (λ n. before n q) p r fields
    ∙ simp (order, kept-same (λ n. before n p && before n q) (λ n. before n p) (λ n. implied (before n p) (before n q) (λ h. before-trans n p q h order)) fields)

above_higher : (p q : List ℕ) (r : Option Value) (fields : List (Named Value)) → before p q ≡ true
    → kept (λ n. past n q) (with_field p r fields) ≡ kept (λ n. past n q) fields
above_higher p q r fields order =
    kept-with (λ n. past n q) p r fields
    ∙ simp (before-not-past p q order, kept-none (λ n. before n p && past n q) (λ n. excluded (before n p) (past n q) (λ h. before-not-past n q (before-trans n p q h order))) fields)
    (kept-same (λ n. past n p && past n q) (λ n. past n q) (λ n. turned (past n p) (past n q) ∙ implied (past n q) (past n p) (λ h. after_trans n p q order h)) fields)

below_lower : (p q : List ℕ) (s : Option Value) (fields : List (Named Value)) → before p q ≡ true
    → kept (λ n. before n p) (with_field q s fields) ≡ kept (λ n. before n p) fields
below_lower p q s fields order =
    let later : past q p ≡ true = past-before q p ∙ order in
    kept-with (λ n. before n p) q s fields
    ∙ simp (past-not-before q p later, kept-same (λ n. before n q && before n p) (λ n. before n p) (λ n. turned (before n q) (before n p) ∙ implied (before n p) (before n q) (λ h. before-trans n p q h order)) fields, kept-none (λ n. past n q && before n p) (λ n. excluded (past n q) (before n p) (λ h. past-not-before n p (after_trans n p q order h))) fields)
    (nothing_more (kept (λ n. before n p) fields))

above_lower : (p q : List ℕ) (s : Option Value) (fields : List (Named Value)) → before p q ≡ true
    → kept (λ n. past n p) (with_field q s fields) ≡ (between p q fields ++ field_or_none q s) ++ kept (λ n. past n q) fields
above_lower p q s fields order =
    let later : past q p ≡ true = past-before q p ∙ order in
    kept-with (λ n. past n p) q s fields
    ∙ simp (later, kept-same (λ n. before n q && past n p) (λ n. past n p && before n q) (λ n. turned (before n q) (past n p)) fields, kept-same (λ n. past n q && past n p) (λ n. past n q) (λ n. implied (past n q) (past n p) (λ h. after_trans n p q order h)) fields)

in_turn : (p q : List ℕ) (r s : Option Value) (fields : List (Named Value)) → before p q ≡ true → with_field q s (with_field p r fields) ≡ with_field p r (with_field q s fields)
in_turn p q r s fields order =
    let low = kept (λ n. before n p) fields ++ field_or_none p r in
    let high = kept (λ n. past n q) fields in
    let mid = between p q fields in
    ap₂ (λ (below above : List (Named Value)). (below ++ field_or_none q s) ++ above) (below_higher p q r fields order) (above_higher p q r fields order)
    ∙ regrouped low mid (field_or_none q s) high
    ∙ sym (ap₂ (λ (below above : List (Named Value)). (below ++ field_or_none p r) ++ above) (below_lower p q s fields order) (above_lower p q s fields order))

-- the order of changes under two names makes no difference
pub with-commute : (p q : List ℕ) (r s : Option Value) (fields : List (Named Value)) → bytes_eq p q ≡ false → with_field q s (with_field p r fields) ≡ with_field p r (with_field q s fields)
with-commute p q r s fields apart =
    by_order p q apart (λ less. in_turn p q r s fields less) (λ more. sym (in_turn q p s r fields (sym (past-before p q) ∙ more)))
