-- The fields of an object with one of them as it is afterwards: what is found among them, and that the order of two such changes makes no difference.
use Rattle.std.proofs.Common.{◌≡◌, ℕ, Bool, true, false, ◌&&◌, List, [], ◌∷◌, ◌++◌, Option, Some, None, if◌then◌else◌, refl, sym, ap, ap₂, ◌∙◌}
use Rattle.std.specs.Prelude.{filter}
use Rattle.std.specs.Option.{option_or}
use Rattle.std.specs.Str.{bytes_eq}
use Rattle.std.proofs.lemmas.Slice.Eq.{bytes_eq-Decides}
use Rattle.doc_value.specs.declared.value.Named.{Named}
use Rattle.doc_value.specs.declared.value.Value.{Value}
use Rattle.doc_value.specs.Paths.{field_named}
use Rattle.doc_update.specs.Places.{with_field, field_or_none}
use Rattle.doc_value.proofs.NameOrder.{before, past, before-itself, past-itself, before-not-past, past-not-before, by_order, bytes_eq-itself, bytes_eq-turned}
use Rattle.doc_value.proofs.OrderedNames.{named-append}

-- the fields whose names pass
abbrev pub kept : (List ℕ → Bool) → List (Named Value) → List (Named Value)
kept test fields = filter (λ field. test field.name) fields

pub kept-append : (test : List ℕ → Bool) (xs ys : List (Named Value)) → kept test (xs ++ ys) ≡ kept test xs ++ kept test ys
kept-append test [] ys = refl
kept-append test (x ∷ xs) ys = by (test x.name) refl (kept-append test xs ys)
  where
    by : (b : Bool) → test x.name ≡ b → kept test (xs ++ ys) ≡ kept test xs ++ kept test ys → kept test ((x ∷ xs) ++ ys) ≡ kept test (x ∷ xs) ++ kept test ys
    by true e rest = simp e (ap (λ (zs : List (Named Value)). x ∷ zs) rest)
    by false e rest = simp e rest

pub kept-kept : (test other : List ℕ → Bool) (xs : List (Named Value)) → kept test (kept other xs) ≡ kept (λ name. other name && test name) xs
kept-kept test other [] = refl
kept-kept test other (x ∷ xs) = by (other x.name) (test x.name) refl refl (kept-kept test other xs)
  where
    by : (b c : Bool) → other x.name ≡ b → test x.name ≡ c → kept test (kept other xs) ≡ kept (λ name. other name && test name) xs → kept test (kept other (x ∷ xs)) ≡ kept (λ name. other name && test name) (x ∷ xs)
    by true true e f rest = simp (e, f) (ap (λ (zs : List (Named Value)). x ∷ zs) rest)
    by true false e f rest = simp (e, f) rest
    by false c e f rest = simp e rest

pub kept-same : (test other : List ℕ → Bool) → ((name : List ℕ) → test name ≡ other name) → (xs : List (Named Value)) → kept test xs ≡ kept other xs
kept-same test other same [] = refl
kept-same test other same (x ∷ xs) = ap₂ (λ (b : Bool) (zs : List (Named Value)). if b then x ∷ zs else zs) (same x.name) (kept-same test other same xs)

pub kept-none : (test : List ℕ → Bool) → ((name : List ℕ) → test name ≡ false) → (xs : List (Named Value)) → kept test xs ≡ []
kept-none test none [] = refl
kept-none test none (x ∷ xs) = simp (none x.name) (kept-none test none xs)

either : {A : Type 0} (b : Bool) (a : A) → (if b then a else a) ≡ a
either true a = refl
either false a = refl

pub kept-one : (test : List ℕ → Bool) (name : List ℕ) (after : Option Value) → kept test (field_or_none name after) ≡ if test name then field_or_none name after else []
kept-one test name None = sym (either (test name) [])
kept-one test name (Some value) = refl

-- ---- what is found

pub named-kept : (test : List ℕ → Bool) (name : List ℕ) (xs : List (Named Value)) → field_named name (kept test xs) ≡ if test name then field_named name xs else None
named-kept test name [] = sym (either (test name) None)
named-kept test name (x ∷ xs) = by (bytes_eq x.name name) refl (test x.name) refl (named-kept test name xs)
  where
    by : (b : Bool) → bytes_eq x.name name ≡ b → (c : Bool) → test x.name ≡ c → field_named name (kept test xs) ≡ (if test name then field_named name xs else None)
        → field_named name (kept test (x ∷ xs)) ≡ if test name then field_named name (x ∷ xs) else None
    by true e true f rest = let same : test name ≡ true = sym (ap test ((bytes_eq-Decides x.name name).0 e)) ∙ f in simp (e, f, same)
    by true e false f rest = let same : test name ≡ false = sym (ap test ((bytes_eq-Decides x.name name).0 e)) ∙ f in simp (f, same) (rest ∙ simp same)
    by false e true f rest = simp (e, f) rest
    by false e false f rest = simp (e, f) rest

named-one : (name : List ℕ) (after : Option Value) → field_named name (field_or_none name after) ≡ after
named-one name None = refl
named-one name (Some value) = simp (bytes_eq-itself name)

named-other : (name other : List ℕ) (after : Option Value) → bytes_eq other name ≡ false → field_named name (field_or_none other after) ≡ None
named-other name other None apart = refl
named-other name other (Some value) apart = simp apart

or_none : {A : Type 0} (o : Option A) → option_or o None ≡ o
or_none None = refl
or_none (Some a) = refl

named-parts : (name other : List ℕ) (after : Option Value) (fields : List (Named Value))
    → field_named name (with_field other after fields)
    ≡ option_or (option_or (if before name other then field_named name fields else None) (field_named name (field_or_none other after))) (if past name other then field_named name fields else None)
named-parts name other after fields =
    named-append name (kept (λ n. before n other) fields ++ field_or_none other after) (kept (λ n. past n other) fields)
    ∙ ap₂ option_or (named-append name (kept (λ n. before n other) fields) (field_or_none other after) ∙ ap (λ o. option_or o (field_named name (field_or_none other after))) (named-kept (λ n. before n other) name fields)) (named-kept (λ n. past n other) name fields)

-- what was put is found
pub named-own : (name : List ℕ) (after : Option Value) (fields : List (Named Value)) → field_named name (with_field name after fields) ≡ after
named-own name after fields = named-parts name name after fields ∙ simp (before-itself name, past-itself name, named-one name after) (or_none after)

-- all else is found as before
pub named-others : (name other : List ℕ) (after : Option Value) (fields : List (Named Value)) → bytes_eq other name ≡ false → field_named name (with_field other after fields) ≡ field_named name fields
named-others name other after fields apart =
    named-parts name other after fields ∙ by_order name other (bytes_eq-turned name other ∙ apart)
    (λ less. simp (less, before-not-past name other less, named-other name other after apart) (or_none (option_or (field_named name fields) None) ∙ or_none (field_named name fields)))
    (λ more. simp (more, past-not-before name other more, named-other name other after apart))
