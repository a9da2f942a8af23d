-- Names in order: what is below and above a place, and what is found there.
use Rattle.std.proofs.Common.{◌≡◌, ℕ, zero, suc, ◌<◌, Bool, true, false, ◌&&◌, List, [], ◌∷◌, ◌++◌, length, get_or, take, drop, map, Some, None, if◌then◌else◌, refl, sym, ap, ap₂, ◌∙◌, subst, arith, rules}
use Rattle.std.specs.List.{list_all}
use Rattle.std.specs.Option.{option_or}
use Rattle.std.specs.Str.{bytes_eq}
use Rattle.std.proofs.lemmas.Bool.{and_parts}
use Rattle.std.proofs.lemmas.List.{take-append-drop}
use Rattle.doc_value.specs.declared.value.Named.{Named}
use Rattle.doc_value.specs.declared.value.Value.{Value, Object, out-Value, map-Value, fold-roll-Value, the_lemmas}
use Rattle.doc_value.specs.declared.value.Value.TheOpen.{Value-F}
use Rattle.doc_value.specs.declared.value.Value.TheViews.{roll-out-Value}
use Rattle.doc_value.specs.Fields.{judged}
use Rattle.doc_value.specs.Order.{is_ordered, ordered_step, fields_ordered, precedes}
use Rattle.doc_value.specs.Paths.{field_named, field_in}
use Rattle.doc_value.proofs.NameOrder.{before, past, past-before, before-trans, before-differs, past-differs, bytes_eq-itself}

-- the names are in order, here and in every value
abbrev pub in_order : List (Named Value) → Bool
in_order fields = fields_ordered (map (judged is_ordered) fields)

-- all names pass
abbrev pub names_pass : (List ℕ → Bool) → List (Named Value) → Bool
names_pass test fields = list_all (λ field. test field.name) fields

pub pass_by : (test other : List ℕ → Bool) → ((name : List ℕ) → test name ≡ true → other name ≡ true) → (fields : List (Named Value)) → names_pass test fields ≡ true → names_pass other fields ≡ true
pass_by test other more [] h = refl
pass_by test other more (f ∷ fs) h = let parts = and_parts (test f.name) (names_pass test fs) h in ap₂ (λ x y. x && y) (more f.name (parts.0)) (pass_by test other more fs (parts.1))

-- what order says of the first field
record IsFirst (f : Named Value) (fs : List (Named Value)) : Type 0 where
  pub next : precedes f.name (map (judged is_ordered) fs) ≡ true
  pub own : is_ordered f.value ≡ true
  pub rest : in_order fs ≡ true

first : (f : Named Value) (fs : List (Named Value)) → in_order (f ∷ fs) ≡ true → IsFirst f fs
first f fs h =
    let parts = and_parts (precedes f.name (map (judged is_ordered) fs)) (is_ordered f.value && in_order fs) h in
    let more = and_parts (is_ordered f.value) (in_order fs) (parts.1) in
    record { next = parts.0; own = more.0; rest = more.1 }

-- ---- below and above a place

later_names : (name : List ℕ) (fs : List (Named Value)) → precedes name (map (judged is_ordered) fs) ≡ true → in_order fs ≡ true → names_pass (λ n. before name n) fs ≡ true
later_names name [] h order = refl
later_names name (f ∷ fs) h order =
    let parts = first f fs order in
    ap₂ (λ x y. x && y) h (pass_by (λ n. before f.name n) (λ n. before name n) (λ n e. before-trans name f.name n h e) fs (later_names f.name fs (parts.next) (parts.rest)))

first_precedes : (f : Named Value) (fs : List (Named Value)) (m : ℕ) (d : Named Value) → in_order (f ∷ fs) ≡ true → m < length fs → before f.name (get_or fs m d).name ≡ true
first_precedes f fs m d order within =
    let parts = first f fs order in
    at fs m (later_names f.name fs (parts.next) (parts.rest)) within
  where
    at : (fs : List (Named Value)) (m : ℕ) → names_pass (λ n. before f.name n) fs ≡ true → m < length fs → before f.name (get_or fs m d).name ≡ true
    at [] m h l = absurd (omega arith)
    at (g ∷ gs) zero h l = (and_parts (before f.name g.name) (names_pass (λ n. before f.name n) gs) h).0
    at (g ∷ gs) (suc m) h l = at gs m ((and_parts (before f.name g.name) (names_pass (λ n. before f.name n) gs) h).1) (omega arith)

pub all_below : (name : List ℕ) (fs : List (Named Value)) (m : ℕ) (d : Named Value) → in_order fs ≡ true → m < length fs → before (get_or fs m d).name name ≡ true → names_pass (λ n. before n name) (take (suc m) fs) ≡ true
all_below name [] m d order within h = absurd (omega arith)
all_below name (f ∷ fs) zero d order within h = ap₂ (λ x y. x && y) h refl
all_below name (f ∷ fs) (suc m) d order within h =
    ap₂ (λ x y. x && y) (before-trans f.name (get_or fs m d).name name (first_precedes f fs m d order (omega arith)) h) (all_below name fs m d ((first f fs order).rest) (omega arith) h)

pub all_above : (name : List ℕ) (fs : List (Named Value)) (m : ℕ) (d : Named Value) → in_order fs ≡ true → m < length fs → past (get_or fs m d).name name ≡ true → names_pass (λ n. past n name) (drop m fs) ≡ true
all_above name [] m d order within h = absurd (omega arith)
all_above name (f ∷ fs) zero d order within h =
    let parts = first f fs order in
    ap₂ (λ x y. x && y) h (pass_by (λ n. before f.name n) (λ n. past n name) (λ n e. past-before n name ∙ before-trans name f.name n (sym (past-before f.name name) ∙ h) e) fs (later_names f.name fs (parts.next) (parts.rest)))
all_above name (f ∷ fs) (suc m) d order within h = all_above name fs m d ((first f fs order).rest) (omega arith) h

-- ---- what is found

pub named-append : (name : List ℕ) (xs ys : List (Named Value)) → field_named name (xs ++ ys) ≡ option_or (field_named name xs) (field_named name ys)
named-append name [] ys = refl
named-append name (x ∷ xs) ys = by (bytes_eq x.name name) refl (named-append name xs ys)
  where
    by : (b : Bool) → bytes_eq x.name name ≡ b → field_named name (xs ++ ys) ≡ option_or (field_named name xs) (field_named name ys) → field_named name ((x ∷ xs) ++ ys) ≡ option_or (field_named name (x ∷ xs)) (field_named name ys)
    by true e rest = simp e
    by false e rest = simp e rest

none_named : (name : List ℕ) (fs : List (Named Value)) → names_pass (λ n. before n name) fs ≡ true → field_named name fs ≡ None
none_named name [] h = refl
none_named name (f ∷ fs) h =
    let parts = and_parts (before f.name name) (names_pass (λ n. before n name) fs) h in
    simp (before-differs f.name name (parts.0)) (none_named name fs (parts.1))

none_above : (name : List ℕ) (fs : List (Named Value)) → names_pass (λ n. past n name) fs ≡ true → field_named name fs ≡ None
none_above name [] h = refl
none_above name (f ∷ fs) h =
    let parts = and_parts (past f.name name) (names_pass (λ n. past n name) fs) h in
    simp (past-differs f.name name (parts.0)) (none_above name fs (parts.1))

-- all stand below or above
pub not_found : (name : List ℕ) (fs : List (Named Value)) (n : ℕ) → names_pass (λ n. before n name) (take n fs) ≡ true → names_pass (λ n. past n name) (drop n fs) ≡ true → field_named name fs ≡ None
not_found name fs n low high =
    ap (field_named name) (sym (take-append-drop n fs)) ∙ named-append name (take n fs) (drop n fs) ∙ simp (none_named name (take n fs) low, none_above name (drop n fs) high)

pub found_at : (name : List ℕ) (fs : List (Named Value)) (m : ℕ) (d : Named Value) → in_order fs ≡ true → m < length fs → (get_or fs m d).name ≡ name → field_named name fs ≡ Some (get_or fs m d).value
found_at name [] m d order within is = absurd (omega arith)
found_at name (f ∷ fs) zero d order within is = simp (ap (λ n. bytes_eq n name) is ∙ bytes_eq-itself name)
found_at name (f ∷ fs) (suc m) d order within is =
    let lower : before f.name name ≡ true = subst (λ n. before f.name n ≡ true) is (first_precedes f fs m d order (omega arith)) in
    simp (before-differs f.name name lower) (found_at name fs m d ((first f fs order).rest) (omega arith) is)

-- ---- values whose names are in order

pub ordered-Object : (fields : List (Named Value)) → is_ordered (Object fields) ≡ in_order fields
ordered-Object fields = search (rules, the_lemmas)

named-ordered : (name : List ℕ) (fields : List (Named Value)) (found : Value) → in_order fields ≡ true → field_named name fields ≡ Some found → is_ordered found ≡ true
named-ordered name [] found h is = cc
named-ordered name (f ∷ fs) found h is = by (bytes_eq f.name name) (named-ordered name fs found ((first f fs h).rest)) is
  where
    by : (b : Bool) → (field_named name fs ≡ Some found → is_ordered found ≡ true) → (if b then Some f.value else field_named name fs) ≡ Some found → is_ordered found ≡ true
    by true later e = ap is_ordered (sym (same f.value found e)) ∙ (first f fs h).own
      where
        same : (a b : Value) → Some a ≡ Some b → a ≡ b
        same a b e = cc
    by false later e = later e

ordered_level : (value : Value) → is_ordered value ≡ ordered_step (map-Value Value Bool is_ordered (out-Value value))
ordered_level value = ap is_ordered (sym (roll-out-Value value)) ∙ fold-roll-Value Bool ordered_step (out-Value value)

-- a field of a value in order is in order
pub field-ordered : (name : List ℕ) (value found : Value) → is_ordered value ≡ true → field_in name (out-Value value) ≡ Some found → is_ordered found ≡ true
field-ordered name value found h is = by (out-Value value) (sym (ordered_level value) ∙ h) is
  where
    by : (layer : Value-F Value) → ordered_step (map-Value Value Bool is_ordered layer) ≡ true → field_in name layer ≡ Some found → is_ordered found ≡ true
    by (Value-F.Object fields) h e = named-ordered name fields found h e
    by _ h e = cc
