-- Fields that are put in their places are found there, and taken out again leave the others.
use Rattle.std.proofs.Common.{◌≡◌, ℕ, Bool, true, false, not, ◌&&◌, ◌||◌, codes, filter, List, [], ◌∷◌, Option, Some, None, refl, sym, ap, ◌∙◌, if◌then◌else◌, true≢false}
use Rattle.std.specs.Cmp.Lexicographic.{slice_cmp}
use Rattle.std.specs.List.{list_all}
use Rattle.std.specs.Ordering.{nat_cmp, is_lt}
use Rattle.std.specs.Str.{bytes_eq}
use Rattle.doc_value.specs.Paths.{field_named}
use Rattle.doc_value.specs.declared.value.Named.{Named as Field}
use Rattle.doc_value.specs.declared.value.Value.{Value}
use Rattle.cell_text.specs.Fields.{inserted, with_field}
use Rattle.cell_text.specs.Syntax.{is_own_name}

abbrev pub Fields : Type 0
Fields = List (Field Value)

-- whether a name is that of another field than the own ones of a document
abbrev pub is_other : Field Value → Bool
is_other field = not (is_own_name field.name)

-- ---- one field put in its place

abbrev pub below : Field Value → Field Value → Bool
below field new = is_lt (slice_cmp nat_cmp field.name new.name)

-- no field of that name
not_first : (name : List ℕ) (f : Field Value) (fs : Fields) → field_named name (f ∷ fs) ≡ None → (bytes_eq f.name name ≡ false) × (field_named name fs ≡ None)
not_first name f fs h = by (bytes_eq f.name name) refl
  where
    by : (b : Bool) → bytes_eq f.name name ≡ b → (bytes_eq f.name name ≡ false) × (field_named name fs ≡ None)
    by true is = cc (is, h)
    by false is = (is, cc (is, h))

found_inserted : (name : List ℕ) (new : Field Value) (fs : Fields) → bytes_eq new.name name ≡ true → field_named name fs ≡ None → field_named name (inserted new fs) ≡ Some new.value
found_inserted name new [] same h = ap (λ (b : Bool). if b then Some new.value else None) same
found_inserted name new (f ∷ fs) same h =
    let rest = not_first name f fs h in
    by (below f new) rest.0 (found_inserted name new fs same rest.1)
  where
    by : (b : Bool) → bytes_eq f.name name ≡ false → field_named name (inserted new fs) ≡ Some new.value → field_named name (if b then f ∷ inserted new fs else new ∷ f ∷ fs) ≡ Some new.value
    by true other found = ap (λ (b : Bool). if b then Some f.value else field_named name (inserted new fs)) other ∙ found
    by false other found = ap (λ (b : Bool). if b then Some new.value else field_named name (f ∷ fs)) same

found_beside : (name : List ℕ) (new : Field Value) (fs : Fields) → bytes_eq new.name name ≡ false → field_named name (inserted new fs) ≡ field_named name fs
found_beside name new [] other = ap (λ (b : Bool). if b then Some new.value else None) other
found_beside name new (f ∷ fs) other = by (below f new) (found_beside name new fs other)
  where
    by : (b : Bool) → field_named name (inserted new fs) ≡ field_named name fs → field_named name (if b then f ∷ inserted new fs else new ∷ f ∷ fs) ≡ field_named name (f ∷ fs)
    by true found = ap (λ (found : Option Value). if bytes_eq f.name name then Some f.value else found) found
    by false found = ap (λ (b : Bool). if b then Some new.value else field_named name (f ∷ fs)) other

others_kept : (new : Field Value) (fs : Fields) → is_own_name new.name ≡ true → filter is_other (inserted new fs) ≡ filter is_other fs
others_kept new [] own = ap (λ (b : Bool). if not b then new ∷ [] else []) own
others_kept new (f ∷ fs) own = by (below f new) (others_kept new fs own)
  where
    by : (b : Bool) → filter is_other (inserted new fs) ≡ filter is_other fs → filter is_other (if b then f ∷ inserted new fs else new ∷ f ∷ fs) ≡ filter is_other (f ∷ fs)
    by true kept = ap (λ (kept : Fields). if is_other f then f ∷ kept else kept) kept
    by false kept = ap (λ (b : Bool). if not b then new ∷ filter is_other (f ∷ fs) else filter is_other (f ∷ fs)) own

-- ---- the same, where there may be no value for it

pub found_with : (name : List ℕ) (value : Option Value) (fs : Fields) → bytes_eq name name ≡ true → field_named name fs ≡ None → field_named name (with_field name value fs) ≡ value
found_with name None fs same h = h
found_with name (Some value) fs same h = found_inserted name _ fs same h

pub found_without : (name other : List ℕ) (value : Option Value) (fs : Fields) → bytes_eq other name ≡ false → field_named name (with_field other value fs) ≡ field_named name fs
found_without name other None fs differ = refl
found_without name other (Some value) fs differ = found_beside name _ fs differ

pub others_with : (name : List ℕ) (value : Option Value) (fs : Fields) → is_own_name name ≡ true → filter is_other (with_field name value fs) ≡ filter is_other fs
others_with name None fs own = refl
others_with name (Some value) fs own = others_kept _ fs own

-- ---- fields with no own ones among them

abbrev pub have_no_own : Fields → Bool
have_no_own fs = list_all is_other fs

each_other : (f : Field Value) (fs : Fields) → have_no_own (f ∷ fs) ≡ true → (is_own_name f.name ≡ false) × (have_no_own fs ≡ true)
each_other f fs h = by (is_own_name f.name) refl
  where
    by : (b : Bool) → is_own_name f.name ≡ b → (is_own_name f.name ≡ false) × (have_no_own fs ≡ true)
    by true is = cc (is, h)
    by false is = (is, cc (is, h))

pub others_are_all : (fs : Fields) → have_no_own fs ≡ true → filter is_other fs ≡ fs
others_are_all [] h = refl
others_are_all (f ∷ fs) h =
    let parts = each_other f fs h in
    ap (λ (b : Bool). if not b then f ∷ filter is_other fs else filter is_other fs) parts.0 ∙ ap (λ (rest : Fields). f ∷ rest) (others_are_all fs parts.1)

pub own_is_absent : (name : List ℕ) (fs : Fields) → ((other : List ℕ) → bytes_eq other name ≡ true → is_own_name other ≡ true) → have_no_own fs ≡ true → field_named name fs ≡ None
own_is_absent name [] own h = refl
own_is_absent name (f ∷ fs) own h =
    let parts = each_other f fs h in
    by (bytes_eq f.name name) refl parts.0 (own_is_absent name fs own parts.1)
  where
    by : (b : Bool) → bytes_eq f.name name ≡ b → is_own_name f.name ≡ false → field_named name fs ≡ None → (if b then Some f.value else field_named name fs) ≡ None
    by true is other rest = absurd (true≢false (sym (own f.name is) ∙ other))
    by false is other rest = rest
