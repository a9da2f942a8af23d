-- What is found in a place once a part of it was put: that part as it was put, the other parts as before.
use Rattle.std.proofs.Common.{◌≡◌, ℕ, Bool, true, false, ◌||◌, List, [], Option, Some, None, is_some, is_none, refl, sym, ap, ◌∙◌, subst, rules}
use Rattle.std.specs.Str.{bytes_eq}
use Rattle.std.proofs.lemmas.Bool.{true≢false}
use Rattle.std.proofs.lemmas.Option.{same_Some}
use Rattle.doc_value.specs.declared.value.Named.{Named}
use Rattle.doc_value.specs.declared.value.Value.{Value, Object, out-Value, the_lemmas}
use Rattle.doc_value.specs.declared.value.Value.TheOpen.{Value-F}
use Rattle.doc_value.specs.declared.value.Value.TheVariants.{rolls-Object}
use Rattle.doc_value.specs.declared.value.Value.TheViews.{roll-Value, roll-out-Value}
use Rattle.doc_value.specs.Paths.{field_named, field_in}
use Rattle.doc_update.specs.Changes.{fields_within, fields_of}
use Rattle.doc_update.specs.Places.{is_open, with_field, part_of, placed, placed_in}
use Rattle.doc_update.specs.Syntax.{is_object_layer, is_object}
use Rattle.doc_update.proofs.FieldLaws.{named-own, named-others}
use Rattle.doc_update.proofs.Facts.{inner, no_some}

pub out-Object : (fields : List (Named Value)) → out-Value (Object fields) ≡ Value-F.Object fields
out-Object fields = search (rules, the_lemmas)

pub part_of-Object : (part : List ℕ) (fields : List (Named Value)) → part_of part (Some (Object fields)) ≡ field_named part fields
part_of-Object part fields = ap (field_in part) (out-Object fields)

pub open-Object : (fields : List (Named Value)) → is_open (Some (Object fields)) ≡ true
open-Object fields = ap is_object_layer (out-Object fields)

pub placed-Object : (part : List ℕ) (fields : List (Named Value)) (after : Option Value) → placed part (Some (Object fields)) after ≡ Some (Some (Object (with_field part after fields)))
placed-Object part fields after = ap (placed_in part after (Object fields)) (out-Object fields)

-- ---- the kinds of what is found

closed-none : (part : List ℕ) (value : Value) (layer : Value-F Value) → is_object_layer layer ≡ false → placed_in part None value layer ≡ Some (Some value)
closed-none part value (Value-F.Object fields) h = absurd (true≢false h)
closed-none part value _ h = refl

closed-some : (part : List ℕ) (after value : Value) (layer : Value-F Value) → is_object_layer layer ≡ false → placed_in part (Some after) value layer ≡ None
closed-some part after value (Value-F.Object fields) h = absurd (true≢false h)
closed-some part after value _ h = refl

closed-field : (part : List ℕ) (layer : Value-F Value) → is_object_layer layer ≡ false → field_in part layer ≡ None
closed-field part (Value-F.Object fields) h = absurd (true≢false h)
closed-field part _ h = refl

open-fields : (layer : Value-F Value) → is_object_layer layer ≡ true → (fields : List (Named Value)) × (layer ≡ Value-F.Object fields)
open-fields (Value-F.Object fields) h = (fields, refl)
open-fields _ h = absurd (true≢false (sym h))

pub rolled-Object : (value : Value) (fields : List (Named Value)) → out-Value value ≡ Value-F.Object fields → value ≡ Object fields
rolled-Object value fields e = sym (roll-out-Value value) ∙ ap roll-Value e ∙ rolls-Object fields

-- nothing, an object, or a value with no fields
pub by_kind : (P : Option Value → Type 0) → P None → ((fields : List (Named Value)) → P (Some (Object fields))) → ((value : Value) → is_object value ≡ false → P (Some value)) → (found : Option Value) → P found
by_kind P none object closed None = none
by_kind P none object closed (Some value) = go (is_object value) refl
  where
    go : (b : Bool) → is_object value ≡ b → P (Some value)
    go true e = let parts = open-fields (out-Value value) e in subst (λ v. P (Some v)) (sym (rolled-Object value parts.0 parts.1)) (object parts.0)
    go false e = closed value e

pub part_of-closed : (part : List ℕ) (value : Value) → is_object value ≡ false → part_of part (Some value) ≡ None
part_of-closed part value h = closed-field part (out-Value value) h

pub placed-closed : (part : List ℕ) (value : Value) → is_object value ≡ false → placed part (Some value) None ≡ Some (Some value)
placed-closed part value h = closed-none part value (out-Value value) h

pub placed-unfit : (part : List ℕ) (value after : Value) → is_object value ≡ false → placed part (Some value) (Some after) ≡ None
placed-unfit part value after h = closed-some part after value (out-Value value) h

-- ---- after one part was put

abbrev PutThere : Option Value → Type 0
PutThere found = (part : List ℕ) (after g : Option Value) → placed part found after ≡ Some g
    → (part_of part g ≡ after) × ((other : List ℕ) → bytes_eq part other ≡ false → part_of other g ≡ part_of other found) × (is_open g ≡ is_open found)

put_nothing : PutThere None
put_nothing part None g e = let is : None ≡ g = same_Some None g e in
    (ap (part_of part) (sym is), (λ other apart. ap (part_of other) (sym is)), ap is_open (sym is))
put_nothing part (Some after) g e =
    let is : Some (Object (with_field part (Some after) [])) ≡ g = same_Some _ g e in (
      ap (part_of part) (sym is) ∙ part_of-Object part (with_field part (Some after) []) ∙ named-own part (Some after) [],
      (λ other apart. ap (part_of other) (sym is) ∙ part_of-Object other (with_field part (Some after) []) ∙ named-others other part (Some after) [] apart),
      ap is_open (sym is) ∙ open-Object (with_field part (Some after) []),
    )

put_object : (fields : List (Named Value)) → PutThere (Some (Object fields))
put_object fields part after g e =
    let is : Some (Object (with_field part after fields)) ≡ g = inner _ _ _ e (placed-Object part fields after) in (
      ap (part_of part) (sym is) ∙ part_of-Object part (with_field part after fields) ∙ named-own part after fields,
      (λ other apart. ap (part_of other) (sym is) ∙ part_of-Object other (with_field part after fields) ∙ named-others other part after fields apart ∙ sym (part_of-Object other fields)),
      ap is_open (sym is) ∙ open-Object (with_field part after fields) ∙ sym (open-Object fields),
    )

put_closed : (value : Value) → is_object value ≡ false → PutThere (Some value)
put_closed value closed part None g e =
    let is : Some value ≡ g = inner _ _ _ e (placed-closed part value closed) in
    (ap (part_of part) (sym is) ∙ part_of-closed part value closed, (λ other apart. ap (part_of other) (sym is)), ap is_open (sym is))
put_closed value closed part (Some after) g e = no_some g _ (placed-unfit part value after closed) e

pub put_there : (found : Option Value) → PutThere found
put_there = by_kind PutThere put_nothing put_object put_closed

-- a part can be put where it is nothing, and where a field may be put
pub put_fits : (found : Option Value) (part : List ℕ) (after : Option Value) → is_some (placed part found after) ≡ (is_none after || is_open found)
put_fits found part after = by_kind (λ f. is_some (placed part f after) ≡ (is_none after || is_open f)) (nothing after) (object after) (closed after) found
  where
    nothing : (after : Option Value) → is_some (placed part None after) ≡ (is_none after || true)
    nothing None = refl
    nothing (Some a) = refl

    object : (after : Option Value) (fields : List (Named Value)) → is_some (placed part (Some (Object fields)) after) ≡ (is_none after || is_open (Some (Object fields)))
    object None fields = ap is_some (placed-Object part fields None)
    object (Some a) fields = ap is_some (placed-Object part fields (Some a)) ∙ sym (open-Object fields)

    closed : (after : Option Value) (value : Value) → is_object value ≡ false → is_some (placed part (Some value) after) ≡ (is_none after || is_object value)
    closed None value h = ap is_some (placed-closed part value h)
    closed (Some a) value h = ap is_some (placed-unfit part value a h) ∙ sym h

pub shut_part : (found : Option Value) (part : List ℕ) → is_open found ≡ false → part_of part found ≡ None
shut_part found part = by_kind (λ f. is_open f ≡ false → part_of part f ≡ None) (λ is. refl) (λ fields is. absurd (true≢false (sym (open-Object fields) ∙ is))) (λ value h is. part_of-closed part value h) found

whole_layer : (layer : Value-F Value) → is_object_layer layer ≡ true → layer ≡ Value-F.Object (fields_within layer)
whole_layer (Value-F.Object fields) h = refl
whole_layer _ h = absurd (true≢false (sym h))

-- an object is that of its fields
pub object-is : (value : Value) → is_object value ≡ true → value ≡ Object (fields_of value)
object-is value h = rolled-Object value (fields_of value) (whole_layer (out-Value value) h)
