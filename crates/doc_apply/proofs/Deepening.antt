-- How deep a body nests after a change: as deep as what the change puts, or as deep as the body without what stood at the path.
use Rattle.std.proofs.Common.{◌≡◌, ℕ, zero, suc, Bool, true, false, ◌||◌, List, [], ◌∷◌, ◌++◌, length, nat_lt, Option, Some, None, is_some, if◌then◌else◌, refl, sym, ap, ap₂, ◌∙◌, zero-add, arith}
use Rattle.std.proofs.lemmas.Bool.{true≢false}
use Rattle.std.proofs.lemmas.Bool.Decides.{nat_tests}
use Rattle.doc_value.specs.declared.value.Named.{Named}
use Rattle.doc_value.specs.declared.value.Value.{Value, Object}
use Rattle.doc_value.specs.Depth.{nesting}
use Rattle.doc_apply.specs.Fit.{located, is_nothing, fits_in, reaches_below, puts_below}
use Rattle.doc_update.specs.Places.{part_of, placed, changed, with_field, field_or_none}
use Rattle.doc_update.specs.Syntax.{is_object}
use Rattle.doc_apply.proofs.Depths.{too_deep, deep_fields, deep-Object, deep-Object-first, deep-append, deep-one}
use Rattle.doc_update.proofs.FieldLaws.{kept}
use Rattle.doc_update.proofs.Steps.{Effect, by_steps}
use Rattle.doc_apply.proofs.Locality.{nothing_up, changed_fits}
use Rattle.doc_value.proofs.NameOrder.{before, past}
use Rattle.doc_update.proofs.PlacedLaws.{open-Object, placed-Object, placed-closed, placed-unfit, by_kind}
use Rattle.doc_update.proofs.Facts.{inner, no_some}
use Rattle.std.proofs.Math.Bool.{or-false}

-- the effect that leaves nothing
abbrev pub leaves_nothing : Effect
leaves_nothing found = Some None

-- ---- what is put, one level up

shifted : (limit depth : ℕ) (after : Option (Option Value)) → reaches_below (suc limit) (suc depth) after ≡ reaches_below limit depth after
shifted limit depth None = refl
shifted limit depth (Some None) = refl
shifted limit depth (Some (Some value)) = grind (arith, nat_tests)

pub puts-shifted : (effect : Effect) (limit depth : ℕ) (place : Option (Option Value)) → puts_below effect (suc limit) (suc depth) place ≡ puts_below effect limit depth place
puts-shifted effect limit depth None = refl
puts-shifted effect limit depth (Some found) = shifted limit depth (effect found)

located-nothing : (parts : List (List ℕ)) → located parts None ≡ Some None
located-nothing [] = refl
located-nothing (part ∷ parts) = located-nothing parts

nothing_reaches : (limit depth : ℕ) (after : Option (Option Value)) → is_nothing after ≡ true → reaches_below limit depth after ≡ false
nothing_reaches limit depth None h = refl
nothing_reaches limit depth (Some None) h = refl
nothing_reaches limit depth (Some (Some value)) h = absurd (true≢false (sym h))

something_reaches : (depth : ℕ) (after : Option (Option Value)) → is_some after ≡ true → is_nothing after ≡ false → reaches_below 0 (suc depth) after ≡ true
something_reaches depth None h k = absurd (true≢false (sym h))
something_reaches depth (Some None) h k = absurd (true≢false k)
something_reaches depth (Some (Some value)) h k = grind (arith, nat_tests)

any_or_true : (b : Bool) → true ≡ (b || true)
any_or_true true = refl
any_or_true false = refl

-- ---- by the kinds of what is found

abbrev Deepens : Option Value → Type 0
Deepens found = (limit : ℕ) (effect : Effect) (part : List ℕ) (parts : List (List ℕ)) (after left g h : Option Value)
    → changed effect parts (part_of part found) ≡ Some after → placed part found after ≡ Some g
    → changed leaves_nothing parts (part_of part found) ≡ Some left → placed part found left ≡ Some h
    → ((lower : ℕ) → too_deep lower after ≡ (puts_below effect lower (length parts) (located parts (part_of part found)) || too_deep lower left))
    → too_deep limit g ≡ (puts_below effect limit (suc (length parts)) (located (part ∷ parts) found) || too_deep limit h)

pub nothing_left : (parts : List (List ℕ)) (left : Option Value) → changed leaves_nothing parts None ≡ Some left → left ≡ None
nothing_left parts left e = by left (sym (ap is_nothing e) ∙ nothing_up leaves_nothing parts)
  where
    by : (left : Option Value) → is_nothing (Some left) ≡ true → left ≡ None
    by None h = refl
    by (Some value) h = absurd (true≢false (sym h))

deepens_nothing : Deepens None
deepens_nothing limit effect part parts None left g h below put cut put0 rest =
    let is : None ≡ g = inner _ g None put refl in
    let gone : left ≡ None = nothing_left parts left cut in
    let is0 : None ≡ h = inner (placed part None left) h None put0 (ap (placed part None) gone) in
    let nothing : is_nothing (effect None) ≡ true = sym (nothing_up effect parts) ∙ ap is_nothing below in
    ap (too_deep limit) (sym is) ∙ sym (ap₂ (λ a b. a || b) (ap (puts_below effect limit (suc (length parts))) (located-nothing parts) ∙ nothing_reaches limit (suc (length parts)) (effect None) nothing) (ap (too_deep limit) (sym is0)))
deepens_nothing limit effect part parts (Some value) left g h below put cut put0 rest =
    let is : Some (Object (with_field part (Some value) [])) ≡ g = inner _ g _ put refl in
    let gone : left ≡ None = nothing_left parts left cut in
    let is0 : None ≡ h = inner (placed part None left) h None put0 (ap (placed part None) gone) in
    let something : is_nothing (effect None) ≡ false = sym (nothing_up effect parts) ∙ ap is_nothing below in
    let some : is_some (effect None) ≡ true = sym (ap (fits_in effect) (located-nothing parts)) ∙ sym (changed_fits effect parts None) ∙ ap is_some below in
    ap (too_deep limit) (sym is) ∙ by limit something some gone ∙ ap₂ (λ a b. a || b) (sym (ap (puts_below effect limit (suc (length parts))) (located-nothing parts))) (ap (too_deep limit) is0)
  where
    by : (limit : ℕ) → is_nothing (effect None) ≡ false → is_some (effect None) ≡ true → left ≡ None → too_deep limit (Some (Object (with_field part (Some value) []))) ≡ (reaches_below limit (suc (length parts)) (effect None) || false)
    by zero something some gone = deep-Object-first (with_field part (Some value) []) ∙ sym (or-false _ ∙ something_reaches (length parts) (effect None) some something)
    by (suc lower) something some gone =
        deep-Object lower (with_field part (Some value) []) ∙ deep-one lower part (Some value) ∙ rest lower
        ∙ ap₂ (λ a b. a || b) (ap (puts_below effect lower (length parts)) (located-nothing parts) ∙ sym (shifted lower (length parts) (effect None))) (ap (too_deep lower) gone)

deep-parts : (limit : ℕ) (part : List ℕ) (after : Option Value) (fields : List (Named Value))
    → deep_fields limit (with_field part after fields) ≡ ((deep_fields limit (kept (λ n. before n part) fields) || too_deep limit after) || deep_fields limit (kept (λ n. past n part) fields))
deep-parts limit part after fields =
    deep-append limit (kept (λ n. before n part) fields ++ field_or_none part after) (kept (λ n. past n part) fields)
    ∙ ap (λ b. b || deep_fields limit (kept (λ n. past n part) fields)) (deep-append limit (kept (λ n. before n part) fields) (field_or_none part after) ∙ ap (λ b. deep_fields limit (kept (λ n. before n part) fields) || b) (deep-one limit part after))

moved_out : (a p b c : Bool) → ((a || (p || b)) || c) ≡ (p || ((a || b) || c))
moved_out true true b c = refl
moved_out true false b c = refl
moved_out false true b c = refl
moved_out false false b c = refl

deepens_object : (fields : List (Named Value)) → Deepens (Some (Object fields))
deepens_object fields limit effect part parts after left g h below put cut put0 rest =
    let is : Some (Object (with_field part after fields)) ≡ g = inner _ g _ put (placed-Object part fields after) in
    let is0 : Some (Object (with_field part left fields)) ≡ h = inner _ h _ put0 (placed-Object part fields left) in
    ap (too_deep limit) (sym is) ∙ by limit ∙ ap₂ (λ a b. a || b) (ap (puts_below effect limit (suc (length parts))) (sym opened)) (ap (too_deep limit) is0)
  where
    opened : located (part ∷ parts) (Some (Object fields)) ≡ located parts (part_of part (Some (Object fields)))
    opened = ap (λ (b : Bool). if b then located parts (part_of part (Some (Object fields))) else None) (open-Object fields)

    by : (limit : ℕ) → too_deep limit (Some (Object (with_field part after fields))) ≡ (puts_below effect limit (suc (length parts)) (located parts (part_of part (Some (Object fields)))) || too_deep limit (Some (Object (with_field part left fields))))
    by zero = deep-Object-first (with_field part after fields) ∙ any_or_true _ ∙ ap (λ b. puts_below effect zero (suc (length parts)) (located parts (part_of part (Some (Object fields)))) || b) (sym (deep-Object-first (with_field part left fields)))
    by (suc lower) =
        deep-Object lower (with_field part after fields) ∙ deep-parts lower part after fields
        ∙ ap (λ b. (deep_fields lower (kept (λ n. before n part) fields) || b) || deep_fields lower (kept (λ n. past n part) fields)) (rest lower)
        ∙ moved_out (deep_fields lower (kept (λ n. before n part) fields)) (puts_below effect lower (length parts) (located parts (part_of part (Some (Object fields))))) (too_deep lower left) (deep_fields lower (kept (λ n. past n part) fields))
        ∙ ap₂ (λ a b. a || b) (sym (puts-shifted effect lower (length parts) (located parts (part_of part (Some (Object fields)))))) (sym (deep-Object lower (with_field part left fields) ∙ deep-parts lower part left fields))

deepens_closed : (value : Value) → is_object value ≡ false → Deepens (Some value)
deepens_closed value closed limit effect part parts (Some after) left g h below put cut put0 rest = no_some g _ (placed-unfit part value after closed) put
deepens_closed value closed limit effect part parts None (Some left) g h below put cut put0 rest = no_some h _ (placed-unfit part value left closed) put0
deepens_closed value closed limit effect part parts None None g h below put cut put0 rest =
    let is : Some value ≡ g = inner _ g _ put (placed-closed part value closed) in
    let is0 : Some value ≡ h = inner _ h _ put0 (placed-closed part value closed) in
    ap (too_deep limit) (sym is ∙ is0) ∙ ap (λ (b : Bool). puts_below effect limit (suc (length parts)) (if b then located parts (part_of part (Some value)) else None) || too_deep limit h) (sym closed)

deepens : (found : Option Value) → Deepens found
deepens = by_kind Deepens deepens_nothing deepens_object deepens_closed

-- after a change and after its path is cut out
pub deep_after : (path : List (List ℕ)) (limit : ℕ) (effect : Effect) (found g h : Option Value) → changed effect path found ≡ Some g → changed leaves_nothing path found ≡ Some h
    → too_deep limit g ≡ (puts_below effect limit (length path) (located path found) || too_deep limit h)
deep_after [] limit effect found g h e k =
    let gone : None ≡ h = inner _ h None k refl in
    here g ∙ ap (reaches_below limit 0) (sym e) ∙ sym (or-false _) ∙ ap (λ f. reaches_below limit 0 (effect found) || too_deep limit f) gone
  where
    here : (g : Option Value) → too_deep limit g ≡ reaches_below limit 0 (Some g)
    here None = refl
    here (Some value) = ap (nat_lt limit) (sym (zero-add (nesting value)))
deep_after (part ∷ parts) limit effect found g h e k =
    by_steps effect part parts found g e (λ after below put. by_steps leaves_nothing part parts found h k (λ left cut put0.
    deepens found limit effect part parts after left g h below put cut put0 (λ lower. deep_after parts lower effect (part_of part found) after left below cut)))
