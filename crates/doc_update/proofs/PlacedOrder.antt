-- Two parts put in one place: of one part the later counts, of two parts the order makes no difference.
use Rattle.std.proofs.Common.{◌≡◌, ℕ, true, false, ◌||◌, List, [], Option, Some, None, option_and_then, is_some, is_none, refl, sym, ap, ◌∙◌}
use Rattle.std.specs.Str.{bytes_eq}
use Rattle.std.proofs.lemmas.Bool.{true≢false}
use Rattle.doc_value.specs.declared.value.Named.{Named}
use Rattle.doc_value.specs.declared.value.Value.{Value, Object}
use Rattle.doc_update.specs.Places.{with_field, placed}
use Rattle.doc_update.specs.Syntax.{is_object}
use Rattle.doc_update.proofs.FieldOrder.{with-again, with-commute}
use Rattle.doc_value.proofs.NameOrder.{bytes_eq-turned}
use Rattle.doc_update.proofs.PlacedLaws.{placed-Object, placed-closed, placed-unfit, by_kind}
use Rattle.doc_update.proofs.Facts.{inner, no_some}

-- ---- one part, twice

abbrev PutAgain : Option Value → Type 0
PutAgain found = (part : List ℕ) (after later g : Option Value) → placed part found after ≡ Some g → (is_none after || is_some later) ≡ true → placed part g later ≡ placed part found later

again_nothing : PutAgain None
again_nothing part None later g e h = ap (λ f. placed part f later) (sym (inner _ _ None e refl))
again_nothing part (Some value) None g e h = absurd (true≢false (sym h))
again_nothing part (Some value) (Some other) g e h =
    ap (λ f. placed part f (Some other)) (sym (inner _ _ (Some (Object (with_field part (Some value) []))) e refl))
    ∙ placed-Object part (with_field part (Some value) []) (Some other) ∙ ap (λ (fields : List (Named Value)). Some (Some (Object fields))) (with-again part (Some value) (Some other) [])

again_object : (fields : List (Named Value)) → PutAgain (Some (Object fields))
again_object fields part after later g e h =
    ap (λ f. placed part f later) (sym (inner _ _ (Some (Object (with_field part after fields))) e (placed-Object part fields after)))
    ∙ placed-Object part (with_field part after fields) later ∙ ap (λ (fs : List (Named Value)). Some (Some (Object fs))) (with-again part after later fields) ∙ sym (placed-Object part fields later)

again_closed : (value : Value) → is_object value ≡ false → PutAgain (Some value)
again_closed value closed part None later g e h = ap (λ f. placed part f later) (sym (inner _ _ (Some value) e (placed-closed part value closed)))
again_closed value closed part (Some after) later g e h = no_some g _ (placed-unfit part value after closed) e

pub put_again : (found : Option Value) → PutAgain found
put_again = by_kind PutAgain again_nothing again_object again_closed

-- ---- two parts

abbrev PutBoth : Option Value → Type 0
PutBoth found = (part other : List ℕ) (after later : Option Value) → bytes_eq part other ≡ false
    → option_and_then (λ (g : Option Value). placed other g later) (placed part found after) ≡ option_and_then (λ (g : Option Value). placed part g after) (placed other found later)

abbrev put_in : List ℕ → Option Value → List (Named Value) → Option (Option Value)
put_in part after fields = Some (Some (Object (with_field part after fields)))

both_nothing : PutBoth None
both_nothing part other None None apart = refl
both_nothing part other None (Some value) apart =
    sym (placed-Object part (with_field other (Some value) []) None ∙ ap (λ (fields : List (Named Value)). Some (Some (Object fields))) (with-commute other part (Some value) None [] (bytes_eq-turned other part ∙ apart)))
both_nothing part other (Some value) None apart =
    placed-Object other (with_field part (Some value) []) None ∙ ap (λ (fields : List (Named Value)). Some (Some (Object fields))) (with-commute part other (Some value) None [] apart)
both_nothing part other (Some value) (Some more) apart =
    placed-Object other (with_field part (Some value) []) (Some more) ∙ ap (λ (fields : List (Named Value)). Some (Some (Object fields))) (with-commute part other (Some value) (Some more) [] apart)
    ∙ sym (placed-Object part (with_field other (Some more) []) (Some value))

both_object : (fields : List (Named Value)) → PutBoth (Some (Object fields))
both_object fields part other after later apart =
    ap (option_and_then (λ (g : Option Value). placed other g later)) (placed-Object part fields after) ∙ placed-Object other (with_field part after fields) later
    ∙ ap (λ (fs : List (Named Value)). Some (Some (Object fs))) (with-commute part other after later fields apart)
    ∙ sym (ap (option_and_then (λ (g : Option Value). placed part g after)) (placed-Object other fields later) ∙ placed-Object part (with_field other later fields) after)

both_closed : (value : Value) → is_object value ≡ false → PutBoth (Some value)
both_closed value closed part other None None apart = simp (placed-closed part value closed, placed-closed other value closed)
both_closed value closed part other None (Some more) apart = simp (placed-closed part value closed, placed-unfit other value more closed)
both_closed value closed part other (Some after) None apart = simp (placed-unfit part value after closed, placed-closed other value closed)
both_closed value closed part other (Some after) (Some more) apart = simp (placed-unfit part value after closed, placed-unfit other value more closed)

pub put_both : (found : Option Value) → PutBoth found
put_both = by_kind PutBoth both_nothing both_object both_closed
