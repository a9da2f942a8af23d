-- All parts put in one place, by what is found there.
use Rattle.std.proofs.Common.{◌≡◌, true, false, List, [], ◌∷◌, Option, Some, None, option_and_then, if◌then◌else◌, refl, sym, ap, ◌∙◌}
use Rattle.std.proofs.lemmas.Bool.{true≢false}
use Rattle.doc_value.specs.declared.value.Named.{Named}
use Rattle.doc_value.specs.declared.value.Value.{Value, Object}
use Rattle.doc_update.specs.Places.{with_field}
use Rattle.doc_apply.specs.Puts.{placed_all, with_fields, nothing_put}
use Rattle.doc_update.specs.Syntax.{is_object}
use Rattle.doc_apply.specs.declared.put.Put.{Put}
use Rattle.doc_update.proofs.PlacedLaws.{placed-Object, placed-closed, placed-unfit}

pub all-Object : (puts : List Put) (fields : List (Named Value)) → placed_all puts (Some (Object fields)) ≡ Some (Some (Object (with_fields puts fields)))
all-Object [] fields = refl
all-Object (put ∷ puts) fields = ap (option_and_then (placed_all puts)) (placed-Object put.part fields put.after) ∙ all-Object puts (with_field put.part put.after fields)

pub all-none : (puts : List Put) → nothing_put puts ≡ true → placed_all puts None ≡ Some None
all-none [] h = refl
all-none (put ∷ puts) h = by put.after refl (all-none puts)
  where
    by : (after : Option Value) → put.after ≡ after → (nothing_put puts ≡ true → placed_all puts None ≡ Some None) → placed_all (put ∷ puts) None ≡ Some None
    by None e rest = simp e (rest (simp e at h))
    by (Some value) e rest = absurd (true≢false (sym (simp e at h)))

pub all-some : (puts : List Put) → nothing_put puts ≡ false → placed_all puts None ≡ Some (Some (Object (with_fields puts [])))
all-some [] h = absurd (true≢false h)
all-some (put ∷ puts) h = by put.after refl (all-some puts)
  where
    by : (after : Option Value) → put.after ≡ after → (nothing_put puts ≡ false → placed_all puts None ≡ Some (Some (Object (with_fields puts [])))) → placed_all (put ∷ puts) None ≡ Some (Some (Object (with_fields (put ∷ puts) [])))
    by None e rest = simp e (rest (simp e at h))
    by (Some value) e rest = simp e (all-Object puts (with_field put.part (Some value) []))

pub all-closed : (puts : List Put) (value : Value) → is_object value ≡ false → placed_all puts (Some value) ≡ if nothing_put puts then Some (Some value) else None
all-closed [] value closed = refl
all-closed (put ∷ puts) value closed = by put.after refl (all-closed puts value closed)
  where
    by : (after : Option Value) → put.after ≡ after → placed_all puts (Some value) ≡ (if nothing_put puts then Some (Some value) else None) → placed_all (put ∷ puts) (Some value) ≡ if nothing_put (put ∷ puts) then Some (Some value) else None
    by None e rest = simp (e, placed-closed put.part value closed) rest
    by (Some after) e rest = simp (e, placed-unfit put.part value after closed)
