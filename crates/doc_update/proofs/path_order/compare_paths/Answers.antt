use Rattle.std.proofs.Common.{◌≡◌, ℕ, ◌<◌, List, [], ◌∷◌, length, drop, refl, sym, ◌∙◌, arith, length-drop}
use Rattle.std.proofs.lemmas.List.{at_drop_all}
use Rattle.std.specs.Cmp.Lexicographic.{slice_cmp}
use Rattle.std.specs.Ordering.{nat_cmp}
use Rattle.std.specs.declared.cmp.Ordering.{Ordering}
use Rattle.std.specs.declared.cmp.Ordering.TheVariants.{Less, Greater}
use Rattle.doc_update.proofs.path_order.compare_paths.Goals as goal

abbrev order : List (List ℕ) → List (List ℕ) → Ordering
order = slice_cmp (slice_cmp nat_cmp)

longer : (parts : List (List ℕ)) → 0 < length parts → order parts [] ≡ Greater
longer [] h = absurd (omega arith)
longer (part ∷ parts) h = refl

shorter : (others : List (List ℕ)) → 0 < length others → order [] others ≡ Less
shorter [] h = absurd (omega arith)
shorter (other ∷ others) h = refl

pub returns-then-i-others : goal.returns-then-i-others
returns-then-i-others c =
    let i = c.loop-i.i in
    let parts = c.args.parts.now in
    let left : 0 < length (drop i parts) = omega (arith, length-drop i parts) in
    let ended = at_drop_all (order (drop i parts)) c.args.others.now i (omega arith) in
    sym (longer (drop i parts) left) ∙ sym ended ∙ c.loop-i.invariant.here

pub returns-else-parts-others : goal.returns-else-parts-others
returns-else-parts-others c =
    let i = c.loop-i.i in
    let others = c.args.others.now in
    let left : 0 < length (drop i others) = omega (arith, length-drop i others) in
    let ended = at_drop_all (λ parts. order parts (drop i others)) c.args.parts.now i (omega arith) in
    sym (shorter (drop i others) left) ∙ sym ended ∙ c.loop-i.invariant.here
