use Rattle.std.proofs.Common.{◌≡◌, ℕ, suc, ◌-◌, ◌<◌, nat_lt, map, ap, sym, ◌∙◌, arith}
use Rattle.std.proofs.lemmas.Bool.Decides.{nat_tests}
use Rattle.doc_value.specs.Fields.{judged}
use Rattle.doc_value.specs.Depth.{nesting, deepest_field}
use Rattle.doc_value.proofs.Levels.{nesting-Object}
use Rattle.doc_value.proofs.nesting.+nesting.Goals as goal

one_level : (limit depth : ℕ) → 0 < limit → nat_lt (limit - 1) depth ≡ nat_lt limit (suc depth)
one_level limit depth some = grind (arith, nat_tests)

pub is_deeper-returns-else-limit-eq0-2 : goal.is_deeper-returns-else-limit-eq0-2
is_deeper-returns-else-limit-eq0-2 t c =
    c.some_field_is_deeper.ensures ∙ ap (λ fields. nat_lt (c.args.limit - 1) (deepest_field (map (judged nesting) fields))) c.as_slice-else-limit-eq0-2.ensures
    ∙ one_level c.args.limit _ (omega arith) ∙ ap (nat_lt c.args.limit) (sym (nesting-Object c.in-Object.fields)) ∙ ap (λ v. nat_lt c.args.limit (nesting v)) (sym c.in-Object.is)
