use Rattle.std.proofs.Common.{sym, ap, ap₂, ◌∙◌}
use Rattle.std.specs.List.{list_all}
use Rattle.doc_update.specs.Changes.{changes_in, fields_of}
use Rattle.doc_apply.specs.Fit.{change_is_good}
use Rattle.doc_apply.proofs.FitsBody.{fits_shallow}
use Rattle.doc_apply.proofs.fitting.fits.Goals as goal

pub returns-then-not-is_deeper_than : goal.returns-then-not-is_deeper_than
returns-then-not-is_deeper_than c =
    c.operators_fit.ensures ∙ ap₂ (λ body operators. list_all (change_is_good body) (changes_in operators)) c.halving.ensures (c.fields_of.ensures ∙ ap fields_of c.source.ensures.value)
    ∙ sym (fits_shallow c.args.update.now c.args.body.now (c.source.ensures.update) (sym c.is_deeper_than.ensures ∙ c.if-not-is_deeper_than.true))
