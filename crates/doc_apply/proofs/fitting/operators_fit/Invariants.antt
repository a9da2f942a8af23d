use Rattle.std.proofs.Common.{◌≡◌, drop}
use Rattle.std.specs.List.{list_all}
use Rattle.doc_update.specs.Changes.{changes_in}
use Rattle.doc_apply.specs.Fit.{change_is_good}
use Rattle.doc_apply.proofs.fitting.operators_fit.Given as goal

abbrev pub invariant-loop-field : goal.invariant-loop-field
invariant-loop-field l = list_all (change_is_good l.body) (changes_in (drop l.field-index l.operators)) ≡ list_all (change_is_good l.body) (changes_in l.operators)
