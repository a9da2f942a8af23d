use Rattle.std.proofs.Common.{◌≡◌, drop, map}
use Rattle.std.specs.List.{list_all}
use Rattle.doc_update.specs.Changes.{change_of}
use Rattle.doc_apply.specs.Fit.{change_is_good}
use Rattle.doc_apply.proofs.fitting.changes_fit.Given as goal

abbrev pub invariant-loop-field : goal.invariant-loop-field
invariant-loop-field l = list_all (change_is_good l.body) (map (change_of l.operator) (drop l.field-index l.fields)) ≡ list_all (change_is_good l.body) (map (change_of l.operator) l.fields)
