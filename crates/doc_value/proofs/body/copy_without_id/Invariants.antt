use Rattle.std.proofs.Common.{◌≡◌, ◌++◌, drop}
use Rattle.doc_value.specs.Bodies.{without_id}
use Rattle.doc_value.proofs.body.copy_without_id.Given as goal

abbrev pub invariant-loop-field : goal.invariant-loop-field
invariant-loop-field l = l.kept ++ without_id (drop l.field-index l.fields) ≡ without_id l.fields
