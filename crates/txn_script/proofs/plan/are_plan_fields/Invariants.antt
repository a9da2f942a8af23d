use Rattle.std.proofs.Common.{◌≡◌, drop}
use Rattle.std.specs.List.{list_all}
use Rattle.txn_script.specs.Plans.{is_plan_name}
use Rattle.txn_script.proofs.plan.are_plan_fields.Given as goal

abbrev pub invariant-loop-field : goal.invariant-loop-field
invariant-loop-field l = list_all (λ field. is_plan_name field.name) (drop l.field-index l.fields) ≡ list_all (λ field. is_plan_name field.name) l.fields
