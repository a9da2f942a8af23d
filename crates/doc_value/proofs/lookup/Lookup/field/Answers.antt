use Rattle.std.proofs.Common.{sym, ap, ◌∙◌}
use Rattle.std.specs.Option.{option_copied}
use Rattle.doc_value.specs.Order.{is_ordered}
use Rattle.doc_value.proofs.OrderedNames.{field-ordered}
use Rattle.doc_value.proofs.lookup.Lookup.field.Goals as goal

-- a field of what is in order is in order
pub invariant_of-result : goal.invariant_of-result
invariant_of-result c = λ h.
    field-ordered c.args.name.now c.args.self.now c.in_ok-value.value.now (ap is_ordered (sym c.self.view_is) ∙ c.self.invariant h) (sym c.find.ensures ∙ ap option_copied c.in_ok-value.was)
