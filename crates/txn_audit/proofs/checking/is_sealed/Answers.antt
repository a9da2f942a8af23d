use Rattle.std.proofs.Common.{refl, sym, ◌∙◌}
use Rattle.txn_audit.proofs.CellRules.{record_stands, sealed_tells, sealed_idle}
use Rattle.txn_audit.proofs.checking.is_sealed.Goals as goal

pub is_sealed-requires-clause-there : goal.is_sealed-requires-clause-there
is_sealed-requires-clause-there c = record_stands _ _ _ c.requires.there c.in-Record.is

pub returns-in-Record : goal.returns-in-Record
returns-in-Record c = sealed_tells _ _ _ c.requires.there c.in-Record.is _ (sym c.is_past_prepared.ensures ∙ c.if-is_past_prepared.true) c.is_sealed.ensures

pub returns-in_default : goal.returns-in_default
returns-in_default c = (λ h. sealed_idle _ _ _ c.requires.there c.in-Record.is (sym c.is_past_prepared.ensures ∙ c.if-is_past_prepared.false), λ h. refl)
