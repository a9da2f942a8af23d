use Rattle.std.proofs.Common.{refl, sym, ◌∙◌}
use Rattle.std.proofs.lemmas.Result.{IfOk-weaker}
use Rattle.txn_audit.proofs.CellRules.{record_stands, ready_tells, ready_idle}
use Rattle.txn_audit.proofs.checking.applies_ready.Goals as goal

pub is_ready-requires-clause-there : goal.is_ready-requires-clause-there
is_ready-requires-clause-there c = record_stands _ _ _ c.requires.there c.in-Record.is

pub returns-in-Record : goal.returns-in-Record
returns-in-Record c =
    IfOk-weaker c.is_ready.result _ _ (λ b tells. ready_tells _ _ _ c.requires.there c.in-Record.is b (sym c.is_applying.ensures ∙ c.if-is_applying.true) tells) c.is_ready.ensures

pub returns-in_default : goal.returns-in_default
returns-in_default c = (λ h. ready_idle _ _ _ c.requires.there c.in-Record.is (sym c.is_applying.ensures ∙ c.if-is_applying.false), λ h. refl)
