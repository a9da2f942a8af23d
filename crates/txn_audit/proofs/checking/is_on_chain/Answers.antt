use Rattle.std.proofs.Common.{refl, sym, ◌∙◌}
use Rattle.txn_audit.proofs.CellRules.{chain_tells, chain_idle}
use Rattle.txn_audit.proofs.checking.is_on_chain.Goals as goal

pub returns-in-Record : goal.returns-in-Record
returns-in-Record c = chain_tells _ _ _ c.requires.there c.in-Record.is _ (sym c.is_applying.ensures ∙ c.if-is_applying.true) c.stands_on_chain.ensures

pub returns-in_default : goal.returns-in_default
returns-in_default c = (λ h. chain_idle _ _ _ c.requires.there c.in-Record.is (sym c.is_applying.ensures ∙ c.if-is_applying.false), λ h. refl)
