use Rattle.std.proofs.Common.{sym, ◌∙◌}
use Rattle.listed_cells.proofs.Lookups.{nonce_by, nonce_of_preparing, valid_by, never_valid}
use Rattle.listed_cells.proofs.walks.is_valid.Goals as goal

pub returns-then-is_decided : goal.returns-then-is_decided
returns-then-is_decided c = rw c.eq.ensures (valid_by _ _ _ _ (rw c.in-Some.is at c.record_at.ensures) (sym c.is_decided.ensures ∙ c.if-is_decided.true))

pub returns-else-is_decided : goal.returns-else-is_decided
returns-else-is_decided c =
    rw c.if-is_decided.false (never_valid _ _ _ (nonce_of_preparing _ _ _ (rw c.in-Some.is at c.record_at.ensures) (sym c.is_decided.ensures ∙ c.if-is_decided.false)))

pub returns-in-None : goal.returns-in-None
returns-in-None c = never_valid _ _ _ (nonce_by _ _ _ (rw c.in-None.is at c.record_at.ensures))
