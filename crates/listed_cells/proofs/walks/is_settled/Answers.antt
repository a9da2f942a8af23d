use Rattle.std.proofs.Common.{sym, ◌∙◌}
use Rattle.listed_cells.proofs.Lookups.{settled_by}
use Rattle.listed_cells.proofs.walks.is_settled.Goals as goal

pub returns-in-Some : goal.returns-in-Some
returns-in-Some c = c.is_settled.ensures ∙ sym (settled_by _ _ _ (rw c.in-Some.is at c.record_at.ensures))

pub returns-in-None : goal.returns-in-None
returns-in-None c = sym (settled_by _ _ _ (rw c.in-None.is at c.record_at.ensures))
