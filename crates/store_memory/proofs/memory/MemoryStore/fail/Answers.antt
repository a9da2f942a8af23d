use Rattle.std.proofs.Common.{subst, arith}
use Rattle.store_memory.specs.Told.{IsWithinCounts}
use Rattle.store_memory.proofs.Keeping.{kept_later}
use Rattle.store_memory.proofs.memory.MemoryStore.fail.Goals as goal

pub invariant_of-self : goal.invariant_of-self
invariant_of-self c = kept_later c.self.inside.cells.items c.self.inside.log.items c.self.inside.fails.items c.self.inside.calls c.self.inside.faults _ _ c.self.invariant c.counted_failure-self-inside.ensures.later (omega (arith, c.saturating_add-self-inside.ensures))

pub returns-clause-counted : goal.returns-clause-counted
returns-clause-counted c = subst IsWithinCounts c.self.view_is c.self.invariant.counted
