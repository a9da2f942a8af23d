use Rattle.store_memory.proofs.Keeping.{kept_new}
use Rattle.store_memory.proofs.memory.MemoryStore.new.Goals as goal

pub invariant_of-result : goal.invariant_of-result
invariant_of-result c = kept_new _ _ c.args.fails.items c.new.ensures.items c.new-2.ensures.items
