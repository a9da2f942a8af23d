use Rattle.store_memory.proofs.CallLaws.{reads_extend, reads_same, counts_on}
use Rattle.store_memory.proofs.store.MemoryStoreStore.read.Goals as goal

pub returns-clause-same : goal.returns-clause-same
returns-clause-same c = reads_same _ _ c.find.result c.find.ensures.call

pub returns-clause-answered : goal.returns-clause-answered
returns-clause-answered c = (c.find.ensures.found, c.find.ensures.call)

pub returns-clause-trail : goal.returns-clause-trail
returns-clause-trail c = reads_extend _ _ c.find.result c.find.ensures.call

pub returns-clause-counted : goal.returns-clause-counted
returns-clause-counted c = counts_on _ _ _ c.find.result c.find.ensures.call
