use Rattle.store_memory.proofs.CallLaws.{edit_extends, edit_made, answer_kind, edit_failed, edit_refused, counts_on}
use Rattle.store_memory.proofs.store.MemoryStoreStore.edit.Goals as goal

pub returns-clause-made : goal.returns-clause-made
returns-clause-made c = edit_made c.args.self.now _ c.args.name.now c.args.edit.now c.make.result c.make.ensures.done c.make.ensures.call

pub returns-clause-failed : goal.returns-clause-failed
returns-clause-failed c = edit_failed c.args.self.now _ c.args.name.now c.args.edit.now c.make.result c.make.ensures.call

pub returns-clause-refused : goal.returns-clause-refused
returns-clause-refused c = edit_refused c.args.self.now _ c.args.name.now c.args.edit.now c.make.result c.make.ensures.call

pub returns-clause-kind : goal.returns-clause-kind
returns-clause-kind c = answer_kind c.args.self.now _ c.args.name.now c.args.edit.now c.make.result c.make.ensures.done

pub returns-clause-answered : goal.returns-clause-answered
returns-clause-answered c = (edit_made c.args.self.now _ c.args.name.now c.args.edit.now c.make.result c.make.ensures.done c.make.ensures.call, c.make.ensures.call)

pub returns-clause-trail : goal.returns-clause-trail
returns-clause-trail c = edit_extends c.args.self.now _ c.args.name.now c.args.edit.now c.make.result c.make.ensures.call

pub returns-clause-counted : goal.returns-clause-counted
returns-clause-counted c = counts_on _ _ _ c.make.result c.make.ensures.call
