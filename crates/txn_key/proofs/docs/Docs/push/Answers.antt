use Rattle.txn_key.proofs.DocLists.{sorted_after, map_after}
use Rattle.txn_key.proofs.docs.Docs.push.Goals as goal

pub invariant_of-self : goal.invariant_of-self
invariant_of-self c = sorted_after c.push.result _ _ c.args.doc _ c.push.ensures.ok c.push.ensures.err c.self.invariant c.self.view_is c.requires

pub returns-clause-ok : goal.returns-clause-ok
returns-clause-ok c = map_after c.push.result _ _ c.args.doc _ c.push.ensures.ok c.self.invariant c.self.view_is c.requires
