use Rattle.txn_audit.proofs.CellRules.{record_stands, queues_tell}
use Rattle.txn_audit.proofs.checking.is_in_queues.Goals as goal

pub is_in_queues-requires-clause-there : goal.is_in_queues-requires-clause-there
is_in_queues-requires-clause-there c = record_stands _ _ _ c.requires.there c.in-Record.is

pub returns-in-Record : goal.returns-in-Record
returns-in-Record c = queues_tell _ _ _ c.requires.there c.in-Record.is _ c.is_in_queues.ensures
