use Rattle.std.proofs.Common.{rules}
use Rattle.doc_query.proofs.Levels.{fault_at_object}
use Rattle.doc_query.proofs.reading.check_query.Goals as goal

pub returns-in-Object : goal.returns-in-Object
returns-in-Object c = rw (c.in-Object.is, fault_at_object) (search rules)
