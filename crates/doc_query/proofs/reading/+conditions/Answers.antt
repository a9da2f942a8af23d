use Rattle.doc_query.proofs.Levels.{fault_at_object}
use Rattle.doc_query.proofs.reading.+conditions.Goals as goal

pub check_negated-returns-in-Object : goal.check_negated-returns-in-Object
check_negated-returns-in-Object t c = rw (c.in-Object.is, fault_at_object, ← c.as_slice.ensures) c.check_negated_fields.ensures
