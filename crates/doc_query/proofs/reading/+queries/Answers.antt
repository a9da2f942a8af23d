use Rattle.doc_query.proofs.Levels.{fault_at_object, fault_at_list}
use Rattle.doc_query.proofs.reading.+queries.Goals as goal

pub check_queries-returns-in-List : goal.check_queries-returns-in-List
check_queries-returns-in-List t c = rw (c.in-List.is, fault_at_list, ← c.as_slice.ensures) c.check_members.ensures

pub check_member-returns-in-Object : goal.check_member-returns-in-Object
check_member-returns-in-Object t c = rw (c.in-Object.is, fault_at_object, ← c.as_slice.ensures) c.check_names.ensures
