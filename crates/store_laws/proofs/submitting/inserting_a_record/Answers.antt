use Rattle.store_laws.proofs.steps.RecordEdits.{insert_quiet}
use Rattle.store_laws.proofs.submitting.inserting_a_record.Goals as goal

pub returns : goal.returns
returns c = insert_quiet
