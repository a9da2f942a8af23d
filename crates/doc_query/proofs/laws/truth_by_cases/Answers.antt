use Rattle.doc_query.proofs.Cases.{names_case, every_case, some_case, operators_case}
use Rattle.doc_query.proofs.laws.truth_by_cases.Goals as goal

pub returns : goal.returns
returns c = record { names = names_case; every = every_case; some = some_case; operators = operators_case }
