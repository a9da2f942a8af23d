use Rattle.std.proofs.Common.{rules}
use Rattle.doc_value.specs.declared.value.Value.{the_lemmas}
use Rattle.doc_query.proofs.Levels.{passes_all_level}
use Rattle.doc_query.proofs.condition.+passing.Goals as goal

pub all_operators_pass-returns-in-Object : goal.all_operators_pass-returns-in-Object
all_operators_pass-returns-in-Object t c = search (rules, the_lemmas, passes_all_level)
