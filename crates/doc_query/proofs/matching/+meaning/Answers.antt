use Rattle.std.proofs.Common.{rules}
use Rattle.doc_value.specs.declared.value.Value.{the_lemmas}
use Rattle.doc_query.proofs.Levels.{holds_as_level}
use Rattle.doc_query.proofs.matching.+meaning.Goals as goal

pub query_holds-returns-in-Object : goal.query_holds-returns-in-Object
query_holds-returns-in-Object t c = search (rules, the_lemmas, holds_as_level)

pub all_hold-returns-in-List : goal.all_hold-returns-in-List
all_hold-returns-in-List t c = search (rules, the_lemmas, holds_as_level)

pub some_hold-returns-in-List : goal.some_hold-returns-in-List
some_hold-returns-in-List t c = search (rules, the_lemmas, holds_as_level)
