use Rattle.std.proofs.Common.{◌≡◌, map, drop}
use Rattle.doc_value.specs.Fields.{judged}
use Rattle.doc_query.specs.Meaning.{names_hold, every_holds, some_holds, beside_meaning}
use Rattle.doc_query.proofs.matching.+meaning.Given as goal

abbrev pub invariant-each_name_holds-loop-field : goal.invariant-each_name_holds-loop-field
invariant-each_name_holds-loop-field l = names_hold (map (judged beside_meaning) (drop l.field-index l.fields)) l.body ≡ names_hold (map (judged beside_meaning) l.fields) l.body

abbrev pub invariant-each_holds-loop-query : goal.invariant-each_holds-loop-query
invariant-each_holds-loop-query l = every_holds (map beside_meaning (drop l.query-index l.queries)) l.body ≡ every_holds (map beside_meaning l.queries) l.body

abbrev pub invariant-any_holds-loop-query : goal.invariant-any_holds-loop-query
invariant-any_holds-loop-query l = some_holds (map beside_meaning (drop l.query-index l.queries)) l.body ≡ some_holds (map beside_meaning l.queries) l.body
