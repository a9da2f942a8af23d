use Rattle.std.proofs.Common.{◌≡◌, ◌+◌, drop}
use Rattle.doc_apply.specs.Puts.{count_below}
use Rattle.doc_apply.proofs.put.count_below.Given as goal

abbrev pub invariant-loop-field : goal.invariant-loop-field
invariant-loop-field l = record { count : l.count + count_below l.name (drop l.field-index l.fields) ≡ count_below l.name l.fields; so_far : l.count ≡ l.field-index }
