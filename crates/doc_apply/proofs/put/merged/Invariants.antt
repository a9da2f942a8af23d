use Rattle.std.proofs.Common.{◌≡◌, ◌++◌, drop, length, true}
use Rattle.doc_apply.specs.Puts.{puts_rise, names_rise, with_fields}
use Rattle.doc_apply.proofs.put.merged.Given as goal

abbrev pub invariant-loop-put : goal.invariant-loop-put
invariant-loop-put l = record { made : l.made ++ with_fields (drop (length l.yielded) l.fn.puts.items) l.rest ≡ with_fields l.fn.puts.items l.fn.fields; puts : puts_rise (drop (length l.yielded) l.fn.puts.items) ≡ true; names : names_rise l.rest ≡ true }
