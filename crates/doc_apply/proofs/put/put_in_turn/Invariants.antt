use Rattle.std.proofs.Common.{◌≡◌, drop, length}
use Rattle.doc_apply.specs.Puts.{with_fields}
use Rattle.doc_apply.proofs.put.put_in_turn.Given as goal

abbrev pub invariant-loop-put : goal.invariant-loop-put
invariant-loop-put l = with_fields (drop (length l.yielded) l.fn.puts.items) l.made ≡ with_fields l.fn.puts.items l.fn.fields
