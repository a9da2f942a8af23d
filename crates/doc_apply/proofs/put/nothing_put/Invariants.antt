use Rattle.std.proofs.Common.{◌≡◌, drop}
use Rattle.doc_apply.specs.Puts.{nothing_put}
use Rattle.doc_apply.proofs.put.nothing_put.Given as goal

abbrev pub invariant-loop-put : goal.invariant-loop-put
invariant-loop-put l = nothing_put (drop l.put-index l.puts) ≡ nothing_put l.puts
