use Rattle.std.proofs.Common.{◌≡◌, take}
use Rattle.txn_key.proofs.docs.Docs.copy.Given as goal

abbrev pub invariant-loop-doc : goal.invariant-loop-doc
invariant-loop-doc l = l.list ≡ take l.doc-index l.docs
