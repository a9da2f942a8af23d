use Rattle.std.proofs.Common.{◌∙◌, ap, List}
use Rattle.std.specs.FinMap.{from_sorted}
use Rattle.txn_key.proofs.SortedEntries.{from_sorted-nil}
use Rattle.txn_key.specs.Documents.{pairs_of}
use Rattle.txn_key.specs.Keys.{key_cmp}
use Rattle.txn_key.specs.declared.docs.Doc.{Doc}
use Rattle.txn_key.proofs.docs.Docs.new.Goals as goal

pub returns : goal.returns
returns c = ap (λ (docs : List Doc). from_sorted {R = key_cmp} (pairs_of docs)) c.new.ensures ∙ from_sorted-nil key_cmp
