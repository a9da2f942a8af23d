use Rattle.std.proofs.Common.{◌∙◌, ap, sym}
use Rattle.std.specs.FinMap.{entries}
use Rattle.txn_key.proofs.SortedEntries.{entries_of_sorted}
use Rattle.txn_key.specs.Documents.{pairs_of}
use Rattle.txn_key.specs.Keys.{key_cmp}
use Rattle.txn_key.proofs.docs.Docs.as_slice.Goals as goal

pub returns : goal.returns
returns c =
    ap pairs_of c.as_slice.ensures
    ∙ sym (entries_of_sorted key_cmp (pairs_of c.self.inside.list) c.self.invariant)
    ∙ ap entries c.self.view_is
