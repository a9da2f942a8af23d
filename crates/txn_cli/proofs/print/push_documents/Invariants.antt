use Rattle.std.proofs.Common.{◌≡◌, ◌++◌, drop}
use Rattle.std.specs.List.{flat_map}
use Rattle.txn_key.specs.Documents.{pairs_of}
use Rattle.txn_script.specs.Texts.{document_line}
use Rattle.txn_cli.proofs.print.push_documents.Given as goal

abbrev pub invariant-loop-doc : goal.invariant-loop-doc
invariant-loop-doc l = l.lines.items ++ flat_map document_line (pairs_of (drop l.doc-index l.docs)) ≡ l.fn.lines.items ++ flat_map document_line (pairs_of l.docs)
