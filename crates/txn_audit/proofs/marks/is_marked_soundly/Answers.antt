use Rattle.std.specs.Option.{option_copied}
use Rattle.txn_audit.proofs.MarkTests.{doc_mark_tested, stash_mark_tested}
use Rattle.txn_audit.proofs.marks.is_marked_soundly.Goals as goal
use Rattle.listed_cells.specs.Listing.{content_of}

pub returns-in-Doc : goal.returns-in-Doc
returns-in-Doc c =
    doc_mark_tested (content_of c.args.cells.now) c.in-Doc.key c.is_mark_if_owner.result c.args.at.now (option_copied c.doc_at.result) c.doc_mark.result
    c.in-Doc.is c.doc_at.ensures c.doc_mark.ensures c.is_mark_if_owner.ensures

pub returns-in-Stash : goal.returns-in-Stash
returns-in-Stash c =
    stash_mark_tested (content_of c.args.cells.now) c.in-Stash.key c.is_mark_if_owner-in-Stash.result c.args.at.now (option_copied c.stash_at.result) c.stash_mark.result
    c.in-Stash.is c.stash_at.ensures c.stash_mark.ensures c.is_mark_if_owner-in-Stash.ensures
