use Rattle.std.proofs.Common.{rules, SFits, w64}
use Rattle.std.proofs.lemmas.Int.{to_z-of_z}
use Rattle.std.specs.Option.{option_copied}
use Rattle.store_laws.specs.View.{look}
use Rattle.txn_audit.proofs.MarkTests.{mark_parts}
use Rattle.txn_audit.proofs.marks.is_mark_of.Goals as goal
use Rattle.listed_cells.specs.Listing.{content_of}
use Rattle.txn_audit.specs.Marks.{is_marking}

pub returns : goal.returns
unfolding look
returns c =
    let fits : SFits w64 c.number_at.result = search rules in
    mark_parts (look (content_of c.args.cells.now)) c.args.key.now c.args.mark.now (is_marking c.args.side) (option_copied c.record_at.result) c.number_at.result c.marks_in.result
    c.record_at.ensures c.number_at.ensures (simp to_z-of_z at c.marks_in.ensures)
