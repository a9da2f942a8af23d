use Rattle.std.proofs.Common.{rules, SFits, w64}
use Rattle.std.proofs.lemmas.Int.{to_z-of_z}
use Rattle.txn_audit.proofs.MarkTests.{marking_tested}
use Rattle.txn_audit.proofs.marks.has_marking.Goals as goal

pub returns : goal.returns
returns c =
    let fits : SFits w64 c.args.number = search rules in
    marking_tested c.args.key.now c.args.number c.args.side c.args.ops.now c.args.numbers.now c.some_mark.result (simp to_z-of_z at c.some_mark.ensures)
