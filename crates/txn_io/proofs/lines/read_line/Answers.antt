use Rattle.std.proofs.Common.{ap, length, rules, sym, ◌∙◌, ◌≡◌, ◌++◌, IsTrue}
use Rattle.std.proofs.lemmas.List.{nil_from_length}
use Rattle.std.proofs.lemmas.Result.{err_from_is_err_and}
use Rattle.txn_io.proofs.Gathering.{none_lost, refused_there, rose_since, filled, unfilled}
use Rattle.txn_io.proofs.lines.read_line.Goals as goal
use Rattle.txn_io.proofs.lines.read_line.Goals.{then-is_empty+in-Ok, else-is_empty}

pub returns-in-Err-clause-refused : goal.returns-in-Err-clause-refused
returns-in-Err-clause-refused g c = record {
  rose = rose_since _ _ _ c.loop-ahead.invariant.same c.in-Err.ensures.cause.rose;
  part = λ told. none_lost _ _ c.loop-ahead.ahead _ c.fill.new.self _ (c.loop-ahead.invariant.so_far told) (nil_from_length _ (ap length (sym c.bytes.ensures) ∙ (search rules))) (c.fill.ensures.bytes told) c.in-Err.ensures.err;
}

pub returns-in_err-gather-clause-refused : goal.returns-in_err-gather-clause-refused
returns-in_err-gather-clause-refused g c =
    let p = err_from_is_err_and c.from_residual.result c.from_residual.ensures.1 in
    let left = c.loop-ahead.ahead ++ g.S.Source.rest c.loop-ahead.source in
    let whole : IsTrue g.S.Source.tells → c.if-is_empty.ahead ++ g.S.Source.rest c.if-is_empty.source ≡ left = λ told.
    elim c.if-is_empty.branch [
      | then-is_empty+in-Ok w ↦ filled g.S.Source.rest _ _ _ _ _ _ w.ahead-is w.source-is (w.in-Ok.ensures.bytes told) (nil_from_length _ (ap length (sym c.bytes.ensures) ∙ (search rules)))
      | else-is_empty w ↦ unfilled g.S.Source.rest _ _ _ _ w.ahead-is w.source-is
    ] in
    rw (p.1, p.2) (refused_there g.S.Source c.args.source.now _ _ c.loop-ahead.taken c.loop-ahead.line.items c.if-is_empty.ahead _ left _ c.loop-ahead.invariant.so_far whole c.loop-ahead.invariant.taken_is c.in_err-gather.ensures.refused)
