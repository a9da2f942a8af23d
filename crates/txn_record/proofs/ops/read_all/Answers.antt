use Rattle.std.proofs.Common.{◌+◌, List, [], ◌∷◌, length, drop, ap, ◌∙◌, subst, sym, arith, length-append}
use Rattle.std.specs.List.{All}
use Rattle.std.proofs.lemmas.List.Elements.{All-push}
use Rattle.txn_record.specs.Syntax.{ops_from}
use Rattle.txn_record.specs.Transactions.{IsSoundOp}
use Rattle.txn_record.specs.declared.op.Op.{Op}
use Rattle.txn_record.proofs.ReadingLaws.{after_those, after_next}
use Rattle.txn_record.proofs.ops.read_all.Goals as goal

pub loop-value-preserved : goal.loop-value-preserved
loop-value-preserved c =
    let loop = c.loop-value in
    let pushed = c.in_ok-push.ensures.ok in
    let read = c.in_ok-read_numbered.ensures in
    record {
      exact = ap (λ (ops : List Op). after_those ops (ops_from (loop.op + 1) (drop (loop.value-index + 1) c.args.values.now))) pushed
          ∙ after_next c.args.values.now loop.value-index loop.list loop.op c.value-item.result c.in_ok-read_numbered.field-0 (omega arith) c.value-item.is (read.exact (λ h. cc h)) ∙ loop.invariant.exact;
      sound = subst (All IsSoundOp) (sym pushed) (All-push IsSoundOp loop.list c.in_ok-read_numbered.field-0 loop.invariant.sound read.sound);
      number = ap (λ n. n + 1) loop.invariant.number;
      count = ap length pushed ∙ omega (arith, length-append loop.list (c.in_ok-read_numbered.field-0 ∷ []), loop.invariant.count);
    }
