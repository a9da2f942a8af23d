use Rattle.std.proofs.Common.{arith, subst}
use Rattle.txn_audit.specs.Checks.{IsFirstPlace}
use Rattle.txn_audit.specs.Flaws.{rule_of}
use Rattle.txn_audit.proofs.CellRules.{none_below, first_broken, one_more, holds_everywhere}
use Rattle.txn_audit.proofs.checking.first_flaw.Goals as goal

pub loop-number-init : goal.loop-number-init
loop-number-init c = (omega arith, none_below _)

pub returns-in-Some : goal.returns-in-Some
returns-in-Some c =
    let failed = subst (IsFirstPlace (rule_of c.loop-number.number) c.args.cells.now) c.in-Some.is c.in_ok-place.ensures in
    (failed.within, first_broken _ c.requires.listed _ _ c.loop-number.invariant.0 c.loop-number-test.true c.loop-number.invariant.1 failed)

pub loop-number-preserved : goal.loop-number-preserved
loop-number-preserved c =
    let held = subst (IsFirstPlace (rule_of c.loop-number.number) c.args.cells.now) c.in_default.is c.in_ok-place.ensures in
    (omega arith, one_more _ _ c.loop-number.invariant.0 c.loop-number-test.true c.loop-number.invariant.1 (holds_everywhere _ c.requires.listed _ held))

pub returns : goal.returns
returns c = λ rule below. c.loop-number.invariant.1 rule (let past = c.loop-number-test.false in omega arith)
