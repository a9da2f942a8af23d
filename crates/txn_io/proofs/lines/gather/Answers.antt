use Rattle.std.proofs.Common.{rules, arith}
use Rattle.std.proofs.lemmas.Grind.{common_steps}
use Rattle.std.proofs.lemmas.Result.{err_from_is_err_and}
use Rattle.txn_io.proofs.Newlines.{newline, no_newline}
use Rattle.txn_io.proofs.Gathering.{ends_passed, goes_passed, ends_at, goes_on, ungathered}
use Rattle.txn_io.proofs.lines.gather.Goals as goal

pub returns-in_err-check_limits-in-Some-clause-refused :
    goal.returns-in_err-check_limits-in-Some-clause-refused
returns-in_err-check_limits-in-Some-clause-refused c =
    let p = err_from_is_err_and c.from_residual.result c.from_residual.ensures.1 in rw (p.1, p.2)
    (ungathered c.args.taken c.args.line.now.items c.args.ahead.now _ (ends_passed c.args.taken c.len-before.result c.args.line.now.items c.args.ahead.now c.in-Some.count _ (newline _ _ (search rules)) (search rules) (c.in_err-check_limits-in-Some.ensures.passed)))

pub returns-in_err-check_limits-in-None-clause-refused :
    goal.returns-in_err-check_limits-in-None-clause-refused
returns-in_err-check_limits-in-None-clause-refused c =
    let p = err_from_is_err_and c.from_residual-in_err-check_limits-in-None.result c.from_residual-in_err-check_limits-in-None.ensures.1 in rw (p.1, p.2)
    (ungathered c.args.taken c.args.line.now.items c.args.ahead.now _ (goes_passed c.args.taken c.len-before.result c.args.line.now.items c.args.ahead.now _ (no_newline _ (search rules)) (search rules) (rw c.bytes-bytes.ensures at c.in_err-check_limits-in-None.ensures.passed)))

pub returns-in_ok-extend_from_slice-in-Some-clause-ends :
    goal.returns-in_ok-extend_from_slice-in-Some-clause-ends
returns-in_ok-extend_from_slice-in-Some-clause-ends c =
    λ _. ends_at c.args.taken c.len-before.result _ _ _ _ c.in-Some.count (newline _ _ (search rules)) (search rules) c.in_ok-check_limits-in-Some.ensures.within (search rules) (search rules)

pub returns-in_ok-extend_from_slice-in-None-clause-goes_on :
    goal.returns-in_ok-extend_from_slice-in-None-clause-goes_on
returns-in_ok-extend_from_slice-in-None-clause-goes_on c =
    λ _. goes_on c.args.taken c.len-before.result _ _ _ _ (no_newline _ (search rules)) (search rules) (rw c.bytes-bytes.ensures at c.in_ok-check_limits-in-None.ensures.within) (search rules) (grind (arith, common_steps))
