use Rattle.std.proofs.Common.{arith, below_more, sym, ◌∙◌}
use Rattle.std.proofs.lemmas.Bool.{false≢true}
use Rattle.txn_audit.proofs.CellRules.{listed_cell, holds_at, fails_first}
use Rattle.txn_audit.proofs.checking.first_place.Goals as goal

pub loop-place-init : goal.loop-place-init
loop-place-init c = λ k below. absurd (omega arith)

pub holds-requires-clause-there : goal.holds-requires-clause-there
holds-requires-clause-there c = listed_cell _ c.requires.listed _ _ c.loop-place-test.true c.index-cells-place.is

pub returns-then-not-branch : goal.returns-then-not-branch
returns-then-not-branch c =
    fails_first _ _ _ _ c.loop-place-test.true c.index-cells-place.is (λ h. false≢true (sym c.if-not-branch.true ∙ c.in_ok-holds.ensures.1 h)) c.loop-place.invariant

pub loop-place-preserved : goal.loop-place-preserved
loop-place-preserved c =
    below_more _ _ c.loop-place.invariant (holds_at _ _ _ _ c.loop-place-test.true c.index-cells-place.is (c.in_ok-holds.ensures.0 c.if-not-branch.false))

pub returns : goal.returns
returns c = λ k within. c.loop-place.invariant k (let past = c.loop-place-test.false in omega arith)
