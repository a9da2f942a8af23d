use Rattle.std.proofs.Common.{[], refl, sym, true≢false}
use Rattle.txn_key.specs.declared.id.Token.{Token}
use Rattle.listed_cells.proofs.TokenSets.{seen_next, seen_twice, seen_all}
use Rattle.listed_cells.proofs.tokens.stand_once.Goals as goal

abbrev none : Token
none = record { id = record { 0 = [] }; nonce = 0 }

pub returns-then-not-is_new : goal.returns-then-not-is_new
returns-then-not-is_new c = (
  λ e. absurd (true≢false (sym e)),
  λ once. absurd (seen_twice c.loop-token.seen c.args.queue.now c.loop-token.token-index none c.loop-token-test.true c.loop-token.invariant c.in_ok-is_new.is_new c.in_ok-is_new.ensures.added c.if-not-is_new.true once),
)

pub loop-token-preserved : goal.loop-token-preserved
loop-token-preserved c =
    seen_next c.loop-token.seen c.args.queue.now c.loop-token.token-index none c.loop-token-test.true c.loop-token.invariant c.in_ok-is_new.is_new c.in_ok-is_new.ensures.added c.insert.new.self c.if-not-is_new.false
    (λ q. c.in_ok-is_new.ensures.updates.0 q)

pub returns : goal.returns
returns c = (λ t. seen_all c.loop-token.seen c.args.queue.now c.loop-token.token-index c.loop-token-test.false c.loop-token.invariant, λ once. refl)
