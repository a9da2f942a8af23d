use Rattle.std.proofs.Common.{[]}
use Rattle.txn_key.specs.declared.id.Token.{Token}
use Rattle.listed_cells.proofs.Waiting.{set_next, set_all}
use Rattle.listed_cells.proofs.standing.set_of.Goals as goal

abbrev none : Token
none = record { id = record { 0 = [] }; nonce = 0 }

pub loop-token-preserved : goal.loop-token-preserved
loop-token-preserved c =
    set_next c.loop-token.tokens c.insert.new.self c.args.queue.now c.loop-token.token-index none c.loop-token-test.true c.loop-token.invariant (λ q. c.in_ok-insert.ensures.updates.0 q)

pub returns : goal.returns
returns c = set_all _ _ _ c.loop-token-test.false c.loop-token.invariant
