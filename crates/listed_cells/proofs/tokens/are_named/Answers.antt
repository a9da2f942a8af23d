use Rattle.std.proofs.Common.{[], sym, true≢false, ◌∙◌}
use Rattle.txn_key.specs.declared.id.Token.{Token}
use Rattle.store_laws.specs.View.{look}
use Rattle.listed_cells.specs.Listing.{content_of}
use Rattle.listed_cells.proofs.TokenSets.{in_at, named_past}
use Rattle.listed_cells.proofs.tokens.are_named.Goals as goal

abbrev none : Token
none = record { id = record { 0 = [] }; nonce = 0 }

pub returns-then-not-has_key : goal.returns-then-not-has_key
returns-then-not-has_key c = (
  λ e. absurd (true≢false (sym e)),
  λ all. absurd (true≢false (sym (c.has_key.ensures.1 (all _ (in_at c.args.queue.now c.loop-token.token-index none c.loop-token-test.true))) ∙ c.if-not-has_key.true)),
)

pub loop-token-preserved : goal.loop-token-preserved
loop-token-preserved c = λ rest.
    c.loop-token.invariant (named_past (look (content_of c.args.cells.now)) c.args.key.now c.args.queue.now c.loop-token.token-index none c.loop-token-test.true (c.has_key.ensures.0 c.if-not-has_key.false) rest)
