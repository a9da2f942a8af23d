use Rattle.std.proofs.lemmas.Result.{IfOk-weaker}
use Rattle.txn_audit.proofs.CellRules.{tokens_tell, by_number}
use Rattle.txn_audit.proofs.checking.holds.Goals as goal

pub returns-in-2 : goal.returns-in-2
returns-in-2 c =
    IfOk-weaker c.has_tokens.result _ _ (λ b tells. by_number _ c.args.named.now b _ 2 c.in-2.is (tokens_tell _ _ b c.requires.there tells)) c.has_tokens.ensures

pub returns-in-5 : goal.returns-in-5
returns-in-5 c = IfOk-weaker c.applies_ready.result _ _ (λ b tells. by_number _ c.args.named.now b _ 5 c.in-5.is tells) c.applies_ready.ensures
