use Rattle.txn_key.proofs.TokenTexts.{token_of-token_text}
use Rattle.txn_key.proofs.id.tokens_read_back.Goals as goal

pub returns : goal.returns
returns c = token_of-token_text
