use Rattle.txn_record.proofs.OrderLaws.{after-push, legal-push}
use Rattle.txn_record.proofs.laws.orders_grow.Goals as goal

pub returns : goal.returns
returns c = record { after = after-push; legal = legal-push }
