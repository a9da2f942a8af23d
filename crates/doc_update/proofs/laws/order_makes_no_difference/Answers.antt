use Rattle.doc_update.proofs.Apart.{update_apart}
use Rattle.doc_update.proofs.Reordering.{reordered}
use Rattle.doc_update.proofs.laws.order_makes_no_difference.Goals as goal

pub returns : goal.returns
returns c = record { apart = λ update is. update_apart update is; alike = λ changes others found moved apart. (reordered changes others moved).alike apart found }
