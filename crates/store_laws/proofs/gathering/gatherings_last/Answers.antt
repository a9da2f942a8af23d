use Rattle.store_laws.proofs.views.Graphs.{gathered_later, followed_later, scanned_later, followed_more, scanned_more}
use Rattle.store_laws.proofs.views.Orderly.{orderly}
use Rattle.store_laws.proofs.gathering.gatherings_last.Goals as goal

pub returns : goal.returns
returns c = record {
  gathered = λ c d g sound later. gathered_later (orderly c sound) later;
  followed = λ c d g x id later. followed_later later.back x id;
  scanned = λ c d g id key later. scanned_later later.back id key;
  followed_more = λ view g h x id grows. followed_more grows x id;
  scanned_more = λ view g h id key grows. scanned_more grows id key;
}
