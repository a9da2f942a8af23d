use Rattle.store_laws.proofs.views.Graphs.{scanned_from, scanned_own}
use Rattle.store_laws.proofs.views.Orderly.{orderly}
use Rattle.store_laws.proofs.gathering.scanning_own_keys.Goals as goal

pub returns : goal.returns
returns c = record {
  listed = λ view g id key found. scanned_from id key found;
  own = λ c g id sound. scanned_own (orderly c sound) id;
}
