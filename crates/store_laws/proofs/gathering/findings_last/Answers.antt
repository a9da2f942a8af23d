use Rattle.store_laws.proofs.views.Finding.{found_later, found_edge, listed_later, missing_listed, missing_settled}
use Rattle.store_laws.proofs.views.Orderly.{orderly}
use Rattle.store_laws.proofs.gathering.findings_last.Goals as goal

pub returns : goal.returns
returns c = record {
  found = λ c d key x id sound later. found_later (orderly c sound) later key x id;
  edge = λ view key x id. found_edge key x id;
  listed = λ c d key id found later. listed_later later.back key id found;
  missing = λ c key id nonce sound has valid missing. (missing_listed key id nonce valid missing, missing_settled (orderly c sound) key id nonce has valid missing);
}
