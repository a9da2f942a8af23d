use Rattle.store_laws.proofs.views.Graphs.{gathered_ready, gathered_clean, gathered_picked}
use Rattle.store_laws.proofs.gathering.gathering_the_ready.Goals as goal

pub returns : goal.returns
returns c = record {
  ready = λ view g gathered scanned. gathered_ready gathered scanned;
  clean = λ view g gathered scanned. gathered_clean gathered scanned;
  picked = λ view g v. gathered_picked v;
}
