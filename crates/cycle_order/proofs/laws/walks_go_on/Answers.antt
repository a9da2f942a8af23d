use Rattle.std.proofs.lemmas.Bool.{cases_eq}
use Rattle.txn_record.proofs.WalkLaws.{join}
use Rattle.cycle_order.proofs.GraphLaws.{walks_with_edges}
use Rattle.cycle_order.proofs.MoreWalks.{leads_cut}
use Rattle.cycle_order.proofs.laws.walks_go_on.Goals as goal

pub returns : goal.returns
returns c = record {
  joined = λ graph. join;
  kept = walks_with_edges;
  cut = λ graph x a v walk. leads_cut x (λ u. cases_eq u x) a v walk;
}
