use Rattle.std.proofs.Common.{◌≡◌, length, drop}
use Rattle.store_laws.specs.View.{look}
use Rattle.txn_audit.specs.Bodies.{kept, to_do, first_unfit}
use Rattle.listed_cells.specs.Listing.{content_of}
use Rattle.txn_record.specs.Effects.{effect}
use Rattle.txn_audit.proofs.PendingRuns.{shifted}
use Rattle.txn_audit.proofs.completion.run_all.Given as goal

abbrev pub invariant-loop-place : goal.invariant-loop-place
invariant-loop-place l = record {
  count : length l.bodies ≡ length l.keys;
  found : shifted (look (content_of l.cells)) l.place (first_unfit (look (content_of l.cells)) (drop l.place l.cells) (kept l.keys l.bodies))
      ≡ first_unfit (look (content_of l.cells)) l.cells (kept l.keys l.fn.bodies);
  runs : effect (to_do (look (content_of l.cells)) (drop l.place l.cells)) (kept l.keys l.bodies)
      ≡ effect (to_do (look (content_of l.cells)) l.cells) (kept l.keys l.fn.bodies);
}
