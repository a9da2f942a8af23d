use Rattle.std.proofs.Common.{◌≡◌, length, drop}
use Rattle.store_laws.specs.Meaning.{not_done}
use Rattle.store_laws.specs.View.{look}
use Rattle.txn_audit.specs.Bodies.{kept}
use Rattle.listed_cells.specs.Listing.{content_of}
use Rattle.txn_record.specs.Effects.{effect, changes_fit}
use Rattle.txn_audit.proofs.completion.run_pending.Given as goal

abbrev pub invariant-loop-place : goal.invariant-loop-place
invariant-loop-place l = record {
  count : length l.bodies ≡ length l.keys;
  fits : changes_fit (not_done (look (content_of l.cells)) (drop l.place l.ops) (drop l.place l.revnos)) (kept l.keys l.bodies)
      ≡ changes_fit (not_done (look (content_of l.cells)) l.ops l.revnos) (kept l.keys l.fn.bodies);
  runs : effect (not_done (look (content_of l.cells)) (drop l.place l.ops) (drop l.place l.revnos)) (kept l.keys l.bodies)
      ≡ effect (not_done (look (content_of l.cells)) l.ops l.revnos) (kept l.keys l.fn.bodies);
}
