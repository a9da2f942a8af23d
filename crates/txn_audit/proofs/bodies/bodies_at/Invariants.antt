use Rattle.std.proofs.Common.{◌≡◌, map, take}
use Rattle.txn_audit.specs.Bodies.{held_body}
use Rattle.listed_cells.specs.Listing.{content_of}
use Rattle.txn_audit.proofs.bodies.bodies_at.Given as goal

abbrev pub invariant-loop-key : goal.invariant-loop-key
invariant-loop-key l = l.bodies ≡ map (held_body (content_of l.cells)) (take l.key-index l.keys)
