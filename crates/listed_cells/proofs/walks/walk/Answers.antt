use Rattle.std.proofs.Common.{refl, subst, take, [], ◌≡◌}
use Rattle.std.proofs.lemmas.List.{take_more, take_all}
use Rattle.store_laws.specs.View.{look}
use Rattle.listed_cells.specs.Listing.{content_of}
use Rattle.listed_cells.specs.Orders.{IsChained, IsMarked}
use Rattle.listed_cells.proofs.ChainEdges.{chaining_none, chaining_more}
use Rattle.listed_cells.proofs.ChainMarks.{marking_none, marking_more}
use Rattle.listed_cells.proofs.Rosters.{apart}
use Rattle.listed_cells.proofs.walks.walk.Goals as goal

pub loop-token-init : goal.loop-token-init
loop-token-init c = record { edges = chaining_none _ _ _ _ refl; marks = marking_none _ _ _ _ refl }

pub loop-token-preserved : goal.loop-token-preserved
loop-token-preserved c =
    let one = apart c.args.ids.now c.requires.roster.rise in
    rw (take_more c.args.queue.now c.loop-token.token-index (record { id = record { 0 = [] }; nonce = 0 }) c.loop-token-test.true, c.later-last.ensures, c.is_passed-passed.ensures) (record {
      edges = chaining_more _ _ _ one _ _ _ _ _ _ c.vertex_of-vertex.ensures c.in_ok-add_link.ensures c.loop-token.invariant.edges;
      marks = marking_more _ _ _ one _ _ _ _ _ _ _ c.vertex_of-vertex.ensures refl c.add_mark.ensures.size c.add_mark.ensures.marked c.loop-token.invariant.marks;
    })

pub returns-clause-edges : goal.returns-clause-edges
returns-clause-edges c =
    let all : take c.loop-token.token-index c.args.queue.now ≡ c.args.queue.now = take_all c.loop-token.token-index c.args.queue.now c.loop-token-test.false in
    subst (IsChained (look (content_of c.args.cells.now)) c.args.ids.now c.args.edges.now.items c.loop-token.edges.items) all c.loop-token.invariant.edges.chained

pub returns-clause-marks : goal.returns-clause-marks
returns-clause-marks c =
    let all : take c.loop-token.token-index c.args.queue.now ≡ c.args.queue.now = take_all c.loop-token.token-index c.args.queue.now c.loop-token-test.false in
    subst (IsMarked (look (content_of c.args.cells.now)) c.args.ids.now c.args.marks.now.items c.loop-token.marks.items) all c.loop-token.invariant.marks.marked
