use Rattle.std.proofs.Common.{◌≡◌, ◌<◌, length, sym, ◌∙◌, arith, subst}
use Rattle.cycle_order.proofs.LastEdges.{followed_more, followed_edge, followed_all, places_left-falls, edge_at, start_read, read_start, read_previous}
use Rattle.cycle_order.proofs.Searches.{finds_then, finds_more}
use Rattle.cycle_order.proofs.search.Search.mark_before.Goals as goal
use Rattle.cycle_order.specs.Graphs.{HasEdge}
use Rattle.cycle_order.specs.Search.{Marked, end_at}

pub index-requires : goal.index-requires
index-requires c =
    let edge : (c.in-Some.place < length c.args.into.now.edges.items) × (end_at c.args.into.now.edges.items c.in-Some.place ≡ c.args.t)
    = followed_edge _ _ _ _ _ c.in-Some.is c.loop-next.invariant.followed in
    omega (arith, edge.0)

pub mark-requires : goal.mark-requires
mark-requires c =
    let edge : (c.in-Some.place < length c.args.into.now.edges.items) × (end_at c.args.into.now.edges.items c.in-Some.place ≡ c.args.t)
    = followed_edge _ _ _ _ _ c.in-Some.is c.loop-next.invariant.followed in
    start_read _ _ c.requires.into c.in-Some.place _ _ edge.0 c.index.ensures c.loop-next.invariant.finds.size

pub index-next-requires-in-Some : goal.index-next-requires-in-Some
index-next-requires-in-Some c =
    let edge : (c.in-Some.place < length c.args.into.now.edges.items) × (end_at c.args.into.now.edges.items c.in-Some.place ≡ c.args.t)
    = followed_edge _ _ _ _ _ c.in-Some.is c.loop-next.invariant.followed in
    omega (arith, edge.0, c.requires.into.linked.places)

pub loop-next-smaller : goal.loop-next-smaller
loop-next-smaller c =
    let edge : (c.in-Some.place < length c.args.into.now.edges.items) × (end_at c.args.into.now.edges.items c.in-Some.place ≡ c.args.t)
    = followed_edge _ _ _ _ _ c.in-Some.is c.loop-next.invariant.followed in
    rw c.in-Some.is (places_left-falls _ _ _ _ (read_previous _ _ c.requires.into c.in-Some.place _ edge.0 c.index-next-in-Some.ensures))

pub loop-next-preserved : goal.loop-next-preserved
loop-next-preserved c =
    let edge : (c.in-Some.place < length c.args.into.now.edges.items) × (end_at c.args.into.now.edges.items c.in-Some.place ≡ c.args.t)
    = followed_edge _ _ _ _ _ c.in-Some.is c.loop-next.invariant.followed in
    let start = read_start _ _ c.requires.into c.in-Some.place _ edge.0 c.index.ensures in
    record {
      followed = followed_more _ _ _ _ _ _ _ c.in-Some.is c.loop-next.invariant.followed c.in_ok-mark.ensures.finds.keeps
          (subst (Marked c.mark.new.self.found.items) start c.in_ok-mark.ensures.here)
          (read_previous _ _ c.requires.into c.in-Some.place _ edge.0 c.index-next-in-Some.ensures);
      finds = finds_then _ _ _ _ _ _ _ c.loop-next.invariant.finds (finds_more _ _
          (λ a e. subst (λ m. HasEdge c.args.into.now.edges.items m c.args.t) (sym (e ∙ start)) (edge_at _ _ _ edge.0 edge.1)) _ _ _ _ c.in_ok-mark.ensures.finds);
    }

pub returns-clause-all : goal.returns-clause-all
returns-clause-all c = followed_all _ _ _ _ c.in_default.is c.loop-next.invariant.followed
