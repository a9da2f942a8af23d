-- Edges turned round, and what a search both ways decides.
use Rattle.std.proofs.Common.{◌≡◌, ℕ, ◌<◌, ◌↔◌, Bool, true, List, map, length, All, sym, ap, subst, ◌∙◌}
use Rattle.std.proofs.lemmas.List.{get_or-map, length-map}
use Rattle.std.proofs.lemmas.List.Elements.{All-map}
use Rattle.txn_record.specs.Walks.{Leads}
use Rattle.cycle_order.proofs.MoreWalks.{leads_turned}
use Rattle.cycle_order.specs.Choice.{turned, AreLinks, AllGiveWay}
use Rattle.cycle_order.specs.Graphs.{edge_of, HasEdge, Ancestor, IsDescendant, IsReady}
use Rattle.cycle_order.specs.Search.{Marked, LeadsTo}
use Rattle.cycle_order.specs.declared.graph.Edge.{Edge}
use Rattle.cycle_order.specs.declared.graph.Graph.{Graph}
use Rattle.cycle_order.specs.declared.links.Links.{Links}

turned_edge : (edges : List Edge) (u t : ℕ) → HasEdge (map turned edges) u t → HasEdge edges t u
turned_edge edges u t (k, within, is) =
    let inside : k < length edges = rw length-map at within in
    (k, inside, ap turned (sym (get_or-map turned edges k (edge_of t u) (edge_of u t) inside) ∙ is))

edge_turned : (edges : List Edge) (u t : ℕ) → HasEdge edges u t → HasEdge (map turned edges) t u
edge_turned edges u t (k, within, is) =
    (k, rw length-map within, get_or-map turned edges k (edge_of u t) (edge_of t u) within ∙ ap turned is)

-- walks along the edges turned round
pub turned_walks : (edges : List Edge) (a v : ℕ) → Leads (HasEdge (map turned edges)) a v ↔ Leads (HasEdge edges) v a
turned_walks edges a v = (leads_turned (turned_edge edges) a v, leads_turned (edge_turned edges) v a)

-- edges between the first so many vertices stay there as they are turned
pub turned_inside : (edges given others : List Edge) (n m : ℕ) → given ≡ edges → others ≡ map turned given → m ≡ n
    → All (λ edge. (edge.before < n) × (edge.after < n)) edges → All (λ edge. (edge.before < m) × (edge.after < m)) others
turned_inside edges given others n m e f same inside =
    rw (f, e, same) (All-map (λ (edge : Edge). (edge.before < n) × (edge.after < n)) turned edges (λ k d within. ((inside k d within).1, (inside k d within).0)))

-- what the two searches from v have found: its ancestors, and the vertices of which it is one
module _ (graph : Graph) (links : Links) (v : ℕ) (l : AreLinks graph links) where
  pub ahead_of : (shown found : List Bool) → shown ≡ found → ((a : ℕ) → Marked found a ↔ Leads (HasEdge links.into.edges.items) a v)
      → (a : ℕ) → Marked shown a ↔ Ancestor graph a v
  ahead_of shown found e exact = rw e (subst (λ (es : List Edge). (a : ℕ) → Marked found a ↔ Leads (HasEdge es) a v) l.into_edges exact)

  pub behind_of : (shown found : List Bool) → shown ≡ found → ((a : ℕ) → Marked found a ↔ Leads (HasEdge links.out_of.edges.items) a v)
      → (a : ℕ) → Marked shown a ↔ Ancestor graph v a
  behind_of shown found e exact = rw e (λ a.
      let same : Marked found a ↔ Leads (HasEdge (map turned graph.edges)) a v
      = subst (λ (es : List Edge). Marked found a ↔ Leads (HasEdge es) a v) l.out_of_edges (exact a) in
      let walks = turned_walks graph.edges a v in
      (λ m. walks.0 (same.0 m), λ w. same.1 (walks.1 w)))

-- they tell whether it is ready
pub ready_by_searches : (graph : Graph) (v : ℕ) (before after : List Bool) (answer : Bool) → ((a : ℕ) → Marked before a ↔ Ancestor graph a v) → ((a : ℕ) → Marked after a ↔ Ancestor graph v a)
    → (answer ≡ true) ↔ AllGiveWay graph before after v → (answer ≡ true) ↔ IsReady graph v
ready_by_searches graph v before after answer ahead behind tells = (
  (λ h. record {
    back = λ a walk differ u. (behind a).0 (tells.0 h a ((ahead a).1 walk) differ u).0;
    least = λ a walk differ u. (tells.0 h a ((ahead a).1 walk) differ u).1;
  }),
  λ r. tells.1 (λ a m differ u. ((behind a).1 (r.back a ((ahead a).0 m) differ u), r.least a ((ahead a).0 m) differ u)),
)

-- a search along the edges turned round finds the descendants
pub descendants_found : (graph : Graph) (edges : List Edge) → edges ≡ map turned graph.edges → (marked flags : List Bool) → ((v : ℕ) → Marked flags v ↔ LeadsTo edges (Marked marked) v)
    → (v : ℕ) → Marked flags v ↔ IsDescendant graph marked v
descendants_found graph edges e marked flags exact v =
    let found : Marked flags v ↔ LeadsTo (map turned graph.edges) (Marked marked) v
    = subst (λ (es : List Edge). Marked flags v ↔ LeadsTo es (Marked marked) v) e (exact v) in (
      λ m. let w = found.0 m in (w.0, w.1, (turned_walks graph.edges v w.0).0 w.2),
      λ d. found.1 (d.0, d.1, (turned_walks graph.edges v d.0).1 d.2),
    )
