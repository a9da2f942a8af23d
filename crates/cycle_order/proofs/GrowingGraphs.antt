-- What keeps a graph one.
use Rattle.std.proofs.Common.{◌≡◌, ◌≢◌, ℕ, ◌+◌, ◌<◌, Bool, true, [], ◌∷◌, ◌++◌, length, get_or, refl, sym, ap, ◌∙◌, arith}
use Rattle.std.proofs.lemmas.List.{length_push, length-set, get_or_default}
use Rattle.std.proofs.lemmas.List.Elements.{All-push, All-weaker}
use Rattle.std.proofs.lemmas.List.Quantifiers.{all_pairs_push}
use Rattle.txn_key.specs.declared.id.TxnId.{TxnId}
use Rattle.cycle_order.specs.Graphs.{IsGraph, edge_of, with_vertex, with_settled, with_edges}
use Rattle.cycle_order.specs.declared.graph.Edge.{Edge}
use Rattle.cycle_order.specs.declared.graph.Graph.{Graph}

pub graph_empty : IsGraph (record { ids = []; settled = []; edges = [] })
graph_empty = record {
  distinct = λ i j d less below. absurd (omega arith);
  flags = refl;
  edges = λ k d below. absurd (omega arith);
}

pub graph_vertex : (graph : Graph) (id : TxnId) (settled : Bool) → IsGraph graph → (((k : ℕ) × (k < length graph.ids) × (get_or graph.ids k id ≡ id)) → ⊥)
    → IsGraph (with_vertex graph id settled)
graph_vertex graph id settled g new = record {
  distinct = all_pairs_push (λ s t. s ≢ t) graph.ids id g.distinct (λ k d below same. new (k, below, get_or_default graph.ids k id d below ∙ same));
  flags = length_push graph.settled settled ∙ ap (λ n. n + 1) g.flags ∙ sym (length_push graph.ids id);
  edges = All-weaker _ _ wider graph.edges g.edges;
}
  where
    wider : (edge : Edge) → (edge.before < length graph.ids) × (edge.after < length graph.ids)
        → (edge.before < length (graph.ids ++ id ∷ [])) × (edge.after < length (graph.ids ++ id ∷ []))
    wider edge (b, a) = let longer = length_push graph.ids id in (omega arith, omega arith)

pub graph_settled : (graph : Graph) (v : ℕ) → IsGraph graph → IsGraph (with_settled graph v)
graph_settled graph v g = record { distinct = g.distinct; flags = length-set graph.settled v true ∙ g.flags; edges = g.edges }

pub graph_edge : (graph : Graph) (u t : ℕ) → IsGraph graph → u < length graph.ids → t < length graph.ids → IsGraph (with_edges graph (edge_of u t ∷ []))
graph_edge graph u t g b a = record {
  distinct = g.distinct;
  flags = g.flags;
  edges = All-push (λ (edge : Edge). (edge.before < length graph.ids) × (edge.after < length graph.ids)) graph.edges (edge_of u t) g.edges (b, a);
}
