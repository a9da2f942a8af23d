-- Laws of readiness as a graph's flags and edges change.
use Rattle.std.proofs.Common.{◌≡◌, ◌≢◌, ℕ, ◌⊎◌, inl, inr, true, Bool, List, ◌++◌, length, get_or, sym, ap, ◌∙◌}
use Rattle.std.proofs.lemmas.Bool.{cases_eq, cases_lt, false_from_ne_true, false≢true}
use Rattle.std.proofs.lemmas.List.{get_or-set_same, get_or-set_other, set_past}
use Rattle.std.proofs.lemmas.List.Elements.{Contains-append_left, Contains-append_cases}
use Rattle.txn_record.specs.Walks.{Leads}
use Rattle.txn_record.proofs.WalkLaws.{leads_map}
use Rattle.cycle_order.proofs.FirstLaws.{never_both_first, first_with_fewer, first_with_more}
use Rattle.cycle_order.proofs.GraphFacts.{below_one_way}
use Rattle.cycle_order.proofs.MoreWalks.{leads_without}
use Rattle.cycle_order.specs.Graphs.{HasEdge, Ancestor, IsUnsettled, IsReady, IsClean, settled_at, edge_of, with_settled, with_edges}
use Rattle.cycle_order.specs.declared.graph.Edge.{Edge}
use Rattle.cycle_order.specs.declared.graph.Graph.{Graph}

pub never_both : (graph : Graph) (v w : ℕ) → v ≢ w → IsUnsettled graph v → IsUnsettled graph w → Ancestor graph v w → Ancestor graph w v
    → IsReady graph v → IsReady graph w → ⊥
never_both graph = never_both_first (below_one_way graph)

-- one vertex more is settled
settled_more : (graph : Graph) (v a : ℕ) → settled_at graph a ≡ true → settled_at (with_settled graph v) a ≡ true
settled_more graph v a h = elim (cases_eq a v) [
  | inl e ↦ elim (cases_lt v (length graph.settled)) [
    | inl within ↦ rw e (get_or-set_same graph.settled v true true within)
    | inr past ↦ ap (λ (flags : List Bool). get_or flags a true) (set_past graph.settled v true past) ∙ h
  ]
  | inr ne ↦ get_or-set_other graph.settled v a true true ne ∙ h
]

unsettled_less : (graph : Graph) (v a : ℕ) → IsUnsettled (with_settled graph v) a → IsUnsettled graph a
unsettled_less graph v a u = false_from_ne_true (settled_at graph a) (λ h. false≢true (sym u ∙ settled_more graph v a h))

pub ready_with_settled : (graph : Graph) (v w : ℕ) → IsReady graph w → IsReady (with_settled graph v) w
ready_with_settled graph v w r = first_with_fewer (unsettled_less graph v) w r

pub clean_with_settled : (graph : Graph) (v w : ℕ) → IsClean graph w → IsClean (with_settled graph v) w
clean_with_settled graph v w clean a walk = settled_more graph v a (clean a walk)

-- more edges
edges_more : (graph : Graph) (more : List Edge) (u t : ℕ) → HasEdge graph.edges u t → HasEdge (graph.edges ++ more) u t
edges_more graph more u t = Contains-append_left graph.edges more (edge_of u t)

edges_late : (graph : Graph) (more : List Edge) (v : ℕ) → ((u t : ℕ) → HasEdge more u t → Ancestor graph t v → ⊥)
    → (u t : ℕ) → HasEdge (graph.edges ++ more) u t → HasEdge graph.edges u t ⊎ (Ancestor graph t v → ⊥)
edges_late graph more v late u t e = elim (Contains-append_cases graph.edges more (edge_of u t) e) [ inl old ↦ inl old | inr new ↦ inr (late u t new) ]

pub walks_with_edges : (graph : Graph) (more : List Edge) (a v : ℕ) → Ancestor graph a v → Ancestor (with_edges graph more) a v
walks_with_edges graph more = leads_map (edges_more graph more)

pub ready_with_edges : (graph : Graph) (more : List Edge) (v : ℕ) → ((u t : ℕ) → HasEdge more u t → Ancestor graph t v → ⊥)
    → IsReady graph v → IsReady (with_edges graph more) v
ready_with_edges graph more v late r = first_with_more (edges_more graph more) v (edges_late graph more v late) r

pub clean_with_edges : (graph : Graph) (more : List Edge) (v : ℕ) → ((u t : ℕ) → HasEdge more u t → Ancestor graph t v → ⊥)
    → IsClean graph v → IsClean (with_edges graph more) v
clean_with_edges graph more v late clean a walk = clean a (leads_without v (edges_late graph more v late) a v walk (Leads.Here v))
