-- Graphs: their edges as a relation, and which of their vertices may go first.
use Rattle.std.specs.Prelude.{◌≡◌, ◌≢◌, ℕ, ◌<◌, Bool, true, false, List, [], ◌∷◌, length, slice_index_or, slice_set, ◌++◌, All, AllPairs, Contains}
use Rattle.std.specs.declared.cmp.Ordering.TheVariants.{Less}
use Rattle.txn_key.specs.Ids.{id_cmp}
use Rattle.txn_key.specs.declared.id.TxnId.{TxnId}
use Rattle.txn_record.specs.Walks.{Leads, GoesFirst, AllBefore}
use Rattle.cycle_order.specs.declared.graph.Edge.{Edge}
use Rattle.cycle_order.specs.declared.graph.Graph.{Graph}

-- the caller's condition: distinct ids, a flag for each of them, edges between them
pub record IsGraph (graph : Graph) : Type 0 where
  pub distinct : AllPairs (λ s t. s ≢ t) graph.ids
  pub flags : length graph.settled ≡ length graph.ids
  pub edges : All (λ edge.
      (edge.before < length graph.ids) × (edge.after < length graph.ids)) graph.edges

abbrev pub edge_of : ℕ → ℕ → Edge
edge_of u t = record { before = u; after = t }

-- an edge goes from u to t
abbrev pub HasEdge : List Edge → ℕ → ℕ → Type 0
HasEdge edges u t = Contains edges (edge_of u t)

-- v itself, and each vertex with a walk of edges to v
abbrev pub Ancestor : Graph → ℕ → ℕ → Type 0
Ancestor graph a v = Leads (HasEdge graph.edges) a v

-- a marked vertex is v or an ancestor of it
abbrev pub IsDescendant : Graph → List Bool → ℕ → Type 0
IsDescendant graph marked v =
    (a : ℕ) × (slice_index_or marked a false ≡ true) × Ancestor graph a v

-- a vertex's flag; what is no vertex has nothing left to settle
abbrev pub settled_at : Graph → ℕ → Bool
settled_at graph v = slice_index_or graph.settled v true

abbrev pub IsUnsettled : Graph → ℕ → Type 0
IsUnsettled graph v = settled_at graph v ≡ false

abbrev pub AllSettled : Graph → Type 0
AllSettled graph = (v : ℕ) → settled_at graph v ≡ true

-- a vertex's id; what is no vertex has one of no bytes
abbrev pub id_at : Graph → ℕ → TxnId
id_at graph v = slice_index_or graph.ids v (record { 0 = [] })

-- v has a lesser id than w
abbrev pub IsBelow : Graph → ℕ → ℕ → Type 0
IsBelow graph v w = id_cmp (id_at graph v) (id_at graph w) ≡ Less

-- each unsettled ancestor of v other than v has v as an ancestor, and a greater id
abbrev pub IsReady : Graph → ℕ → Type 0
IsReady graph v = GoesFirst (HasEdge graph.edges) (IsUnsettled graph) (IsBelow graph) v

-- v and all its ancestors are settled
abbrev pub IsClean : Graph → ℕ → Type 0
IsClean graph v = AllBefore (HasEdge graph.edges) (λ a. settled_at graph a ≡ true) v

-- v is the vertex of least id among the unsettled ones that are ready
pub record IsPicked (graph : Graph) (v : ℕ) : Type 0 where
  pub vertex : v < length graph.ids
  pub unsettled : IsUnsettled graph v
  pub ready : IsReady graph v
  pub least : (w : ℕ) → IsUnsettled graph w → IsReady graph w → w ≢ v → IsBelow graph v w

-- the graph after one more vertex comes, after one is settled, and after more edges
abbrev pub with_vertex : Graph → TxnId → Bool → Graph
with_vertex graph id settled =
    record graph { ids = graph.ids ++ id ∷ []; settled = graph.settled ++ settled ∷ [] }

abbrev pub with_settled : Graph → ℕ → Graph
with_settled graph v = record graph { settled = slice_set graph.settled v true }

abbrev pub with_edges : Graph → List Edge → Graph
with_edges graph more = record graph { edges = graph.edges ++ more }
