-- A graph said of its transactions' ids, as the contents of a store speak of them.
use Rattle.std.specs.Prelude.{◌≡◌, ℕ, ◌<◌, true, length}
use Rattle.std.specs.declared.cmp.Ordering.TheVariants.{Less}
use Rattle.txn_key.specs.Ids.{id_cmp}
use Rattle.txn_key.specs.declared.id.TxnId.{TxnId}
use Rattle.cycle_order.specs.Graphs.{HasEdge, settled_at, id_at}
use Rattle.cycle_order.specs.declared.graph.Graph.{Graph}
use Rattle.txn_record.specs.Walks.{GoesFirst, AllBefore}

-- an edge goes from the vertex of s to the vertex of t
pub record Precedes (graph : Graph) (s t : TxnId) : Type 0 where
  pub from : ℕ
  pub to : ℕ
  pub edge : HasEdge graph.edges from to
  pub starts : id_at graph from ≡ s
  pub ends : id_at graph to ≡ t

-- the vertex of s is settled
pub record Settled (graph : Graph) (s : TxnId) : Type 0 where
  pub vertex : ℕ
  pub within : vertex < length graph.ids
  pub settled : settled_at graph vertex ≡ true
  pub is : id_at graph vertex ≡ s

-- the transaction s is ready, and clean, by the graph
abbrev pub ReadyId : Graph → TxnId → Type 0
ReadyId graph s = GoesFirst (Precedes graph) (λ t. Settled graph t → ⊥) (λ t u. id_cmp t u ≡ Less) s

abbrev pub CleanId : Graph → TxnId → Type 0
CleanId graph s = AllBefore (Precedes graph) (Settled graph) s
