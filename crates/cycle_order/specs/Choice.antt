-- Words of the choice among the vertices of a graph.
use Rattle.std.specs.Prelude.{◌≡◌, ◌≢◌, ℕ, ◌<◌, Bool, Option, Some, None, IfSome, List, length, map, ◌⊎◌}
use Rattle.cycle_order.specs.Graphs.{Ancestor, IsUnsettled, IsBelow, IsReady}
use Rattle.cycle_order.specs.Search.{Marked, IsIncoming}
use Rattle.cycle_order.specs.declared.graph.Edge.{Edge}
use Rattle.cycle_order.specs.declared.graph.Graph.{Graph}
use Rattle.cycle_order.specs.declared.links.Links.{Links}

-- an edge the other way
abbrev pub turned : Edge → Edge
turned edge = record { before = edge.after; after = edge.before }

-- the edges of a graph by their ends, and by their starts
pub record AreLinks (graph : Graph) (links : Links) : Type 0 where
  pub into : IsIncoming links.into (length graph.ids)
  pub into_edges : links.into.edges.items ≡ graph.edges
  pub out_of : IsIncoming links.out_of (length graph.ids)
  pub out_of_edges : links.out_of.edges.items ≡ map turned graph.edges

-- a gives way to v, where the marked vertices are those before and after v
abbrev pub GivesWay : Graph → List Bool → List Bool → ℕ → ℕ → Type 0
GivesWay graph before after v a =
    Marked before a → a ≢ v → IsUnsettled graph a → Marked after a × IsBelow graph v a

abbrev pub AllGiveWay : Graph → List Bool → List Bool → ℕ → Type 0
AllGiveWay graph before after v = (a : ℕ) → GivesWay graph before after v a

-- v is unsettled and ready, and of lesser id than the first one so far
pub record ComesFirst (graph : Graph) (first : Option ℕ) (v : ℕ) : Type 0 where
  pub unsettled : IsUnsettled graph v
  pub below : IfSome first (λ w. IsBelow graph v w)
  pub ready : IsReady graph v

-- v where it comes first, and else the first one so far
abbrev pub IsFirstOf : Graph → Option ℕ → ℕ → Option ℕ → Type 0
IsFirstOf graph first v chosen =
    (ComesFirst graph first v × (chosen ≡ Some v))
    ⊎ ((ComesFirst graph first v → ⊥) × (chosen ≡ first))

-- w has the least id of the unsettled ancestors of v
pub record IsLeastAhead (graph : Graph) (v w : ℕ) : Type 0 where
  pub vertex : w < length graph.ids
  pub unsettled : IsUnsettled graph w
  pub ahead : Ancestor graph w v
  pub least : (a : ℕ) → Ancestor graph a v → IsUnsettled graph a → a ≢ w → IsBelow graph w a

-- w has the least id of the unsettled vertices that are marked
pub record IsLeastMarked (graph : Graph) (marked : List Bool) (w : ℕ) : Type 0 where
  pub vertex : w < length graph.ids
  pub unsettled : IsUnsettled graph w
  pub here : Marked marked w
  pub least : (a : ℕ) → Marked marked a → IsUnsettled graph a → a ≢ w → IsBelow graph w a

-- of the vertices passed, v has the least id of the unsettled ones that are ready
pub record IsLeast (graph : Graph) (passed : List Bool) (v : ℕ) : Type 0 where
  pub vertex : v < length graph.ids
  pub unsettled : IsUnsettled graph v
  pub ready : IsReady graph v
  pub least : (w : ℕ) → Marked passed w → IsUnsettled graph w → IsReady graph w →
      w ≢ v → IsBelow graph v w

-- the first one of those passed, or that no unsettled one of them is ready
abbrev pub IsFirst : Graph → List Bool → Option ℕ → Type 0
IsFirst graph passed None = (w : ℕ) → Marked passed w → IsUnsettled graph w → IsReady graph w → ⊥
IsFirst graph passed (Some v) = IsLeast graph passed v

pub record IsChoice (graph : Graph) (passed : List Bool) (first : Option ℕ) : Type 0 where
  pub size : length passed ≡ length graph.ids
  pub first_is : IsFirst graph passed first
