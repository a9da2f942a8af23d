-- Words of the search for ancestors.
use Rattle.std.specs.Prelude.{◌≡◌, ℕ, zero, suc, ◌+◌, ◌<◌, ◌==◌, Bool, true, false, Option, Some, None, List, [], ◌∷◌, length, slice_index_or, if◌then◌else◌, ◌⊎◌, All, Contains}
use Rattle.cycle_order.specs.declared.graph.Edge.{Edge}
use Rattle.cycle_order.specs.declared.incoming.Incoming.{Incoming}
use Rattle.txn_record.specs.Walks.{Leads}
use Rattle.cycle_order.specs.Graphs.{edge_of, HasEdge}

-- v is marked
abbrev pub Marked : List Bool → ℕ → Type 0
Marked flags v = slice_index_or flags v false ≡ true

-- where the edge at a place begins, and where it ends
abbrev pub start_at : List Edge → ℕ → ℕ
start_at edges k = (slice_index_or edges k (edge_of 0 0)).before

abbrev pub end_at : List Edge → ℕ → ℕ
end_at edges k = (slice_index_or edges k (edge_of 0 0)).after

-- the place of the last of the first n edges that ends at t
abbrev pub last_into : List Edge → ℕ → ℕ → Option ℕ
last_into edges t zero = None
last_into edges t (suc n) = if end_at edges n == t then Some n else last_into edges t n

-- Of the first n edges: each knows the last one before it that ends where it ends, and each vertex knows
-- the last one into it.
pub record IsLinked (edges : List Edge) (last previous : List (Option ℕ)) (count n : ℕ)
    : Type 0 where
  pub vertices : length last ≡ count
  pub places : length previous ≡ n
  pub ends : (t : ℕ) → t < count → slice_index_or last t None ≡ last_into edges t n
  pub starts : (k : ℕ) → k < n → slice_index_or previous k None ≡ last_into edges (end_at edges k) k

-- Edges between the first so many vertices, with their links.
pub record IsIncoming (into : Incoming) (count : ℕ) : Type 0 where
  pub linked : IsLinked into.edges.items into.last.items into.previous.items count
      (length into.edges.items)
  pub inside : All (λ edge. (edge.before < count) × (edge.after < count)) into.edges.items

-- how many aren't marked
abbrev pub unmarked : List Bool → ℕ
unmarked [] = 0
unmarked (true ∷ flags) = unmarked flags
unmarked (false ∷ flags) = suc (unmarked flags)

-- A search goes on: what it found stays found, and what it finds anew is of P and waits in the frontier,
-- from which it takes nothing.
pub record Finds (P : ℕ → Type 0) (found : List Bool) (frontier : List ℕ)
    (found' : List Bool) (frontier' : List ℕ) : Type 0 where
  pub size : length found' ≡ length found
  pub keeps : (a : ℕ) → Marked found a → Marked found' a
  pub only : (a : ℕ) → Marked found' a → Marked found a ⊎ P a
  pub fresh : (a : ℕ) → Marked found' a → Marked found a ⊎ Contains frontier' a
  pub waits : (a : ℕ) → Contains frontier a → Contains frontier' a
  pub among : (a : ℕ) → Contains frontier' a → Contains frontier a ⊎ Marked found' a
  pub work : unmarked found' + length frontier' ≡ unmarked found + length frontier

-- a search has only begun: all that it found waits in the frontier
pub record IsBegun (found : List Bool) (frontier : List ℕ) : Type 0 where
  pub waits : (a : ℕ) → Marked found a → Contains frontier a
  pub among : (a : ℕ) → Contains frontier a → Marked found a

-- a walk of edges leads from a vertex to one of P
abbrev pub LeadsTo : List Edge → (ℕ → Type 0) → ℕ → Type 0
LeadsTo edges P a = (v : ℕ) × P v × Leads (HasEdge edges) a v
