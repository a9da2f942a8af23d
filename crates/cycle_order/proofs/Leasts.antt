-- The least id among marked vertices.
use Rattle.std.proofs.Common.{◌≡◌, ◌≢◌, ℕ, ◌+◌, ◌<◌, ◌≤◌, ◌↔◌, ◌⊎◌, inl, inr, Bool, List, length, sym, refl, arith, below_more, subst}
use Rattle.std.proofs.lemmas.Bool.{cases_eq}
use Rattle.cycle_order.proofs.GraphFacts.{below_then, below_apart, unsettled_within}
use Rattle.cycle_order.specs.Choice.{IsLeastMarked, IsLeastAhead}
use Rattle.cycle_order.specs.Graphs.{IsGraph, Ancestor, IsUnsettled, IsBelow}
use Rattle.cycle_order.specs.Search.{Marked}
use Rattle.cycle_order.specs.declared.graph.Graph.{Graph}

-- w has the least id of the first n vertices that are marked and unsettled, and is one such itself
pub record IsLeastSoFar (graph : Graph) (marked : List Bool) (n w : ℕ) : Type 0 where
  pub vertex : w < length graph.ids
  pub unsettled : IsUnsettled graph w
  pub here : Marked marked w
  pub least : (a : ℕ) → a < n → Marked marked a → IsUnsettled graph a → a ≢ w → IsBelow graph w a

pub least_none : (graph : Graph) (marked : List Bool) (v : ℕ) → v < length graph.ids → IsUnsettled graph v → Marked marked v → IsLeastSoFar graph marked 0 v
least_none graph marked v within u m = record { vertex = within; unsettled = u; here = m; least = λ a below. absurd (omega arith) }

-- the next vertex is less
pub least_here : (graph : Graph) (marked : List Bool) (n w : ℕ) → n < length graph.ids → IsLeastSoFar graph marked n w → Marked marked n × IsUnsettled graph n × IsBelow graph n w
    → IsLeastSoFar graph marked (n + 1) n
least_here graph marked n w within l lesser = record {
  vertex = within;
  unsettled = lesser.1;
  here = lesser.0;
  least = below_more _ _ (λ a below m u differ. further a below m u (cases_eq a w)) (λ m u differ. absurd (differ refl));
}
  where
    further : (a : ℕ) → a < n → Marked marked a → IsUnsettled graph a → (a ≡ w) ⊎ (a ≡ w → ⊥) → IsBelow graph n a
    further a below m u (inl e) = subst (IsBelow graph n) (sym e) lesser.2
    further a below m u (inr ne) = below_then graph n w a lesser.2 (l.least a below m u ne)

-- the next vertex isn't less
pub least_on : (graph : Graph) → IsGraph graph → (marked : List Bool) (n w : ℕ) → IsLeastSoFar graph marked n w → (Marked marked n × IsUnsettled graph n × IsBelow graph n w → ⊥)
    → IsLeastSoFar graph marked (n + 1) w
least_on graph g marked n w l not_lesser = record {
  vertex = l.vertex;
  unsettled = l.unsettled;
  here = l.here;
  least = below_more _ _ l.least (λ m u differ. elim (below_apart graph g w n l.vertex (unsettled_within graph g n u) (λ e. differ (sym e))) [
    | inl below ↦ below
    | inr above ↦ absurd (not_lesser (m, u, above))
  ]);
}

pub least_all : (graph : Graph) → IsGraph graph → (marked : List Bool) (n w : ℕ) → length graph.ids ≤ n → IsLeastSoFar graph marked n w → IsLeastMarked graph marked w
least_all graph g marked n w all l = record {
  vertex = l.vertex;
  unsettled = l.unsettled;
  here = l.here;
  least = λ a m u. l.least a (let b : a < length graph.ids = unsettled_within graph g a u in omega arith) m u;
}

-- where the marked vertices are the ancestors of v
pub least_ancestor : (graph : Graph) (marked : List Bool) (v w : ℕ) → ((a : ℕ) → Marked marked a ↔ Ancestor graph a v) → IsLeastMarked graph marked w → IsLeastAhead graph v w
least_ancestor graph marked v w exact l =
    record { vertex = l.vertex; unsettled = l.unsettled; ahead = (exact w).0 l.here; least = λ a walk. l.least a ((exact a).1 walk) }
