-- Ids and flags of a graph's vertices.
use Rattle.std.proofs.Common.{◌≡◌, ◌≢◌, ℕ, zero, suc, ◌<◌, ◌⊎◌, inl, inr, true, List, [], ◌∷◌, length, sym, ap, ◌∙◌, refl, arith}
use Rattle.std.proofs.lemmas.Bool.{cases_lt, cases_order, false≢true}
use Rattle.std.proofs.lemmas.Cmp.{tied_itself}
use Rattle.std.proofs.lemmas.List.{get_or_past}
use Rattle.std.specs.Ordering.{ordering_reverse}
use Rattle.std.specs.declared.cmp.Ordering.{Ordering}
use Rattle.std.specs.declared.cmp.Ordering.TheVariants.{Less, Equal, Greater}
use Rattle.txn_key.specs.Ids.{id_cmp}
use Rattle.txn_key.proofs.KeyOrder.{id_cmp_total, id_cmp-IsAntisymmetric}
use Rattle.txn_key.specs.declared.id.TxnId.{TxnId}
use Rattle.cycle_order.proofs.SomeFirst.{Among, some_first}
use Rattle.cycle_order.specs.Graphs.{IsGraph, HasEdge, IsUnsettled, IsBelow, IsReady, id_at}
use Rattle.cycle_order.specs.declared.graph.Graph.{Graph}

pub below_itself : (graph : Graph) (v : ℕ) → IsBelow graph v v → ⊥
below_itself graph v below = let tie = tied_itself id_cmp_total (id_at graph v) in cc

pub below_then : (graph : Graph) (u v w : ℕ) → IsBelow graph u v → IsBelow graph v w → IsBelow graph u w
below_then graph u v w = id_cmp_total.trans (id_at graph u) (id_at graph v) (id_at graph w)

pub below_one_way : (graph : Graph) (v w : ℕ) → IsBelow graph v w → IsBelow graph w v → ⊥
below_one_way graph v w p q = below_itself graph v (below_then graph v w v p q)

-- what is unsettled is a vertex
pub unsettled_within : (graph : Graph) → IsGraph graph → (v : ℕ) → IsUnsettled graph v → v < length graph.ids
unsettled_within graph g v u = elim (cases_lt v (length graph.settled)) [
  | inl within ↦ rw g.flags at within
  | inr past ↦ absurd (false≢true (sym u ∙ get_or_past graph.settled v true past))
]

-- ids that differ are ordered
ordered : (s t : TxnId) (o : Ordering) → id_cmp s t ≡ o → s ≢ t → (id_cmp s t ≡ Less) ⊎ (id_cmp t s ≡ Less)
ordered s t Less e differ = inl e
ordered s t Equal e differ = absurd (differ (id_cmp-IsAntisymmetric s t e))
ordered s t Greater e differ = inr (id_cmp_total.antisymm t s ∙ ap ordering_reverse e)

-- the ids of two vertices differ
pub ids_differ : (graph : Graph) → IsGraph graph → (v w : ℕ) → v < length graph.ids → w < length graph.ids → v ≢ w → id_at graph v ≢ id_at graph w
ids_differ graph g v w vin win differ e = elim (cases_order v w) [
  | inl same ↦ differ same
  | inr order ↦ elim order [
    | inl less ↦ g.distinct v w (record { 0 = [] }) less win e
    | inr more ↦ g.distinct w v (record { 0 = [] }) more vin (sym e)
  ]
]

-- of two vertices one has the lesser id
pub below_apart : (graph : Graph) → IsGraph graph → (v w : ℕ) → v < length graph.ids → w < length graph.ids → v ≢ w → IsBelow graph v w ⊎ IsBelow graph w v
below_apart graph g v w vin win differ = ordered (id_at graph v) (id_at graph w) _ refl (ids_differ graph g v w vin win differ)

-- the first so many places
places : ℕ → List ℕ
places zero = []
places (suc n) = n ∷ places n

among_places : (n a : ℕ) → a < n → Among a (places n)
unfolding places
among_places zero a below = omega arith
among_places (suc n) a below = elim (cases_last n a below) [ inl e ↦ inl (sym e) | inr less ↦ inr (among_places n a less) ]
  where
    cases_last : (n a : ℕ) → a < suc n → (a ≡ n) ⊎ (a < n)
    cases_last n a h = grind arith

-- it can't be that one vertex is unsettled and no unsettled one is ready
pub some_ready : (graph : Graph) → IsGraph graph → ((v : ℕ) → IsUnsettled graph v → IsReady graph v → ⊥) → (v : ℕ) → IsUnsettled graph v → ⊥
some_ready graph g = some_first (HasEdge graph.edges) (IsUnsettled graph) (IsBelow graph) (below_itself graph) (below_then graph)
    (λ v a uv ua differ. below_apart graph g v a (unsettled_within graph g v uv) (unsettled_within graph g a ua) (λ e. differ (sym e)))
    (places (length graph.ids)) (λ a ua. among_places (length graph.ids) a (unsettled_within graph g a ua))
