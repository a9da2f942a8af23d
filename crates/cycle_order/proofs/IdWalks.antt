-- Walks between vertices, and between their ids.
use Rattle.std.proofs.Common.{◌≡◌, ◌≢◌, ℕ, ◌<◌, ◌↔◌, true, length, refl, inl, inr, sym, ap, ◌∙◌, subst}
use Rattle.std.proofs.lemmas.Bool.{cases_eq, false_from_ne_true, false≢true}
use Rattle.std.proofs.lemmas.List.Elements.{All-contains}
use Rattle.std.specs.declared.cmp.Ordering.TheVariants.{Less}
use Rattle.txn_key.specs.Ids.{id_cmp}
use Rattle.txn_key.specs.declared.id.TxnId.{TxnId}
use Rattle.txn_record.specs.Walks.{Leads}
use Rattle.txn_record.proofs.WalkLaws.{leads_in}
use Rattle.cycle_order.proofs.GraphFacts.{ids_differ, unsettled_within}
use Rattle.cycle_order.proofs.MoreWalks.{leads_mapped}
use Rattle.cycle_order.specs.ByIds.{Precedes, Settled, ReadyId, CleanId}
use Rattle.cycle_order.specs.Graphs.{IsGraph, HasEdge, IsUnsettled, IsReady, IsClean, id_at, settled_at, edge_of}
use Rattle.cycle_order.specs.declared.graph.Edge.{Edge}
use Rattle.cycle_order.specs.declared.graph.Graph.{Graph}

-- a vertex of the id s leads to v
pub record Reaches (graph : Graph) (s : TxnId) (v : ℕ) : Type 0 where
  pub vertex : ℕ
  pub within : vertex < length graph.ids
  pub is : id_at graph vertex ≡ s
  pub walk : Leads (HasEdge graph.edges) vertex v

walk_by_ids : (graph : Graph) (a v : ℕ) → Leads (HasEdge graph.edges) a v → Leads (Precedes graph) (id_at graph a) (id_at graph v)
walk_by_ids graph = leads_mapped (id_at graph) (λ u t e. record { from = u; to = t; edge = e; starts = refl; ends = refl })

module _ (graph : Graph) (g : IsGraph graph) where
  -- a vertex is told by its id
  same_vertex : (v w : ℕ) → v < length graph.ids → w < length graph.ids → id_at graph v ≡ id_at graph w → v ≡ w
  same_vertex v w vin win e = elim (cases_eq v w) [ inl same ↦ same | inr differ ↦ absurd (ids_differ graph g v w vin win differ e) ]

  ends_within : (u t : ℕ) → HasEdge graph.edges u t → (u < length graph.ids) × (t < length graph.ids)
  ends_within u t e = All-contains (λ (edge : Edge). (edge.before < length graph.ids) × (edge.after < length graph.ids)) graph.edges (edge_of u t) g.edges e

  walk_by_places : (s t : TxnId) (v : ℕ) → v < length graph.ids → id_at graph v ≡ t → Leads (Precedes graph) s t → Reaches graph s v
  walk_by_places s _ v within is (Leads.Here _) = record { vertex = v; within = within; is = is; walk = Leads.Here v }
  walk_by_places s t v within is (Leads.Then _ u _ walk edge) =
      let ends = ends_within edge.from edge.to edge.edge in
      let same : edge.to ≡ v = same_vertex edge.to v ends.1 within (edge.ends ∙ sym is) in
      let rest : Reaches graph s edge.from = walk_by_places s u edge.from ends.0 edge.starts walk in
      record {
        vertex = rest.vertex;
        within = rest.within;
        is = rest.is;
        walk = Leads.Then rest.vertex edge.from v rest.walk (subst (HasEdge graph.edges edge.from) same edge.edge);
      }

  -- the flag of a vertex, and whether its id is settled
  unsettled_from : (a : ℕ) (s : TxnId) → a < length graph.ids → id_at graph a ≡ s → (Settled graph s → ⊥) → IsUnsettled graph a
  unsettled_from a s within is open_ = false_from_ne_true (settled_at graph a) (λ h. open_ (record { vertex = a; within = within; settled = h; is = is }))

  unsettled_to : (a : ℕ) → IsUnsettled graph a → Settled graph (id_at graph a) → ⊥
  unsettled_to a u s =
      let same : s.vertex ≡ a = same_vertex s.vertex a s.within (unsettled_within graph g a u) s.is in
      false≢true (sym u ∙ subst (λ n. settled_at graph n ≡ true) same s.settled)

  module _ (v : ℕ) (within : v < length graph.ids) where
    other : (s : TxnId) → Reaches graph s v → s ≢ id_at graph v → (a : ℕ) → id_at graph a ≡ s → a ≢ v
    other s r differ a is e = differ (sym is ∙ ap (id_at graph) e)

    ready_id : IsReady graph v → ReadyId graph (id_at graph v)
    ready_id ready = record {
      back = λ s walk differ open_.
          let r = walk_by_places s (id_at graph v) v within refl walk in
          subst (Leads (Precedes graph) (id_at graph v)) r.is (walk_by_ids graph v r.vertex
          (ready.back r.vertex r.walk (other s r differ r.vertex r.is) (unsettled_from r.vertex s r.within r.is open_)));
      least = λ s walk differ open_.
          let r = walk_by_places s (id_at graph v) v within refl walk in
          subst (λ (t : TxnId). id_cmp (id_at graph v) t ≡ Less) r.is
          (ready.least r.vertex r.walk (other s r differ r.vertex r.is) (unsettled_from r.vertex s r.within r.is open_));
    }

    ready_vertex : ReadyId graph (id_at graph v) → IsReady graph v
    ready_vertex ready = record {
      back = λ a walk differ u.
          let inside : a < length graph.ids = unsettled_within graph g a u in
          let r = walk_by_places (id_at graph v) (id_at graph a) a inside refl
          (ready.back (id_at graph a) (walk_by_ids graph a v walk) (ids_differ graph g a v inside within differ) (unsettled_to a u)) in
          subst (λ n. Leads (HasEdge graph.edges) n a) (same_vertex r.vertex v r.within within r.is) r.walk;
      least = λ a walk differ u.
          ready.least (id_at graph a) (walk_by_ids graph a v walk) (ids_differ graph g a v (unsettled_within graph g a u) within differ) (unsettled_to a u);
    }

    pub ready_by_ids : IsReady graph v ↔ ReadyId graph (id_at graph v)
    ready_by_ids = (ready_id, ready_vertex)

    clean_id : IsClean graph v → CleanId graph (id_at graph v)
    clean_id clean s walk =
        let r = walk_by_places s (id_at graph v) v within refl walk in
        record { vertex = r.vertex; within = r.within; settled = clean r.vertex r.walk; is = r.is }

    clean_vertex : CleanId graph (id_at graph v) → IsClean graph v
    clean_vertex clean a walk =
        let inside : a < length graph.ids = leads_in (λ m. m < length graph.ids) (λ u t e here. (ends_within u t e).0) a v walk within in
        let s : Settled graph (id_at graph a) = clean (id_at graph a) (walk_by_ids graph a v walk) in
        subst (λ n. settled_at graph n ≡ true) (same_vertex s.vertex a s.within inside s.is) s.settled

    pub clean_by_ids : IsClean graph v ↔ CleanId graph (id_at graph v)
    clean_by_ids = (clean_id, clean_vertex)
