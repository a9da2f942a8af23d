-- Readiness of a record by the graph of all records, and by the owner queues.
use Rattle.std.proofs.Common.{◌≡◌, ℕ, ◌<◌, ◌↔◌, Bool, true, false, Some, List, [], length, inl, inr, refl, sym, ap, ◌∙◌, subst}
use Rattle.std.proofs.lemmas.Bool.{false≢true, cases_eq}
use Rattle.std.proofs.lemmas.List.{get_or_default}
use Rattle.std.specs.declared.cmp.Ordering.TheVariants.{Less}
use Rattle.cycle_order.specs.Graphs.{HasEdge, IsUnsettled, IsReady, id_at}
use Rattle.cycle_order.specs.declared.graph.Graph.{Graph}
use Rattle.cycle_order.proofs.GraphFacts.{ids_differ, unsettled_within}
use Rattle.store_laws.specs.Readiness as law
use Rattle.store_laws.specs.View.{look, settled, was_prepared, valid_nonce}
use Rattle.store_laws.proofs.views.Equals.{same_id_or_not}
use Rattle.store_trait.specs.Contents.{Content}
use Rattle.txn_key.specs.Ids.{id_cmp}
use Rattle.txn_key.specs.declared.id.TxnId.{TxnId}
use Rattle.txn_key.specs.declared.key.Key.{Key}
use Rattle.txn_record.specs.Walks.{Leads, GoesFirst}
use Rattle.txn_record.proofs.WalkLaws.{one_edge, join}
use Rattle.listed_cells.specs.Orders.{IsOrder, IsVertexOf, IsBehind, Joins, Marked}
use Rattle.listed_cells.proofs.Lookups.{there_by_all}

-- a vertex of the id s leads to v
record Reaches (g : Graph) (s : TxnId) (v : ℕ) : Type 0 where
  pub vertex : ℕ
  pub within : vertex < length g.ids
  pub is : id_at g vertex ≡ s
  pub walk : Leads (HasEdge g.edges) vertex v

module _ (c : Content) (g : Graph) (unsealed : List Bool) (o : IsOrder c g unsealed) where
  edge_in_view : (key : Key) (u t : ℕ) → Joins (look c) g.ids ((look c).queue_at key) u t → Leads (law.Precedes (look c)) (id_at g u) (id_at g t)
  edge_in_view key u t j = elim (same_id_or_not (id_at g u) (id_at g t)) [
    | inl same ↦ subst (λ (s : TxnId). Leads (law.Precedes (look c)) (id_at g u) s) same (Leads.Here (id_at g u))
    | inr differ ↦ one_edge (id_at g u) (id_at g t) (record {
      nonce = j.x.nonce;
      valid = rw j.from.is j.from.valid;
      stands = record { key = key; here = record { nonce = j.y.nonce; valid = rw j.to.is j.to.valid; before = rw (j.from.is, j.to.is) j.before } };
      differ = differ;
    })
  ]

  -- walks of the graph, between ids
  in_view : (u t : ℕ) → Leads (HasEdge g.edges) u t → Leads (law.Precedes (look c)) (id_at g u) (id_at g t)
  in_view u _ (Leads.Here _) = Leads.Here (id_at g u)
  in_view u t (Leads.Then _ w _ walk edge) =
      let from = o.walked.sound w t edge in
      join (id_at g u) (id_at g w) (id_at g t) (in_view u w walk) (edge_in_view from.0 w t from.1)

  -- the vertex of a record that has a valid nonce
  vertex_there : (s : TxnId) (n : ℕ) → valid_nonce (look c) s ≡ Some n → (v : ℕ) × IsVertexOf (look c) g.ids (law.token s n) v
  vertex_there s n valid =
      let there = there_by_all c s g.ids n o.roster.all valid in
      (there.0, record { valid = valid; within = there.1; is = get_or_default g.ids there.0 (record { 0 = [] }) s there.1 ∙ there.2 })

  -- walks of precedence, between vertices
  in_graph : (s t : TxnId) (v : ℕ) → v < length g.ids → id_at g v ≡ t → Leads (law.Precedes (look c)) s t → Reaches g s v
  in_graph s _ v within is (Leads.Here _) = record { vertex = v; within = within; is = is; walk = Leads.Here v }
  in_graph s t v within is (Leads.Then _ w _ walk edge) =
      let u = vertex_there w edge.nonce edge.valid in
      let rest = in_graph s w u.0 u.1.within u.1.is walk in
      let at = edge.stands.here in
      let last = o.walked.complete edge.stands.key u.0 v (record { x = law.token w edge.nonce; y = law.token t at.nonce; from = u.1; to = record { valid = at.valid; within = within; is = is }; before = at.before }) in
      record { vertex = rest.vertex; within = rest.within; is = rest.is; walk = join rest.vertex u.0 v rest.walk last }

  same_vertex : (v w : ℕ) → v < length g.ids → w < length g.ids → id_at g v ≡ id_at g w → v ≡ w
  same_vertex v w vin win e = elim (cases_eq v w) [ inl same ↦ same | inr differ ↦ absurd (ids_differ g o.graph v w vin win differ e) ]

  module _ (v : ℕ) (within : v < length g.ids) where
    First : Type 0
    First = GoesFirst (law.Precedes (look c)) (λ a. settled (look c) a ≡ false) (λ a b. id_cmp a b ≡ Less) (id_at g v)

    unsettled_there : (a : TxnId) (u : ℕ) → u < length g.ids → id_at g u ≡ a → settled (look c) a ≡ false → IsUnsettled g u
    unsettled_there a u uin is open_ = o.settles u uin ∙ ap (settled (look c)) is ∙ open_

    first_there : IsReady g v → First
    unfolding First
    first_there ready = record {
      back = λ a walk differ open_.
          let r = in_graph a (id_at g v) v within refl walk in
          subst (Leads (law.Precedes (look c)) (id_at g v)) r.is
          (in_view v r.vertex (ready.back r.vertex r.walk (λ e. differ (sym r.is ∙ ap (id_at g) e)) (unsettled_there a r.vertex r.within r.is open_)));
      least = λ a walk differ open_.
          let r = in_graph a (id_at g v) v within refl walk in
          subst (λ (t : TxnId). id_cmp (id_at g v) t ≡ Less) r.is
          (ready.least r.vertex r.walk (λ e. differ (sym r.is ∙ ap (id_at g) e)) (unsettled_there a r.vertex r.within r.is open_));
    }

    first_here : First → IsReady g v
    unfolding First
    first_here first = record {
      back = λ a walk differ u.
          let inside : a < length g.ids = unsettled_within g o.graph a u in
          let r = in_graph (id_at g v) (id_at g a) a inside refl
          (first.back (id_at g a) (in_view a v walk) (ids_differ g o.graph a v inside within differ) (sym (o.settles a inside) ∙ u)) in
          subst (λ n. Leads (HasEdge g.edges) n a) (same_vertex r.vertex v r.within within r.is) r.walk;
      least = λ a walk differ u.
          let inside : a < length g.ids = unsettled_within g o.graph a u in
          first.least (id_at g a) (in_view a v walk) (ids_differ g o.graph a v inside within differ) (sym (o.settles a inside) ∙ u);
    }

    -- sealed, where no token of a record that was never prepared stands before it or an ancestor
    sealed_there : (Marked unsealed v → ⊥) → law.Sealed (look c) (id_at g v)
    sealed_there clear a x walk stands = by_test (was_prepared (look c) x.id) refl
      where
        by_test : (b : Bool) → was_prepared (look c) x.id ≡ b → b ≡ true
        by_test true e = refl
        by_test false e =
            let r = in_graph a (id_at g v) v within refl walk in
            let at = stands.here in
            let behind : IsBehind (look c) g.ids ((look c).queue_at stands.key) r.vertex
            = record { x = x; y = law.token a at.nonce; unprepared = e; to = record { valid = at.valid; within = r.within; is = r.is }; before = at.before } in
            absurd (clear ((o.follows v).1 (r.vertex, (o.walked.behind r.vertex).1 (stands.key, behind), r.walk)))

    sealed_here : law.Sealed (look c) (id_at g v) → Marked unsealed v → ⊥
    sealed_here sealed marked =
        let from = (o.follows v).0 marked in
        let behind = (o.walked.behind from.0).0 from.1 in
        let b = behind.1 in
        false≢true (sym b.unprepared ∙ sealed (id_at g from.0) b.x (in_view from.0 v from.2)
        (record { key = behind.0; here = record { nonce = b.y.nonce; valid = rw b.to.is b.to.valid; before = rw b.to.is b.before } }))

    pub sealed_by : law.Sealed (look c) (id_at g v) ↔ (Marked unsealed v → ⊥)
    sealed_by = (sealed_here, sealed_there)

    pub ready_by : law.IsReady (look c) (id_at g v) ↔ (IsReady g v × (Marked unsealed v → ⊥))
    unfolding First
    ready_by = (λ ready. (first_here ready.first, sealed_here ready.sealed), λ both. record { sealed = sealed_there both.1; first = first_there both.0 })
