-- The graph of all records, made of what was gathered, and what is asked of it.
use Rattle.std.proofs.Common.{◌≡◌, ℕ, ◌<◌, ◌↔◌, Bool, true, false, not, Some, None, List, [], length, get_or, map, IsTrue, Result, Ok, Err, IfOk, refl, sym, ap, ◌∙◌, subst, slice_index_or}
use Rattle.std.proofs.lemmas.Bool.{false≢true}
use Rattle.std.proofs.lemmas.List.{get_or-map, length-map, get_or_read}
use Rattle.std.proofs.lemmas.List.Elements.{Contains-get_or}
use Rattle.cycle_order.specs.Graphs.{IsGraph, HasEdge, IsReady, id_at}
use Rattle.cycle_order.specs.declared.graph.Edge.{Edge}
use Rattle.cycle_order.specs.declared.graph.Graph.{Graph}
use Rattle.store_laws.specs.Readiness as law
use Rattle.store_laws.specs.View.{look, record_at, settled}
use Rattle.store_trait.specs.Contents.{Content}
use Rattle.txn_key.specs.declared.id.TxnId.{TxnId}
use Rattle.txn_record.specs.Walks.{Leads}
use Rattle.txn_record.specs.declared.record.Record.{Record}
use Rattle.listed_cells.specs.Orders.{IsOrder, IsRoster, IsWalked, IsPlace}
use Rattle.listed_cells.proofs.Listed.{roster}
use Rattle.listed_cells.specs.Listing.{content_of, IsListing}
use Rattle.listed_cells.specs.Queues.{ids_of}
use Rattle.store_trait.specs.declared.cell.Named.{Named}
use Rattle.listed_cells.proofs.Readiness.{ready_by, sealed_by}
use Rattle.listed_cells.proofs.Rosters.{not_below}

module _ (c : Content) (g : Graph) (marks : List Bool) (known : IsRoster c g.ids) (flags : g.settled ≡ map (settled (look c)) g.ids) (walked : IsWalked c g.ids g.edges marks) where
  pub graph_made : IsGraph g
  graph_made = record {
    distinct = λ i j d lt within e. not_below g.ids known.rise (get_or g.ids i d) (get_or g.ids j d) e (known.rise i j d lt within);
    flags = ap length flags ∙ length-map g.ids (settled (look c));
    edges = λ k d within.
        let e : Edge = get_or g.edges k d in
        let j = (walked.sound (get_or g.edges k d).before (get_or g.edges k d).after (Contains-get_or g.edges k d within)).1 in
        (j.from.within, j.to.within);
  }

  pub order_made : (unsealed : List Bool) → length unsealed ≡ length g.ids
      → ((v : ℕ) → IsTrue (slice_index_or unsealed v false) ↔ ((a : ℕ) × (slice_index_or marks a false ≡ true) × Leads (HasEdge g.edges) a v)) → IsOrder c g unsealed
  order_made unsealed size exact = record {
    graph = graph_made;
    roster = known;
    settles = λ v within. ap (λ (fs : List Bool). get_or fs v true) flags ∙ get_or-map (settled (look c)) g.ids v (record { 0 = [] }) true within;
    marks = marks;
    walked = walked;
    size = size;
    follows = λ v. ((λ h. (exact v).0 h), (λ d. (exact v).1 d));
  }

module _ (c : Content) (g : Graph) (unsealed : List Bool) (o : IsOrder c g unsealed) (id : TxnId) where
  -- a record that is there has a vertex
  pub has_vertex : (rec : Record) → record_at c id ≡ Some rec → IsPlace g.ids id None → ⊥
  has_vertex rec e none = none (o.roster.all id rec e)

  module _ (v : ℕ) (within : v < length g.ids) (is : id_at g v ≡ id) where
    pub sealed_answer : (b : Bool) → b ≡ slice_index_or unsealed v false → IsTrue (not b) ↔ law.Sealed (look c) id
    sealed_answer true e = (λ h. cc h, λ s. absurd ((sealed_by c g unsealed o v within).0 (subst (law.Sealed (look c)) (sym is) s) (sym e)))
    sealed_answer false e = (λ h. subst (law.Sealed (look c)) is ((sealed_by c g unsealed o v within).1 (λ m. false≢true (e ∙ m))), λ s. refl)

    -- a record that isn't sealed is not ready
    pub not_ready : slice_index_or unsealed v false ≡ true → IsTrue false ↔ law.IsReady (look c) id
    not_ready flagged = (λ h. cc h, λ r. absurd (((ready_by c g unsealed o v within).0 (subst (law.IsReady (look c)) (sym is) r)).1 flagged))

    pub ready_answer : {E : Type 0} → slice_index_or unsealed v false ≡ false → (r : Result Bool E) → IfOk r (λ b. IsTrue b ↔ IsReady g v) → IfOk r (λ b. IsTrue b ↔ law.IsReady (look c) id)
    ready_answer clear (Ok b) h = (
      λ t. subst (law.IsReady (look c)) is ((ready_by c g unsealed o v within).1 (h.0 t, λ m. false≢true (sym clear ∙ m))),
      λ r. h.1 ((ready_by c g unsealed o v within).0 (subst (law.IsReady (look c)) (sym is) r)).0,
    )
    ready_answer clear (Err e) h = tt

-- what was gathered of the cells, before it is made into a graph
pub record IsGathered (c : Content) (g : Graph) (marks : List Bool) : Type 0 where
  pub roster : IsRoster c g.ids
  pub flags : g.settled ≡ map (settled (look c)) g.ids
  pub walked : IsWalked c g.ids g.edges marks

pub gathered : (cells : List Named) → IsListing cells → (ids seen seen' : List TxnId) (flags : List Bool) (edges : List Edge) (marks : List Bool) (g : Graph)
    → ids ≡ ids_of cells → seen ≡ ids → seen' ≡ ids → flags ≡ map (settled (look (content_of cells))) seen → IsWalked (content_of cells) seen' edges marks
    → g.ids ≡ ids → g.settled ≡ flags → g.edges ≡ edges → IsGathered (content_of cells) g marks
gathered cells listed ids seen seen' flags edges marks g ids_are e e' f w gi gf ge = record {
  roster = subst (IsRoster (content_of cells)) (sym (gi ∙ ids_are)) (roster cells listed);
  flags = gf ∙ f ∙ ap (map (settled (look (content_of cells)))) (e ∙ sym gi);
  walked = subst (λ es. IsWalked (content_of cells) g.ids es marks) (sym ge) (subst (λ (is : List TxnId). IsWalked (content_of cells) is edges marks) (e' ∙ sym gi) w);
}

-- the flag of a vertex that was read
pub vertex_flagged : (c : Content) (g : Graph) (unsealed : List Bool) → IsOrder c g unsealed → (v : ℕ) (b : Bool) → v < length g.ids → b ≡ get_or unsealed v b → slice_index_or unsealed v false ≡ b
vertex_flagged c g unsealed o v b within read = sym (get_or_read unsealed v b (rw o.size within) read false)

pub order_from : (c : Content) (g : Graph) (marks given : List Bool) (unsealed : List Bool) → IsGathered c g marks → given ≡ marks → length unsealed ≡ length g.ids
    → ((v : ℕ) → IsTrue (slice_index_or unsealed v false) ↔ ((a : ℕ) × (slice_index_or given a false ≡ true) × Leads (HasEdge g.edges) a v)) → IsOrder c g unsealed
order_from c g marks given unsealed all e size exact =
    order_made c g given all.roster all.flags (subst (λ (ms : List Bool). IsWalked c g.ids g.edges ms) (sym e) all.walked) unsealed size exact
