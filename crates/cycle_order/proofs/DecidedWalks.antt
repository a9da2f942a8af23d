-- Along the edges of a list it is decided whether a walk leads from one vertex to another, and so
-- which vertices of a graph are ready.
use Rattle.std.proofs.Common.{◌≡◌, ◌≢◌, ℕ, zero, suc, ◌<◌, ◌⊎◌, inl, inr, true, false, List, [], ◌∷◌, length, refl, sym, ap, subst, ◌∙◌, arith}
use Rattle.std.proofs.lemmas.Bool.{cases_eq, cases_Bool, false≢true}
use Rattle.std.specs.declared.cmp.Ordering.{Ordering}
use Rattle.std.specs.declared.cmp.Ordering.TheVariants.{Less, Equal, Greater}
use Rattle.txn_key.specs.Ids.{id_cmp}
use Rattle.txn_record.specs.Walks.{Leads}
use Rattle.txn_record.proofs.WalkLaws.{join, one_edge, leads_map}
use Rattle.cycle_order.proofs.GraphFacts.{unsettled_within, some_ready}
use Rattle.cycle_order.specs.Graphs.{IsGraph, HasEdge, Ancestor, IsUnsettled, IsBelow, IsReady, edge_of, id_at, settled_at}
use Rattle.cycle_order.specs.declared.graph.Edge.{Edge}
use Rattle.cycle_order.specs.declared.graph.Graph.{Graph}

-- an edge of a longer list is its first one or one of the others
edge_cases : (edge : Edge) (edges : List Edge) (u t : ℕ) → HasEdge (edge ∷ edges) u t → (edge ≡ edge_of u t) ⊎ HasEdge edges u t
edge_cases edge edges u t (zero, below, is) = inl is
edge_cases edge edges u t (suc k, below, is) = inr (k, omega arith, is)

first_edge : (edge : Edge) (edges : List Edge) → HasEdge (edge ∷ edges) edge.before edge.after
first_edge edge edges = (0, omega arith, refl)

other_edge : (edge : Edge) (edges : List Edge) (u t : ℕ) → HasEdge edges u t → HasEdge (edge ∷ edges) u t
other_edge edge edges u t (k, below, is) = (suc k, omega arith, is)

-- a walk that may go through one edge more goes without it, or up to it and on from it
abbrev Through : Edge → List Edge → ℕ → ℕ → Type 0
Through edge edges a t = Leads (HasEdge edges) a t ⊎ (Leads (HasEdge edges) a edge.before × Leads (HasEdge edges) edge.after t)

through : (edge : Edge) (edges : List Edge) (a t : ℕ) → Leads (HasEdge (edge ∷ edges)) a t → Through edge edges a t
through edge edges a _ (Leads.Here _) = inl (Leads.Here _)
through edge edges a t (Leads.Then _ u _ walk e) = elim (edge_cases edge edges u t e) [
  | inl is ↦
      let at_end : Leads (HasEdge edges) edge.after t = subst (λ n. Leads (HasEdge edges) edge.after n) (ap (λ (d : Edge). d.after) is) (Leads.Here edge.after) in
      elim (through edge edges a u walk) [
        | inl w ↦ inr (subst (Leads (HasEdge edges) a) (sym (ap (λ (d : Edge). d.before) is)) w, at_end)
        | inr w ↦ inr (w.0, at_end)
      ]
  | inr old ↦ elim (through edge edges a u walk) [
    | inl w ↦ inl (Leads.Then a u t w old)
    | inr w ↦ inr (w.0, Leads.Then edge.after u t w.1 old)
  ]
]

not_through : (edge : Edge) (edges : List Edge) (a t : ℕ) → Through edge edges a t → Leads (HasEdge (edge ∷ edges)) a t
not_through edge edges a t h = elim h [
  | inl w ↦ more a t w
  | inr w ↦ join a edge.after t (join a edge.before edge.after (more a edge.before w.0) (one_edge edge.before edge.after (first_edge edge edges))) (more edge.after t w.1)
]
  where
    more : (b s : ℕ) → Leads (HasEdge edges) b s → Leads (HasEdge (edge ∷ edges)) b s
    more = leads_map (other_edge edge edges)

abbrev Decided : Type 0 → Type 0
Decided P = P ⊎ (P → ⊥)

no_edges : (a t : ℕ) → Leads (HasEdge []) a t → a ≡ t
no_edges a _ (Leads.Here _) = refl
no_edges a t (Leads.Then _ u _ walk (k, below, is)) = absurd (omega arith)

pub decided_walk : (edges : List Edge) (a t : ℕ) → Leads (HasEdge edges) a t ⊎ (Leads (HasEdge edges) a t → ⊥)
decided_walk [] a t = elim (cases_eq a t) [ inl e ↦ inl (subst (Leads (HasEdge []) a) e (Leads.Here a)) | inr ne ↦ inr (λ w. ne (no_edges a t w)) ]
decided_walk (edge ∷ edges) a t = either (decided_walk edges a t) (decided_walk edges a edge.before) (decided_walk edges edge.after t)
  where
    unless : (Leads (HasEdge edges) a t → ⊥) → (Leads (HasEdge edges) a edge.before × Leads (HasEdge edges) edge.after t → ⊥) → Leads (HasEdge (edge ∷ edges)) a t → ⊥
    unless f g w = elim (through edge edges a t w) [ inl x ↦ f x | inr y ↦ g y ]

    either : Decided (Leads (HasEdge edges) a t) → Decided (Leads (HasEdge edges) a edge.before) → Decided (Leads (HasEdge edges) edge.after t) → Decided (Leads (HasEdge (edge ∷ edges)) a t)
    either (inl w) d e = inl (not_through edge edges a t (inl w))
    either (inr f) (inl p) (inl q) = inl (not_through edge edges a t (inr (p, q)))
    either (inr f) (inl p) (inr g) = inr (unless f (λ w. g w.1))
    either (inr f) (inr g) e = inr (unless f (λ w. g w.0))

-- a decided fact holds of each number below n, or fails at one
all_below : (P : ℕ → Type 0) → ((k : ℕ) → Decided (P k)) → (n : ℕ) → ((k : ℕ) → k < n → P k) ⊎ (((k : ℕ) → k < n → P k) → ⊥)
all_below P decide zero = inl (λ k below. absurd (omega arith))
all_below P decide (suc n) = step (all_below P decide n) (decide n)
  where
    last : (k : ℕ) → k < suc n → (k ≡ n) ⊎ (k < n)
    last k h = grind arith

    step : Decided ((k : ℕ) → k < n → P k) → Decided (P n) → Decided ((k : ℕ) → k < suc n → P k)
    step (inl all) (inl here) = inl (λ k below. elim (last k below) [ inl e ↦ subst P (sym e) here | inr less ↦ all k less ])
    step (inl all) (inr f) = inr (λ more. f (more n (omega arith)))
    step (inr f) d = inr (λ more. f (λ k below. more k (omega arith)))

-- a decided fact holds of some number below n, or of none
some_below : (P : ℕ → Type 0) → ((k : ℕ) → Decided (P k)) → (n : ℕ) → ((k : ℕ) × P k) ⊎ ((k : ℕ) → k < n → P k → ⊥)
some_below P decide zero = inr (λ k below. absurd (omega arith))
some_below P decide (suc n) = step (some_below P decide n) (decide n)
  where
    last : (k : ℕ) → k < suc n → (k ≡ n) ⊎ (k < n)
    last k h = grind arith

    step : ((k : ℕ) × P k) ⊎ ((k : ℕ) → k < n → P k → ⊥) → Decided (P n) → ((k : ℕ) × P k) ⊎ ((k : ℕ) → k < suc n → P k → ⊥)
    step (inl found) d = inl found
    step (inr none) (inl here) = inl (n, here)
    step (inr none) (inr f) = inr (λ k below p. elim (last k below) [ inl e ↦ f (subst P e p) | inr less ↦ none k less p ])

module _ (graph : Graph) (g : IsGraph graph) where
  decided_below : (v w : ℕ) → Decided (IsBelow graph v w)
  decided_below v w = by_order (id_cmp (id_at graph v) (id_at graph w))
    where
      by_order : (o : Ordering) → Decided (o ≡ Less)
      by_order Less = inl refl
      by_order Equal = inr (λ e. cc)
      by_order Greater = inr (λ e. cc)

  -- what readiness of v asks of one vertex
  abbrev Yields : ℕ → ℕ → Type 0
  Yields v a = Ancestor graph a v → a ≢ v → IsUnsettled graph a → Ancestor graph v a × IsBelow graph v a

  decided_yields : (v a : ℕ) → Decided (Yields v a)
  decided_yields v a = by_cases (decided_walk graph.edges a v) (cases_eq a v) (cases_Bool (settled_at graph a)) (decided_walk graph.edges v a) (decided_below v a)
    where
      by_cases : Decided (Ancestor graph a v) → (a ≡ v) ⊎ (a ≡ v → ⊥) → (settled_at graph a ≡ true) ⊎ (settled_at graph a ≡ false) → Decided (Ancestor graph v a) → Decided (IsBelow graph v a) → Decided (Yields v a)
      by_cases (inr f) same flag back low = inl (λ walk differ u. absurd (f walk))
      by_cases (inl walk) (inl e) flag back low = inl (λ w differ u. absurd (differ e))
      by_cases (inl walk) (inr ne) (inl settled) back low = inl (λ w differ u. absurd (false≢true (sym u ∙ settled)))
      by_cases (inl walk) (inr ne) (inr u) (inl back) (inl low) = inl (λ w differ v'. (back, low))
      by_cases (inl walk) (inr ne) (inr u) (inl back) (inr f) = inr (λ h. f (h walk ne u).1)
      by_cases (inl walk) (inr ne) (inr u) (inr f) low = inr (λ h. f (h walk ne u).0)

  decided_ready : (v : ℕ) → Decided (IsUnsettled graph v × IsReady graph v)
  decided_ready v = by_cases (cases_Bool (settled_at graph v)) (all_below (Yields v) (decided_yields v) (length graph.ids))
    where
      ready : ((a : ℕ) → a < length graph.ids → Yields v a) → IsReady graph v
      ready all = record {
        back = λ a walk differ u. (all a (unsettled_within graph g a u) walk differ u).0;
        least = λ a walk differ u. (all a (unsettled_within graph g a u) walk differ u).1;
      }

      by_cases : (settled_at graph v ≡ true) ⊎ (settled_at graph v ≡ false) → Decided ((a : ℕ) → a < length graph.ids → Yields v a) → Decided (IsUnsettled graph v × IsReady graph v)
      by_cases (inl settled) all = inr (λ h. false≢true (sym h.0 ∙ settled))
      by_cases (inr u) (inl all) = inl (u, ready all)
      by_cases (inr u) (inr f) = inr (λ h. f (λ a below walk differ w. (h.1.back a walk differ w, h.1.least a walk differ w)))

  -- an unsettled graph has a ready vertex
  pub has_ready : (v : ℕ) → IsUnsettled graph v → (r : ℕ) × IsUnsettled graph r × IsReady graph r
  has_ready v u = elim (some_below (λ r. IsUnsettled graph r × IsReady graph r) decided_ready (length graph.ids)) [
    | inl found ↦ (found.0, found.1.0, found.1.1)
    | inr none ↦ absurd (some_ready graph g (λ r ur ready. none r (unsettled_within graph g r ur) (ur, ready)) v u)
  ]
