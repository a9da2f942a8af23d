-- Walks along any edges: turned round, through a map, past a vertex, and where edges are added.
use Rattle.std.proofs.Common.{◌≡◌, ◌≢◌, ◌⊎◌, inl, inr, subst, sym}
use Rattle.txn_record.specs.Walks.{Leads}
use Rattle.txn_record.proofs.WalkLaws.{one_edge, join}

-- a walk the other way, where each edge goes the other way
pub leads_turned : {A : Type 0} {E F : A → A → Type 0} → ((u t : A) → E u t → F t u) → (a t : A) → Leads E a t → Leads F t a
leads_turned turn a _ (Leads.Here _) = Leads.Here _
leads_turned turn a t (Leads.Then _ u _ walk edge) = join t u a (one_edge t u (turn u t edge)) (leads_turned turn a u walk)

-- a walk in another graph, to which the vertices and edges are mapped
pub leads_mapped : {A B : Type 0} {E : A → A → Type 0} {F : B → B → Type 0} → (f : A → B) → ((u t : A) → E u t → F (f u) (f t)) → (a t : A) → Leads E a t → Leads F (f a) (f t)
leads_mapped f map_edge a _ (Leads.Here _) = Leads.Here _
leads_mapped f map_edge a t (Leads.Then _ u _ walk edge) = Leads.Then (f a) (f u) (f t) (leads_mapped f map_edge a u walk) (map_edge u t edge)

-- a walk goes through x, or along edges that don't end there
pub leads_cut : {A : Type 0} {E : A → A → Type 0} (x : A) → ((u : A) → (u ≡ x) ⊎ (u ≢ x)) → (a t : A) → Leads E a t
    → (Leads E a x × Leads E x t) ⊎ Leads (λ u w. E u w × (w ≢ x)) a t
leads_cut x same a _ (Leads.Here _) = inr (Leads.Here _)
leads_cut {A} {E} x same a t (Leads.Then _ u _ walk edge) = elim (leads_cut x same a u walk) [
  | inl (w, v) ↦ inl (w, Leads.Then x u t v edge)
  | inr rest ↦ elim (same t) [
    | inl e ↦ inl (subst (Leads E a) e (Leads.Then a u t walk edge), subst (λ (s : A). Leads E x s) (sym e) (Leads.Here x))
    | inr ne ↦ inr (Leads.Then a u t rest (edge, ne))
  ]
]

-- edges that end at no ancestor of t bring it no new ancestor
pub leads_without : {A : Type 0} {E F : A → A → Type 0} (t : A) → ((u w : A) → F u w → E u w ⊎ (Leads E w t → ⊥)) → (a s : A) → Leads F a s → Leads E s t → Leads E a t
leads_without t old a _ (Leads.Here _) rest = rest
leads_without t old a s (Leads.Then _ u _ walk edge) rest = elim (old u s edge) [
  | inl e ↦ leads_without t old a u walk (join u s t (one_edge u s e) rest)
  | inr far ↦ absurd (far rest)
]
