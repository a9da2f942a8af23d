-- What holds of walks along any edges.
use Rattle.txn_record.specs.Walks.{Leads}

module _ {A : Type 0} {E : A → A → Type 0} where
  pub one_edge : (a t : A) → E a t → Leads E a t
  one_edge a t e = Leads.Then a a t (Leads.Here a) e

  -- one walk after another
  pub join : (a u t : A) → Leads E a u → Leads E u t → Leads E a t
  join a _ _ w (Leads.Here _) = w
  join a _ t w (Leads.Then _ v _ walk edge) = Leads.Then a v t (join a _ v w walk) edge

  -- a set that edges into it never leave backwards has each vertex that leads to one of it
  pub leads_in : (Member : A → Type 0) → ((u t : A) → E u t → Member t → Member u) → (a t : A) → Leads E a t → Member t → Member a
  leads_in Member shut a _ (Leads.Here _) m = m
  leads_in Member shut a t (Leads.Then _ u _ walk edge) m = leads_in Member shut a u walk (shut u t edge m)

-- more edges, more walks
pub leads_map : {A : Type 0} {E F : A → A → Type 0} → ((u t : A) → E u t → F u t) → (a t : A) → Leads E a t → Leads F a t
leads_map more a _ (Leads.Here _) = Leads.Here _
leads_map more a t (Leads.Then _ u _ walk edge) = Leads.Then a u t (leads_map more a u walk) (more u t edge)
