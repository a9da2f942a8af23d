-- Laws of going first, over any relation.
use Rattle.std.proofs.Common.{◌≢◌, ◌⊎◌, sym}
use Rattle.txn_record.specs.Walks.{Leads, GoesFirst}
use Rattle.txn_record.proofs.WalkLaws.{leads_map}
use Rattle.cycle_order.proofs.MoreWalks.{leads_without}

module _ {A : Type 0} {E : A → A → Type 0} {Unsettled : A → Type 0} {Below : A → A → Type 0} where
  -- of two unsettled vertices, each an ancestor of the other, one at most goes first
  pub never_both_first : ((v w : A) → Below v w → Below w v → ⊥) → (v w : A) → v ≢ w → Unsettled v → Unsettled w → Leads E v w → Leads E w v
      → GoesFirst E Unsettled Below v → GoesFirst E Unsettled Below w → ⊥
  never_both_first one_way v w differ uv uw to back fv fw =
      one_way v w (fv.least w back (λ e. differ (sym e)) uw) (fw.least v to differ uv)

  -- where fewer vertices are unsettled, what went first still does
  pub first_with_fewer : {Fewer : A → Type 0} → ((a : A) → Fewer a → Unsettled a) → (v : A) → GoesFirst E Unsettled Below v → GoesFirst E Fewer Below v
  first_with_fewer fewer v f = record {
    back = λ a walk differ u. f.back a walk differ (fewer a u);
    least = λ a walk differ u. f.least a walk differ (fewer a u);
  }

  -- with more edges, of which the new ones end at no ancestor of it, what went first still does
  pub first_with_more : {More : A → A → Type 0} → ((u w : A) → E u w → More u w) → (v : A) → ((u w : A) → More u w → E u w ⊎ (Leads E w v → ⊥))
      → GoesFirst E Unsettled Below v → GoesFirst More Unsettled Below v
  first_with_more {More} more v late f = record {
    back = λ a walk differ u. leads_map more v a (f.back a (old a walk) differ u);
    least = λ a walk differ u. f.least a (old a walk) differ u;
  }
    where
      old : (a : A) → Leads More a v → Leads E a v
      old a walk = leads_without v late a v walk (Leads.Here v)

  -- along the same edges, said otherwise, the same goes first
  pub first_same : {F : A → A → Type 0} {Open : A → Type 0} → ((u w : A) → E u w → F u w) → ((u w : A) → F u w → E u w) → ((a : A) → Open a → Unsettled a)
      → (v : A) → GoesFirst E Unsettled Below v → GoesFirst F Open Below v
  first_same on back fewer v f = record {
    back = λ a walk differ u. leads_map on v a (f.back a (leads_map back a v walk) differ (fewer a u));
    least = λ a walk differ u. f.least a (leads_map back a v walk) differ (fewer a u);
  }
