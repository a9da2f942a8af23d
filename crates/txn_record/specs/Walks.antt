-- Walks along the edges of a relation, and who goes first where some wait for others.
use Rattle.std.specs.Prelude.{◌≢◌}

-- `Leads E a t`: some walk of edges goes from a to t. It grows at its end, so that what is known of
-- edges into t is known of walks to t.
pub data Leads {A : Type 0} (E : A → A → Type 0) : A → A → Type 0 where
  Here : (t : A) → Leads E t t
  Then : (a u t : A) → Leads E a u → E u t → Leads E a t

-- Said of any relation "stands before", so that graphs and the contents of a store share the words:
-- each other unsettled one from which a walk leads to v is led to by v, and v comes below it.
pub record GoesFirst {A : Type 0} (E : A → A → Type 0) (Unsettled : A → Type 0)
    (Below : A → A → Type 0) (v : A) : Type 0 where
  pub back : (a : A) → Leads E a v → a ≢ v → Unsettled a → Leads E v a
  pub least : (a : A) → Leads E a v → a ≢ v → Unsettled a → Below v a

-- v and each from which a walk leads to v are settled
abbrev pub AllBefore : {A : Type 0} → (A → A → Type 0) → (A → Type 0) → A → Type 0
AllBefore {A} E Settled v = (a : A) → Leads E a v → Settled a
