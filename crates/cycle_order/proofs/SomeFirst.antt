-- Among finitely many unsettled vertices, whatever the edges, it can't be that none goes first.
use Rattle.std.proofs.Common.{◌≡◌, ◌≢◌, ◌⊎◌, inl, inr, List, [], ◌∷◌, sym, subst, ◌∙◌}
use Rattle.txn_record.specs.Walks.{Leads, GoesFirst}
use Rattle.txn_record.proofs.WalkLaws.{join}

abbrev pub Among : {A : Type 0} → A → List A → Type 0
Among x [] = ⊥
Among x (y ∷ ys) = (y ≡ x) ⊎ Among x ys

-- of finitely many facts, it can't be that they are not all decided
decided_among : {A : Type 0} (P : A → Type 0) (xs : List A) → (((a : A) → Among a xs → P a ⊎ (P a → ⊥)) → ⊥) → ⊥
decided_among P [] undecided = undecided (λ a h. absurd h)
decided_among {A} P (x ∷ xs) undecided = decided_among P xs (λ rest. no rest (inr (λ p. no rest (inl p))))
  where
    no : ((a : A) → Among a xs → P a ⊎ (P a → ⊥)) → P x ⊎ (P x → ⊥) → ⊥
    no rest here = undecided (λ a h. elim h [ inl e ↦ subst (λ (b : A). P b ⊎ (P b → ⊥)) e here | inr later ↦ rest a later ])

-- a strict order of finitely many members has a least one: it can't be that each has one before it
no_descent : {A : Type 0} (Member : A → Type 0) (Before : A → A → Type 0) → ((a : A) → Before a a → ⊥) → ((a b c : A) → Before a b → Before b c → Before a c)
    → ((v : A) → Member v → ((a : A) → Member a → Before a v → ⊥) → ⊥)
    → (xs : List A) (v : A) → Member v → ((a : A) → Member a → Before a v → Among a xs) → ⊥
no_descent Member Before strict then_ below [] v m inside = below v m inside
no_descent {A} Member Before strict then_ below (x ∷ xs) v m inside =
    no_descent Member Before strict then_ below xs v m (λ a n b. elim (inside a n b) [
      | inl e ↦ absurd (no_descent Member Before strict then_ below xs a n (behind a n b e))
      | inr later ↦ later
    ])
  where
    behind : (a : A) → Member a → Before a v → x ≡ a → (d : A) → Member d → Before d a → Among d xs
    behind a n b e d k f = elim (inside d k (then_ d a v f b)) [
      | inl same ↦ absurd (strict a (subst (λ (y : A). Before y a) (sym same ∙ e) f))
      | inr later ↦ later
    ]

module _ {A : Type 0} (E : A → A → Type 0) (Unsettled : A → Type 0) (Below : A → A → Type 0) where
  -- a stands in v's way: v doesn't lead to it in turn, or it comes below v
  Hinders : A → A → Type 0
  Hinders a v = Leads E a v × ((Leads E v a → ⊥) ⊎ Below a v)

  hinders_then : ((a b c : A) → Below a b → Below b c → Below a c) → (a b c : A) → Hinders a b → Hinders b c → Hinders a c
  unfolding Hinders
  hinders_then trans a b c (walk, h) (on, k) = (
    join a b c walk on,
    elim h [
      | inl far ↦ inl (λ back. far (join b c a on back))
      | inr low ↦ elim k [ inl far ↦ inl (λ back. far (join c a b back walk)) | inr next ↦ inr (trans a b c low next) ]
    ],
  )

  module _ (strict : (v : A) → Below v v → ⊥) (trans : (a b c : A) → Below a b → Below b c → Below a c)
      (apart : (v a : A) → Unsettled v → Unsettled a → a ≢ v → Below v a ⊎ Below a v)
      (xs : List A) (inside : (a : A) → Unsettled a → Among a xs) where
    alone : (a : A) → Hinders a a → ⊥
    unfolding Hinders
    alone a (walk, h) = elim h [ inl far ↦ far (Leads.Here a) | inr low ↦ strict a low ]

    -- what nothing hinders goes first, where it is decided which vertices it leads to
    unhindered : (v : A) → Unsettled v → ((a : A) → Unsettled a → Hinders a v → ⊥) → ((a : A) → Among a xs → Leads E v a ⊎ (Leads E v a → ⊥))
        → GoesFirst E Unsettled Below v
    unfolding Hinders
    unhindered v u free decided = record {
      back = λ a walk differ w. elim (decided a (inside a w)) [ inl back ↦ back | inr far ↦ absurd (free a w (walk, inl far)) ];
      least = λ a walk differ w. elim (apart v a u w differ) [ inl low ↦ low | inr high ↦ absurd (free a w (walk, inr high)) ];
    }

    -- so, where every unsettled vertex is among finitely many, some unsettled one goes first
    pub some_first : ((v : A) → Unsettled v → GoesFirst E Unsettled Below v → ⊥) → (v : A) → Unsettled v → ⊥
    some_first none v u =
        no_descent Unsettled Hinders alone (hinders_then trans)
        (λ w uw free. decided_among (λ a. Leads E w a) xs (λ decided. none w uw (unhindered w uw free decided)))
        xs v u (λ a ua h. inside a ua)
