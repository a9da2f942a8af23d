-- The tokens before one in a queue.
use Rattle.std.proofs.Common.{◌≡◌, ℕ, suc, ◌+◌, Bool, true, false, ◌||◌, cond, Option, Some, None, option_map, MatchOption, List, [], ◌∷◌, take, inl, inr, ◌⊎◌, ⊎_elim, ap, ◌∙◌, sym, refl, subst, arith, true≢false}
use Rattle.std.proofs.lemmas.Option.{same_Some}
use Rattle.std.specs.List.{position_from}
use Rattle.txn_key.specs.declared.id.Token.{Token}
use Rattle.store_trait.specs.Edits.{same_token}
use Rattle.store_laws.specs.Readiness.{In, Before}
use Rattle.store_laws.proofs.views.Queues.{in_if_has, has_if_in}
use Rattle.flush_prepare.specs.Queues.{before}

-- the place of a token counted from a number, and what stands before it
Found : Token → List Token → ℕ → Option ℕ → Type 0
Found own queue from found = MatchOption found (before own queue ≡ None) (λ place. (n : ℕ) × (place ≡ from + n) × (before own queue ≡ Some (take n queue)))

found_more : (own x : Token) (queue : List Token) (from : ℕ) (found : Option ℕ) → same_token own x ≡ false → Found own queue (from + 1) found → Found own (x ∷ queue) from found
unfolding Found
found_more own x queue from None other h = ap (λ (t : Bool). cond t (Some []) (option_map (λ rest. x ∷ rest) (before own queue))) other ∙ ap (option_map (λ rest. x ∷ rest)) h
found_more own x queue from (Some place) other h =
    (suc h.0, omega (arith, h.1), ap (λ (t : Bool). cond t (Some []) (option_map (λ rest. x ∷ rest) (before own queue))) other ∙ ap (option_map (λ rest. x ∷ rest)) h.2)

found_at : (own : Token) (queue : List Token) (from : ℕ) → Found own queue from (position_from (same_token own) from queue)
unfolding Found
found_at own [] from = refl
found_at own (x ∷ queue) from = by (same_token own x) refl (found_at own queue (from + 1))
  where
    by : (t : Bool) → same_token own x ≡ t → Found own queue (from + 1) (position_from (same_token own) (from + 1) queue) → Found own (x ∷ queue) from (cond t (Some from) (position_from (same_token own) (from + 1) queue))
    by true same rest = (0, omega arith, ap (λ (t : Bool). cond t (Some []) (option_map (λ rest. x ∷ rest) (before own queue))) same)
    by false other rest = found_more own x queue from (position_from (same_token own) (from + 1) queue) other rest

-- the place is how many stand before
pub counted_before : (own : Token) (queue : List Token) (found : Option ℕ) → found ≡ position_from (same_token own) 0 queue → MatchOption found (before own queue ≡ None) (λ n. before own queue ≡ Some (take n queue))
unfolding Found
counted_before own queue found e = by found (subst (λ (o : Option ℕ). Found own queue 0 o) (sym e) (found_at own queue 0))
  where
    by : (o : Option ℕ) → Found own queue 0 o → MatchOption o (before own queue ≡ None) (λ n. before own queue ≡ Some (take n queue))
    by None h = h
    by (Some place) h = h.2 ∙ ap (λ (n : ℕ). Some (take n queue)) (omega (arith, h.1))

-- What stands before a token by the one word and by the other.

parts_of : (own x : Token) (queue : List Token) (tokens : List Token) (t : Bool) (rest : Option (List Token)) → cond t (Some []) (option_map (λ more. x ∷ more) rest) ≡ Some tokens
    → ((t ≡ true) × (tokens ≡ [])) ⊎ ((t ≡ false) × (more : List Token) × (rest ≡ Some more) × (tokens ≡ x ∷ more))
parts_of own x queue tokens true rest e = inl (refl, sym (same_Some [] tokens e))
parts_of own x queue tokens false None e = cc
parts_of own x queue tokens false (Some more) e = inr (refl, more, refl, sym (same_Some (x ∷ more) tokens e))

none_of : (x : Token) (t : Bool) (rest : Option (List Token)) → cond t (Some []) (option_map (λ more. x ∷ more) rest) ≡ None → (t ≡ false) × (rest ≡ None)
none_of x true rest e = cc
none_of x false None e = (refl, refl)
none_of x false (Some more) e = cc

pub before_in : (x y : Token) (queue : List Token) → Before x y queue → In y queue
before_in x y [] h = absurd h
before_in x y (z ∷ queue) (inl h) = inr h.1
before_in x y (z ∷ queue) (inr h) = inr (before_in x y queue h)

is_same : (x y : Token) → same_token x y ≡ true → y ≡ x
is_same x y e = only (in_if_has x (y ∷ []) (ap (λ (b : Bool). b || false) e))
  where
    only : In x (y ∷ []) → y ≡ x
    only (inl same) = same
    only (inr none) = absurd none

same_is : (x y : Token) → y ≡ x → same_token x y ≡ true
same_is x y e = by (same_token x y) (has_if_in x (y ∷ []) (inl e))
  where
    by : (b : Bool) → (b || false) ≡ true → b ≡ true
    by true h = refl
    by false h = h

-- one that some tokens stand before is there
found_in : (own : Token) (queue tokens : List Token) → before own queue ≡ Some tokens → In own queue
found_in own [] tokens e = cc
found_in own (y ∷ queue) tokens e = by (parts_of own y queue tokens (same_token own y) (before own queue) e) (found_in own queue)
  where
    by : ((same_token own y ≡ true) × (tokens ≡ [])) ⊎ ((same_token own y ≡ false) × (more : List Token) × (before own queue ≡ Some more) × (tokens ≡ y ∷ more))
        → ((tokens : List Token) → before own queue ≡ Some tokens → In own queue) → In own (y ∷ queue)
    by (inl none) rest = inl (is_same own y none.0)
    by (inr some) rest = inr (rest some.1 some.2)

-- it isn't there
pub not_there : (own : Token) (queue : List Token) → before own queue ≡ None → In own queue → ⊥
not_there own [] e h = absurd h
not_there own (x ∷ queue) e (inl same) = absurd (true≢false (sym (same_is own x same) ∙ (none_of x (same_token own x) (before own queue) e).0))
not_there own (x ∷ queue) e (inr later) = not_there own queue (none_of x (same_token own x) (before own queue) e).1 later

-- each taken stands before it
pub taken_before : (own x : Token) (queue tokens : List Token) → before own queue ≡ Some tokens → In x tokens → Before x own queue
taken_before own x [] tokens e h = cc
taken_before own x (y ∷ queue) tokens e h = by (parts_of own y queue tokens (same_token own y) (before own queue) e) (taken_before own x queue)
  where
    by : ((same_token own y ≡ true) × (tokens ≡ [])) ⊎ ((same_token own y ≡ false) × (more : List Token) × (before own queue ≡ Some more) × (tokens ≡ y ∷ more))
        → ((tokens : List Token) → before own queue ≡ Some tokens → In x tokens → Before x own queue) → Before x own (y ∷ queue)
    by (inl none) rest = absurd (subst (In x) none.1 h)
    by (inr some) rest = ⊎_elim (λ same. inl (same, found_in own queue some.1 some.2)) (λ more. inr (rest some.1 some.2 more)) (subst (In x) some.3 h)

-- all that stand before it are taken, where no token stands twice
pub before_taken : (own x : Token) (queue tokens : List Token) → (Before own own queue → ⊥) → before own queue ≡ Some tokens → Before x own queue → In x tokens
before_taken own x [] tokens once e h = cc
before_taken own x (y ∷ queue) tokens once e h = by (parts_of own y queue tokens (same_token own y) (before own queue) e) (before_taken own x queue) h
  where
    by : ((same_token own y ≡ true) × (tokens ≡ [])) ⊎ ((same_token own y ≡ false) × (more : List Token) × (before own queue ≡ Some more) × (tokens ≡ y ∷ more))
        → ((tokens : List Token) → (Before own own queue → ⊥) → before own queue ≡ Some tokens → Before x own queue → In x tokens) → Before x own (y ∷ queue) → In x tokens
    by (inl none) rest (inl first) = absurd (once (inl (is_same own y none.0, first.1)))
    by (inl none) rest (inr later) = absurd (once (inl (is_same own y none.0, before_in x own queue later)))
    by (inr some) rest (inl first) = subst (In x) (sym some.3) (inl first.0)
    by (inr some) rest (inr later) = subst (In x) (sym some.3) (inr (rest some.1 (λ twice. once (inr twice)) some.2 later))
