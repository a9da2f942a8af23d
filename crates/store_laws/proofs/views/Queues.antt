-- Tokens in a queue, and which stands before which.
use Rattle.std.proofs.Common.{◌≡◌, ◌≢◌, Bool, true, false, ◌&&◌, ◌||◌, true≢false, eqb, bytes_eq, List, [], ◌∷◌, ◌++◌, ◌⊎◌, inl, inr, ⊎_elim, refl, sym, ◌∙◌, ap, cond, subst}
use Rattle.std.proofs.lemmas.Bool.{eq-eqb, eqb-true, and_parts}
use Rattle.std.proofs.lemmas.Slice.Eq.{bytes_eq-Decides}
use Rattle.txn_key.specs.declared.id.Token.{Token}
use Rattle.store_laws.specs.Readiness.{In, Before}
use Rattle.store_trait.specs.Edits.{same_token, has_token, with_token}

pub in_more : (x z : Token) (queue : List Token) → In x queue → In x (queue ++ z ∷ [])
in_more x z [] h = absurd h
in_more x z (y ∷ queue) (inl e) = inl e
in_more x z (y ∷ queue) (inr h) = inr (in_more x z queue h)

pub in_less : (x z : Token) (queue : List Token) → In x (queue ++ z ∷ []) → In x queue ⊎ (z ≡ x)
in_less x z [] (inl e) = inr e
in_less x z [] (inr h) = absurd h
in_less x z (y ∷ queue) (inl e) = inl (inl e)
in_less x z (y ∷ queue) (inr h) = ⊎_elim (λ there. inl (inr there)) (λ last. inr last) (in_less x z queue h)

pub before_more : (x y z : Token) (queue : List Token) → Before x y queue → Before x y (queue ++ z ∷ [])
before_more x y z [] h = absurd h
before_more x y z (w ∷ queue) (inl h) = inl (h.0, in_more y z queue h.1)
before_more x y z (w ∷ queue) (inr h) = inr (before_more x y z queue h)

pub before_less : (x y z : Token) (queue : List Token) → Before x y (queue ++ z ∷ []) → Before x y queue ⊎ (z ≡ y)
before_less x y z [] (inl h) = absurd h.1
before_less x y z [] (inr h) = absurd h
before_less x y z (w ∷ queue) (inl h) = ⊎_elim (λ there. inl (inl (h.0, there))) (λ last. inr last) (in_less y z queue h.1)
before_less x y z (w ∷ queue) (inr h) = ⊎_elim (λ there. inl (inr there)) (λ last. inr last) (before_less x y z queue h)

-- of two tokens in a queue one stands before the other, unless they are one
pub in_order : (x y : Token) (queue : List Token) → In x queue → In y queue → x ≢ y → Before x y queue ⊎ Before y x queue
in_order x y [] p q apart = absurd p
in_order x y (w ∷ queue) (inl p) (inl q) apart = absurd (apart (sym p ∙ q))
in_order x y (w ∷ queue) (inl p) (inr q) apart = inl (inl (p, q))
in_order x y (w ∷ queue) (inr p) (inl q) apart = inr (inl (q, p))
in_order x y (w ∷ queue) (inr p) (inr q) apart = ⊎_elim (λ one. inl (inr one)) (λ two. inr (inr two)) (in_order x y queue p q apart)

-- the same with a token put at the end unless it is there

by_test : (P : List Token → Type 0) (queue more : List Token) (b : Bool) → P queue → P more → P (cond b queue more)
by_test P queue more true p q = p
by_test P queue more false p q = q

pub in_with : (x z : Token) (queue : List Token) → In x queue → In x (with_token z queue)
in_with x z queue h = by_test (In x) queue (queue ++ z ∷ []) (has_token z queue) h (in_more x z queue h)

pub in_without : (x z : Token) (queue : List Token) → In x (with_token z queue) → In x queue ⊎ (z ≡ x)
in_without x z queue = by_test (λ q. In x q → In x queue ⊎ (z ≡ x)) queue (queue ++ z ∷ []) (has_token z queue) (λ h. inl h) (in_less x z queue)

pub before_with : (x y z : Token) (queue : List Token) → Before x y queue → Before x y (with_token z queue)
before_with x y z queue h = by_test (Before x y) queue (queue ++ z ∷ []) (has_token z queue) h (before_more x y z queue h)

pub before_without : (x y z : Token) (queue : List Token) → Before x y (with_token z queue) → Before x y queue ⊎ (z ≡ y)
before_without x y z queue = by_test (λ q. Before x y q → Before x y queue ⊎ (z ≡ y)) queue (queue ++ z ∷ []) (has_token z queue) (λ h. inl h) (before_less x y z queue)

-- what stands before something at a queue's end stands in the queue
pub before_last : (x y z : Token) (queue : List Token) → Before x y (queue ++ z ∷ []) → In x queue
before_last x y z [] (inl h) = absurd h.1
before_last x y z [] (inr h) = absurd h
before_last x y z (w ∷ queue) (inl h) = inl h.0
before_last x y z (w ∷ queue) (inr h) = inr (before_last x y z queue h)

same_token_itself : (x : Token) → same_token x x ≡ true
same_token_itself x = λ i. (bytes_eq-Decides x.id.0 x.id.0).1 refl i && eq-eqb x.nonce x.nonce refl i

pub has_if_in : (x : Token) (queue : List Token) → In x queue → has_token x queue ≡ true
has_if_in x [] h = absurd h
has_if_in x (y ∷ queue) (inl e) = ap (λ (z : Token). same_token x z || has_token x queue) e ∙ ap (λ (b : Bool). b || has_token x queue) (same_token_itself x)
has_if_in x (y ∷ queue) (inr h) = ap (λ (b : Bool). same_token x y || b) (has_if_in x queue h) ∙ or_true (same_token x y)
  where
    or_true : (b : Bool) → (b || true) ≡ true
    or_true true = refl
    or_true false = refl

-- no token comes to stand twice
pub once_with : (x z : Token) (queue : List Token) → (Before x x queue → ⊥) → Before x x (with_token z queue) → ⊥
once_with x z queue once = go (has_token z queue) refl
  where
    go : (b : Bool) → has_token z queue ≡ b → Before x x (cond b queue (queue ++ z ∷ [])) → ⊥
    go true e h = once h
    go false e h = ⊎_elim once (λ last. true≢false (sym (has_if_in z queue (subst (λ (y : Token). In y queue) (sym last) (before_last x x z queue h))) ∙ e)) (before_less x x z queue h)

pub in_left : (x : Token) (queue more : List Token) → In x queue → In x (queue ++ more)
in_left x [] more h = absurd h
in_left x (y ∷ queue) more (inl e) = inl e
in_left x (y ∷ queue) more (inr h) = inr (in_left x queue more h)

pub in_right : (x : Token) (queue more : List Token) → In x more → In x (queue ++ more)
in_right x [] more h = h
in_right x (y ∷ queue) more h = inr (in_right x queue more h)

pub in_parts : (x : Token) (queue more : List Token) → In x (queue ++ more) → In x queue ⊎ In x more
in_parts x [] more h = inr h
in_parts x (y ∷ queue) more (inl e) = inl (inl e)
in_parts x (y ∷ queue) more (inr h) = ⊎_elim (λ there. inl (inr there)) (λ other. inr other) (in_parts x queue more h)

-- a token that was found is there

is_token : (x y : Token) → same_token x y ≡ true → y ≡ x
is_token x y e =
    let both = and_parts (bytes_eq x.id.0 y.id.0) (eqb x.nonce y.nonce) e in
    let ids = (bytes_eq-Decides x.id.0 y.id.0).0 both.0 in
    let nonces = eqb-true x.nonce y.nonce both.1 in
    sym (λ i. record { id = record { 0 = ids i }; nonce = nonces i })

pub in_if_has : (x : Token) (queue : List Token) → has_token x queue ≡ true → In x queue
in_if_has x [] e = cc
in_if_has x (y ∷ queue) e = go (same_token x y) refl (in_if_has x queue) e
  where
    go : (b : Bool) → same_token x y ≡ b → (has_token x queue ≡ true → In x queue) → (b || has_token x queue) ≡ true → In x (y ∷ queue)
    go true t rest h = inl (is_token x y t)
    go false t rest h = inr (rest h)

-- a token that was put is there
pub in_put : (x : Token) (queue : List Token) → In x (with_token x queue)
in_put x queue = go (has_token x queue) refl
  where
    go : (b : Bool) → has_token x queue ≡ b → In x (cond b queue (queue ++ x ∷ []))
    go true e = in_if_has x queue e
    go false e = in_right x queue (x ∷ []) (inl refl)
