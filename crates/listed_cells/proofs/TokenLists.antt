-- What holds of each token of a list, by its places and by a test.
use Rattle.std.proofs.Common.{◌≡◌, Bool, true, false, ◌&&◌, ◌↔◌, List, [], ◌∷◌, ◌++◌, inl, inr, refl, ap, ◌∙◌, subst}
use Rattle.std.proofs.lemmas.Bool.{and_parts}
use Rattle.std.specs.List.{list_all}
use Rattle.txn_key.specs.declared.id.Token.{Token}
use Rattle.store_laws.specs.Readiness.{In}

abbrev pub AllIn : (Token → Type 0) → List Token → Type 0
AllIn P tokens = (x : Token) → In x tokens → P x

module _ (P : Token → Type 0) where
  pub all_more : (y : Token) (rest : List Token) → P y → AllIn P rest → AllIn P (y ∷ rest)
  all_more y rest here all x (inl e) = subst P e here
  all_more y rest here all x (inr h) = all x h

  pub all_here : (y : Token) (rest : List Token) → AllIn P (y ∷ rest) → P y
  all_here y rest all = all y (inl refl)

  pub all_rest : (y : Token) (rest : List Token) → AllIn P (y ∷ rest) → AllIn P rest
  all_rest y rest all x h = all x (inr h)

  module _ (test : Token → Bool) (decides : (x : Token) → (test x ≡ true) ↔ P x) where
    all_tested : (tokens : List Token) → list_all test tokens ≡ true → AllIn P tokens
    all_tested [] e = λ x h. absurd h
    all_tested (y ∷ tokens) e =
        let both = and_parts (test y) (list_all test tokens) e in
        all_more y tokens ((decides y).0 both.0) (all_tested tokens both.1)

    tested_all : (tokens : List Token) → AllIn P tokens → list_all test tokens ≡ true
    tested_all [] all = refl
    tested_all (y ∷ tokens) all =
        ap (λ b. b && list_all test tokens) ((decides y).1 (all_here y tokens all)) ∙ tested_all tokens (all_rest y tokens all)

    pub all_by_test : (tokens : List Token) → (list_all test tokens ≡ true) ↔ AllIn P tokens
    all_by_test tokens = (all_tested tokens, tested_all tokens)

pub tested_parts : (test : Token → Bool) (tokens more : List Token) → list_all test (tokens ++ more) ≡ (list_all test tokens && list_all test more)
tested_parts test [] more = refl
tested_parts test (y ∷ tokens) more = ap (λ b. test y && b) (tested_parts test tokens more) ∙ joined (test y)
  where
    joined : (b : Bool) → (b && (list_all test tokens && list_all test more)) ≡ ((b && list_all test tokens) && list_all test more)
    joined true = refl
    joined false = refl
