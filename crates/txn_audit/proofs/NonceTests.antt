-- Nonces of tokens, tested against a limit.
use Rattle.std.proofs.Common.{◌≡◌, ℕ, ◌<◌, Bool, true, false, ◌&&◌, ◌↔◌, nat_lt, List, ◌++◌, sym, ap, ◌∙◌, arith}
use Rattle.std.proofs.lemmas.Bool.Decides.{nat_tests}
use Rattle.std.specs.List.{list_all}
use Rattle.txn_key.specs.declared.id.Token.{Token}
use Rattle.store_laws.specs.Soundness.{AllBelow}
use Rattle.listed_cells.proofs.TokenLists.{all_by_test, tested_parts}

below_by_test : (limit : ℕ) (x : Token) → (nat_lt x.nonce limit ≡ true) ↔ (x.nonce < limit)
below_by_test limit x = (λ e. grind (arith, nat_tests), λ l. grind (arith, nat_tests))

below_of : (limit : ℕ) (tokens more : List Token) (b : Bool)
    → b ≡ (list_all (λ x. nat_lt x.nonce limit) tokens && list_all (λ x. nat_lt x.nonce limit) more) → (b ≡ true) ↔ AllBelow limit (tokens ++ more)
below_of limit tokens more b e =
    let test : Token → Bool = λ x. nat_lt x.nonce limit in
    let parts = tested_parts test tokens more in
    let by = all_by_test (λ x. x.nonce < limit) test (below_by_test limit) (tokens ++ more) in
    (λ t. by.0 (parts ∙ (sym e ∙ t)), λ all. e ∙ (sym parts ∙ by.1 all))

pub below_then : (limit : ℕ) (tokens more : List Token) (first second : Bool) → first ≡ list_all (λ x. nat_lt x.nonce limit) tokens
    → first ≡ true → second ≡ list_all (λ x. nat_lt x.nonce limit) more → (second ≡ true) ↔ AllBelow limit (tokens ++ more)
below_then limit tokens more first second e t f =
    below_of limit tokens more second (f ∙ ap (λ b. b && list_all (λ x. nat_lt x.nonce limit) more) (sym t ∙ e))

pub below_else : (limit : ℕ) (tokens more : List Token) (first : Bool) → first ≡ list_all (λ x. nat_lt x.nonce limit) tokens
    → first ≡ false → (first ≡ true) ↔ AllBelow limit (tokens ++ more)
below_else limit tokens more first e f =
    below_of limit tokens more first (f ∙ ap (λ b. b && list_all (λ x. nat_lt x.nonce limit) more) (sym f ∙ e))
