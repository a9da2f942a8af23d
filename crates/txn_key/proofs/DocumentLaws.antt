-- What stands at a key, and at the others, where one body was put or taken.
use Rattle.std.proofs.Common.{◌≡◌, ◌≢◌, Bool, true, false, Option, Some, None, cond, ap, ◌∙◌, refl}
use Rattle.std.specs.Cmp.{Equal-is}
use Rattle.std.specs.FinMap.{get, get-insert, get-remove}
use Rattle.std.specs.Ordering.{eq_by_cmp, is_eq}
use Rattle.std.proofs.lemmas.Cmp.{tied_itself}
use Rattle.doc_value.specs.declared.value.Value.{Value}
use Rattle.txn_key.proofs.KeyOrder.{key_cmp_total, key_cmp-IsAntisymmetric}
use Rattle.txn_key.specs.Documents.{Docs, with_body}
use Rattle.txn_key.specs.Keys.{key_cmp}
use Rattle.txn_key.specs.declared.key.Key.{Key}

get-with_body : (key : Key) (found : Option Value) (docs : Docs) (q : Key) → get (with_body key found docs) q ≡ cond (eq_by_cmp key_cmp q key) found (get docs q)
get-with_body key None docs q = get-remove key_cmp_total docs key q
get-with_body key (Some body) docs q = get-insert key_cmp_total docs key body q

tests_apart : (j k : Key) → j ≢ k → (b : Bool) → eq_by_cmp key_cmp j k ≡ b → b ≡ false
tests_apart j k apart true e = absurd (apart (key_cmp-IsAntisymmetric j k ((Equal-is (key_cmp j k)).0 e)))
tests_apart j k apart false e = refl

pub get-with_body_here : (key : Key) (found : Option Value) (docs : Docs) → get (with_body key found docs) key ≡ found
get-with_body_here key found docs =
    get-with_body key found docs key ∙ ap (λ (b : Bool). cond b found (get docs key)) (ap is_eq (tied_itself key_cmp_total key))

pub get-with_body_other : (key : Key) (found : Option Value) (docs : Docs) (q : Key) → q ≢ key → get (with_body key found docs) q ≡ get docs q
get-with_body_other key found docs q apart =
    get-with_body key found docs q ∙ ap (λ (b : Bool). cond b found (get docs q)) (tests_apart q key apart _ refl)
