-- Tests of two keys, and of two ids, by cases.
use Rattle.std.proofs.Common.{◌≡◌, ◌≢◌, Bool, true, false, ◌⊎◌, inl, inr, sym, ap, ◌∙◌, refl, true≢false}
use Rattle.std.proofs.lemmas.Cmp.{tied_itself}
use Rattle.std.specs.Cmp.{Equal-is}
use Rattle.std.specs.Ordering.{is_eq}
use Rattle.txn_key.proofs.KeyOrder.{id_cmp_total, id_cmp-IsAntisymmetric}
use Rattle.txn_key.specs.Ids.{id_cmp}
use Rattle.txn_key.specs.Keys.{same_key}
use Rattle.txn_key.specs.declared.id.TxnId.{TxnId}
use Rattle.txn_key.specs.declared.key.Key.{Key}
use Rattle.store_laws.proofs.meanings.Runs.{same_key-equal, same_key-other}

pub by_key : (a b : Key) (P : Bool → Type 0) → (a ≡ b → P true) → (a ≢ b → P false) → P (same_key a b)
by_key a b P same other = go (same_key a b) refl
  where
    go : (t : Bool) → same_key a b ≡ t → P t
    go true e = same (same_key-equal a b e)
    go false e = other (same_key-other a b e)

pub same_key_or_not : (a b : Key) → (a ≡ b) ⊎ (a ≢ b)
same_key_or_not a b = by_key a b (λ t. (a ≡ b) ⊎ (a ≢ b)) (λ e. inl e) (λ e. inr e)

pub by_id : (a b : TxnId) (P : Bool → Type 0) → (a ≡ b → P true) → (a ≢ b → P false) → P (is_eq (id_cmp a b))
by_id a b P same other = go (is_eq (id_cmp a b)) refl
  where
    go : (t : Bool) → is_eq (id_cmp a b) ≡ t → P t
    go true e = same (id_cmp-IsAntisymmetric a b ((Equal-is (id_cmp a b)).0 e))
    go false e = other (λ p. true≢false (sym (ap is_eq (tied_itself id_cmp_total b)) ∙ sym (ap (λ (x : TxnId). is_eq (id_cmp x b)) p) ∙ e))

pub same_id_or_not : (a b : TxnId) → (a ≡ b) ⊎ (a ≢ b)
same_id_or_not a b = by_id a b (λ t. (a ≡ b) ⊎ (a ≢ b)) (λ e. inl e) (λ e. inr e)
