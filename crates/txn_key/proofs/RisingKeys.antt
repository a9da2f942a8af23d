-- When a key stands after all keys of the documents.
use Rattle.std.proofs.Common.{◌≡◌, Bool, true, false, Some, is_some, cond, sym, ap, ◌∙◌, refl, subst}
use Rattle.std.specs.Cmp.{Equal-is}
use Rattle.std.specs.FinMap.{get, empty, insert, get-insert, get-empty}
use Rattle.std.specs.Ordering.{eq_by_cmp}
use Rattle.std.specs.declared.cmp.Ordering.TheVariants.{Less}
use Rattle.std.proofs.lemmas.Bool.{true≢false}
use Rattle.doc_value.specs.declared.value.Value.{Value}
use Rattle.txn_key.proofs.KeyOrder.{key_cmp_total, key_cmp-IsAntisymmetric}
use Rattle.txn_key.specs.Documents.{Docs, IsPast}
use Rattle.txn_key.specs.Keys.{key_cmp}
use Rattle.txn_key.specs.declared.key.Key.{Key}

pub IsPast-empty : (key : Key) → IsPast key empty
IsPast-empty key k there = absurd (true≢false (sym there ∙ ap is_some (get-empty key_cmp k)))

pub IsPast-new : (docs : Docs) → docs ≡ empty → (key : Key) → IsPast key docs
IsPast-new docs e key = subst (IsPast key) (sym e) (IsPast-empty key)

pub IsPast-insert : (docs : Docs) (last : Key) (body : Value) (key : Key) → IsPast last docs → key_cmp last key ≡ Less → IsPast key (insert docs last body)
IsPast-insert docs last body key past below k there = by (eq_by_cmp key_cmp k last) refl (sym (ap is_some (get-insert key_cmp_total docs last body k)) ∙ there)
  where
    by : (b : Bool) → eq_by_cmp key_cmp k last ≡ b → is_some (cond b (Some body) (get docs k)) ≡ true → key_cmp k key ≡ Less
    by true is h = subst (λ (q : Key). key_cmp q key ≡ Less) (sym (key_cmp-IsAntisymmetric k last ((Equal-is (key_cmp k last)).0 is))) below
    by false is h = key_cmp_total.trans k last key (past k h) below
