-- Tests of keys and numbers beside the chain of a record.
use Rattle.std.proofs.Common.{◌≡◌, ◌↔◌, ℤ, Bool, true, ◌||◌, IsTrue, List, [], ◌∷◌, unwrap_or, ⊎_elim, inl, inr, refl, sym, ap, ◌∙◌, subst}
use Rattle.std.specs.List.{list_all}
use Rattle.std.proofs.lemmas.Bool.{and_from, and_parts}
use Rattle.txn_key.specs.declared.key.Key.{Key}
use Rattle.txn_record.specs.Revnos.{is_on_chain}
use Rattle.txn_record.specs.declared.op.Op.{Op}
use Rattle.txn_record.specs.declared.record.Record.{Record}
use Rattle.store_laws.specs.Soundness.{StandsOnChain}
use Rattle.store_laws.specs.View.{View, IsOn, held_number}
use Rattle.txn_audit.specs.Chains.{all_on_chain, some_stand_by, stands_by}

chain_is : (key : Key) (number : ℤ) (ops : List Op) (numbers : List ℤ) → some_stand_by key number ops numbers ≡ is_on_chain key number ops numbers
chain_is key number [] numbers = refl
chain_is key number (op ∷ ops) [] = refl
chain_is key number (op ∷ ops) (found ∷ numbers) = ap (λ (b : Bool). stands_by key number op found || b) (chain_is key number ops numbers)

module _ (p : Key → Bool) where
  each_key : (ops : List Op) → list_all (λ (op : Op). p op.key) ops ≡ true → (key : Key) → IsOn key ops → p key ≡ true
  each_key [] h key on = absurd on
  each_key (op ∷ ops) h key on =
      let parts = and_parts (p op.key) (list_all (λ (o : Op). p o.key) ops) h in
      ⊎_elim (λ same. subst (λ (k : Key). p k ≡ true) same parts.0) (λ later. each_key ops parts.1 key later) on

  all_keys : (ops : List Op) → ((key : Key) → IsOn key ops → p key ≡ true) → list_all (λ (op : Op). p op.key) ops ≡ true
  all_keys [] h = refl
  all_keys (op ∷ ops) h =
      and_from (p op.key) (list_all (λ (o : Op). p o.key) ops) (h op.key (inl refl)) (all_keys ops (λ key on. h key (inr on)))

abbrev stands : View → List Op → List ℤ → Key → Bool
stands view ops numbers key = some_stand_by key (held_number (view.held_at key)) ops numbers

pub chain_tested : (view : View) (rec : Record) (b : Bool) → b ≡ all_on_chain view rec.ops (unwrap_or rec.revnos []) → IsTrue b ↔ StandsOnChain view rec
chain_tested view rec b is = (
  λ h. record { on_chain = λ key on. sym (same key) ∙ each_key (stands view rec.ops numbers) rec.ops (sym is ∙ h) key on },
  λ s. is ∙ all_keys (stands view rec.ops numbers) rec.ops (λ key on. same key ∙ s.on_chain key on),
)
  where
    numbers : List ℤ
    numbers = unwrap_or rec.revnos []

    same : (key : Key) → some_stand_by key (held_number (view.held_at key)) rec.ops numbers ≡ is_on_chain key (held_number (view.held_at key)) rec.ops numbers
    same key = chain_is key (held_number (view.held_at key)) rec.ops numbers
