-- What an edit for one transaction leaves of other records and of documents.
use Rattle.std.proofs.Common.{◌≡◌, Bool, true, false, cond, ◌&&◌, List, [], ◌∷◌, Option, Some, None, is_some, ℤ, refl, ap, ◌∙◌}
use Rattle.std.specs.FinMap.{get, get-insert}
use Rattle.std.specs.List.{list_all}
use Rattle.std.specs.Option.{option_map}
use Rattle.std.specs.Ordering.{eq_by_cmp}
use Rattle.std.proofs.lemmas.Bool.{and_parts}
use Rattle.doc_value.specs.declared.value.Value.{Value}
use Rattle.doc_update.specs.Updates.{updated}
use Rattle.txn_key.specs.declared.id.Token.{Token}
use Rattle.txn_key.specs.declared.id.TxnId.{TxnId}
use Rattle.txn_key.specs.declared.key.Key.{Key}
use Rattle.txn_record.specs.declared.op.Op.{Op}
use Rattle.store_trait.proofs.NameOrder.{name_cmp_total}
use Rattle.store_trait.specs.Contents.{Content}
use Rattle.store_trait.specs.Edits.{Hit, edited, put_under, puts, unmarked, with_body, is_updatable, hit_add_token, hit_update, with_token}
use Rattle.store_trait.specs.Names.{name_cmp}
use Rattle.store_trait.specs.declared.cell.Cell.{Cell}
use Rattle.store_trait.specs.declared.cell.Cell.TheVariants as cell
use Rattle.store_trait.specs.declared.edit.Edit.{Edit}
use Rattle.store_trait.specs.declared.edit.Edit.TheVariants as edit
use Rattle.store_trait.specs.declared.name.Name.{Name}
use Rattle.store_trait.specs.declared.name.Name.TheVariants as name
use Rattle.store_laws.proofs.cells.AfterEdits.{record_elsewhere}
use Rattle.store_laws.proofs.cells.Local.{edited_elsewhere}
use Rattle.txn_runner.specs.Settling.{KeepsOthers, HasDocuments}
use Rattle.txn_runner.specs.Store.{has_document}
use Rattle.txn_runner.specs.declared.waiting.Waiting.{Waiting}

same_name : (a b : TxnId) → name.Record a ≡ name.Record b → a ≡ b
same_name a b e = cc

pub record_others : (c : Content) (id : TxnId) (e : Edit) → KeepsOthers c (edited c (name.Record id) e) id
record_others c id e = record {
  records = λ other apart. record_elsewhere c (name.Record id) e other (λ same. apart (same_name other id same));
  docs = λ key there. ap is_some (edited_elsewhere c (name.Record id) e (name.Doc key) (λ h. cc h)) ∙ there;
}

pub nonce_others : (c : Content) (id : TxnId) (e : Edit) → KeepsOthers c (edited c name.Nonce e) id
nonce_others c id e = record {
  records = λ other apart. record_elsewhere c name.Nonce e other (λ h. cc h);
  docs = λ key there. ap is_some (edited_elsewhere c name.Nonce e (name.Doc key) (λ h. cc h)) ∙ there;
}

-- whether a hit leaves a cell
leaves : Hit → Bool
leaves (Some None) = false
leaves _ = true

put_stays : (c : Content) (n : Name) (h : Hit) (m : Name) → leaves h ≡ true → is_some (get c m) ≡ true → is_some (get (put_under c n h) m) ≡ true
unfolding leaves
put_stays c n None m left there = there
put_stays c n (Some None) m left there = absurd (cc)
put_stays c n (Some (Some x)) m left there = ap is_some (get-insert name_cmp_total c n x m) ∙ by (eq_by_cmp name_cmp m n)
  where
    by : (t : Bool) → is_some (cond t (Some x) (get c m)) ≡ true
    by true = refl
    by false = there

add_leaves : (z : Token) (key : Key) (found : Option Cell) → leaves (hit_add_token z (name.Doc key) found) ≡ true
unfolding leaves
add_leaves z key None = refl
add_leaves z key (Some (cell.Record rec)) = refl
add_leaves z key (Some (cell.Stash stash)) = refl
add_leaves z key (Some (cell.Nonce counter)) = refl
add_leaves z key (Some (cell.Doc doc)) = by doc.remove
  where
    by : (mark : Option Token) → leaves (unmarked mark (puts (cell.Doc (record doc { queue = with_token z doc.queue })))) ≡ true
    by None = refl
    by (Some x) = refl

update_leaves : (revno : ℤ) (z : Token) (update : Value) (key : Key) (found : Option Cell) → leaves (hit_update revno z update (name.Doc key) found) ≡ true
unfolding leaves
update_leaves revno z update key None = refl
update_leaves revno z update key (Some (cell.Record rec)) = refl
update_leaves revno z update key (Some (cell.Stash stash)) = refl
update_leaves revno z update key (Some (cell.Nonce counter)) = refl
update_leaves revno z update key (Some (cell.Doc doc)) = by (is_updatable doc revno z) (updated update doc.body)
  where
    by : (t : Bool) (made : Option Value) → leaves (cond t (option_map (λ body. Some (with_body doc body)) made) None) ≡ true
    by false made = refl
    by true None = refl
    by true (Some body) = refl

pub add_others : (c : Content) (id : TxnId) (key : Key) (z : Token) → KeepsOthers c (edited c (name.Doc key) (edit.AddToken z)) id
add_others c id key z = record {
  records = λ other apart. record_elsewhere c (name.Doc key) (edit.AddToken z) other (λ h. cc h);
  docs = λ k there. put_stays c (name.Doc key) (hit_add_token z (name.Doc key) (get c (name.Doc key))) (name.Doc k) (add_leaves z key (get c (name.Doc key))) there;
}

pub update_others : (c : Content) (id : TxnId) (key : Key) (revno : ℤ) (z : Token) (update : Value) → KeepsOthers c (edited c (name.Doc key) (edit.Update revno z update)) id
update_others c id key revno z update = record {
  records = λ other apart. record_elsewhere c (name.Doc key) (edit.Update revno z update) other (λ h. cc h);
  docs = λ k there. put_stays c (name.Doc key) (hit_update revno z update (name.Doc key) (get c (name.Doc key))) (name.Doc k) (update_leaves revno z update key (get c (name.Doc key))) there;
}

-- documents that were there for a transaction are there still
pub docs_stay : (c d : Content) (txn : Waiting) → ((key : Key) → has_document c key ≡ true → has_document d key ≡ true) → HasDocuments c txn → HasDocuments d txn
docs_stay c d txn stays = go txn.ops
  where
    go : (ops : List Op) → list_all (λ (op : Op). has_document c op.key) ops ≡ true → list_all (λ (op : Op). has_document d op.key) ops ≡ true
    go [] all = refl
    go (op ∷ ops) all =
        let parts = and_parts (has_document c op.key) (list_all (λ (o : Op). has_document c o.key) ops) all in
        λ i. stays op.key parts.0 i && go ops parts.1 i
