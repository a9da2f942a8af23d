-- A content of documents alone stays one.
use Rattle.std.proofs.Common.{◌≡◌, ◌≢◌, ℤ, pos, ◌+ℤ◌, Option, Some, None, sym, ap, ◌∙◌, refl}
use Rattle.std.specs.Option.{option_and_then}
use Rattle.std.specs.FinMap.{get}
use Rattle.doc_value.specs.declared.value.Value.{Value}
use Rattle.txn_key.specs.declared.id.Token.{Token}
use Rattle.txn_key.specs.declared.id.TxnId.{TxnId}
use Rattle.txn_key.specs.declared.key.Key.{Key}
use Rattle.store_trait.specs.Cells.{as_doc}
use Rattle.store_trait.specs.Contents.{Content}
use Rattle.store_trait.specs.Edits.{hit_add_token, hit_place, puts, unmarked, with_token, put_under, edited}
use Rattle.store_laws.specs.View.{doc_at}
use Rattle.store_trait.specs.declared.cell.Cell.{Cell}
use Rattle.store_trait.specs.declared.cell.Cell.TheVariants as cell
use Rattle.store_trait.specs.declared.cell.DocCell.{DocCell}
use Rattle.store_trait.specs.declared.edit.Edit.{Edit}
use Rattle.store_trait.specs.declared.edit.Edit.TheVariants as edit
use Rattle.store_trait.specs.declared.name.Name.{Name}
use Rattle.store_trait.specs.declared.name.Name.TheVariants as name
use Rattle.store_laws.specs.Placed.{new_doc}
use Rattle.store_laws.specs.Plain.{IsPlain}
use Rattle.store_laws.proofs.cells.AfterEdits.{doc_elsewhere, stash_elsewhere}
use Rattle.store_laws.proofs.cells.CellRules.{each_doc}
use Rattle.store_laws.proofs.cells.Empty.{no_doc, no_stash, nothing}
use Rattle.store_laws.proofs.cells.Lookups
use Rattle.store_laws.proofs.cells.Looks.{put}
use Rattle.store_laws.proofs.steps.Late.{by_update}

pub plain_empty : IsPlain nothing
plain_empty = record { no_stash = no_stash; unmarked = λ key doc found. absurd (cc (no_doc key, found)) }

-- an edit of a record or of the counter
plain_elsewhere : (c : Content) (n : Name) (e : Edit) → ((key : Key) → name.Doc key ≢ n) → ((key : Key) → name.Stash key ≢ n) → IsPlain c → IsPlain (edited c n e)
plain_elsewhere c n e docs stashes p = record {
  no_stash = λ key. stash_elsewhere c n e key (stashes key) ∙ p.no_stash key;
  unmarked = λ key doc found. p.unmarked key doc (sym (doc_elsewhere c n e key (docs key)) ∙ found);
}

pub plain_record : (c : Content) (id : TxnId) (e : Edit) → IsPlain c → IsPlain (edited c (name.Record id) e)
plain_record c id e = plain_elsewhere c (name.Record id) e (λ key h. cc h) (λ key h. cc h)

pub plain_nonce : (c : Content) (e : Edit) → IsPlain c → IsPlain (edited c name.Nonce e)
plain_nonce c e = plain_elsewhere c name.Nonce e (λ key h. cc h) (λ key h. cc h)

-- an unmarked document is put
plain_put : (c : Content) (key : Key) (doc : DocCell) → IsPlain c → doc.remove ≡ None → IsPlain (put c key doc)
plain_put c key doc p free = record {
  no_stash = λ k. Lookups.stash_at-put_doc c (cell.Doc doc) key k ∙ p.no_stash k;
  unmarked = each_doc c key doc (λ k d. d.remove ≡ None) free p.unmarked;
}

module _ (c : Content) (key : Key) (p : IsPlain c) where
  add_at : (z : Token) (found : Option Cell) → get c (name.Doc key) ≡ found → IsPlain (put_under c (name.Doc key) (hit_add_token z (name.Doc key) found))
  unfolding doc_at
  add_at z None e = p
  add_at z (Some (cell.Record rec)) e = p
  add_at z (Some (cell.Stash stash)) e = p
  add_at z (Some (cell.Nonce number)) e = p
  add_at z (Some (cell.Doc doc)) e = go doc.remove
    where
      go : (mark : Option Token) → IsPlain (put_under c (name.Doc key) (unmarked mark (puts (cell.Doc (record doc { queue = with_token z doc.queue })))))
      go (Some mark) = p
      go None = plain_put c key (record doc { queue = with_token z doc.queue }) p (p.unmarked key doc (ap (option_and_then as_doc) e))

  pub plain_add : (z : Token) → IsPlain (edited c (name.Doc key) (edit.AddToken z))
  plain_add z = add_at z (get c (name.Doc key)) refl

  pub plain_update : (revno : ℤ) (z : Token) (update : Value) → IsPlain (edited c (name.Doc key) (edit.Update revno z update))
  plain_update revno z update = by_update c key revno z update IsPlain p (λ doc body there at fits. plain_put c key (record doc { body = body; revno = doc.revno +ℤ pos 1 }) p (p.unmarked key doc there)) (get c (name.Doc key)) refl

  place_at : (body : Value) (found : Option Cell) → IsPlain (put_under c (name.Doc key) (hit_place (cell.Doc (new_doc body)) (name.Doc key) found))
  place_at body None = plain_put c key (new_doc body) p refl
  place_at body (Some x) = p

  pub plain_place : (body : Value) → IsPlain (edited c (name.Doc key) (edit.Place (cell.Doc (new_doc body))))
  plain_place body = place_at body (get c (name.Doc key))
