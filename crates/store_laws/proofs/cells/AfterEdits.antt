-- What look-ups give after an edit.
use Rattle.std.proofs.Common.{◌≡◌, ◌≢◌, ℤ, pos, ◌+ℤ◌, if◌then◌else◌, Option, Some, None, ◌⊎◌, inl, inr, ⊎_elim, sym, ap, ap₂, ◌∙◌, refl, subst, unwrap_or}
use Rattle.std.specs.Option.{option_and_then}
use Rattle.std.specs.FinMap.{get}
use Rattle.doc_value.specs.declared.value.Value.{Value}
use Rattle.txn_key.specs.declared.id.TxnId.{TxnId}
use Rattle.txn_key.specs.declared.id.Token.{Token}
use Rattle.txn_key.specs.declared.key.Key.{Key}
use Rattle.store_trait.specs.Cells.{as_record, as_doc, as_stash, as_counter}
use Rattle.store_trait.specs.Contents.{Content}
use Rattle.store_trait.specs.Edits.{puts, hit_add_token, hit_place, unmarked, with_token, put_under, edited}
use Rattle.store_laws.specs.Readiness.{In}
use Rattle.store_laws.specs.View.{look, record_at, doc_at, stash_at, counter, owner_queue}
use Rattle.store_trait.specs.declared.cell.Cell.{Cell}
use Rattle.store_trait.specs.declared.cell.Cell.TheVariants as cell
use Rattle.store_trait.specs.declared.cell.DocCell.{DocCell}
use Rattle.store_trait.specs.declared.edit.Edit.{Edit}
use Rattle.store_trait.specs.declared.edit.Edit.TheVariants as edit
use Rattle.store_trait.specs.declared.name.Name.{Name}
use Rattle.store_trait.specs.declared.name.Name.TheVariants as name
use Rattle.store_laws.proofs.views.Shapes.{SameQueues}
use Rattle.store_laws.proofs.cells.Local.{edited_elsewhere}
use Rattle.store_laws.specs.Hits.{HasAdded}
use Rattle.store_laws.specs.Placed.{new_doc}
use Rattle.store_laws.proofs.views.Equals.{by_key}
use Rattle.store_laws.proofs.cells.Looks.{put, read_put, doc_writes}
use Rattle.store_laws.proofs.views.Queues.{in_put, in_without}
use Rattle.store_laws.proofs.steps.Late.{by_update}

-- An edit of another cell.

pub record_elsewhere : (c : Content) (n : Name) (e : Edit) (id : TxnId) → name.Record id ≢ n → record_at (edited c n e) id ≡ record_at c id
unfolding record_at
record_elsewhere c n e id apart = ap (option_and_then as_record) (edited_elsewhere c n e (name.Record id) apart)

pub doc_elsewhere : (c : Content) (n : Name) (e : Edit) (key : Key) → name.Doc key ≢ n → doc_at (edited c n e) key ≡ doc_at c key
unfolding doc_at
doc_elsewhere c n e key apart = ap (option_and_then as_doc) (edited_elsewhere c n e (name.Doc key) apart)

pub stash_elsewhere : (c : Content) (n : Name) (e : Edit) (key : Key) → name.Stash key ≢ n → stash_at (edited c n e) key ≡ stash_at c key
unfolding stash_at
stash_elsewhere c n e key apart = ap (option_and_then as_stash) (edited_elsewhere c n e (name.Stash key) apart)

pub counter_elsewhere : (c : Content) (n : Name) (e : Edit) → name.Nonce ≢ n → counter (edited c n e) ≡ counter c
unfolding counter
counter_elsewhere c n e apart = ap (λ (o : Option Cell). unwrap_or (option_and_then as_counter o) 0) (edited_elsewhere c n e name.Nonce apart)

-- Owner queues where no document and no stash entry is edited.

pub queues_elsewhere : (c : Content) (n : Name) (e : Edit) → ((key : Key) → name.Doc key ≢ n) → ((key : Key) → name.Stash key ≢ n) → SameQueues (look c) (look (edited c n e))
unfolding look
queues_elsewhere c n e docs stashes = record { queues = λ key. ap₂ owner_queue (doc_elsewhere c n e key (docs key)) (stash_elsewhere c n e key (stashes key)) }

pub record_edit_queues : (c : Content) (id : TxnId) (e : Edit) → SameQueues (look c) (look (edited c (name.Record id) e))
record_edit_queues c id e = queues_elsewhere c (name.Record id) e (λ key h. cc h) (λ key h. cc h)

pub nonce_edit_queues : (c : Content) (e : Edit) → SameQueues (look c) (look (edited c name.Nonce e))
nonce_edit_queues c e = queues_elsewhere c name.Nonce e (λ key h. cc h) (λ key h. cc h)

-- Owner queues where a document is edited that has no stash entry beside it.

-- an added token waits
pub added_waits : (c d : Content) (key : Key) (z : Token) → HasAdded c d key z → stash_at d key ≡ None → In z ((look d).queue_at key)
unfolding look
added_waits c d key z h none = subst (In z) (sym (ap₂ owner_queue h.now none)) (in_put z h.doc.queue)

module _ (c : Content) (key : Key) (no_stash : stash_at c key ≡ None) where
  alone_queue : (doc : DocCell) → owner_queue (Some doc) (stash_at c key) ≡ doc.queue
  alone_queue doc = ap (owner_queue (Some doc)) no_stash

  same_queue : (doc new : DocCell) → doc_at c key ≡ Some doc → new.queue ≡ doc.queue → SameQueues (look c) (look (put c key new))
  same_queue doc new there same = (doc_writes c key new (alone_queue new ∙ same ∙ sym (alone_queue doc) ∙ ap (λ (d : Option DocCell). owner_queue d (stash_at c key)) (sym there))).queues

  pub update_queues : (revno : ℤ) (z : Token) (update : Value) → SameQueues (look c) (look (edited c (name.Doc key) (edit.Update revno z update)))
  update_queues revno z update = by_update c key revno z update (λ d. SameQueues (look c) (look d)) (record { queues = λ k. refl })
      (λ doc body there at fits. same_queue doc (record doc { body = body; revno = doc.revno +ℤ pos 1 }) there refl) (get c (name.Doc key)) refl

  -- no other token comes than an added one

  Comes : Token → Content → Type 0
  Comes z d = (k : Key) (x : Token) → In x ((look d).queue_at k) → In x ((look c).queue_at k) ⊎ (z ≡ x)

  added_comes : (z : Token) (doc : DocCell) → doc_at c key ≡ Some doc → Comes z (put c key (record doc { queue = with_token z doc.queue }))
  unfolding look Comes
  added_comes z doc there k x inside =
      let new : DocCell = record doc { queue = with_token z doc.queue } in
      by_key k key (λ b. In x (if b then owner_queue (Some new) (stash_at c key) else owner_queue (doc_at c k) (stash_at c k)) → In x (owner_queue (doc_at c k) (stash_at c k)) ⊎ (z ≡ x))
      (λ e h. ⊎_elim
      (λ was. inl (subst (λ (k : Key). In x (owner_queue (doc_at c k) (stash_at c k))) (sym e) (subst (In x) (sym (alone_queue doc) ∙ ap (λ (d : Option DocCell). owner_queue d (stash_at c key)) (sym there)) was)))
      (λ last. inr last)
      (in_without x z doc.queue (subst (In x) (alone_queue new) h)))
      (λ e h. inl h)
      (subst (In x) (read_put c key new owner_queue k) inside)

  add_at : (z : Token) (found : Option Cell) → get c (name.Doc key) ≡ found → Comes z (put_under c (name.Doc key) (hit_add_token z (name.Doc key) found))
  unfolding doc_at Comes
  add_at z None e = λ k x h. inl h
  add_at z (Some (cell.Record rec)) e = λ k x h. inl h
  add_at z (Some (cell.Stash stash)) e = λ k x h. inl h
  add_at z (Some (cell.Nonce number)) e = λ k x h. inl h
  add_at z (Some (cell.Doc doc)) e = go doc.remove
    where
      go : (mark : Option Token) → Comes z (put_under c (name.Doc key) (unmarked mark (puts (cell.Doc (record doc { queue = with_token z doc.queue })))))
      go (Some mark) = λ k x h. inl h
      go None = added_comes z doc (ap (option_and_then as_doc) e)

  pub add_comes : (z : Token) (k : Key) (x : Token) → In x ((look (edited c (name.Doc key) (edit.AddToken z))).queue_at k) → In x ((look c).queue_at k) ⊎ (z ≡ x)
  unfolding Comes
  add_comes z = add_at z (get c (name.Doc key)) refl

-- a new document under a key with neither cell has an empty queue, as the key had
place_at : (c : Content) (key : Key) (body : Value) → stash_at c key ≡ None → (found : Option Cell) → get c (name.Doc key) ≡ found → SameQueues (look c) (look (put_under c (name.Doc key) (hit_place (cell.Doc (new_doc body)) (name.Doc key) found)))
unfolding doc_at
place_at c key body none (Some x) e = record { queues = λ k. refl }
place_at c key body none None e = (doc_writes c key (new_doc body) (ap (owner_queue (Some (new_doc body))) none ∙ sym (ap₂ owner_queue (ap (option_and_then as_doc) e) none))).queues

pub place_queues : (c : Content) (key : Key) (body : Value) → stash_at c key ≡ None → SameQueues (look c) (look (edited c (name.Doc key) (edit.Place (cell.Doc (new_doc body)))))
place_queues c key body none = place_at c key body none (get c (name.Doc key)) refl
