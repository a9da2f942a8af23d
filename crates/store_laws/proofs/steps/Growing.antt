-- A token comes to the end of one owner queue at most.
use Rattle.std.proofs.Common.{◌≡◌, Bool, true, false, cond, Option, Some, None, List, [], ◌∷◌, ◌++◌, inl, inr, ◌⊎◌, ⊎_elim, sym, ap, ap₂, ◌∙◌, refl, if◌then◌else◌}
use Rattle.std.specs.Option.{option_and_then}
use Rattle.std.specs.FinMap.{get}
use Rattle.txn_key.specs.declared.id.Token.{Token}
use Rattle.txn_key.specs.declared.key.Key.{Key}
use Rattle.store_trait.specs.Cells.{as_doc}
use Rattle.store_trait.specs.Contents.{Content}
use Rattle.store_trait.specs.Edits.{puts, unmarked, hit_add_token, has_token, with_token, new_stash, put_under, edited}
use Rattle.store_trait.specs.Owners.{owner_of}
use Rattle.store_trait.specs.declared.cell.Cell.{Cell}
use Rattle.store_trait.specs.declared.cell.Cell.TheVariants as cell
use Rattle.store_trait.specs.declared.cell.DocCell.{DocCell}
use Rattle.store_trait.specs.declared.cell.StashCell.{StashCell}
use Rattle.store_trait.specs.declared.edit.Edit.TheVariants as edit
use Rattle.store_trait.specs.declared.name.Name.TheVariants as name
use Rattle.store_trait.specs.declared.side.Side.{Side}
use Rattle.store_trait.specs.declared.side.Side.TheVariants as side
use Rattle.store_laws.specs.Known.{HasNoDocAlone}
use Rattle.store_laws.specs.Queues.{AddsAtEnd}
use Rattle.store_laws.specs.Soundness.{IsSound}
use Rattle.store_laws.specs.View.{look, doc_at, stash_at, owner_queue, by_side, doc_queue, stash_queue}
use Rattle.store_laws.proofs.cells.EntryLooks.{put_entry, read_put_entry}
use Rattle.store_laws.proofs.cells.Looks.{put, read_put}
use Rattle.store_laws.proofs.cells.Marks.{same_owner}
use Rattle.store_laws.proofs.cells.Parts.{parts}
use Rattle.store_laws.proofs.steps.EntryEdits.{there, no_entry}
use Rattle.store_laws.proofs.views.Equals.{by_key}

with_either : (z : Token) (queue : List Token) → (with_token z queue ≡ queue) ⊎ (with_token z queue ≡ queue ++ z ∷ [])
with_either z queue = by (has_token z queue)
  where
    by : (t : Bool) → (cond t queue (queue ++ z ∷ []) ≡ queue) ⊎ (cond t queue (queue ++ z ∷ []) ≡ queue ++ z ∷ [])
    by true = inl refl
    by false = inr refl

-- a queue that stays, or gets the token at its end
Grows : Token → List Token → List Token → Type 0
Grows z old new = (new ≡ old) ⊎ (new ≡ old ++ z ∷ [])

grows_by : (z : Token) (old new was now : List Token) → old ≡ was → new ≡ now → Grows z was now → Grows z old new
unfolding Grows
grows_by z old new was now p q = ⊎_elim (λ same. inl (q ∙ same ∙ sym p)) (λ more. inr (q ∙ more ∙ ap (λ (l : List Token). l ++ z ∷ []) (sym p)))

grows_with : (z : Token) (queue : List Token) → Grows z queue (with_token z queue)
unfolding Grows
grows_with z queue = with_either z queue

stays_itself : (c : Content) (key : Key) (z : Token) → AddsAtEnd (look c) (look c) key z
stays_itself c key z = record { others = λ k apart. refl; here = inl refl }

module _ (c : Content) (key : Key) (z : Token) where
  grown_doc : (doc : DocCell) → doc_at c key ≡ Some doc → AddsAtEnd (look c) (look (put c key (record doc { queue = with_token z doc.queue }))) key z
  unfolding look Grows
  grown_doc doc found = record {
    others = λ k apart. read_put c key new owner_queue k ∙ by_key k key (λ t. (if t then owner_queue (Some new) stash else owner_queue (doc_at c k) (stash_at c k)) ≡ owner_queue (doc_at c k) (stash_at c k)) (λ e. absurd (apart e)) (λ e. refl);
    here = grows_by z _ _ (owner_queue (Some doc) stash) (owner_queue (Some new) stash) (ap (λ (d : Option DocCell). owner_queue d stash) found) at_key (by (owner_of (Some doc) stash) refl);
  }
    where
      new : DocCell
      new = record doc { queue = with_token z doc.queue }

      stash : Option StashCell
      stash = stash_at c key

      at_key : owner_queue (doc_at (put c key new) key) (stash_at (put c key new) key) ≡ owner_queue (Some new) stash
      at_key = read_put c key new owner_queue key ∙ by_key key key (λ t. (if t then owner_queue (Some new) stash else owner_queue (doc_at c key) stash) ≡ owner_queue (Some new) stash) (λ e. refl) (λ apart. absurd (apart refl))

      was : (o : Side) → owner_of (Some doc) stash ≡ o → owner_queue (Some doc) stash ≡ by_side o [] doc.queue (stash_queue stash)
      was o e = ap (λ (o : Side). by_side o [] doc.queue (stash_queue stash)) e

      now : (o : Side) → owner_of (Some doc) stash ≡ o → owner_queue (Some new) stash ≡ by_side o [] new.queue (stash_queue stash)
      now o e = ap (λ (o : Side). by_side o [] new.queue (stash_queue stash)) (same_owner doc new.queue stash ∙ e)

      by : (o : Side) → owner_of (Some doc) stash ≡ o → Grows z (owner_queue (Some doc) stash) (owner_queue (Some new) stash)
      by side.Neither e = grows_by z _ _ [] [] (was side.Neither e) (now side.Neither e) (inl refl)
      by side.Stash e = grows_by z _ _ (stash_queue stash) (stash_queue stash) (was side.Stash e) (now side.Stash e) (inl refl)
      by side.Document e = grows_by z _ _ doc.queue (with_token z doc.queue) (was side.Document e) (now side.Document e) (grows_with z doc.queue)

  doc_at_name : (found : Option Cell) → get c (name.Doc key) ≡ found → AddsAtEnd (look c) (look (put_under c (name.Doc key) (hit_add_token z (name.Doc key) found))) key z
  unfolding doc_at
  doc_at_name None e = stays_itself c key z
  doc_at_name (Some (cell.Record rec)) e = stays_itself c key z
  doc_at_name (Some (cell.Stash stash)) e = stays_itself c key z
  doc_at_name (Some (cell.Nonce n)) e = stays_itself c key z
  doc_at_name (Some (cell.Doc doc)) e = go doc.remove
    where
      go : (mark : Option Token) → AddsAtEnd (look c) (look (put_under c (name.Doc key) (unmarked mark (puts (cell.Doc (record doc { queue = with_token z doc.queue })))))) key z
      go (Some mark) = stays_itself c key z
      go None = grown_doc doc (ap (option_and_then as_doc) e)

  pub doc_grows : AddsAtEnd (look c) (look (edited c (name.Doc key) (edit.AddToken z))) key z
  doc_grows = doc_at_name (get c (name.Doc key)) refl

  -- an entry that owns its key is put, with the token at the end of the owner queue
  grown_entry : (entry : StashCell) → owner_of (doc_at c key) (Some entry) ≡ side.Stash → entry.queue ≡ with_token z (owner_queue (doc_at c key) (stash_at c key)) → AddsAtEnd (look c) (look (put_entry c key entry)) key z
  unfolding look Grows
  grown_entry entry owns queue = record {
    others = λ k apart. read_put_entry c key entry owner_queue k ∙ by_key k key (λ t. (if t then owner_queue (doc_at c key) (Some entry) else owner_queue (doc_at c k) (stash_at c k)) ≡ owner_queue (doc_at c k) (stash_at c k)) (λ e. absurd (apart e)) (λ e. refl);
    here = grows_by z _ _ was (with_token z was) refl at_key (grows_with z was);
  }
    where
      was : List Token
      was = owner_queue (doc_at c key) (stash_at c key)

      at_key : owner_queue (doc_at (put_entry c key entry) key) (stash_at (put_entry c key entry) key) ≡ with_token z was
      at_key =
          read_put_entry c key entry owner_queue key
          ∙ by_key key key (λ t. (if t then owner_queue (doc_at c key) (Some entry) else owner_queue (doc_at c key) (stash_at c key)) ≡ owner_queue (doc_at c key) (Some entry)) (λ e. refl) (λ apart. absurd (apart refl))
          ∙ ap (λ (o : Side). by_side o [] (doc_queue (doc_at c key)) entry.queue) owns
          ∙ queue

  module _ (s : IsSound c) (alone : HasNoDocAlone c key) where
    entry_at_name : (found : Option Cell) → get c (name.Stash key) ≡ found → AddsAtEnd (look c) (look (put_under c (name.Stash key) (hit_add_token z (name.Stash key) found))) key z
    entry_at_name None e =
        let at = no_entry c key z s e in
        grown_entry (new_stash z) (ap (λ (o : Option DocCell). owner_of o (Some (new_stash z))) (alone at)) (ap (with_token z) (sym (ap₂ owner_queue (alone at) at)))
    entry_at_name (Some (cell.Record rec)) e = stays_itself c key z
    entry_at_name (Some (cell.Doc doc)) e = stays_itself c key z
    entry_at_name (Some (cell.Nonce n)) e = stays_itself c key z
    entry_at_name (Some (cell.Stash entry)) e = go entry.insert refl
      where
        owns : entry.insert ≡ None → owner_of (doc_at c key) (Some entry) ≡ side.Stash
        owns free = (((parts c s).marks key).entry entry (there c key z s entry e)).owns free

        same_side : (doc : Option DocCell) → owner_of doc (Some (record entry { queue = with_token z entry.queue })) ≡ owner_of doc (Some entry)
        same_side None = refl
        same_side (Some doc) = refl

        go : (mark : Option Token) → entry.insert ≡ mark → AddsAtEnd (look c) (look (put_under c (name.Stash key) (unmarked mark (puts (cell.Stash (record entry { queue = with_token z entry.queue })))))) key z
        go (Some mark) marked = stays_itself c key z
        go None free =
            grown_entry (record entry { queue = with_token z entry.queue }) (same_side (doc_at c key) ∙ owns free)
            (ap (with_token z) (sym (ap (owner_queue (doc_at c key)) (there c key z s entry e) ∙ ap (λ (o : Side). by_side o [] (doc_queue (doc_at c key)) entry.queue) (owns free))))

    pub entry_grows : AddsAtEnd (look c) (look (edited c (name.Stash key) (edit.AddToken z))) key z
    entry_grows = entry_at_name (get c (name.Stash key)) refl
