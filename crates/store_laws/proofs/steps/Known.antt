-- What a runner knows lasts at every step.
use Rattle.std.proofs.Common.{◌≡◌, ℕ, ℤ, ◌≤◌, ◌<◌, lt_of_lt_of_le, true, Option, Some, None, List, ◌⊎◌, inl, inr, ⊎_elim, sym, ap, ap₂, ◌∙◌, refl, subst}
use Rattle.std.proofs.lemmas.Option.{same_Some}
use Rattle.txn_key.specs.declared.id.TxnId.{TxnId}
use Rattle.txn_key.specs.declared.id.Token.{Token}
use Rattle.txn_key.specs.declared.key.Key.{Key}
use Rattle.txn_record.specs.Walks.{Leads}
use Rattle.txn_record.specs.declared.op.Op.{Op}
use Rattle.txn_record.specs.declared.record.Record.{Record}
use Rattle.txn_record.specs.declared.state.State.{State}
use Rattle.txn_record.specs.declared.state.State.TheVariants as state
use Rattle.store_trait.specs.Contents.{Content}
use Rattle.store_trait.specs.Edits.{with_token}
use Rattle.store_trait.specs.Owners.{owner_of, epoch}
use Rattle.store_trait.specs.declared.side.Side.{Side}
use Rattle.store_trait.specs.declared.side.Side.TheVariants as side
use Rattle.store_laws.specs.Hits.{HasAdded}
use Rattle.store_laws.proofs.cells.Owning.{owned_queue, owned_by_one, entry_ahead}
use Rattle.store_laws.proofs.views.Queues.{in_put}
use Rattle.store_trait.specs.declared.cell.DocCell.{DocCell}
use Rattle.store_trait.specs.declared.cell.StashCell.{StashCell}
use Rattle.store_laws.specs.Done.{AllPassed}
use Rattle.store_laws.specs.Entries.{entry_epoch, stash_epoch, DocStays, EntryStays}
use Rattle.store_laws.specs.Found.{IsListed}
use Rattle.store_laws.specs.Known.{HasQueued, HasNoDocAlone, PassedIfApplied}
use Rattle.store_laws.specs.Later.{GoesTo, IsStillThere, may_follow}
use Rattle.store_laws.specs.Readiness.{token, In, Before, IsSpent}
use Rattle.store_laws.specs.Since.{IsOwnedAs}
use Rattle.store_laws.specs.Soundness.{IsSound}
use Rattle.store_laws.specs.Steps.{IsStep}
use Rattle.store_laws.specs.View.{View, look, record_at, doc_at, stash_at, was_prepared, valid_nonce, owner_queue}
use Rattle.store_laws.proofs.steps.Chained.{applying_goes}
use Rattle.store_laws.proofs.chains.Done.{all_passed_later}
use Rattle.store_laws.proofs.cells.Entries.{none_counts}
use Rattle.store_laws.proofs.views.Lost.{goes_then}
use Rattle.store_laws.proofs.steps.Moments.{shown_queue}
use Rattle.store_laws.proofs.views.Views.{decided_if_chosen, chosen_if_settled}

-- Records.

pub still_later : (c d : Content) (id : TxnId) (rec : Record) → IsStep c d → IsStillThere (look c) id rec → IsStillThere (look d) id rec
still_later c d id rec step was =
    let now = step.lost.records id was.now was.there in
    record { now = now.now; there = now.there; goes = goes_then was.goes now.goes }

pub was_applying : (rec now : Record) → GoesTo rec now → rec.state ≡ state.Applying → (now.state ≡ state.Applying) ⊎ (now.state ≡ state.Applied)
was_applying rec now goes applies = applying_goes now.state (subst (λ (s : State). may_follow s now.state ≡ true) applies goes.state)

-- Tokens.

spent_prepared : (view : View) (x : Token) → IsSpent view x → was_prepared view x.id ≡ true
spent_prepared view x (inl stale) = stale.decides
spent_prepared view x (inr clean) = decided_if_chosen view x.id (chosen_if_settled view x.id (clean x.id (Leads.Here x.id)))

pub queued_later : (c d : Content) (key : Key) (x : Token) → IsStep c d → HasQueued (look c) key x → HasQueued (look d) key x
queued_later c d key x step (inl inside) = ⊎_elim (λ there. inl there) (λ spent. inr (spent_prepared (look d) x spent)) (step.lost.tokens key x inside)
queued_later c d key x step (inr prepared) = inr (step.later.back.decides x.id prepared)

pub no_doc_later : (c d : Content) (key : Key) → IsSound c → IsStep c d → HasNoDocAlone c key → HasNoDocAlone d key
no_doc_later c d key s step was none =
    let before : stash_at c key ≡ None = none_counts c s key (subst (λ (n : ℕ). stash_epoch c key ≤ n) (ap entry_epoch none) (step.cells.epochs key)) in
    step.cells.docs key (was before) before none

-- what was read before a record's own token is listed
pub listed_as_shown : (c : Content) (key : Key) (id : TxnId) (doc : Option DocCell) (stash : Option StashCell) (nonce : ℕ) (found : List Token) → IsOwnedAs c key doc stash → valid_nonce (look c) id ≡ Some nonce
    → ((x : Token) → Before x (token id nonce) (owner_queue doc stash) → In x found) → IsListed (look c) key id found
listed_as_shown c key id doc stash nonce found shows valid all = record {
  all = λ x stands.
      let same : stands.nonce ≡ nonce = same_Some stands.nonce nonce (sym stands.valid ∙ valid) in
      all x (subst (Before x (token id nonce)) (shown_queue c key doc stash shows) (subst (λ (n : ℕ). Before x (token id n) ((look c).queue_at key)) same stands.before));
}

-- a token that was added to a document waits, unless a stash entry is past the document
pub added_waits_or_behind : (c d : Content) (key : Key) (z : Token) (added : HasAdded c d key z) → In z ((look d).queue_at key) ⊎ (epoch added.doc.revno < stash_epoch d key)
unfolding look
added_waits_or_behind c d key z added = by (stash_at d key) refl
  where
    new : DocCell
    new = record added.doc { queue = with_token z added.doc.queue }

    waits : (stash : Option StashCell) → stash_at d key ≡ stash → owner_of (Some new) stash ≡ side.Document → In z (owner_queue (doc_at d key) (stash_at d key))
    waits stash e owns = subst (In z) (sym (ap₂ owner_queue added.now e ∙ owned_queue new stash owns)) (in_put z added.doc.queue)

    by_side_of : (entry : StashCell) → stash_at d key ≡ Some entry → (o : Side) → owner_of (Some new) (Some entry) ≡ o → In z (owner_queue (doc_at d key) (stash_at d key)) ⊎ (epoch added.doc.revno < stash_epoch d key)
    by_side_of entry e side.Neither q = absurd (owned_by_one new entry q)
    by_side_of entry e side.Document q = inl (waits (Some entry) e q)
    by_side_of entry e side.Stash q = inr (subst (λ (n : ℕ). epoch added.doc.revno < n) (ap entry_epoch (sym e)) (entry_ahead new entry q))

    by : (stash : Option StashCell) → stash_at d key ≡ stash → In z (owner_queue (doc_at d key) (stash_at d key)) ⊎ (epoch added.doc.revno < stash_epoch d key)
    by None e = inl (waits None e refl)
    by (Some entry) e = by_side_of entry e (owner_of (Some new) (Some entry)) refl

-- Marked cells.

pub doc_later : (c d : Content) (key : Key) (doc : DocCell) (mark : Token) → IsStep c d → doc.remove ≡ Some mark → DocStays c key doc → DocStays d key doc
doc_later c d key doc mark step marked (inl there) = step.cells.marked_doc key doc mark there marked
doc_later c d key doc mark step marked (inr less) = inr (lt_of_lt_of_le less (step.cells.epochs key))

pub entry_later : (c d : Content) (key : Key) (entry : StashCell) (mark : Token) → IsStep c d → entry.insert ≡ Some mark → EntryStays c key entry → EntryStays d key entry
entry_later c d key entry mark step marked (inl there) = step.cells.marked_entry key entry mark there marked
entry_later c d key entry mark step marked (inr less) = inr (lt_of_lt_of_le less (step.cells.epochs key))

-- Applied records.

pub passed_while_applying : (c : Content) (id : TxnId) (rec : Record) (revnos : List ℤ) → record_at c id ≡ Some rec → rec.state ≡ state.Applying → PassedIfApplied (look c) id rec.ops revnos
unfolding look
passed_while_applying c id rec revnos there applies now after applied = absurd (cc (ap (λ (r : Record). r.state) (same_Some rec now (sym there ∙ after)), applies, applied))

pub passed_if_applied_later : (c d : Content) (id : TxnId) (rec : Record) (revnos : List ℤ) → IsStep c d → IsStillThere (look c) id rec → rec.state ≡ state.Applying → rec.revnos ≡ Some revnos
    → PassedIfApplied (look c) id rec.ops revnos → PassedIfApplied (look d) id rec.ops revnos
passed_if_applied_later c d id rec revnos step was applies numbers passed now after applied = ⊎_elim
    (λ still. subst (λ (ops : List Op). AllPassed (look d) ops revnos) was.goes.ops (step.done.closes id was.now now revnos was.there still (was.goes.revnos revnos numbers) after applied))
    (λ closed. all_passed_later (look c) (look d) step.done.forward rec.ops revnos (passed was.now was.there closed))
    (was_applying rec was.now was.goes applies)
