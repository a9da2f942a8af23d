-- The part of soundness that speaks of owner queues, precedence and readiness.
use Rattle.std.proofs.Common.{◌≡◌, ℕ, Bool, true, false, ◌&&◌, not, IsTrue, Option, Some, None, is_some, List, [], ◌⊎◌, inl, inr, ⊎_elim, option_to_list, refl}
use Rattle.txn_key.specs.declared.id.TxnId.{TxnId}
use Rattle.txn_key.specs.declared.id.Token.{Token}
use Rattle.txn_key.specs.declared.key.Key.{Key}
use Rattle.txn_record.specs.States.{was_prepared_state}
use Rattle.txn_record.specs.declared.record.Record.{Record}
use Rattle.txn_record.specs.declared.state.State.{State}
use Rattle.txn_record.specs.declared.state.State.TheVariants as state
use Rattle.store_trait.specs.Names.{same_state}
use Rattle.store_trait.specs.Contents.{Content}
use Rattle.store_trait.specs.Owners.{owner_of}
use Rattle.store_laws.specs.View.{View, look, doc_at, stash_at, was_decided, applying, is_queued_state, HasKey, IsOn, by_side, doc_queue, stash_queue}
use Rattle.store_laws.specs.Readiness.{token, In, IsReady, Sealed}
use Rattle.store_laws.specs.Soundness.{IsSound, HasSoundTokens, is_numbered_record, agree, tokens_of_doc, tokens_of_stash}
use Rattle.store_trait.specs.declared.cell.Cell.TheVariants as cell
use Rattle.store_trait.specs.declared.cell.DocCell.{DocCell}
use Rattle.store_trait.specs.declared.cell.StashCell.{StashCell}
use Rattle.store_trait.specs.declared.name.Name.TheVariants as name
use Rattle.store_trait.specs.declared.side.Side.{Side}
use Rattle.store_trait.specs.declared.side.Side.TheVariants as side
use Rattle.store_laws.proofs.cells.Parts.{parts}
use Rattle.store_laws.proofs.views.Queues.{in_left}
use Rattle.store_laws.proofs.cells.Under.{record_under}

pub record IsOrderly (view : View) : Type 0 where
  -- a token in an owner queue is of a present record that has the key
  pub named : (key : Key) (x : Token) → In x (view.queue_at key) → HasKey view x.id key
  -- a prepared record has a nonce
  pub drawn : (id : TxnId) (rec : Record) → view.record_at id ≡ Some rec → was_prepared_state rec.state ≡ true → is_some rec.nonce ≡ true
  -- a waiting record's token stands in the owner queue of each of its keys
  pub queued : (id : TxnId) (rec : Record) (nonce : ℕ) (key : Key) → view.record_at id ≡ Some rec → IsTrue (is_queued_state rec.state) → rec.nonce ≡ Some nonce → IsOn key rec.ops → In (token id nonce) (view.queue_at key)
  pub ready : (id : TxnId) → applying view id ≡ true → IsReady view id
  pub sealed : (id : TxnId) → was_decided view id ≡ true → Sealed view id

-- tokens of an owner queue are tokens of one of the key's two cells

in_either : (x : Token) (owner : Side) (doc stash : List Token) → In x (by_side owner [] doc stash) → In x doc ⊎ In x stash
in_either x side.Neither doc stash h = absurd h
in_either x side.Document doc stash h = inl h
in_either x side.Stash doc stash h = inr h

in_doc : (view : View) (key : Key) (found : Option DocCell) → ((doc : DocCell) → found ≡ Some doc → HasSoundTokens view key doc.queue (tokens_of_doc doc)) → (x : Token) → In x (doc_queue found) → HasKey view x.id key
in_doc view key None sound x h = absurd h
in_doc view key (Some doc) sound x h = (sound doc refl).named x (in_left x doc.queue (option_to_list doc.remove) h)

in_stash : (view : View) (key : Key) (found : Option StashCell) → ((stash : StashCell) → found ≡ Some stash → HasSoundTokens view key stash.queue (tokens_of_stash stash)) → (x : Token) → In x (stash_queue found) → HasKey view x.id key
in_stash view key None sound x h = absurd h
in_stash view key (Some stash) sound x h = (sound stash refl).named x (in_left x stash.queue (option_to_list stash.insert) h)

agreed : (b : Bool) (s : State) → agree b (not (same_state s state.Preparing)) ≡ true → was_prepared_state s ≡ true → b ≡ true
agreed true s e d = refl
agreed false state.Preparing e d = d
agreed false _ e d = e

first_of_three : (a b c : Bool) → (a && b && c) ≡ true → a ≡ true
first_of_three true b c e = refl
first_of_three false b c e = cc

pub nonce_agrees : (rec : Record) → is_numbered_record rec ≡ true → agree (is_some rec.nonce) (not (same_state rec.state state.Preparing)) ≡ true
nonce_agrees rec e = first_of_three _ _ _ e

pub numbered_nonce : (rec : Record) → is_numbered_record rec ≡ true → was_prepared_state rec.state ≡ true → is_some rec.nonce ≡ true
numbered_nonce rec e d = agreed (is_some rec.nonce) rec.state (nonce_agrees rec e) d

pub orderly : (c : Content) → IsSound c → IsOrderly (look c)
unfolding look
orderly c sound = record {
  named = λ key x h. ⊎_elim (in_doc (look c) key (doc_at c key) ((parts c sound).doc_tokens key) x) (in_stash (look c) key (stash_at c key) ((parts c sound).stash_tokens key) x) (in_either x (owner_of (doc_at c key) (stash_at c key)) (doc_queue (doc_at c key)) (stash_queue (stash_at c key)) h);
  drawn = λ id rec there d. numbered_nonce rec ((parts c sound).numbers (name.Record id) (cell.Record rec) (record_under c id rec there)) d;
  queued = (parts c sound).queued;
  ready = (parts c sound).ready;
  sealed = (parts c sound).sealed;
}
