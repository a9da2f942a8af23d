-- Soundness by its parts, as proofs take it: what each rule says of each kind of cell.
use Rattle.std.proofs.Common.{◌≡◌, ◌<◌, true, Option, Some, IfSome}
use Rattle.std.specs.FinMap.{get}
use Rattle.txn_key.specs.declared.id.TxnId.{TxnId}
use Rattle.txn_key.specs.declared.id.Token.{Token}
use Rattle.txn_key.specs.declared.key.Key.{Key}
use Rattle.txn_record.specs.declared.record.Record.{Record}
use Rattle.store_trait.specs.Names.{may_stand}
use Rattle.store_trait.specs.Contents.{Content}
use Rattle.store_trait.specs.Owners.{owner_of}
use Rattle.store_trait.specs.declared.cell.Cell.{Cell}
use Rattle.store_trait.specs.declared.cell.Cell.TheVariants as cell
use Rattle.store_trait.specs.declared.cell.DocCell.{DocCell}
use Rattle.store_trait.specs.declared.cell.StashCell.{StashCell}
use Rattle.store_trait.specs.declared.name.Name.{Name}
use Rattle.store_trait.specs.declared.name.Name.TheVariants as name
use Rattle.store_trait.specs.declared.side.Side.TheVariants as side
use Rattle.store_laws.specs.View.{View, look, record_at, doc_at, stash_at, counter, was_decided, applying}
use Rattle.store_laws.specs.Readiness.{IsReady, Sealed}
use Rattle.store_laws.specs.Soundness.{IsSound, Rule, HasSoundTokens, AllBelow, tokens_of_doc, tokens_of_stash, is_numbered, IsInQueues, IfApplying, StandsOnChain, PendingFits, IsMarkOf, is_removal, is_insertion, IsSoundEntry}
use Rattle.store_laws.proofs.cells.Under.{record_under, doc_under, stash_under}

-- marks and the stash entry of a key, by its two cells
pub record HasMarks (view : View) (key : Key) (doc : Option DocCell) (stash : Option StashCell) : Type 0 where
  pub of_doc : (d : DocCell) (mark : Token) → doc ≡ Some d → d.remove ≡ Some mark → owner_of doc stash ≡ side.Document → IsMarkOf view key mark is_removal
  pub of_stash : (e : StashCell) (mark : Token) → stash ≡ Some e → e.insert ≡ Some mark → owner_of doc stash ≡ side.Stash → IsMarkOf view key mark is_insertion
  pub entry : (e : StashCell) → stash ≡ Some e → IsSoundEntry doc e

abbrev pub HasMarksAt : Content → Key → Type 0
HasMarksAt c key = HasMarks (look c) key (doc_at c key) (stash_at c key)

pub record Parts (c : Content) : Type 0 where
  pub kinds : (n : Name) (x : Cell) → get c n ≡ Some x → may_stand n x ≡ true
  pub numbers : (n : Name) (x : Cell) → get c n ≡ Some x → is_numbered x ≡ true
  pub doc_tokens : (key : Key) (doc : DocCell) → doc_at c key ≡ Some doc → HasSoundTokens (look c) key doc.queue (tokens_of_doc doc)
  pub stash_tokens : (key : Key) (stash : StashCell) → stash_at c key ≡ Some stash → HasSoundTokens (look c) key stash.queue (tokens_of_stash stash)
  pub doc_nonces : (key : Key) (doc : DocCell) → doc_at c key ≡ Some doc → AllBelow (counter c) (tokens_of_doc doc)
  pub stash_nonces : (key : Key) (stash : StashCell) → stash_at c key ≡ Some stash → AllBelow (counter c) (tokens_of_stash stash)
  pub record_nonces : (id : TxnId) (rec : Record) → record_at c id ≡ Some rec → IfSome rec.nonce (λ nonce. nonce < counter c)
  pub queued : (id : TxnId) → IsInQueues c id
  pub ready : (id : TxnId) → applying (look c) id ≡ true → IsReady (look c) id
  pub sealed : (id : TxnId) → was_decided (look c) id ≡ true → Sealed (look c) id
  pub marks : (key : Key) → HasMarksAt c key
  pub on_chain : (id : TxnId) → IfApplying c (StandsOnChain (look c)) id
  pub fits : (id : TxnId) → IfApplying c (PendingFits c) id

pub parts : (c : Content) → IsSound c → Parts c
parts c s = record {
  kinds = s.kinds;
  numbers = s.rules Rule.Numbers;
  doc_tokens = λ key doc found. s.rules Rule.Tokens (name.Doc key) (cell.Doc doc) (doc_under c key doc found);
  stash_tokens = λ key stash found. s.rules Rule.Tokens (name.Stash key) (cell.Stash stash) (stash_under c key stash found);
  doc_nonces = λ key doc found. s.rules Rule.Nonces (name.Doc key) (cell.Doc doc) (doc_under c key doc found);
  stash_nonces = λ key stash found. s.rules Rule.Nonces (name.Stash key) (cell.Stash stash) (stash_under c key stash found);
  record_nonces = λ id rec found. s.rules Rule.Nonces (name.Record id) (cell.Record rec) (record_under c id rec found);
  queued = λ id. s.rules Rule.InQueues (name.Record id);
  ready = λ id. s.rules Rule.AppliesReady (name.Record id);
  sealed = λ id. s.rules Rule.DecidedSealed (name.Record id);
  marks = λ key. record {
    of_doc = s.rules Rule.Marks (name.Doc key);
    of_stash = s.rules Rule.Marks (name.Stash key);
    entry = s.rules Rule.Entries (name.Stash key);
  };
  on_chain = λ id. s.rules Rule.OnChain (name.Record id);
  fits = λ id. s.rules Rule.Fits (name.Record id);
}
