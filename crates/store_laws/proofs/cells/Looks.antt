-- How putting a cell changes the look of a content.
use Rattle.std.proofs.Common.{◌≡◌, ℕ, ◌≤◌, Option, Some, List, sym, ap, ap₂, ◌∙◌, refl, subst, if◌then◌else◌, arith}
use Rattle.std.specs.FinMap.{insert}
use Rattle.txn_key.specs.Keys.{same_key}
use Rattle.txn_key.specs.declared.id.TxnId.{TxnId}
use Rattle.txn_key.specs.declared.id.Token.{Token}
use Rattle.txn_key.specs.declared.key.Key.{Key}
use Rattle.txn_record.specs.declared.record.Record.{Record}
use Rattle.store_trait.specs.Contents.{Content}
use Rattle.store_trait.specs.Edits.{with_token}
use Rattle.store_laws.specs.View.{look, doc_at, stash_at, counter, owner_queue, owner_held}
use Rattle.store_trait.specs.declared.cell.Cell.TheVariants as cell
use Rattle.store_trait.specs.declared.cell.DocCell.{DocCell}
use Rattle.store_trait.specs.declared.cell.StashCell.{StashCell}
use Rattle.store_trait.specs.declared.name.Name.TheVariants as name
use Rattle.store_laws.proofs.cells.Lookups
use Rattle.store_laws.proofs.views.Equals.{by_key}
use Rattle.store_laws.proofs.views.Shapes.{SameRecords, HeldElsewhere, Counts, ChangesRecord, AddsToken, ChangesHeld}

-- A record.
pub record_looks : (c : Content) (id : TxnId) (rec : Record) → ChangesRecord (look c) (look (insert c (name.Record id) (cell.Record rec))) id rec
unfolding look
record_looks c id rec =
    let docs = Lookups.doc_at-put_record c (cell.Record rec) id in
    let stashes = Lookups.stash_at-put_record c (cell.Record rec) id in
    record {
      puts = record { records = Lookups.record_at-put_record c (cell.Record rec) id };
      queues = record { queues = λ key. ap₂ owner_queue (docs key) (stashes key) };
      held = record { held = λ key. ap₂ owner_held (docs key) (stashes key) };
      counter = Lookups.counter-put_record c (cell.Record rec) id;
    }

-- The counter.
pub nonce_looks : (c : Content) (next : ℕ) → counter c ≤ next → Counts (look c) (look (insert c name.Nonce (cell.Nonce next)))
unfolding look
nonce_looks c next le =
    let docs = Lookups.doc_at-put_nonce c (cell.Nonce next) in
    let stashes = Lookups.stash_at-put_nonce c (cell.Nonce next) in
    record {
      records = record { records = Lookups.record_at-put_nonce c (cell.Nonce next) };
      queues = record { queues = λ key. ap₂ owner_queue (docs key) (stashes key) };
      held = record { held = λ key. ap₂ owner_held (docs key) (stashes key) };
      counter = subst (λ (n : ℕ). counter c ≤ n) (sym (Lookups.counter-put_nonce c (cell.Nonce next))) le;
    }

-- A document.

module _ (c : Content) (key : Key) (doc : DocCell) where
  abbrev pub put : Content
  put = insert c (name.Doc key) (cell.Doc doc)

  -- what is read of a key's two cells is read anew at the one key alone
  pub read_put : {A : Type 0} (f : Option DocCell → Option StashCell → A) (k : Key) → f (doc_at put k) (stash_at put k) ≡ (if same_key k key then f (Some doc) (stash_at c key) else f (doc_at c k) (stash_at c k))
  read_put {A = A} f k =
      ap₂ f (Lookups.doc_at-put_doc c (cell.Doc doc) key k) (Lookups.stash_at-put_doc c (cell.Doc doc) key k)
      ∙ by_key k key (λ b. f (if b then Some doc else doc_at c k) (stash_at c k) ≡ (if b then f (Some doc) (stash_at c key) else f (doc_at c k) (stash_at c k))) (λ e. ap (λ (k : Key). f (Some doc) (stash_at c k)) e) (λ e. refl)

  pub same_read : {A : Type 0} (f : Option DocCell → Option StashCell → A) → f (Some doc) (stash_at c key) ≡ f (doc_at c key) (stash_at c key) → (k : Key) → f (doc_at put k) (stash_at put k) ≡ f (doc_at c k) (stash_at c k)
  same_read f same k =
      read_put f k ∙ by_key k key (λ b. (if b then f (Some doc) (stash_at c key) else f (doc_at c k) (stash_at c k)) ≡ f (doc_at c k) (stash_at c k)) (λ e. same ∙ ap (λ (k : Key). f (doc_at c k) (stash_at c k)) (sym e)) (λ e. refl)

  pub doc_records : SameRecords (look c) (look put)
  unfolding look
  doc_records = record { records = Lookups.record_at-put_doc c (cell.Doc doc) key }

  pub doc_counter : (look put).counter ≡ (look c).counter
  unfolding look
  doc_counter = Lookups.counter-put_doc c (cell.Doc doc) key

  pub doc_held_elsewhere : HeldElsewhere (look c) (look put) key
  unfolding look
  doc_held_elsewhere = record { held = λ k apart. read_put owner_held k ∙ by_key k key (λ b. (if b then owner_held (Some doc) (stash_at c key) else owner_held (doc_at c k) (stash_at c k)) ≡ owner_held (doc_at c k) (stash_at c k)) (λ e. absurd (apart e)) (λ e. refl) }

  -- the owner queue and what is held stay: the document doesn't own the key, and doesn't come to
  pub doc_unseen : owner_queue (Some doc) (stash_at c key) ≡ owner_queue (doc_at c key) (stash_at c key) → owner_held (Some doc) (stash_at c key) ≡ owner_held (doc_at c key) (stash_at c key) → Counts (look c) (look put)
  unfolding look
  doc_unseen queue held = record {
    records = doc_records;
    queues = record { queues = same_read owner_queue queue };
    held = record { held = same_read owner_held held };
    counter = subst (λ (n : ℕ). counter c ≤ n) (sym doc_counter) (omega arith);
  }

  -- a token at the end of the owner queue
  pub doc_queues : (token : Token) → owner_queue (Some doc) (stash_at c key) ≡ with_token token (owner_queue (doc_at c key) (stash_at c key)) → owner_held (Some doc) (stash_at c key) ≡ owner_held (doc_at c key) (stash_at c key)
      → AddsToken (look c) (look put) key token
  unfolding look
  doc_queues token queue held = record {
    records = doc_records;
    queues = record { queues = λ k. read_put owner_queue k ∙ ap (λ (q : List Token). if same_key k key then q else owner_queue (doc_at c k) (stash_at c k)) queue };
    held = record { held = same_read owner_held held };
    counter = doc_counter;
  }

  -- the number and the body
  pub doc_writes : owner_queue (Some doc) (stash_at c key) ≡ owner_queue (doc_at c key) (stash_at c key) → ChangesHeld (look c) (look put) key
  unfolding look
  doc_writes queue = record {
    records = doc_records;
    queues = record { queues = same_read owner_queue queue };
    held = doc_held_elsewhere;
    counter = doc_counter;
  }
