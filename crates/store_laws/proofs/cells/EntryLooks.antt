-- What each lookup gives once a stash entry was put, and how that changes the look of a content.
use Rattle.std.proofs.Common.{◌≡◌, Bool, true, false, cond, Option, Some, List, sym, ap, ap₂, ◌∙◌, refl, if◌then◌else◌}
use Rattle.std.specs.Prelude.{unwrap_or}
use Rattle.std.specs.Option.{option_and_then}
use Rattle.std.specs.FinMap.{insert}
use Rattle.txn_key.specs.Keys.{same_key}
use Rattle.txn_key.specs.declared.id.TxnId.{TxnId}
use Rattle.txn_key.specs.declared.id.Token.{Token}
use Rattle.txn_key.specs.declared.key.Key.{Key}
use Rattle.store_trait.specs.Cells.{as_record, as_doc, as_stash, as_counter}
use Rattle.store_trait.specs.Contents.{Content}
use Rattle.store_trait.specs.Edits.{with_token}
use Rattle.store_trait.specs.declared.cell.Cell.{Cell}
use Rattle.store_trait.specs.declared.cell.Cell.TheVariants as cell
use Rattle.store_trait.specs.declared.cell.DocCell.{DocCell}
use Rattle.store_trait.specs.declared.cell.StashCell.{StashCell}
use Rattle.store_trait.specs.declared.name.Name.TheVariants as name
use Rattle.store_laws.specs.View.{look, record_at, doc_at, stash_at, counter, owner_queue, owner_held}
use Rattle.store_laws.proofs.cells.Lookups.{get_put}
use Rattle.store_laws.proofs.views.Equals.{by_key}
use Rattle.store_laws.proofs.views.Shapes.{SameRecords, AddsToken}

through : {A B : Type 0} (f : A → Option B) (b : Bool) (x : A) (o : Option A) → option_and_then f (cond b (Some x) o) ≡ cond b (f x) (option_and_then f o)
through f true x o = refl
through f false x o = refl

module _ (c : Content) (x : Cell) where
  pub record_at-put_stash : (j : Key) (id : TxnId) → record_at (insert c (name.Stash j) x) id ≡ record_at c id
  unfolding record_at
  record_at-put_stash j id = ap (option_and_then as_record) (get_put c (name.Stash j) x (name.Record id))

  pub doc_at-put_stash : (j key : Key) → doc_at (insert c (name.Stash j) x) key ≡ doc_at c key
  unfolding doc_at
  doc_at-put_stash j key = ap (option_and_then as_doc) (get_put c (name.Stash j) x (name.Doc key))

  pub stash_at-put_stash : (j key : Key) → stash_at (insert c (name.Stash j) x) key ≡ (if same_key key j then as_stash x else stash_at c key)
  unfolding stash_at
  stash_at-put_stash j key = ap (option_and_then as_stash) (get_put c (name.Stash j) x (name.Stash key)) ∙ through as_stash (same_key key j) x _

  pub counter-put_stash : (j : Key) → counter (insert c (name.Stash j) x) ≡ counter c
  unfolding counter
  counter-put_stash j = ap (λ (o : Option Cell). unwrap_or (option_and_then as_counter o) 0) (get_put c (name.Stash j) x name.Nonce)

module _ (c : Content) (key : Key) (entry : StashCell) where
  abbrev pub put_entry : Content
  put_entry = insert c (name.Stash key) (cell.Stash entry)

  -- what is read of a key's two cells is read anew at the one key alone
  pub read_put_entry : {A : Type 0} (f : Option DocCell → Option StashCell → A) (k : Key) → f (doc_at put_entry k) (stash_at put_entry k) ≡ (if same_key k key then f (doc_at c key) (Some entry) else f (doc_at c k) (stash_at c k))
  read_put_entry {A = A} f k =
      ap₂ f (doc_at-put_stash c (cell.Stash entry) key k) (stash_at-put_stash c (cell.Stash entry) key k)
      ∙ by_key k key (λ b. f (doc_at c k) (if b then Some entry else stash_at c k) ≡ (if b then f (doc_at c key) (Some entry) else f (doc_at c k) (stash_at c k))) (λ e. ap (λ (k : Key). f (doc_at c k) (Some entry)) e) (λ e. refl)

  pub same_read_entry : {A : Type 0} (f : Option DocCell → Option StashCell → A) → f (doc_at c key) (Some entry) ≡ f (doc_at c key) (stash_at c key) → (k : Key) → f (doc_at put_entry k) (stash_at put_entry k) ≡ f (doc_at c k) (stash_at c k)
  same_read_entry f same k =
      read_put_entry f k ∙ by_key k key (λ b. (if b then f (doc_at c key) (Some entry) else f (doc_at c k) (stash_at c k)) ≡ f (doc_at c k) (stash_at c k)) (λ e. same ∙ ap (λ (k : Key). f (doc_at c k) (stash_at c k)) (sym e)) (λ e. refl)

  pub entry_records : SameRecords (look c) (look put_entry)
  unfolding look
  entry_records = record { records = record_at-put_stash c (cell.Stash entry) key }

  -- a token at the end of the owner queue
  pub entry_queues : (token : Token) → owner_queue (doc_at c key) (Some entry) ≡ with_token token (owner_queue (doc_at c key) (stash_at c key)) → owner_held (doc_at c key) (Some entry) ≡ owner_held (doc_at c key) (stash_at c key)
      → AddsToken (look c) (look put_entry) key token
  unfolding look
  entry_queues token queue held = record {
    records = entry_records;
    queues = record { queues = λ k. read_put_entry owner_queue k ∙ ap (λ (q : List Token). if same_key k key then q else owner_queue (doc_at c k) (stash_at c k)) queue };
    held = record { held = same_read_entry owner_held held };
    counter = counter-put_stash c (cell.Stash entry) key;
  }
