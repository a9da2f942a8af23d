-- What each lookup gives once a cell was put under a name.
use Rattle.std.proofs.Common.{◌≡◌, Bool, true, false, cond, Option, Some, ap, ◌∙◌, refl, if◌then◌else◌}
use Rattle.std.specs.Prelude.{option_and_then, unwrap_or}
use Rattle.std.specs.FinMap.{get, insert, get-insert}
use Rattle.std.specs.Ordering.{is_eq, eq_by_cmp}
use Rattle.txn_key.specs.Ids.{id_cmp}
use Rattle.txn_key.specs.Keys.{same_key}
use Rattle.txn_key.specs.declared.id.TxnId.{TxnId}
use Rattle.txn_key.specs.declared.key.Key.{Key}
use Rattle.store_trait.proofs.NameOrder.{name_cmp_total}
use Rattle.store_trait.specs.Cells.{as_record, as_doc, as_stash, as_counter}
use Rattle.store_trait.specs.Contents.{Content}
use Rattle.store_trait.specs.Names.{name_cmp}
use Rattle.store_laws.specs.View.{record_at, doc_at, stash_at, counter}
use Rattle.store_trait.specs.declared.cell.Cell.{Cell}
use Rattle.store_trait.specs.declared.name.Name.{Name}
use Rattle.store_trait.specs.declared.name.Name.TheVariants as name

pub get_put : (c : Content) (n : Name) (x : Cell) (m : Name) → get (insert c n x) m ≡ cond (eq_by_cmp name_cmp m n) (Some x) (get c m)
get_put c n x m = get-insert name_cmp_total c n x m

through : {A B : Type 0} (f : A → Option B) (b : Bool) (x : A) (o : Option A) → option_and_then f (cond b (Some x) o) ≡ cond b (f x) (option_and_then f o)
through f true x o = refl
through f false x o = refl

module _ (c : Content) (x : Cell) where
  pub record_at-put_record : (i id : TxnId) → record_at (insert c (name.Record i) x) id ≡ (if is_eq (id_cmp id i) then as_record x else record_at c id)
  unfolding record_at
  record_at-put_record i id = ap (option_and_then as_record) (get_put c (name.Record i) x (name.Record id)) ∙ through as_record (is_eq (id_cmp id i)) x _

  pub doc_at-put_record : (i : TxnId) (key : Key) → doc_at (insert c (name.Record i) x) key ≡ doc_at c key
  unfolding doc_at
  doc_at-put_record i key = ap (option_and_then as_doc) (get_put c (name.Record i) x (name.Doc key))

  pub stash_at-put_record : (i : TxnId) (key : Key) → stash_at (insert c (name.Record i) x) key ≡ stash_at c key
  unfolding stash_at
  stash_at-put_record i key = ap (option_and_then as_stash) (get_put c (name.Record i) x (name.Stash key))

  pub counter-put_record : (i : TxnId) → counter (insert c (name.Record i) x) ≡ counter c
  unfolding counter
  counter-put_record i = ap (λ (o : Option Cell). unwrap_or (option_and_then as_counter o) 0) (get_put c (name.Record i) x name.Nonce)

  pub record_at-put_doc : (j : Key) (id : TxnId) → record_at (insert c (name.Doc j) x) id ≡ record_at c id
  unfolding record_at
  record_at-put_doc j id = ap (option_and_then as_record) (get_put c (name.Doc j) x (name.Record id))

  pub doc_at-put_doc : (j key : Key) → doc_at (insert c (name.Doc j) x) key ≡ (if same_key key j then as_doc x else doc_at c key)
  unfolding doc_at
  doc_at-put_doc j key = ap (option_and_then as_doc) (get_put c (name.Doc j) x (name.Doc key)) ∙ through as_doc (same_key key j) x _

  pub stash_at-put_doc : (j key : Key) → stash_at (insert c (name.Doc j) x) key ≡ stash_at c key
  unfolding stash_at
  stash_at-put_doc j key = ap (option_and_then as_stash) (get_put c (name.Doc j) x (name.Stash key))

  pub counter-put_doc : (j : Key) → counter (insert c (name.Doc j) x) ≡ counter c
  unfolding counter
  counter-put_doc j = ap (λ (o : Option Cell). unwrap_or (option_and_then as_counter o) 0) (get_put c (name.Doc j) x name.Nonce)

  pub record_at-put_nonce : (id : TxnId) → record_at (insert c name.Nonce x) id ≡ record_at c id
  unfolding record_at
  record_at-put_nonce id = ap (option_and_then as_record) (get_put c name.Nonce x (name.Record id))

  pub doc_at-put_nonce : (key : Key) → doc_at (insert c name.Nonce x) key ≡ doc_at c key
  unfolding doc_at
  doc_at-put_nonce key = ap (option_and_then as_doc) (get_put c name.Nonce x (name.Doc key))

  pub stash_at-put_nonce : (key : Key) → stash_at (insert c name.Nonce x) key ≡ stash_at c key
  unfolding stash_at
  stash_at-put_nonce key = ap (option_and_then as_stash) (get_put c name.Nonce x (name.Stash key))

  pub counter-put_nonce : counter (insert c name.Nonce x) ≡ unwrap_or (as_counter x) 0
  unfolding counter
  counter-put_nonce = ap (λ (o : Option Cell). unwrap_or (option_and_then as_counter o) 0) (get_put c name.Nonce x name.Nonce)
