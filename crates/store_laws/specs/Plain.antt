-- Contents of documents alone.
use Rattle.std.specs.Prelude.{◌≡◌, Option, Some, None, option_map}
use Rattle.doc_value.specs.declared.value.Value.{Value}
use Rattle.txn_key.specs.declared.key.Key.{Key}
use Rattle.store_trait.specs.Contents.{Content}
use Rattle.store_laws.specs.View.{doc_at, stash_at}
use Rattle.store_trait.specs.declared.cell.DocCell.{DocCell}

-- no key has a stash entry, and no document is marked
pub record IsPlain (c : Content) : Type 0 where
  pub no_stash : (key : Key) → stash_at c key ≡ None
  pub unmarked : (key : Key) (doc : DocCell) → doc_at c key ≡ Some doc → doc.remove ≡ None

-- the body of the document that lies under a key
abbrev pub body_at : Content → Key → Option Value
body_at c key = option_map (λ (doc : DocCell). doc.body) (doc_at c key)
