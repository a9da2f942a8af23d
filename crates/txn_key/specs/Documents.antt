-- Documents: bodies by their keys.
use Rattle.std.specs.Prelude.{◌≡◌, map, true, List, Option, Some, None}
use Rattle.std.specs.FinMap.{FinMap, contains_key, insert, remove}
use Rattle.std.specs.declared.cmp.Ordering.TheVariants.{Less}
use Rattle.doc_value.specs.declared.value.Value.{Value}
use Rattle.txn_key.specs.Keys.{key_cmp}
use Rattle.txn_key.specs.declared.docs.Doc.{Doc}
use Rattle.txn_key.specs.declared.key.Key.{Key}

-- the documents of a store: bodies by their keys
abbrev pub Docs : Type 0
Docs = FinMap key_cmp Value

-- a list of documents as keys with their bodies
abbrev pub pairs_of : List Doc → List (Key × Value)
pairs_of = map (λ (doc : Doc). (doc.key, doc.body))

-- the key stands after each key of the documents
abbrev pub IsPast : Key → Docs → Type 0
IsPast key docs = (k : Key) → contains_key docs k ≡ true → key_cmp k key ≡ Less

-- the documents with that body at the key, or without the key
abbrev pub with_body : Key → Option Value → Docs → Docs
with_body key None docs = remove docs key
with_body key (Some body) docs = insert docs key body
