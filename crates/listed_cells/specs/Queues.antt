-- The owner queues of a store, by the names of the cells that hold them.
use Rattle.std.specs.Prelude.{ℕ, Option, Some, None, List, [], slice_index_or}
use Rattle.std.specs.List.{filter_map}
use Rattle.store_laws.specs.View.{look, doc_at, stash_at, by_side}
use Rattle.store_trait.specs.Contents.{Content}
use Rattle.store_trait.specs.Owners.{owner_of}
use Rattle.store_trait.specs.declared.cell.Cell.TheVariants as cell
use Rattle.store_trait.specs.declared.cell.Named.{Named}
use Rattle.store_trait.specs.declared.name.Name.{Name}
use Rattle.store_trait.specs.declared.name.Name.TheVariants as name
use Rattle.txn_key.specs.declared.id.Token.{Token}
use Rattle.txn_key.specs.declared.id.TxnId.{TxnId}
use Rattle.txn_key.specs.declared.key.Key.{Key}

-- the name of the cell at a place, past the end that of the nonce
abbrev pub name_in : List Named → ℕ → Name
name_in cells k = (slice_index_or cells k (record { name = name.Nonce; cell = cell.Nonce 0 })).name

-- the id in a record's name
abbrev pub id_of_name : Name → Option TxnId
id_of_name (name.Record id) = Some id
id_of_name _ = None

-- the ids of all records, in the order of their names
abbrev pub ids_of : List Named → List TxnId
ids_of cells = filter_map (λ (x : Named). id_of_name x.name) cells

-- the key that the cell of a name owns
abbrev pub owned_key : Content → Name → Option Key
owned_key c (name.Doc key) = by_side (owner_of (doc_at c key) (stash_at c key)) None (Some key) None
owned_key c (name.Stash key) =
    by_side (owner_of (doc_at c key) (stash_at c key)) None None (Some key)
owned_key c _ = None

-- the queue of a key, where there is one
abbrev pub queue_of_key : Content → Option Key → List Token
queue_of_key c None = []
queue_of_key c (Some key) = (look c).queue_at key

-- the owner queue that the cell of a name holds
abbrev pub queue_of : Content → Name → List Token
queue_of c n = queue_of_key c (owned_key c n)
