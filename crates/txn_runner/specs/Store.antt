-- What a store holds under the names of documents and records.
use Rattle.std.specs.Prelude.{Bool, is_some}
use Rattle.std.specs.FinMap.{get}
use Rattle.txn_key.specs.declared.id.TxnId.{TxnId}
use Rattle.txn_key.specs.declared.key.Key.{Key}
use Rattle.store_trait.specs.Contents.{Content}
use Rattle.store_trait.specs.declared.name.Name.TheVariants as name

abbrev pub has_document : Content → Key → Bool
has_document content key = is_some (get content (name.Doc key))

abbrev pub has_record : Content → TxnId → Bool
has_record content id = is_some (get content (name.Record id))
