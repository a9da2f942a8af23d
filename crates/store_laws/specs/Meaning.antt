use Rattle.std.specs.Prelude.{nat_le, ℤ, unsigned_abs, Option, Some, None, unwrap_or, List, [], ◌∷◌, if◌then◌else◌}
use Rattle.std.specs.List.{filter_map, flat_map}
use Rattle.std.specs.FinMap.{entries, from_entries}
use Rattle.doc_value.specs.declared.value.Value.{Value}
use Rattle.txn_key.specs.Documents.{Docs}
use Rattle.txn_key.specs.declared.key.Key.{Key}
use Rattle.txn_record.specs.Effects.{effect}
use Rattle.txn_record.specs.declared.op.Op.{Op}
use Rattle.txn_record.specs.declared.record.Record.{Record}
use Rattle.txn_record.specs.declared.state.State.TheVariants as state
use Rattle.store_trait.specs.Names.{same_state}
use Rattle.store_trait.specs.Contents.{Content}
use Rattle.store_laws.specs.View.{View, look, stash_at, epoch_at, by_side}
use Rattle.store_trait.specs.Cells.{as_record}
use Rattle.store_trait.specs.Owners.{owner_of}
use Rattle.store_trait.specs.declared.cell.Cell.{Cell}
use Rattle.store_trait.specs.declared.cell.Cell.TheVariants as cell
use Rattle.store_trait.specs.declared.name.Name.{Name}
use Rattle.store_trait.specs.declared.name.Name.TheVariants as name

-- the operations whose number is not yet below the epoch of their key's owner
abbrev pub not_done : View → List Op → List ℤ → List Op
not_done view (op ∷ ops) (revno ∷ revnos) =
    if nat_le (epoch_at view op.key) (unsigned_abs revno)
    then op ∷ not_done view ops revnos else not_done view ops revnos
not_done view [] _ = []
not_done view _ [] = []

-- what an applying record has still to do
abbrev pub pending_of : View → Record → List Op
pending_of view rec =
    if same_state state.Applying rec.state
    then not_done view rec.ops (unwrap_or rec.revnos []) else []

abbrev pub records : Content → List Record
records c = filter_map (λ entry. as_record entry.1) (entries c)

-- What the applying records have still to do, in order. In a sound content at most one record has
-- something to do on a key.
abbrev pub pending : Content → List Op
pending c = flat_map (pending_of (look c)) (records c)

-- the body of a document that owns its key
abbrev pub owned_body : Content → Name × Cell → Option (Key × Value)
owned_body c (name.Doc key, cell.Doc doc) =
    by_side (owner_of (Some doc) (stash_at c key)) None (Some (key, doc.body)) None
owned_body c _ = None

-- the bodies of the documents that own their keys
abbrev pub bodies : Content → Docs
bodies c = from_entries (filter_map (owned_body c) (entries c))

-- What a content means: its documents, with the applying transactions completed.
abbrev pub meaning : Content → Docs
meaning c = effect (pending c) (bodies c)
