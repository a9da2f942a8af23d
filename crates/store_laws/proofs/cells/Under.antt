-- A cell that was found is under its name.
use Rattle.std.proofs.Common.{◌≡◌, Option, Some, None, ap}
use Rattle.std.proofs.lemmas.Option.{same_Some}
use Rattle.std.specs.Option.{option_and_then}
use Rattle.std.specs.FinMap.{get}
use Rattle.txn_key.specs.declared.id.TxnId.{TxnId}
use Rattle.txn_key.specs.declared.key.Key.{Key}
use Rattle.txn_record.specs.declared.record.Record.{Record}
use Rattle.store_trait.specs.Cells.{as_record, as_doc, as_stash}
use Rattle.store_trait.specs.Contents.{Content}
use Rattle.store_trait.specs.declared.cell.Cell.{Cell}
use Rattle.store_trait.specs.declared.cell.Cell.TheVariants as cell
use Rattle.store_trait.specs.declared.cell.DocCell.{DocCell}
use Rattle.store_trait.specs.declared.cell.StashCell.{StashCell}
use Rattle.store_trait.specs.declared.name.Name.TheVariants as name
use Rattle.store_laws.specs.View.{record_at, doc_at, stash_at}

record_found : (found : Option Cell) (rec : Record) → option_and_then as_record found ≡ Some rec → found ≡ Some (cell.Record rec)
record_found None rec e = cc
record_found (Some (cell.Record r)) rec e = ap (λ (r : Record). Some (cell.Record r)) (same_Some r rec e)
record_found (Some (cell.Doc _)) rec e = cc
record_found (Some (cell.Stash _)) rec e = cc
record_found (Some (cell.Nonce _)) rec e = cc

pub record_under : (c : Content) (id : TxnId) (rec : Record) → record_at c id ≡ Some rec → get c (name.Record id) ≡ Some (cell.Record rec)
unfolding record_at
record_under c id rec there = record_found (get c (name.Record id)) rec there

doc_found : (found : Option Cell) (doc : DocCell) → option_and_then as_doc found ≡ Some doc → found ≡ Some (cell.Doc doc)
doc_found None doc e = cc
doc_found (Some (cell.Doc other)) doc e = ap (λ (x : DocCell). Some (cell.Doc x)) (same_Some other doc e)
doc_found (Some (cell.Record _)) doc e = cc
doc_found (Some (cell.Stash _)) doc e = cc
doc_found (Some (cell.Nonce _)) doc e = cc

pub doc_under : (c : Content) (key : Key) (doc : DocCell) → doc_at c key ≡ Some doc → get c (name.Doc key) ≡ Some (cell.Doc doc)
unfolding doc_at
doc_under c key doc found = doc_found (get c (name.Doc key)) doc found

stash_found : (found : Option Cell) (stash : StashCell) → option_and_then as_stash found ≡ Some stash → found ≡ Some (cell.Stash stash)
stash_found None stash e = cc
stash_found (Some (cell.Stash other)) stash e = ap (λ (x : StashCell). Some (cell.Stash x)) (same_Some other stash e)
stash_found (Some (cell.Record _)) stash e = cc
stash_found (Some (cell.Doc _)) stash e = cc
stash_found (Some (cell.Nonce _)) stash e = cc

pub stash_under : (c : Content) (key : Key) (stash : StashCell) → stash_at c key ≡ Some stash → get c (name.Stash key) ≡ Some (cell.Stash stash)
unfolding stash_at
stash_under c key stash found = stash_found (get c (name.Stash key)) stash found
