use Rattle.std.specs.Prelude.{ℕ, Option, Some, None}
use Rattle.txn_record.specs.declared.record.Record.{Record}
use Rattle.store_trait.specs.declared.cell.Cell.{Cell}
use Rattle.store_trait.specs.declared.cell.Cell.TheVariants as cell
use Rattle.store_trait.specs.declared.cell.DocCell.{DocCell}
use Rattle.store_trait.specs.declared.cell.StashCell.{StashCell}

-- what a cell is, where it is of that kind
abbrev pub as_record : Cell → Option Record
as_record (cell.Record rec) = Some rec
as_record _ = None

abbrev pub as_doc : Cell → Option DocCell
as_doc (cell.Doc doc) = Some doc
as_doc _ = None

abbrev pub as_stash : Cell → Option StashCell
as_stash (cell.Stash stash) = Some stash
as_stash _ = None

abbrev pub as_counter : Cell → Option ℕ
as_counter (cell.Nonce counter) = Some counter
as_counter _ = None
