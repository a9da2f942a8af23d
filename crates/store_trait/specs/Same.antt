-- Whether two cells are the same, as tests that compute. That they are equality is a law.
use Rattle.std.specs.Prelude.{Bool, false, ◌==◌, ◌&&◌}
use Rattle.std.specs.Ordering.{int_eq}
use Rattle.doc_value.specs.Same.{same}
use Rattle.txn_key.specs.declared.id.Token.{Token}
use Rattle.txn_record.specs.Same.{same_list, same_option, same_record}
use Rattle.store_trait.specs.Names.{same_id}
use Rattle.store_trait.specs.declared.cell.Cell.{Cell}
use Rattle.store_trait.specs.declared.cell.Cell.TheVariants as cell
use Rattle.store_trait.specs.declared.cell.DocCell.{DocCell}
use Rattle.store_trait.specs.declared.cell.StashCell.{StashCell}

abbrev pub same_token : Token → Token → Bool
same_token a b = same_id a.id b.id && (a.nonce == b.nonce)

abbrev pub same_doc : DocCell → DocCell → Bool
same_doc a b =
    same a.body b.body
    && int_eq a.revno b.revno
    && same_list same_token a.queue b.queue
    && same_option same_token a.remove b.remove

abbrev pub same_stash : StashCell → StashCell → Bool
same_stash a b =
    int_eq a.revno b.revno
    && same_list same_token a.queue b.queue
    && same_option same_token a.insert b.insert

abbrev pub same_cell : Cell → Cell → Bool
same_cell (cell.Record rec) (cell.Record other) = same_record rec other
same_cell (cell.Doc doc) (cell.Doc other) = same_doc doc other
same_cell (cell.Stash stash) (cell.Stash other) = same_stash stash other
same_cell (cell.Nonce counter) (cell.Nonce other) = counter == other
same_cell _ _ = false
