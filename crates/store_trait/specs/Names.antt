use Rattle.std.specs.Prelude.{Option, Some, None, Bool, true, false, ◌==◌}
use Rattle.std.specs.Str.{bytes_eq}
use Rattle.std.specs.declared.cmp.Ordering.{Ordering}
use Rattle.std.specs.declared.cmp.Ordering.TheVariants.{Less, Equal, Greater}
use Rattle.txn_key.specs.Ids.{id_cmp}
use Rattle.txn_key.specs.Keys.{key_cmp}
use Rattle.txn_key.specs.declared.id.TxnId.{TxnId}
use Rattle.txn_record.specs.States.{state_number}
use Rattle.txn_record.specs.declared.state.State.{State}
use Rattle.store_trait.specs.declared.name.Name.{Name}
use Rattle.store_trait.specs.declared.name.Name.TheVariants as name
use Rattle.store_trait.specs.declared.cell.Cell.{Cell}
use Rattle.store_trait.specs.declared.cell.Cell.TheVariants as cell

-- records come first, then documents, then stash entries, then the nonce; each by id or key
abbrev pub name_cmp : Name → Name → Ordering
name_cmp (name.Record a) (name.Record b) = id_cmp a b
name_cmp (name.Record _) (name.Doc _) = Less
name_cmp (name.Record _) (name.Stash _) = Less
name_cmp (name.Record _) name.Nonce = Less
name_cmp (name.Doc _) (name.Record _) = Greater
name_cmp (name.Doc a) (name.Doc b) = key_cmp a b
name_cmp (name.Doc _) (name.Stash _) = Less
name_cmp (name.Doc _) name.Nonce = Less
name_cmp (name.Stash _) (name.Record _) = Greater
name_cmp (name.Stash _) (name.Doc _) = Greater
name_cmp (name.Stash a) (name.Stash b) = key_cmp a b
name_cmp (name.Stash _) name.Nonce = Less
name_cmp name.Nonce (name.Record _) = Greater
name_cmp name.Nonce (name.Doc _) = Greater
name_cmp name.Nonce (name.Stash _) = Greater
name_cmp name.Nonce name.Nonce = Equal

abbrev pub same_id : TxnId → TxnId → Bool
same_id a b = bytes_eq a.0 b.0

abbrev pub same_state : State → State → Bool
same_state a b = state_number a == state_number b

-- the cell is of the name's kind, and a record stands under its own id
abbrev pub may_stand : Name → Cell → Bool
may_stand (name.Record id) (cell.Record rec) = same_id id rec.id
may_stand (name.Doc _) (cell.Doc _) = true
may_stand (name.Stash _) (cell.Stash _) = true
may_stand name.Nonce (cell.Nonce _) = true
may_stand _ _ = false

-- nothing, or a cell that may stand there
abbrev pub may_hold : Name → Option Cell → Bool
may_hold name None = true
may_hold name (Some cell) = may_stand name cell
