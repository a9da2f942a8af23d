-- Numbers beside the chain of a record.
use Rattle.std.specs.Prelude.{Bool, ℤ, ◌&&◌, ◌||◌, unwrap_or, List, []}
use Rattle.std.specs.List.{list_any, list_all, zip}
use Rattle.std.specs.Ordering.{int_eq}
use Rattle.txn_key.specs.Keys.{same_key}
use Rattle.txn_key.specs.declared.key.Key.{Key}
use Rattle.txn_record.specs.Revnos.{number_after}
use Rattle.txn_record.specs.declared.op.Op.{Op}
use Rattle.txn_record.specs.declared.op.Change.{Change}
use Rattle.txn_record.specs.declared.record.Record.{Record}
use Rattle.store_laws.specs.View.{View, held_number}

-- the revision numbers of a record, none where it has no chain
abbrev pub numbers_of : Record → List ℤ
numbers_of rec = unwrap_or rec.revnos []

-- a change finds or leaves a number
abbrev pub is_end : Change → ℤ → ℤ → Bool
is_end change found number = int_eq number found || int_eq number (number_after change found)

-- an operation on a key does so
abbrev pub stands_by : Key → ℤ → Op → ℤ → Bool
stands_by key number op found = same_key key op.key && is_end op.change found number

-- one of some operations does, each at its number
abbrev pub some_stand_by : Key → ℤ → List Op → List ℤ → Bool
some_stand_by key number ops numbers =
    list_any (λ pair. stands_by key number pair.0 pair.1) (zip ops numbers)

-- the owner of each operation's key stands at a number that one of them finds or leaves
abbrev pub all_on_chain : View → List Op → List ℤ → Bool
all_on_chain view ops numbers =
    list_all (λ op. some_stand_by op.key (held_number (view.held_at op.key)) ops numbers) ops
