-- What a list of operations is when it is a transaction.
use Rattle.std.specs.Prelude.{◌≡◌, ◌≤◌, Bool, true, false, not, nat_lt, List, length, Ok}
use Rattle.std.specs.List.{All}
use Rattle.doc_query.specs.Syntax.{is_query}
use Rattle.doc_update.specs.Syntax.{is_update}
use Rattle.doc_value.specs.Bodies.{body_in}
use Rattle.doc_value.specs.Depth.{nesting}
use Rattle.doc_value.specs.declared.doc_id.DocId.{DocId}
use Rattle.doc_value.specs.declared.doc_id.DocId.TheVariants.{Text, Int}
use Rattle.doc_value.specs.declared.value.Value.{Value}
use Rattle.txn_key.specs.Syntax.{is_collection, is_text_id}
use Rattle.txn_record.specs.declared.op.Assert.{Assert}
use Rattle.txn_record.specs.declared.op.Assert.TheVariants as assertion
use Rattle.txn_record.specs.declared.op.Change.{Change}
use Rattle.txn_record.specs.declared.op.Change.TheVariants as change
use Rattle.txn_record.specs.declared.op.Op.{Op}

abbrev pub is_doc_id : DocId → Bool
is_doc_id (Text text) = is_text_id text
is_doc_id (Int _) = true

-- no part of an operation nests deeper
abbrev pub is_shallow : Value → Bool
is_shallow value = not (nat_lt 90 (nesting value))

-- the body of any document: it has no `_id`, and nothing that a body may not have
abbrev pub IsBody : Value → Type 0
IsBody value = (id : DocId) → body_in id value ≡ Ok value

-- what is inserted, if anything
abbrev pub InsertsBody : Change → Type 0
InsertsBody (change.Insert body) = IsBody body
InsertsBody _ = Unit {0}

abbrev pub IsSoundAssert : Assert → Type 0
IsSoundAssert assertion.Nothing = Unit {0}
IsSoundAssert assertion.Exists = Unit {0}
IsSoundAssert assertion.Missing = Unit {0}
IsSoundAssert (assertion.Query query) = (is_query query ≡ true) × (is_shallow query ≡ true)

abbrev pub IsSoundChange : Change → Type 0
IsSoundChange change.Nothing = Unit {0}
IsSoundChange (change.Insert body) = IsBody body
IsSoundChange (change.Update update) = (is_update update ≡ true) × (is_shallow update ≡ true)
IsSoundChange change.Remove = Unit {0}

-- an insertion asks for no more than that there is no document
abbrev pub may_insert : Assert → Bool
may_insert assertion.Nothing = true
may_insert assertion.Exists = false
may_insert assertion.Missing = true
may_insert (assertion.Query query) = false

-- an operation asks or changes something
abbrev pub asks : Assert → Bool
asks assertion.Nothing = false
asks assertion.Exists = true
asks assertion.Missing = true
asks (assertion.Query query) = true

abbrev pub go_together : Assert → Change → Bool
go_together assert change.Nothing = asks assert
go_together assert (change.Insert body) = may_insert assert
go_together assert (change.Update update) = true
go_together assert change.Remove = true

pub record IsSoundOp (op : Op) : Type 0 where
  pub collection : is_collection op.key.c ≡ true
  pub id : is_doc_id op.key.d ≡ true
  pub assert : IsSoundAssert op.assert
  pub change : IsSoundChange op.change
  pub together : go_together op.assert op.change ≡ true

-- 1 to 1,000 operations, each as it may be
abbrev pub IsTransaction : List Op → Type 0
IsTransaction ops = (1 ≤ length ops) × (length ops ≤ 1000) × All IsSoundOp ops
