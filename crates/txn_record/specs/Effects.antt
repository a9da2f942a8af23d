-- What the operations of a transaction do to documents, and when they may.
use Rattle.std.specs.Prelude.{Bool, true, false, ◌&&◌, List, [], ◌∷◌, Option, Some, None, is_some, is_none, unwrap_or}
use Rattle.std.specs.FinMap.{get}
use Rattle.std.specs.List.{list_all}
use Rattle.doc_query.specs.Meaning.{holds}
use Rattle.doc_update.specs.Updates.{updated}
use Rattle.doc_value.specs.declared.value.Value.{Value}
use Rattle.txn_key.specs.Documents.{Docs, with_body}
use Rattle.txn_record.specs.declared.op.Assert.{Assert}
use Rattle.txn_record.specs.declared.op.Assert.TheVariants as assertion
use Rattle.txn_record.specs.declared.op.Change.{Change}
use Rattle.txn_record.specs.declared.op.Change.TheVariants as change
use Rattle.txn_record.specs.declared.op.Op.{Op}

-- What a change makes of a document that is there or not. An insertion leaves one that is there, and an update
-- a body that it doesn't fit.
abbrev pub body_after : Change → Option Value → Option Value
body_after change.Nothing found = found
body_after (change.Insert body) None = Some body
body_after (change.Insert body) (Some found) = Some found
body_after (change.Update update) None = None
body_after (change.Update update) (Some found) = Some (unwrap_or (updated update found) found)
body_after change.Remove found = None

abbrev pub effect_of : Op → Docs → Docs
effect_of op docs = with_body op.key (body_after op.change (get docs op.key)) docs

-- the documents after the operations, in the listed order
abbrev pub effect : List Op → Docs → Docs
effect [] docs = docs
effect (op ∷ ops) docs = effect ops (effect_of op docs)

-- ---- when it may

-- whether an assertion holds of a document that is there or not; a query doesn't hold of a missing one
abbrev pub assertion_holds : Assert → Option Value → Bool
assertion_holds assertion.Nothing found = true
assertion_holds assertion.Exists found = is_some found
assertion_holds assertion.Missing found = is_none found
assertion_holds (assertion.Query query) None = false
assertion_holds (assertion.Query query) (Some found) = holds query found

-- only an update may fail to fit, and only where it finds a document
abbrev pub change_fits : Change → Option Value → Bool
change_fits change.Nothing found = true
change_fits (change.Insert body) found = true
change_fits (change.Update update) None = true
change_fits (change.Update update) (Some found) = is_some (updated update found)
change_fits change.Remove found = true

abbrev pub changes_fit : List Op → Docs → Bool
changes_fit [] docs = true
changes_fit (op ∷ ops) docs =
    change_fits op.change (get docs op.key) && changes_fit ops (effect_of op docs)

-- Every assertion holds on the documents as they are before, and every change fits as the operations run.
abbrev pub tests : List Op → Docs → Bool
tests ops docs =
    list_all (λ op. assertion_holds op.assert (get docs op.key)) ops && changes_fit ops docs
