-- What the submission of a transaction leaves.
use Rattle.std.proofs.Common.{◌≡◌, Bool, true, Option, Some, None, is_some, Result, Ok, Err, OnOk, OnErr, IfOk, ◌⊎◌, inl, inr, refl, sym, ap, ◌∙◌, subst}
use Rattle.std.specs.FinMap.{get}
use Rattle.std.specs.Option.{option_and_then}
use Rattle.txn_key.specs.declared.id.TxnId.{TxnId}
use Rattle.txn_record.specs.declared.record.Record.{Record}
use Rattle.store_trait.specs.Cells.{as_record}
use Rattle.store_trait.specs.Contents.{Content}
use Rattle.store_trait.specs.Edits.{hit, edited}
use Rattle.store_laws.specs.Soundness.{IsSound}
use Rattle.store_laws.specs.Steps.{IsQuiet}
use Rattle.store_laws.specs.View.{record_at}
use Rattle.store_trait.specs.declared.cell.Cell.{Cell}
use Rattle.store_trait.specs.declared.cell.Cell.TheVariants as cell
use Rattle.store_trait.specs.declared.edit.Edit.TheVariants as edit
use Rattle.store_trait.specs.declared.name.Name.TheVariants as name
use Rattle.store_laws.proofs.cells.AfterEdits.{record_edit_queues}
use Rattle.store_laws.proofs.views.AmongSettled.{rest_same}
use Rattle.store_laws.proofs.cells.Hits.{insert_hit, insert_must}
use Rattle.store_laws.proofs.steps.PlainEdits.{plain_record}
use Rattle.store_laws.proofs.steps.RecordEdits.{insert_quiet}
use Rattle.txn_runner.specs.Calm.{IsCalm}
use Rattle.txn_runner.specs.Settling.{IsSubmitted, preparing_record}
use Rattle.txn_runner.specs.declared.waiting.Waiting.{Waiting}

-- a record that isn't there
nobody : (c : Content) → IsSound c → (id : TxnId) → record_at c id ≡ None → get c (name.Record id) ≡ None
unfolding record_at
nobody c s id none = by (get c (name.Record id)) refl
  where
    some_none : (r : Record) → option_and_then as_record (get c (name.Record id)) ≡ Some r → ⊥
    some_none r e = cc

    by : (found : Option Cell) → get c (name.Record id) ≡ found → get c (name.Record id) ≡ None
    by None e = e
    by (Some (cell.Record rec)) e = absurd (some_none rec (ap (option_and_then as_record) e))
    by (Some (cell.Doc doc)) e = absurd (cc (s.kinds (name.Record id) (cell.Doc doc) e))
    by (Some (cell.Stash stash)) e = absurd (cc (s.kinds (name.Record id) (cell.Stash stash) e))
    by (Some (cell.Nonce number)) e = absurd (cc (s.kinds (name.Record id) (cell.Nonce number) e))

module _ (c : Content) (calm : IsCalm c) (txn : Waiting) where
  pub submit_quietly : IsQuiet c (edited c (name.Record txn.id) (edit.InsertRecord (preparing_record txn)))
  submit_quietly = insert_quiet c txn.id (preparing_record txn) calm.sound refl refl

  pub submit_calm : IsCalm (edited c (name.Record txn.id) (edit.InsertRecord (preparing_record txn)))
  submit_calm =
      let e = edit.InsertRecord (preparing_record txn) in
      record {
        sound = submit_quietly.step.sound;
        plain = plain_record c txn.id e calm.plain;
        rests = rest_same submit_quietly.step.later.back (record_edit_queues c txn.id e) calm.rests;
      }

  pub submit_hits : record_at c txn.id ≡ None → is_some (hit (edit.InsertRecord (preparing_record txn)) (name.Record txn.id) (get c (name.Record txn.id))) ≡ true
  submit_hits fresh = insert_must c txn.id (preparing_record txn) (nobody c calm.sound txn.id fresh) refl

  pub submit_stands : record_at c txn.id ≡ None → IsSubmitted (edited c (name.Record txn.id) (edit.InsertRecord (preparing_record txn))) txn
  submit_stands fresh = (insert_hit c txn.id (preparing_record txn) (submit_hits fresh)).now

-- the edit was made, or the store was left as it was
pub made_or_left : {T E : Type 0} (r : Result T E) (x d y : Content) → OnOk r (x ≡ d) → OnErr r (x ≡ y) → (x ≡ d) ⊎ (x ≡ y)
made_or_left (Ok t) x d y made left = inl made
made_or_left (Err e) x d y made left = inr left

pub made_stands : {E : Type 0} (r : Result Bool E) (txn : Waiting) (x d : Content) (hits : Bool) → IfOk r (λ t. t ≡ hits) → hits ≡ true → OnOk r (x ≡ d) → IsSubmitted d txn → IfOk r (λ t. (t ≡ true) × IsSubmitted x txn)
made_stands (Err e) txn x d hits told hit made stands = tt
made_stands (Ok t) txn x d hits told hit made stands = (told ∙ hit, subst (λ (c : Content). IsSubmitted c txn) (sym made) stands)
