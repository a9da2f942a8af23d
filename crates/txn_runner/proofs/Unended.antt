-- A transaction that is on its way hasn't come to its end.
use Rattle.std.proofs.Common.{◌≡◌, ◌<◌, false, Some, refl, ap, ◌∙◌, arith}
use Rattle.txn_key.specs.declared.id.TxnId.{TxnId}
use Rattle.txn_record.specs.declared.record.Record.{Record}
use Rattle.store_trait.specs.Contents.{Content}
use Rattle.store_trait.specs.Edits.{edited}
use Rattle.store_laws.specs.View.{record_at}
use Rattle.store_trait.specs.declared.edit.Edit.TheVariants as edit
use Rattle.store_trait.specs.declared.name.Name.TheVariants as name
use Rattle.store_laws.proofs.cells.AfterEdits.{record_elsewhere}
use Rattle.txn_runner.specs.Settling.{IsWorth, is_end, is_ended, has_ended}
use Rattle.txn_runner.specs.Stages.{steps_left}
use Rattle.txn_runner.specs.declared.stage.Stage.{Stage}
use Rattle.txn_runner.specs.declared.stage.Stage.TheVariants as stage
use Rattle.txn_runner.specs.declared.waiting.Waiting.{Waiting}

-- the content is the same, and so is the record
pub same_record : (c d : Content) (id : TxnId) → d ≡ c → record_at d id ≡ record_at c id
same_record c d id same = ap (λ (x : Content). record_at x id) same

-- a draw touches no record
pub drawn_record : (c d : Content) (id : TxnId) → d ≡ edited c name.Nonce edit.DrawNonce → record_at d id ≡ record_at c id
drawn_record c d id made = ap (λ (x : Content). record_at x id) made ∙ record_elsewhere c name.Nonce edit.DrawNonce id (λ h. cc h)

unended_as : (c : Content) (id : TxnId) (rec : Record) → record_at c id ≡ Some rec → is_end rec.state ≡ false → has_ended c id ≡ false
unended_as c id rec there going = ap is_ended there ∙ going

pub unended_at : (c : Content) (txn : Waiting) (at : Stage) → 0 < steps_left at → IsWorth c txn at → has_ended c txn.id ≡ false
unended_at c txn stage.Draw left w = unended_as c txn.id _ w.stage refl
unended_at c txn (stage.Queue nonce) left w = unended_as c txn.id _ w.stage.0 refl
unended_at c txn (stage.Prepare nonce) left w = unended_as c txn.id _ w.stage.0 refl
unended_at c txn (stage.Look nonce) left w = unended_as c txn.id _ w.stage refl
unended_at c txn (stage.Decide nonce revno holds) left w = unended_as c txn.id _ w.stage.0 refl
unended_at c txn (stage.Update nonce revno) left w = unended_as c txn.id _ w.stage refl
unended_at c txn stage.Finish left w = unended_as c txn.id _ w.stage.there refl
unended_at c txn stage.Abort left w = unended_as c txn.id _ w.stage.there refl
unended_at c txn (stage.Settled outcome) left w = absurd (omega (arith, left))

-- nor has it where its record stayed as it was
pub unended_still : (c d : Content) (txn : Waiting) (at : Stage) → 0 < steps_left at → IsWorth c txn at → record_at d txn.id ≡ record_at c txn.id → has_ended d txn.id ≡ false
unended_still c d txn at left w same = ap is_ended same ∙ unended_at c txn at left w
