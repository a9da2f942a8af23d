-- What has been done stays done, edit by edit.
use Rattle.std.proofs.Common.{◌≡◌, ℤ, ◌<◌, lt_trans, true, Some, List, [], ◌∷◌, inl, inr, sym, ap, ◌∙◌, refl, subst, unsigned_abs, arith}
use Rattle.std.proofs.lemmas.Option.{same_Some}
use Rattle.std.specs.FinMap.{insert}
use Rattle.txn_key.specs.declared.id.TxnId.{TxnId}
use Rattle.txn_key.specs.declared.key.Key.{Key}
use Rattle.txn_record.specs.Revnos.{has_effect, number_after}
use Rattle.txn_record.specs.declared.op.Op.{Op}
use Rattle.txn_record.specs.declared.record.Record.{Record}
use Rattle.txn_record.specs.declared.state.State.TheVariants as state
use Rattle.store_trait.specs.Contents.{Content}
use Rattle.store_trait.specs.declared.cell.Cell.TheVariants as cell
use Rattle.store_trait.specs.declared.name.Name.TheVariants as name
use Rattle.store_laws.specs.Done.{HasCome, HasPassed, AllPassed, StaysDone}
use Rattle.store_laws.specs.View.{View, look, record_at, held_number, epoch_at}
use Rattle.store_laws.proofs.cells.Looks.{record_looks}
use Rattle.store_laws.proofs.views.Moves.{each_record, put_here}
use Rattle.store_laws.proofs.chains.NumberAfter.{after_effect}
use Rattle.store_laws.proofs.views.Shapes.{SameRecords, SameHeld, ChangesRecord}

-- owners that only go forward
abbrev pub ComesOn : View → View → Type 0
ComesOn old new = (key : Key) → HasCome new key (held_number (old.held_at key))

-- What has passed stays so.

pub come_later : (old new : View) → ComesOn old new → (key : Key) (number : ℤ) → HasCome old key number → HasCome new key number
come_later old new forward key number (inl at) = subst (HasCome new key) at (forward key)
come_later old new forward key number (inr less) = by (forward key)
  where
    by : HasCome new key (held_number (old.held_at key)) → HasCome new key number
    by (inl stays) = inr (subst (λ (n : ℤ). unsigned_abs number < unsigned_abs n) (sym stays) less)
    by (inr rises) = inr (lt_trans less rises)

pub passed_later : (old new : View) → ComesOn old new → (op : Op) (revno : ℤ) → HasPassed old op revno → HasPassed new op revno
passed_later old new forward op revno (inl idle) = inl idle
passed_later old new forward op revno (inr come) = inr (come_later old new forward op.key (number_after op.change revno) come)

pub all_passed_later : (old new : View) → ComesOn old new → (ops : List Op) (revnos : List ℤ) → AllPassed old ops revnos → AllPassed new ops revnos
all_passed_later old new forward [] revnos all = tt
all_passed_later old new forward (op ∷ ops) [] all = tt
all_passed_later old new forward (op ∷ ops) (revno ∷ revnos) all = (passed_later old new forward op revno all.0, all_passed_later old new forward ops revnos all.1)

-- an operation with an effect has passed only where its key's owner is past its number
pub passed_above : (view : View) (op : Op) (revno : ℤ) → HasPassed view op revno → has_effect op.change revno ≡ true → unsigned_abs revno < epoch_at view op.key
passed_above view op revno (inl idle) acts = absurd (cc (idle, acts))
passed_above view op revno (inr (inl at)) acts = omega (arith, ap unsigned_abs at, after_effect op.change revno acts)
passed_above view op revno (inr (inr less)) acts = omega (arith, less, after_effect op.change revno acts)

-- Edits.

pub stands_on : {old new : View} → SameHeld old new → ComesOn old new
stands_on same key = inl (ap held_number (same.held key))

-- an applying record is none that is applied
no_close : (old new : View) (id : TxnId) → new.record_at id ≡ old.record_at id → (rec now : Record) → old.record_at id ≡ Some rec → rec.state ≡ state.Applying → new.record_at id ≡ Some now → now.state ≡ state.Applied → ⊥
no_close old new id same rec now there applies after applied =
    let e : rec ≡ now = same_Some rec now (sym there ∙ sym same ∙ after) in
    cc (ap (λ (r : Record). r.state) e, applies, applied)

-- no record changes
pub done_still : {old new : View} → SameRecords old new → ComesOn old new → StaysDone old new
done_still {old = old} {new = new} records forward = record {
  forward = forward;
  closes = λ id rec now revnos there applies numbers after applied. absurd (no_close old new id (records.records id) rec now there applies after applied);
}

pub done_itself : (view : View) → StaysDone view view
done_itself view = done_still (record { records = λ id. refl }) (λ key. inl refl)

pub done_put : (c : Content) (id : TxnId) (rec : Record)
    → ((was : Record) (revnos : List ℤ) → record_at c id ≡ Some was → was.state ≡ state.Applying → was.revnos ≡ Some revnos → rec.state ≡ state.Applied → AllPassed (look c) was.ops revnos)
    → StaysDone (look c) (look (insert c (name.Record id) (cell.Record rec)))
unfolding look
done_put c id rec closes = record { forward = forward; closes = each }
  where
    new : View
    new = look (insert c (name.Record id) (cell.Record rec))

    shape : ChangesRecord (look c) new id rec
    shape = record_looks c id rec

    forward : ComesOn (look c) new
    forward = stands_on shape.held

    each : (i : TxnId) (was now : Record) (revnos : List ℤ) → (look c).record_at i ≡ Some was → was.state ≡ state.Applying → was.revnos ≡ Some revnos → new.record_at i ≡ Some now → now.state ≡ state.Applied → AllPassed new was.ops revnos
    each = each_record shape.puts
        (λ i. (was now : Record) (revnos : List ℤ) → (look c).record_at i ≡ Some was → was.state ≡ state.Applying → was.revnos ≡ Some revnos → new.record_at i ≡ Some now → now.state ≡ state.Applied → AllPassed new was.ops revnos)
        (λ was now revnos there applies numbers after applied.
        let e : rec ≡ now = same_Some rec now (sym (put_here id rec shape.puts) ∙ after) in
        all_passed_later (look c) new forward was.ops revnos (closes was revnos there applies numbers (ap (λ (r : Record). r.state) e ∙ applied)))
        (λ i same was now revnos there applies numbers after applied. absurd (no_close (look c) new i same was now there applies after applied))
