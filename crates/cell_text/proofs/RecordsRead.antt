-- A record of which some parts were read so far.
use Rattle.std.proofs.Common.{◌≡◌, ℕ, ℤ, codes, List, Option, Some, None, Result, Ok, Err, sym, ap, ◌∙◌}
use Rattle.doc_value.specs.declared.value.Value.{Value}
use Rattle.txn_key.specs.Ids.{id_of}
use Rattle.txn_key.specs.declared.id.TxnId.{TxnId}
use Rattle.txn_record.specs.declared.op.Op.{Op}
use Rattle.txn_record.specs.declared.record.Record.{Record}
use Rattle.txn_record.specs.declared.state.State.{State}
use Rattle.cell_text.specs.Fields.{part}
use Rattle.cell_text.specs.Parts.{text_in, needed, state_in, ops_there, nonce_in, revnos_in, info_in}
use Rattle.cell_text.specs.Syntax.{or_bad, record_of, record_with}
use Rattle.cell_text.specs.declared.fault.CellFault.{CellFault}

-- a part that was read from the field of its name
pub there : {A : Type 0} (found field : Option Value) (read : Option Value → Option A) (x : A) → found ≡ field → Ok x ≡ or_bad (read found) → read field ≡ Some x
there {A = A} found field read x is answer = ap read (sym is) ∙ by (read found) answer
  where
    by : (o : Option A) → Ok x ≡ or_bad o → o ≡ Some x
    by (Some y) e = cc e
    by None e = cc e

pub record_from : (value : Value) (id : Option TxnId) (info : Option (Option Value)) (nonce : Option (Option ℕ)) (ops : Option (List Op)) (revnos : Option (Option (List ℤ))) (state : Option State)
    → needed (text_in id_of) (part (codes "_id") value) ≡ id → info_in (part (codes "i") value) ≡ info → nonce_in (part (codes "n") value) ≡ nonce
    → ops_there (part (codes "o") value) ≡ ops → revnos_in (part (codes "r") value) ≡ revnos → needed state_in (part (codes "s") value) ≡ state
    → record_of value ≡ record_with id info nonce ops revnos state
unfolding record_of
record_from value id info nonce ops revnos state a b c d e f = λ j. record_with (a j) (b j) (c j) (d j) (e j) (f j)
