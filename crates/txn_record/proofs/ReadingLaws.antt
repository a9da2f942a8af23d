-- What reading gives.
use Rattle.std.proofs.Common.{◌≡◌, ℕ, suc, ◌+◌, List, [], ◌∷◌, ◌++◌, Result, Ok, Err, refl, ap, sym, ◌∙◌, ◌<◌, length, drop, get_or, arith, append_assoc}
use Rattle.std.proofs.lemmas.List.{at_drop_more}
use Rattle.doc_value.specs.declared.value.Value.{Value}
use Rattle.txn_record.specs.Syntax.{op_in, numbered, before, ops_from}
use Rattle.txn_record.specs.declared.fault.OpsFault.{OpsFault}
use Rattle.txn_record.specs.declared.op.Op.{Op}

-- these operations, and what is read after them
abbrev pub after_those : List Op → Result (List Op) OpsFault → Result (List Op) OpsFault
after_those ops (Ok rest) = Ok (ops ++ rest)
after_those ops (Err fault) = Err fault

pub after_none : (read : Result (List Op) OpsFault) → after_those [] read ≡ read
after_none (Ok rest) = refl
after_none (Err fault) = refl

after_push : (ops : List Op) (op : Op) (read : Result (List Op) OpsFault) → after_those (ops ++ op ∷ []) read ≡ after_those ops (before (Ok op) read)
after_push ops op (Ok rest) = ap Ok (append_assoc ops (op ∷ []) rest)
after_push ops op (Err fault) = refl

-- one more value read
pub after_next : (values : List Value) (i : ℕ) (ops : List Op) (number : ℕ) (value : Value) (op : Op) → i < length values → value ≡ get_or values i value → Ok op ≡ numbered number (op_in value)
    → after_those (ops ++ op ∷ []) (ops_from (number + 1) (drop (i + 1) values)) ≡ after_those ops (ops_from number (drop i values))
after_next values i ops number value op within here is =
    let run = λ (rest : List Value). after_those ops (ops_from number rest) in
    ap (λ (n : ℕ). after_those (ops ++ op ∷ []) (ops_from n (drop (i + 1) values))) (omega arith)
    ∙ after_push ops op (ops_from (suc number) (drop (i + 1) values))
    ∙ ap (λ (r : Result Op OpsFault). after_those ops (before r (ops_from (suc number) (drop (i + 1) values)))) is
    ∙ sym (at_drop_more run values i value within ∙ ap (λ (one : Value). run (one ∷ drop (i + 1) values)) (sym here))
