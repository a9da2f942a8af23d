-- What an operation leaves at its key and at the others.
use Rattle.std.proofs.Common.{◌≡◌, ◌≢◌, Bool, true, false, ◌&&◌, [], ◌∷◌, refl}
use Rattle.std.specs.FinMap.{get}
use Rattle.txn_key.proofs.DocumentLaws.{get-with_body_here, get-with_body_other}
use Rattle.txn_key.specs.Documents.{Docs}
use Rattle.txn_key.specs.declared.key.Key.{Key}
use Rattle.txn_record.specs.Effects.{effect_of, body_after, assertion_holds, change_fits, tests}
use Rattle.txn_record.specs.declared.op.Op.{Op}

pub get-effect_of_here : (op : Op) (docs : Docs) → get (effect_of op docs) op.key ≡ body_after op.change (get docs op.key)
get-effect_of_here op docs = get-with_body_here op.key (body_after op.change (get docs op.key)) docs

pub get-effect_of_other : (op : Op) (docs : Docs) (key : Key) → key ≢ op.key → get (effect_of op docs) key ≡ get docs key
get-effect_of_other op docs key apart = get-with_body_other op.key (body_after op.change (get docs op.key)) docs key apart

and_true : (a b : Bool) → ((a && true) && (b && true)) ≡ (a && b)
and_true true true = refl
and_true true false = refl
and_true false b = refl

pub tests-alone : (op : Op) (docs : Docs) → tests (op ∷ []) docs ≡ (assertion_holds op.assert (get docs op.key) && change_fits op.change (get docs op.key))
tests-alone op docs = and_true (assertion_holds op.assert (get docs op.key)) (change_fits op.change (get docs op.key))
