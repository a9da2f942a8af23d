-- Operations without those on a key that leave its document as it is.
use Rattle.std.proofs.Common.{◌≡◌, ◌≢◌, Bool, true, ◌&&◌, Some, List, [], ◌∷◌, ◌++◌, inl, inr, sym, ap, ◌∙◌, refl, if◌then◌else◌}
use Rattle.std.specs.FinMap.{get}
use Rattle.std.proofs.lemmas.Bool.{and_parts}
use Rattle.doc_value.specs.declared.value.Value.{Value}
use Rattle.txn_key.specs.Documents.{Docs}
use Rattle.txn_key.specs.declared.key.Key.{Key}
use Rattle.txn_record.proofs.EffectLaws.{get-effect_of_other}
use Rattle.txn_record.specs.Effects.{body_after, change_fits, changes_fit, effect_of}
use Rattle.txn_record.specs.declared.op.Change.{Change}
use Rattle.txn_record.specs.declared.op.Op.{Op}
use Rattle.store_laws.specs.View.{IsOn}
use Rattle.store_laws.proofs.views.Equals.{by_key}
use Rattle.store_laws.proofs.meanings.Fitting.{changes_fit-agree, at_one}
use Rattle.store_laws.proofs.meanings.Runs.{run_on, same_key-apart}

-- a change leaves a document that is there, and fits it
pub record LeavesDoc (ch : Change) : Type 0 where
  pub body : (found : Value) → body_after ch (Some found) ≡ Some found
  pub fits : (found : Value) → change_fits ch (Some found) ≡ true

-- all operations on the key are left out, and each of them leaves its document
pub data Thinned (key : Key) : List Op → List Op → Type 0 where
  End : Thinned key [] []
  Keep : (op : Op) (all kept : List Op) → op.key ≢ key → Thinned key all kept → Thinned key (op ∷ all) (op ∷ kept)
  Drop : (op : Op) (all kept : List Op) → op.key ≡ key → LeavesDoc op.change → Thinned key all kept → Thinned key (op ∷ all) kept

pub thinned_away : (key : Key) (all kept : List Op) → Thinned key all kept → IsOn key kept → ⊥
thinned_away key _ _ Thinned.End on = on
thinned_away key _ _ (Thinned.Keep op all kept apart t) (inl on) = apart on
thinned_away key _ _ (Thinned.Keep op all kept apart t) (inr on) = thinned_away key all kept t on
thinned_away key _ _ (Thinned.Drop op all kept here leaves t) on = thinned_away key all kept t on

pub thinned_run : (key : Key) (all kept : List Op) (found : Value) → Thinned key all kept → run_on key all (Some found) ≡ Some found
thinned_run key _ _ found Thinned.End = refl
thinned_run key _ _ found (Thinned.Keep op all kept apart t) =
    ap (λ (b : Bool). run_on key all (if b then body_after op.change (Some found) else Some found)) (same_key-apart key op.key (λ e. apart (sym e))) ∙ thinned_run key all kept found t
thinned_run key _ _ found (Thinned.Drop op all kept here leaves t) =
    ap (run_on key all) (by_key key op.key (λ b. (if b then body_after op.change (Some found) else Some found) ≡ Some found) (λ e. leaves.body found) (λ e. refl)) ∙ thinned_run key all kept found t

-- changes that fit still do without them
pub thinned_fits : (key : Key) (all kept rest : List Op) (docs : Docs) (found : Value) → Thinned key all kept → get docs key ≡ Some found → changes_fit (all ++ rest) docs ≡ true → changes_fit (kept ++ rest) docs ≡ true
thinned_fits key _ _ rest docs found Thinned.End there fit = fit
thinned_fits key _ _ rest docs found (Thinned.Keep op all kept apart t) there fit =
    let parts = and_parts (change_fits op.change (get docs op.key)) (changes_fit (all ++ rest) (effect_of op docs)) fit in
    let later = thinned_fits key all kept rest (effect_of op docs) found t (get-effect_of_other op docs key (λ e. apart (sym e)) ∙ there) parts.1 in
    λ i. parts.0 i && later i
thinned_fits key _ _ rest docs found (Thinned.Drop op all kept here leaves t) there fit =
    thinned_fits key all kept rest docs found t there
    (changes_fit-agree (all ++ rest) docs (effect_of op docs) (λ k on. sym (same k)) ∙ (and_parts (change_fits op.change (get docs op.key)) (changes_fit (all ++ rest) (effect_of op docs)) fit).1)
  where
    same : (k : Key) → get (effect_of op docs) k ≡ get docs k
    same k =
        at_one k op docs
        ∙ by_key k op.key (λ b. (if b then body_after op.change (get docs k) else get docs k) ≡ get docs k)
        (λ e. ap (body_after op.change) (at k e) ∙ leaves.body found ∙ sym (at k e))
        (λ e. refl)
      where
        at : (k : Key) → k ≡ op.key → get docs k ≡ Some found
        at k e = ap (get docs) (e ∙ here) ∙ there
