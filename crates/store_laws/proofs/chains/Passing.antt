-- What has passed: other steps keep it.
use Rattle.std.proofs.Common.{◌≡◌, ℤ, true, Some, List, [], ◌∷◌, ◌⊎◌, inl, inr, ⊎_elim, sym, ◌∙◌, subst}
use Rattle.std.proofs.lemmas.Option.{same_Some}
use Rattle.txn_key.specs.declared.id.TxnId.{TxnId}
use Rattle.txn_record.specs.declared.op.Op.{Op}
use Rattle.txn_record.specs.declared.record.Record.{Record}
use Rattle.txn_record.specs.declared.state.State.TheVariants as state
use Rattle.store_trait.specs.Contents.{Content}
use Rattle.store_laws.specs.Done.{HasPassed, AllPassed}
use Rattle.store_laws.specs.Later.{may_follow}
use Rattle.store_laws.specs.Steps.{IsStep}
use Rattle.store_laws.specs.View.{View, look, record_at}
use Rattle.store_laws.proofs.steps.Chained.{applying_goes}
use Rattle.store_laws.proofs.chains.Done.{all_passed_later}

pub all_passed_on : (c d : Content) → IsStep c d → (ops : List Op) (revnos : List ℤ) → AllPassed (look c) ops revnos → AllPassed (look d) ops revnos
all_passed_on c d step = all_passed_later (look c) (look d) step.done.forward

-- an applying record stays so with its numbers, or all that it had to do has passed
pub applying_on : (c d : Content) → IsStep c d → (id : TxnId) (rec now : Record) (revnos : List ℤ) → record_at c id ≡ Some rec → rec.state ≡ state.Applying → rec.revnos ≡ Some revnos → record_at d id ≡ Some now
    → (now.state ≡ state.Applying) ⊎ AllPassed (look d) rec.ops revnos
unfolding look
applying_on c d step id rec now revnos there applies numbers after =
    let still = step.lost.records id rec there in
    let same : still.now ≡ now = same_Some still.now now (sym still.there ∙ after) in
    let follows : may_follow state.Applying now.state ≡ true = sym (λ i. may_follow (applies i) (same i).state) ∙ still.goes.state in
    ⊎_elim (λ e. inl e) (λ e. inr (step.done.closes id rec now revnos there applies numbers after e)) (applying_goes now.state follows)

-- a transaction of one operation has passed with it
pub one_passed : (view : View) (ops : List Op) (op : Op) (revno : ℤ) → ops ≡ op ∷ [] → HasPassed view op revno → AllPassed view ops (revno ∷ [])
one_passed view ops op revno one passed = subst (λ (l : List Op). AllPassed view l (revno ∷ [])) (sym one) (passed, tt)
