-- Steps follow one another.
use Rattle.std.proofs.Common.{◌≡◌, true, List, ◌⊎◌, inl, inr, ⊎_elim, refl, subst}
use Rattle.txn_record.specs.declared.op.Op.{Op}
use Rattle.txn_record.specs.declared.state.State.{State}
use Rattle.txn_record.specs.declared.state.State.TheVariants as state
use Rattle.store_trait.specs.Contents.{Content}
use Rattle.store_laws.specs.Done.{StaysDone, AllPassed}
use Rattle.store_laws.specs.Later.{may_follow, NothingLost}
use Rattle.store_laws.specs.Steps.{IsStep}
use Rattle.store_laws.specs.View.{View, held_number}
use Rattle.store_laws.proofs.chains.Done.{come_later, all_passed_later}
use Rattle.store_laws.proofs.cells.Entries.{cells_then}
use Rattle.store_laws.proofs.views.Later.{later_then}
use Rattle.store_laws.proofs.views.Lost.{lost_then}
use Rattle.store_laws.proofs.views.Orderly.{orderly}

pub applying_goes : (s : State) → may_follow state.Applying s ≡ true → (s ≡ state.Applying) ⊎ (s ≡ state.Applied)
applying_goes state.Applying e = inl refl
applying_goes state.Applied e = inr refl
applying_goes _ e = cc

done_then : {a b c : View} → NothingLost a b → StaysDone a b → StaysDone b c → StaysDone a c
done_then {a = a} {b = b} {c = c} lost one two = record {
  forward = λ key. come_later b c two.forward key (held_number (a.held_at key)) (one.forward key);
  closes = λ id rec now revnos there applies numbers after applied.
      let mid = lost.records id rec there in
      ⊎_elim
      (λ still. subst (λ (ops : List Op). AllPassed c ops revnos) mid.goes.ops (two.closes id mid.now now revnos mid.there still (mid.goes.revnos revnos numbers) after applied))
      (λ closed. all_passed_later b c two.forward rec.ops revnos (one.closes id rec mid.now revnos there applies numbers mid.there closed))
      (applying_goes mid.now.state (subst (λ (s : State). may_follow s mid.now.state ≡ true) applies mid.goes.state));
}

pub step_then : {a b c : Content} → IsStep a b → IsStep b c → IsStep a c
step_then {b = b} one two = record {
  sound = two.sound;
  later = later_then (orderly b one.sound) one.later two.later;
  lost = lost_then (orderly b one.sound) two.later.back one.lost two.lost;
  done = done_then one.lost one.done two.done;
  cells = cells_then one.sound one.cells two.cells;
}
