-- Going forward is an order on contents.
use Rattle.std.proofs.Common.{◌≡◌, le_trans, arith, true, inl, inr, ⊎_elim, refl, ◌∙◌}
use Rattle.txn_key.specs.declared.id.TxnId.{TxnId}
use Rattle.store_laws.specs.View.{View, settled, was_decided, applying}
use Rattle.store_laws.specs.Readiness.{IsReady, Sealed}
use Rattle.store_laws.specs.Later.{NothingNewBefore, IsUndecided, IsLater}
use Rattle.store_laws.proofs.views.Views.{decided_if_chosen, chosen_if_settled, chosen_if_applying, waiting_if_applying, unsettled_if_waiting, false_back}
use Rattle.store_laws.proofs.views.Orderly.{IsOrderly}
use Rattle.store_laws.proofs.views.Carries.{carry_sealed, carry_spent, carry_ready}

pub back_itself : (view : View) → NothingNewBefore view view
back_itself view = record {
  decides = λ id e. e;
  chooses = λ id e. e;
  settles = λ id e. e;
  keys = λ id key h. h;
  nonces = λ id e. refl;
  stands = λ key x id e h. h;
}

pub later_itself : (view : View) → IsLater view view
later_itself view = record {
  back = back_itself view;
  counter = omega arith;
  stays = λ key x id h. inl h;
  held = λ id key before ready after h. refl;
}

pub back_then : {a b c : View} → NothingNewBefore a b → NothingNewBefore b c → NothingNewBefore a c
back_then one two = record {
  decides = λ id e. two.decides id (one.decides id e);
  chooses = λ id e. two.chooses id (one.chooses id e);
  settles = λ id e. two.settles id (one.settles id e);
  keys = λ id key h. two.keys id key (one.keys id key h);
  nonces = λ id e. two.nonces id (one.decides id e) ∙ one.nonces id e;
  stands = λ key x id e h. one.stands key x id e (two.stands key x id (one.decides id e) h);
}

-- a record that is undecided later on was undecided in between
between : {a b c : View} → NothingNewBefore a b → NothingNewBefore b c → (id : TxnId) → IsUndecided a id → IsUndecided c id → IsUndecided b id
between {b = b} {c = c} one two id before after = record { prepared = one.decides id before.prepared; waits = false_back (was_decided b id) (was_decided c id) (two.chooses id) after.waits }

pub later_then : {a b c : View} → IsOrderly b → IsLater a b → IsLater b c → IsLater a c
later_then {a = a} {b = b} {c = c} o one two = record {
  back = back_then one.back two.back;
  counter = le_trans one.counter two.counter;
  stays = λ key x id h. ⊎_elim (two.stays key x id) (λ spent. inr (carry_spent two.back o x spent)) (one.stays key x id h);
  held = λ id key before ready after h.
      let mid = between one.back two.back id before after in
      two.held id key mid (carry_ready one id before.prepared (false_back (settled b id) (was_decided b id) (chosen_if_settled b id) mid.waits) ready) after (one.back.keys id key h) ∙ one.held id key before ready mid h;
}

-- an applying record stays ready, and a decided one sealed

pub ready_still : {old new : View} → IsOrderly old → IsLater old new → (id : TxnId) → applying old id ≡ true → applying new id ≡ true → IsReady new id
ready_still {old = old} {new = new} o later id was is =
    carry_ready later id (decided_if_chosen old id (chosen_if_applying old id was)) (unsettled_if_waiting new id (waiting_if_applying new id is)) (o.ready id was)

pub sealed_still : {old new : View} → IsOrderly old → IsLater old new → (id : TxnId) → was_decided old id ≡ true → Sealed new id
sealed_still {old = old} o later id was = carry_sealed later.back id (decided_if_chosen old id was) (o.sealed id was)
