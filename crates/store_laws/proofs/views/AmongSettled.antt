-- A prepared record among settled ones is ready.
use Rattle.std.proofs.Common.{◌≡◌, ◌≢◌, true, false, List, [], ◌∷◌, ◌⊎◌, inl, inr, ⊎_elim, sym, ap, ◌∙◌, refl, subst, true≢false}
use Rattle.txn_key.specs.declared.id.TxnId.{TxnId}
use Rattle.txn_key.specs.declared.id.Token.{Token}
use Rattle.txn_key.specs.declared.key.Key.{Key}
use Rattle.txn_record.specs.Walks.{Leads}
use Rattle.store_laws.specs.View.{View, was_prepared, settled}
use Rattle.store_laws.specs.Readiness.{token, In, Before, Precedes, Ancestor, IsReady}
use Rattle.store_laws.specs.Later.{NothingNewBefore}
use Rattle.store_laws.specs.Alone.{IsAlone, IsAtRest}
use Rattle.store_laws.proofs.views.Shapes.{SameQueues}
use Rattle.store_laws.proofs.views.Equals.{same_id_or_not}
use Rattle.store_laws.proofs.views.Views.{decided_if_chosen, chosen_if_settled}

-- what stands before something stands in the queue
first_in : (x y : Token) (queue : List Token) → Before x y queue → In x queue
first_in x y [] h = absurd h
first_in x y (z ∷ queue) (inl h) = inl h.0
first_in x y (z ∷ queue) (inr h) = inr (first_in x y queue h)

module _ {view : View} {id : TxnId} (alone : IsAlone view id) where
  settled_before : (u t : TxnId) → Precedes view u t → u ≢ id → settled view u ≡ true
  settled_before u t edge apart =
      let x = token u edge.nonce in
      alone.others edge.stands.key x (first_in x _ _ edge.stands.here.before) apart

  -- an ancestor is the record itself or settled
  settled_ancestor : (a t : TxnId) → Ancestor view a t → (t ≡ id) ⊎ (settled view t ≡ true) → (a ≡ id) ⊎ (settled view a ≡ true)
  settled_ancestor _ _ (Leads.Here t) h = h
  settled_ancestor _ _ (Leads.Then a u t walk edge) h = settled_ancestor a u walk (⊎_elim (λ e. inl e) (λ apart. inr (settled_before u t edge apart)) (same_id_or_not u id))

  pub alone_ready : was_prepared view id ≡ true → IsReady view id
  alone_ready d = record {
    sealed = λ a x walk stands. ⊎_elim (λ e. ap (was_prepared view) e ∙ d) (λ apart. decided_if_chosen view x.id (chosen_if_settled view x.id (alone.others stands.key x (first_in x _ _ stands.here.before) apart))) (same_id_or_not x.id id);
    first = record {
      back = λ a walk apart unsettled. absurd (never a walk apart unsettled);
      least = λ a walk apart unsettled. absurd (never a walk apart unsettled);
    };
  }
    where
      never : (a : TxnId) → Ancestor view a id → a ≢ id → settled view a ≡ false → ⊥
      never a walk apart unsettled = ⊎_elim apart (λ s. true≢false (sym s ∙ unsettled)) (settled_ancestor a id walk (inl refl))

pub rest_alone : {view : View} (id : TxnId) → IsAtRest view → IsAlone view id
rest_alone id rest = record { others = λ key x inside apart. rest.all key x inside }

-- where all settled, the runner's own record too, all is at rest
pub alone_rest : {view : View} (id : TxnId) → IsAlone view id → settled view id ≡ true → IsAtRest view
alone_rest {view = view} id alone s = record { all = λ key x inside. ⊎_elim (λ e. ap (settled view) e ∙ s) (alone.others key x inside) (same_id_or_not x.id id) }

-- what the edits keep

pub rest_same : {old new : View} → NothingNewBefore old new → SameQueues old new → IsAtRest old → IsAtRest new
rest_same back queues rest = record { all = λ key x inside. back.settles x.id (rest.all key x (subst (In x) (queues.queues key) inside)) }

pub alone_same : {old new : View} (id : TxnId) → NothingNewBefore old new → SameQueues old new → IsAlone old id → IsAlone new id
alone_same id back queues alone = record { others = λ key x inside apart. back.settles x.id (alone.others key x (subst (In x) (queues.queues key) inside) apart) }

pub alone_comes : {old new : View} (z : Token) → NothingNewBefore old new → ((key : Key) (x : Token) → In x (new.queue_at key) → In x (old.queue_at key) ⊎ (z ≡ x)) → IsAlone old z.id → IsAlone new z.id
alone_comes z back comes alone = record {
  others = λ key x inside apart. back.settles x.id (⊎_elim (λ was. alone.others key x was apart) (λ e. absurd (apart (ap (λ (y : Token). y.id) (sym e)))) (comes key x inside));
}
