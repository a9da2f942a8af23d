-- No two ready records that wait have a key in common.
use Rattle.std.proofs.Common.{◌≡◌, ◌≢◌, ℕ, true, Option, Some, None, is_some, ⊎_elim, refl, sym, ◌∙◌, ap}
use Rattle.txn_key.proofs.KeyOrder.{id_cmp_total}
use Rattle.txn_key.specs.declared.id.TxnId.{TxnId}
use Rattle.txn_key.specs.declared.id.Token.{Token}
use Rattle.txn_key.specs.declared.key.Key.{Key}
use Rattle.store_laws.specs.View.{View, applying, is_queued, valid_nonce, HasKey}
use Rattle.store_laws.specs.Readiness.{token, In, Before, Ancestor, IsReady}
use Rattle.store_laws.specs.Later.{IsUndecided}
use Rattle.txn_record.proofs.WalkLaws.{one_edge}
use Rattle.store_laws.proofs.views.States.{waiting_is_decided}
use Rattle.store_laws.proofs.views.Views.{waiting_at, valid_nonce_of, unsettled_if_waiting, chosen_if_applying, waiting_if_applying, waiting_if_undecided}
use Rattle.store_laws.proofs.views.Queues.{in_order}
use Rattle.store_laws.proofs.views.Orderly.{IsOrderly}

-- a waiting record's valid token in the owner queue of one of its keys
pub record Queued (view : View) (id : TxnId) (key : Key) : Type 0 where
  pub nonce : ℕ
  pub valid : valid_nonce view id ≡ Some nonce
  pub inside : In (token id nonce) (view.queue_at key)

some_of : {A : Type 0} (o : Option A) → is_some o ≡ true → (x : A) × (o ≡ Some x)
some_of None e = cc
some_of (Some x) e = (x, refl)

pub stands_queued : (view : View) → IsOrderly view → (id : TxnId) (key : Key) → HasKey view id key → is_queued view id ≡ true → Queued view id key
stands_queued view o id key has waits =
    let state = sym (waiting_at view id has.rec has.there) ∙ waits in
    let d = waiting_is_decided has.rec.state state in
    let (nonce, some) = some_of has.rec.nonce (o.drawn id has.rec has.there d) in
    record {
      nonce = nonce;
      valid = valid_nonce_of view id has.rec has.there d ∙ some;
      inside = o.queued id has.rec nonce key has.there state some has.on;
    }

-- the earlier of two in a queue precedes the later
leads_on : {view : View} (key : Key) (t u : TxnId) (one : Queued view t key) (two : Queued view u key) → t ≢ u → Before (token t one.nonce) (token u two.nonce) (view.queue_at key) → Ancestor view t u
leads_on key t u one two apart before = one_edge t u (record {
  nonce = one.nonce;
  valid = one.valid;
  stands = record { key = key; here = record { nonce = two.nonce; valid = two.valid; before = before } };
  differ = apart;
})

-- where one of two ready records that wait is an ancestor of the other, each has the lesser id
circle : {view : View} (t u : TxnId) → is_queued view t ≡ true → is_queued view u ≡ true → t ≢ u → IsReady view t → IsReady view u → Ancestor view t u → ⊥
circle {view = view} t u t_waits u_waits apart t_ready u_ready walk =
    let u_apart : u ≢ t = λ e. apart (sym e) in
    let t_open = unsettled_if_waiting view t t_waits in
    let u_less = u_ready.first.least t walk apart t_open in
    let t_less = t_ready.first.least u (u_ready.first.back t walk apart t_open) u_apart (unsettled_if_waiting view u u_waits) in
    let turned = id_cmp_total.antisymm t u in
    cc (turned, t_less, u_less)

pub never_both : {view : View} → IsOrderly view → (key : Key) (t u : TxnId) → HasKey view t key → HasKey view u key → is_queued view t ≡ true → is_queued view u ≡ true → t ≢ u → IsReady view t → IsReady view u → ⊥
never_both {view = view} o key t u t_has u_has t_waits u_waits apart t_ready u_ready =
    let one = stands_queued view o t key t_has t_waits in
    let two = stands_queued view o u key u_has u_waits in
    let differ : token t one.nonce ≢ token u two.nonce = λ e. apart (ap (λ (x : Token). x.id) e) in
    ⊎_elim
    (λ first. circle t u t_waits u_waits apart t_ready u_ready (leads_on key t u one two apart first))
    (λ second. circle u t u_waits t_waits (λ e. apart (sym e)) u_ready t_ready (leads_on key u t two one (λ e. apart (sym e)) second))
    (in_order (token t one.nonce) (token u two.nonce) (view.queue_at key) one.inside two.inside differ)

-- at most one applying record is on a key
pub one_applying : {view : View} → IsOrderly view → (key : Key) (t u : TxnId) → HasKey view t key → HasKey view u key → applying view t ≡ true → applying view u ≡ true → t ≢ u → ⊥
one_applying {view = view} o key t u t_has u_has t_applies u_applies apart =
    never_both o key t u t_has u_has (waiting_if_applying view t t_applies) (waiting_if_applying view u u_applies) apart (o.ready t t_applies) (o.ready u u_applies)

-- no applying record is on a key of a ready record that is undecided
pub none_applying : {view : View} → IsOrderly view → (key : Key) (t u : TxnId) → HasKey view t key → HasKey view u key → IsUndecided view t → IsReady view t → applying view u ≡ true → ⊥
none_applying {view = view} o key t u t_has u_has undecided ready applies =
    never_both o key t u t_has u_has (waiting_if_undecided view t undecided.prepared undecided.waits) (waiting_if_applying view u applies) apart ready (o.ready u applies)
  where
    apart : t ≢ u
    apart e = cc (undecided.waits, chosen_if_applying view u applies, e)
