-- What is held at a key changes, or only the counter.
use Rattle.std.proofs.Common.{◌≡◌, true, [], ⊎_elim, subst, arith}
use Rattle.txn_key.specs.declared.id.TxnId.{TxnId}
use Rattle.txn_key.specs.declared.key.Key.{Key}
use Rattle.store_laws.specs.View.{View, applying, HasKey}
use Rattle.store_laws.specs.Readiness.{In, IsReady}
use Rattle.store_laws.specs.Later.{IsUndecided, IsLater}
use Rattle.store_laws.proofs.views.Shapes.{Counts, ChangesHeld}
use Rattle.store_laws.proofs.views.Views.{waiting_if_undecided}
use Rattle.store_laws.proofs.views.Orderly.{IsOrderly}
use Rattle.store_laws.proofs.views.Exclusive.{stands_queued, none_applying}
use Rattle.store_laws.proofs.views.Changes.{IsOrderlyStep, same_goes, later_by_records, same_later, same_orderly}
use Rattle.store_laws.proofs.views.Equals.{same_key_or_not}

pub count_step : {old new : View} → IsOrderly old → Counts old new → IsOrderlyStep old new
count_step {old = old} {new = new} o change = record { later = later; orderly = same_orderly o later change.records change.queues }
  where
    later : IsLater old new
    later = same_later change.records change.queues change.held change.counter

-- what is held changes where no ready undecided record has the key
held_step : {old new : View} (key : Key) → IsOrderly old → ChangesHeld old new key → ((id : TxnId) → IsUndecided old id → IsReady old id → HasKey old id key → ⊥) → IsOrderlyStep old new
held_step {old = old} {new = new} key o change free = record { later = later; orderly = same_orderly o later change.records change.queues }
  where
    later : IsLater old new
    later = later_by_records (λ id. same_goes old new id (change.records.records id)) change.queues (omega (arith, change.counter))
        (λ id k before ready after has. ⊎_elim (λ e. absurd (free id before ready (subst (HasKey old id) e has))) (change.held.held k) (same_key_or_not k key))

-- An applying record writes at one of its keys.
pub write_step : {old new : View} (key : Key) (id : TxnId) → IsOrderly old → ChangesHeld old new key → applying old id ≡ true → HasKey old id key → IsOrderlyStep old new
write_step key id o change applies has = held_step key o change (λ t undecided ready t_has. none_applying o key t id t_has has undecided ready applies)

-- A document is placed where no token waits.
pub place_step : {old new : View} (key : Key) → IsOrderly old → ChangesHeld old new key → old.queue_at key ≡ [] → IsOrderlyStep old new
place_step {old = old} key o change empty = held_step key o change (λ t undecided ready has.
    let queued = stands_queued old o t key has (waiting_if_undecided old t undecided.prepared undecided.waits) in
    subst (In _) empty queued.inside)
