-- The records of a batch have its operations.
use Rattle.std.proofs.Common.{◌≡◌, ◌∙◌, true, List, [], ◌∷◌, Option, Some, None, is_some, refl, ap, inl, inr}
use Rattle.txn_record.specs.declared.entry.Entry.{Entry}
use Rattle.txn_record.specs.declared.record.Record.{Record}
use Rattle.store_trait.specs.Contents.{Content}
use Rattle.store_laws.specs.Steps.{IsStep}
use Rattle.store_laws.specs.View.{look, record_at}
use Rattle.txn_runner.specs.Settling.{IsSubmitted, preparing_record}
use Rattle.txn_runner.specs.declared.waiting.Waiting.{Waiting}
use Rattle.txn_play.specs.Batches.{Every, HasOwnOperations, LeavesRecords, are_recorded}

pub own_none : (c : Content) (txn : Waiting) → record_at c txn.id ≡ None → HasOwnOperations c txn
own_none c txn none rec there = absurd (both_ways (record_at c txn.id) there none)
  where
    both_ways : (o : Option Record) → o ≡ Some rec → o ≡ None → ⊥
    both_ways o p q = cc

own_some : (c : Content) (txn : Waiting) (rec : Record) → record_at c txn.id ≡ Some rec → rec.ops ≡ txn.ops → rec.info ≡ txn.info → HasOwnOperations c txn
own_some c txn rec there ops info other found =
    let same = only_one (record_at c txn.id) there found in
    (ap (λ (r : Record). r.ops) same ∙ ops, ap (λ (r : Record). r.info) same ∙ info)
  where
    only_one : (o : Option Record) → o ≡ Some rec → o ≡ Some other → other ≡ rec
    only_one o p q = cc

pub own_submitted : (c : Content) (txn : Waiting) → IsSubmitted c txn → HasOwnOperations c txn
own_submitted c txn there = own_some c txn (preparing_record txn) there refl refl

-- what was submitted is there after any calls, with its operations
stands_later : (c d : Content) (txn : Waiting) → IsStep c d → IsSubmitted c txn → HasOwnOperations d txn × (is_some (record_at d txn.id) ≡ true)
unfolding look
stands_later c d txn step there =
    let still = step.lost.records txn.id (preparing_record txn) there in
    (own_some d txn still.now still.there still.goes.ops still.goes.info, ap is_some still.there)

stand_later : (c d : Content) (waiting : List Waiting) → IsStep c d → Every (IsSubmitted c) waiting → Every (HasOwnOperations d) waiting × (are_recorded d waiting ≡ true)
stand_later c d [] step all = (tt, refl)
stand_later c d (txn ∷ waiting) step all =
    let first = stands_later c d txn step all.0 in
    let rest = stand_later c d waiting step all.1 in
    ((first.0, rest.0), rw first.1 rest.1)

pub records_after : (c d : Content) (before after : List Entry) (waiting : List Waiting) → IsStep c d → Every (IsSubmitted c) waiting → LeavesRecords d before after waiting
records_after c d before after waiting step all =
    let stand = stand_later c d waiting step all in
    record { own = stand.0; whole = inr stand.1 }

pub records_before : (c : Content) (order : List Entry) (waiting : List Waiting) → Every (HasOwnOperations c) waiting → LeavesRecords c order order waiting
records_before c order waiting own = record { own = own; whole = inl refl }
