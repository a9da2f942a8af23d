-- What a runner may say between its calls, while others go on.
use Rattle.std.specs.Prelude.{◌≡◌, true, ℤ, Some, None, List, ◌⊎◌}
use Rattle.txn_key.specs.declared.id.TxnId.{TxnId}
use Rattle.txn_key.specs.declared.id.Token.{Token}
use Rattle.txn_key.specs.declared.key.Key.{Key}
use Rattle.txn_record.specs.declared.op.Op.{Op}
use Rattle.txn_record.specs.declared.record.Record.{Record}
use Rattle.txn_record.specs.declared.state.State.TheVariants as state
use Rattle.store_trait.specs.Contents.{Content}
use Rattle.store_laws.specs.Done.{AllPassed}
use Rattle.store_laws.specs.Readiness.{In}
use Rattle.store_laws.specs.View.{View, was_prepared, doc_at, stash_at}

-- a token that was added stands in the owner queue of the key, until its record was prepared
abbrev pub HasQueued : View → Key → Token → Type 0
HasQueued view key x = In x (view.queue_at key) ⊎ (was_prepared view x.id ≡ true)

-- with no stash entry the key has no document
abbrev pub HasNoDocAlone : Content → Key → Type 0
HasNoDocAlone c key = stash_at c key ≡ None → doc_at c key ≡ None

-- a record that was applying: if it is applied by now, all its operations have passed
abbrev pub PassedIfApplied : View → TxnId → List Op → List ℤ → Type 0
PassedIfApplied view id ops revnos =
    (now : Record) → view.record_at id ≡ Some now → now.state ≡ state.Applied
    → AllPassed view ops revnos
