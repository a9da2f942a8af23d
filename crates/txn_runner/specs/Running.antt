-- A run as it goes on: the calls on the store since its mark, and the decisions made in them.
use Rattle.std.specs.Prelude.{◌≡◌, ◌≤◌, ℕ, ◌+◌, List}
use Rattle.txn_key.specs.Documents.{Docs}
use Rattle.txn_record.specs.declared.entry.Entry.{Entry}
use Rattle.store_trait.specs.Contents.{Content}
use Rattle.store_laws.specs.Decisions.{decisions}
use Rattle.store_laws.specs.Trail.{IsTrail}
use Rattle.store_trait.specs.declared.store.Store.{Ghosts}

-- from the mark up to a call, each call decided nothing or one transaction, and the order tells which
pub record HasRun (trail : ℕ → Content) (mark end : ℕ) (base : Docs) (order : List Entry) : Type 0 where
  pub made : ℕ
  pub counted : end ≡ mark + made
  pub told : IsTrail trail mark made base
  pub order_is : order ≡ decisions trail mark made

-- Calls on a store with which any run goes on, to the later order.
abbrev pub RunGoesOn : {S : Type 0} → Ghosts S → S → S → List Entry → List Entry → Type 0
RunGoesOn store old new before after = (mark : ℕ) (base : Docs) → HasRun (store.trail old) mark (store.calls old) base before → HasRun (store.trail new) mark (store.calls new) base after
