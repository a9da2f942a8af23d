use Rattle.std.specs.Prelude.{◌≡◌, ℕ, Bool, true, IsTrue, List, Result, Ok, Err}
use Rattle.txn_record.specs.declared.entry.Entry.{Entry}
use Rattle.store_trait.specs.Stores.{CallsGoOn}
use Rattle.store_trait.specs.Contents.{Content}
use Rattle.txn_record.specs.declared.op.Op.{Op}
use Rattle.txn_runner.specs.Built.{updates}
use Rattle.txn_runner.specs.Causes.{EndIsShown}
use Rattle.txn_runner.specs.Numbers.{Uses, nonces_left, numbers_left}
use Rattle.txn_runner.specs.Settling.{IsWorth, WorksOn}
use Rattle.txn_runner.specs.declared.error.StepError.{StepError}
use Rattle.txn_runner.specs.declared.waiting.Waiting.{Waiting}
use Rattle.txn_runner.specs.declared.stage.Stage.{Stage}
use Rattle.txn_runner.specs.declared.stage.Stage.TheVariants as stage
use Rattle.store_trait.specs.declared.store.Store.{Ghosts}

-- the most calls on the store that a transaction still takes
abbrev pub steps_left : Stage → ℕ
steps_left stage.Draw = 7
steps_left (stage.Queue _) = 6
steps_left (stage.Prepare _) = 5
steps_left (stage.Look _) = 4
steps_left (stage.Decide _ _ _) = 3
steps_left (stage.Update _ _) = 2
steps_left stage.Finish = 1
steps_left stage.Abort = 1
steps_left (stage.Settled _) = 0

-- an update is made for a transaction that has one
abbrev pub suits : List Op → Stage → Bool
suits ops stage.Draw = true
suits ops (stage.Queue _) = true
suits ops (stage.Prepare _) = true
suits ops (stage.Look _) = true
suits ops (stage.Decide _ _ _) = true
suits ops (stage.Update _ _) = updates ops
suits ops stage.Finish = true
suits ops stage.Abort = true
suits ops (stage.Settled _) = true

-- a step uses no more nonces and numbers than the transaction may, and leaves what it may still use
abbrev pub UsesUpTo : Content → Content → Stage → Result Stage StepError → Type 0
UsesUpTo old new at (Ok next) = Uses old new (nonces_left at) (numbers_left at) (nonces_left next) (numbers_left next)
UsesUpTo old new at (Err _) = Uses old new (nonces_left at) (numbers_left at) 0 0

-- between two calls for a transaction
pub record IsSettlingOne {S : Type 0} (store : Ghosts S) (old now : S) (before order : List Entry) (txn : Waiting) (at : Stage) : Type 0 where
  pub works : IsTrue store.tells → WorksOn store old now before order txn.id
  pub worth : IsTrue store.tells → IsWorth (store.content now) txn at
  pub uses : IsTrue store.tells → Uses (store.content old) (store.content now) 1 1 (nonces_left at) (numbers_left at)
  pub made : CallsGoOn store old now
  pub suits : suits txn.ops at ≡ true
  pub shown : EndIsShown store old now txn.id at
