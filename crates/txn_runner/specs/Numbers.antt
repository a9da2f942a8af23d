-- Nonces and revision numbers: how many calls for transactions use up, and whether enough are left.
use Rattle.std.specs.Prelude.{ℕ, ◌+◌, ◌<◌, ◌≤◌, Option, Some, None, unsigned_abs}
use Rattle.txn_key.specs.declared.key.Key.{Key}
use Rattle.store_trait.specs.Contents.{Content}
use Rattle.store_trait.specs.Edits.{nonce_limit}
use Rattle.store_laws.specs.View.{doc_at, counter}
use Rattle.store_trait.specs.declared.cell.DocCell.{DocCell}
use Rattle.txn_record.specs.declared.entry.Outcome.TheVariants as outcome
use Rattle.txn_runner.specs.Settling.{last_revno}
use Rattle.txn_runner.specs.declared.stage.Stage.{Stage}
use Rattle.txn_runner.specs.declared.stage.Stage.TheVariants as stage

abbrev pub size_of : Option DocCell → ℕ
size_of None = 0
size_of (Some doc) = unsigned_abs doc.revno

-- the absolute value of a document's number, 0 where there is none
abbrev pub number_at : Content → Key → ℕ
number_at c key = size_of (doc_at c key)

-- Calls that had so many nonces and numbers of each document to use, and leave so many of them.
pub record Uses (old new : Content) (had_nonces had_numbers left_nonces left_numbers : ℕ) : Type 0 where
  pub counter : counter new + left_nonces ≤ counter old + had_nonces
  pub numbers : (key : Key) → number_at new key + left_numbers ≤ number_at old key + had_numbers

-- enough are left for that many transactions
pub record Suffices (c : Content) (transactions : ℕ) : Type 0 where
  pub nonces : counter c + transactions < nonce_limit
  pub numbers : (key : Key) → number_at c key + transactions ≤ last_revno

-- What a transaction has left, from a stage on, of the one nonce and the one number of a document that it may
-- use: an aborted one uses no number.
abbrev pub nonces_left : Stage → ℕ
nonces_left stage.Draw = 1
nonces_left (stage.Queue _) = 0
nonces_left (stage.Prepare _) = 0
nonces_left (stage.Look _) = 0
nonces_left (stage.Decide _ _ _) = 0
nonces_left (stage.Update _ _) = 0
nonces_left stage.Finish = 0
nonces_left stage.Abort = 0
nonces_left (stage.Settled _) = 0

abbrev pub numbers_left : Stage → ℕ
numbers_left stage.Draw = 1
numbers_left (stage.Queue _) = 1
numbers_left (stage.Prepare _) = 1
numbers_left (stage.Look _) = 1
numbers_left (stage.Decide _ _ _) = 1
numbers_left (stage.Update _ _) = 1
numbers_left stage.Finish = 0
numbers_left stage.Abort = 1
numbers_left (stage.Settled outcome.Applied) = 0
numbers_left (stage.Settled outcome.Aborted) = 1
