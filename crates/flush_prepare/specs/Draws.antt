-- What a draw of a nonce gives.
use Rattle.std.specs.Prelude.{ℕ, ◌-◌, Bool, true, false, nat_lt, nat_le, Option, Some, None, Result, Ok, Err, if◌then◌else◌}
use Rattle.txn_key.specs.declared.id.TxnId.{TxnId}
use Rattle.store_trait.specs.Edits.{nonce_limit}
use Rattle.store_trait.specs.declared.name.Name.TheVariants as name
use Rattle.flush_prepare.specs.declared.error.StepError.{StepError}
use Rattle.flush_prepare.specs.declared.error.StepError.TheVariants as step

-- The nonce that a draw gives, by whether it hit and by the counter after it: the number before a hit.
-- A miss at the last counter says that no nonce is left. No counter answers otherwise.
abbrev pub drawn_of : TxnId → Bool → Option ℕ → Result ℕ StepError
drawn_of id true (Some counter) =
    if nat_lt 0 counter then Ok (counter - 1) else Err (step.Clash id name.Nonce)
drawn_of id false (Some counter) =
    if nat_le nonce_limit counter then Err step.NoncesSpent else Err (step.Clash id name.Nonce)
drawn_of id _ None = Err (step.Clash id name.Nonce)
