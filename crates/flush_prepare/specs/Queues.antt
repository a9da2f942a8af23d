-- What stands before a record's own token in a queue.
use Rattle.std.specs.Prelude.{Option, Some, None, option_map, option_and_then, List, [], ◌∷◌, if◌then◌else◌}
use Rattle.txn_key.specs.declared.id.Token.{Token}
use Rattle.txn_record.specs.States.{is_settled_state}
use Rattle.txn_record.specs.declared.record.Record.{Record}
use Rattle.store_trait.specs.Edits.{same_token}
use Rattle.store_laws.specs.Readiness.{token}

-- the tokens before one, where it is in the queue
abbrev pub before : Token → List Token → Option (List Token)
before own [] = None
before own (x ∷ queue) =
    if same_token own x then Some [] else option_map (λ rest. x ∷ rest) (before own queue)

-- the same of the valid token of a record that was prepared
abbrev pub before_own : Record → List Token → Option (List Token)
before_own rec queue = option_and_then (λ nonce. before (token rec.id nonce) queue) rec.nonce

abbrev pub nothing_if_settled : Record → Option (List Token)
nothing_if_settled rec = if is_settled_state rec.state then Some [] else None

abbrev pub if_there : Option (List Token) → Option (List Token) → Option (List Token)
if_there (Some tokens) other = Some tokens
if_there None other = other

-- What a scan takes from a queue. A settled record's token may have been taken out, and then nothing
-- stands before it; one that isn't settled has its token there, as long as it is as it was read.
abbrev pub scanned : Record → List Token → Option (List Token)
scanned rec queue = if_there (before_own rec queue) (nothing_if_settled rec)
