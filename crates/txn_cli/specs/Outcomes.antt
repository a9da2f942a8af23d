use Rattle.std.specs.Prelude.{Bool, true, false}
use Rattle.std.specs.List.{list_any}
use Rattle.txn_record.specs.declared.entry.Entry.{Entry}
use Rattle.txn_record.specs.declared.entry.Outcome.{Outcome}
use Rattle.txn_record.specs.declared.entry.Outcome.TheVariants as outcome
use Rattle.txn_play.specs.declared.run.Run.{Run}

abbrev pub is_aborted_outcome : Outcome → Bool
is_aborted_outcome outcome.Aborted = true
is_aborted_outcome outcome.Applied = false

abbrev pub is_aborted : Entry → Bool
is_aborted entry = is_aborted_outcome entry.outcome

-- some transaction of the batch was aborted
abbrev pub has_aborted : Run → Bool
has_aborted run = list_any is_aborted run.order
