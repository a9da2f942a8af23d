-- What comes of completing all that is pending.
use Rattle.std.specs.Prelude.{List}
use Rattle.store_trait.specs.declared.cell.Named.{Named}
use Rattle.txn_audit.specs.Bodies.{IsComplete, IsUnfit}
use Rattle.txn_audit.specs.declared.completion.Completion.{Completion}
use Rattle.txn_audit.specs.declared.completion.Completion.TheVariants as completion

abbrev pub IsCompletion : List Named → Completion → Type 0
IsCompletion cells (completion.Docs docs) = IsComplete cells docs
IsCompletion cells (completion.Unfit place) = IsUnfit cells place
