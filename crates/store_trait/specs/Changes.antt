use Rattle.std.specs.Prelude.{Some, None}
use Rattle.store_trait.specs.Edits.{Hit, puts}
use Rattle.store_trait.specs.declared.changes.Changed.{Changed}
use Rattle.store_trait.specs.declared.changes.Changed.TheVariants as changed

-- what an edit came to, as a hit or a miss
abbrev pub as_hit : Changed → Hit
as_hit changed.Missed = None
as_hit (changed.Put after) = puts after
as_hit changed.Gone = Some None
