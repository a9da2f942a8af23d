use Rattle.std.specs.Prelude.{Bool, true, Option, Some, None, find}
use Rattle.std.specs.Ordering.{is_lt}
use Rattle.std.specs.FinMap.{FinMap, entries}
use Rattle.store_trait.specs.Names.{name_cmp}
use Rattle.store_trait.specs.declared.name.Name.{Name}
use Rattle.store_trait.specs.declared.cell.Cell.{Cell}
use Rattle.store_trait.specs.declared.cell.Named.{Named}

-- what a store holds: cells under names, each name once, in the order of names
abbrev pub Content : Type 0
Content = FinMap name_cmp Cell

-- whether a name comes after another one, or after nothing
abbrev pub is_past : Option Name → Name → Bool
is_past None name = true
is_past (Some after) name = is_lt (name_cmp after name)

abbrev pub named : Name × Cell → Named
named entry = record { name = entry.0; cell = entry.1 }

-- the first cell past a name
abbrev pub first_past : Option Name → Content → Option (Name × Cell)
first_past after content = find (λ entry. is_past after entry.0) (entries content)
