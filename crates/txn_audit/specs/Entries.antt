-- Stash entries that may be there.
use Rattle.std.specs.Prelude.{◌≡◌, Option, Some}
use Rattle.store_laws.specs.Soundness.{IsSoundEntry}
use Rattle.store_trait.specs.declared.cell.DocCell.{DocCell}
use Rattle.store_trait.specs.declared.cell.StashCell.{StashCell}

-- a stash entry is sound beside its document, where there is one
abbrev pub IsSoundIfThere : Option DocCell → Option StashCell → Type 0
IsSoundIfThere doc found = (stash : StashCell) → found ≡ Some stash → IsSoundEntry doc stash
