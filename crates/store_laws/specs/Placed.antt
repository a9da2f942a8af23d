-- What comes of placing a document under a key that had none.
use Rattle.std.specs.Prelude.{◌≡◌, ℕ, pos, None, []}
use Rattle.std.specs.FinMap.{insert}
use Rattle.doc_value.specs.declared.value.Value.{Value}
use Rattle.txn_key.specs.declared.key.Key.{Key}
use Rattle.store_trait.specs.Contents.{Content}
use Rattle.store_laws.specs.Decisions.{decided_by}
use Rattle.store_laws.specs.Later.{Later}
use Rattle.store_laws.specs.Meaning.{meaning}
use Rattle.store_laws.specs.Soundness.{IsSound}
use Rattle.store_trait.specs.declared.cell.DocCell.{DocCell}

-- a document with no history
abbrev pub new_doc : Value → DocCell
new_doc body = record { body = body; revno = pos 0; queue = []; remove = None }

-- The content stays sound and means one document more. This is no step of a runner: the epoch of a
-- key with no cell is 1, that of a new document 0.
pub record IsPlaced (old new : Content) (key : Key) (body : Value) : Type 0 where
  pub sound : IsSound new
  pub later : Later old new
  pub means : meaning new ≡ insert (meaning old) key body
  pub none : (at : ℕ) → decided_by old new at ≡ []
