-- What was true of a record's keys as if at a moment up to now. That a store held these very contents isn't
-- said here: what was read is what the clauses `goes` of the steps say.
use Rattle.std.specs.Prelude.{◌≡◌, true, Option}
use Rattle.txn_key.specs.declared.key.Key.{Key}
use Rattle.txn_record.specs.declared.record.Record.{Record}
use Rattle.store_trait.specs.Contents.{Content}
use Rattle.store_trait.specs.declared.cell.DocCell.{DocCell}
use Rattle.store_laws.specs.Later.{IsStillThere}
use Rattle.store_laws.specs.Since.{Since}
use Rattle.store_laws.specs.Soundness.{IsSound, is_numbered_record}
use Rattle.store_laws.specs.View.{look, doc_at}

-- A record was stored so: it is there as it was, or further on.
pub record WasStored (c : Content) (rec : Record) : Type 0 where
  pub there : IsStillThere (look c) rec.id rec
  pub numbered : is_numbered_record rec ≡ true

-- a sound content from which runners' calls lead here, in which the record was there
pub record Moment (c : Content) (rec : Record) : Type 0 where
  pub at : Content
  pub sound : IsSound at
  pub stored : WasStored at rec
  pub since : Since at c

-- the document of a key is one as if read at such a moment
pub record WasRead (c : Content) (rec : Record) (key : Key) (doc : Option DocCell) : Type 0 where
  pub moment : Moment c rec
  pub read : doc_at moment.at key ≡ doc
