use Rattle.std.specs.Prelude.{◌≡◌, ℕ, true, false, Some, [], ◌∷◌}
use Rattle.txn_key.specs.declared.key.Key.{Key}
use Rattle.txn_record.specs.Effects.{effect, tests}
use Rattle.txn_record.specs.declared.record.Record.{Record}
use Rattle.store_trait.specs.Contents.{Content}
use Rattle.store_laws.specs.Soundness.{IsSound}
use Rattle.store_laws.specs.Later.{Later, NothingLost}
use Rattle.txn_record.specs.declared.state.State.{State}
use Rattle.txn_record.specs.declared.state.State.TheVariants as state
use Rattle.store_laws.specs.View.{look, record_at, was_decided}
use Rattle.store_laws.specs.Done.{StaysDone}
use Rattle.store_laws.specs.Entries.{CellsStay, StaysOrOwns}
use Rattle.store_laws.specs.Meaning.{meaning}
use Rattle.store_laws.specs.Decisions.{decided_by, entry_at}

-- what every call of a runner keeps
pub record IsStep (old new : Content) : Type 0 where
  pub sound : IsSound new
  pub later : Later old new
  pub lost : NothingLost (look old) (look new)
  pub done : StaysDone (look old) (look new)
  pub cells : CellsStay old new

-- a call that decides nothing: the meaning stays
pub record IsQuiet (old new : Content) : Type 0 where
  pub step : IsStep old new
  pub entry : (key : Key) → StaysOrOwns old new key
  pub means : meaning new ≡ meaning old
  pub none : (at : ℕ) → decided_by old new at ≡ []

-- a record that was not decided yet, and is now
pub record ComesTo (old new : Content) (rec : Record) (to : State) : Type 0 where
  pub before : was_decided (look old) rec.id ≡ false
  pub now : record_at new rec.id ≡ Some rec
  pub state : rec.state ≡ to

-- The call that decides to apply: the tests hold on the meaning, which becomes the effect of the
-- whole transaction on it.
pub record Applies (old new : Content) (rec : Record) : Type 0 where
  pub step : IsStep old new
  pub entry : (key : Key) → StaysOrOwns old new key
  pub decides : ComesTo old new rec state.Applying
  pub tested : tests rec.ops (meaning old) ≡ true
  pub means : meaning new ≡ effect rec.ops (meaning old)
  pub one : (at : ℕ) → decided_by old new at ≡ entry_at at rec ∷ []

-- The call that decides to abort: a test fails on the meaning, which stays.
pub record Aborts (old new : Content) (rec : Record) : Type 0 where
  pub step : IsStep old new
  pub entry : (key : Key) → StaysOrOwns old new key
  pub decides : ComesTo old new rec state.Aborting
  pub failed : tests rec.ops (meaning old) ≡ false
  pub means : meaning new ≡ meaning old
  pub one : (at : ℕ) → decided_by old new at ≡ entry_at at rec ∷ []
