-- A record that was stored so, and what a sound content says of it later.
use Rattle.std.proofs.Common.{◌≡◌, ℕ, Bool, true, Option, Some, None, is_some, sym, ap, ◌∙◌, refl, subst, cond}
use Rattle.std.specs.Option.{option_and_then}
use Rattle.txn_key.specs.declared.key.Key.{Key}
use Rattle.txn_record.specs.States.{was_prepared_state}
use Rattle.txn_record.specs.declared.record.Record.{Record}
use Rattle.txn_record.specs.declared.state.State.{State}
use Rattle.txn_record.specs.declared.state.State.TheVariants as state
use Rattle.store_trait.specs.Contents.{Content}
use Rattle.store_trait.specs.declared.cell.Cell.TheVariants as cell
use Rattle.store_trait.specs.declared.cell.DocCell.{DocCell}
use Rattle.store_trait.specs.declared.name.Name.TheVariants as name
use Rattle.store_laws.specs.Later.{may_follow}
use Rattle.store_laws.specs.Since.{Since}
use Rattle.store_laws.specs.Soundness.{IsSound}
use Rattle.store_laws.specs.Steps.{IsStep}
use Rattle.store_laws.specs.View.{look, record_at, was_prepared, state_passes, nonce_if_prepared, valid_nonce, HasKey, IsOn}
use Rattle.store_laws.proofs.cells.Parts.{parts}
use Rattle.store_laws.proofs.cells.Under.{record_under}
use Rattle.store_laws.proofs.steps.Known.{still_later}
use Rattle.store_laws.proofs.steps.Moments.{since_step, since_then}
use Rattle.store_laws.proofs.views.Lost.{still_there}
use Rattle.store_laws.proofs.views.Orderly.{numbered_nonce}
use Rattle.flush_prepare.specs.Moments.{WasStored, Moment, WasRead}

pub stored_now : (c : Content) (rec : Record) → IsSound c → record_at c rec.id ≡ Some rec → WasStored c rec
unfolding look
stored_now c rec s there = record { there = still_there rec.id rec there; numbered = (parts c s).numbers (name.Record rec.id) (cell.Record rec) (record_under c rec.id rec there) }

pub stored_step : (c d : Content) (rec : Record) → IsStep c d → WasStored c rec → WasStored d rec
stored_step c d rec step was = record { there = still_later c d rec.id rec step was.there; numbered = was.numbered }

pub stored_since : (c d : Content) (rec : Record) → IsSound c → Since c d → WasStored c rec → WasStored d rec
stored_since c d rec s since was = stored_step c d rec (since_step c d s since) was

-- moments

abbrev pub moment_now : (c : Content) (rec : Record) → IsSound c → WasStored c rec → Moment c rec
moment_now c rec s stored = record { at = c; sound = s; stored = stored; since = Since.Nothing c }

abbrev pub moment_later : (c d : Content) (rec : Record) → Since c d → Moment c rec → Moment d rec
moment_later c d rec since m = record { at = m.at; sound = m.sound; stored = m.stored; since = since_then m.at c d m.since since }

pub read_later : (c d : Content) (rec : Record) (key : Key) (doc : Option DocCell) → Since c d → WasRead c rec key doc → WasRead d rec key doc
read_later c d rec key doc since was = record { moment = moment_later c d rec since was.moment; read = was.read }

-- a prepared record

prepared_follows : (a b : State) → was_prepared_state a ≡ true → may_follow a b ≡ true → was_prepared_state b ≡ true
prepared_follows state.Preparing b p q = cc
prepared_follows state.Prepared b p q = q
prepared_follows a state.Prepared p q = refl
prepared_follows a state.Aborting p q = refl
prepared_follows a state.Applying p q = refl
prepared_follows a state.Aborted p q = refl
prepared_follows a state.Applied p q = refl
prepared_follows state.Aborting state.Preparing p q = q
prepared_follows state.Applying state.Preparing p q = q
prepared_follows state.Aborted state.Preparing p q = q
prepared_follows state.Applied state.Preparing p q = q

some_of : (o : Option ℕ) → is_some o ≡ true → (n : ℕ) × (o ≡ Some n)
some_of None e = cc
some_of (Some n) e = (n, refl)

-- it has a nonce
pub own_nonce : (c : Content) (rec : Record) → WasStored c rec → was_prepared_state rec.state ≡ true → (n : ℕ) × (rec.nonce ≡ Some n)
own_nonce c rec stored prepared = some_of rec.nonce (numbered_nonce rec stored.numbered prepared)

module _ (c : Content) (rec : Record) (stored : WasStored c rec) (prepared : was_prepared_state rec.state ≡ true) where
  now_prepared : was_prepared_state stored.there.now.state ≡ true
  now_prepared = prepared_follows rec.state stored.there.now.state prepared stored.there.goes.state

  pub is_prepared : was_prepared (look c) rec.id ≡ true
  unfolding look was_prepared
  is_prepared = ap (state_passes was_prepared_state) stored.there.there ∙ now_prepared

  -- which is the valid one
  pub nonce_valid : (n : ℕ) → rec.nonce ≡ Some n → valid_nonce (look c) rec.id ≡ Some n
  unfolding look valid_nonce
  nonce_valid n e =
      ap (λ (o : Option Record). option_and_then nonce_if_prepared o) stored.there.there
      ∙ ap (λ (b : Bool). cond b stored.there.now.nonce None) now_prepared
      ∙ stored.there.goes.nonce n e

pub stored_has_key : (c : Content) (rec : Record) (key : Key) → WasStored c rec → IsOn key rec.ops → HasKey (look c) rec.id key
stored_has_key c rec key stored on = record { rec = stored.there.now; there = stored.there.there; on = subst (IsOn key) (sym stored.there.goes.ops) on }
