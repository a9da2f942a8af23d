-- A key's document was read, and its stash entry is read now: the key as it was at a moment between.
use Rattle.std.proofs.Common.{◌≡◌, Option, sym, ap, subst}
use Rattle.std.specs.FinMap.{get}
use Rattle.std.specs.Option.{option_and_then}
use Rattle.txn_key.specs.declared.key.Key.{Key}
use Rattle.txn_record.specs.declared.record.Record.{Record}
use Rattle.store_trait.specs.Cells.{as_stash}
use Rattle.store_trait.specs.Contents.{Content}
use Rattle.store_trait.specs.declared.cell.Cell.{Cell}
use Rattle.store_trait.specs.declared.cell.DocCell.{DocCell}
use Rattle.store_trait.specs.declared.cell.StashCell.{StashCell}
use Rattle.store_trait.specs.declared.name.Name.TheVariants as name
use Rattle.store_laws.specs.Since.{IsOwnedAs, IsMoment}
use Rattle.store_laws.specs.View.{look, doc_at, stash_at, owner_queue}
use Rattle.store_laws.proofs.steps.Moments.{one_moment, shown_queue}
use Rattle.flush_prepare.specs.Moments.{Moment, WasRead}
use Rattle.flush_prepare.proofs.Records.{stored_since}

pub record WasShown (c : Content) (rec : Record) (key : Key) (doc : Option DocCell) (stash : Option StashCell) : Type 0 where
  pub moment : Moment c rec
  pub shows : IsOwnedAs moment.at key doc stash
  pub queue : (look moment.at).queue_at key ≡ owner_queue doc stash

pub was_shown : (c : Content) (rec : Record) (key : Key) (doc : Option DocCell) (found : Option Cell) → found ≡ get c (name.Stash key) → WasRead c rec key doc → WasShown c rec key doc (option_and_then as_stash found)
unfolding stash_at
was_shown c rec key doc found e was = record {
  moment = record { at = seen.at; sound = seen.sound; stored = stored_since was.moment.at seen.at rec was.moment.sound seen.before was.moment.stored; since = seen.after };
  shows = shows;
  queue = shown_queue seen.at key doc (option_and_then as_stash found) shows;
}
  where
    seen : IsMoment was.moment.at c key (doc_at was.moment.at key) (stash_at c key)
    seen = one_moment was.moment.at c key was.moment.sound was.moment.since

    shows : IsOwnedAs seen.at key doc (option_and_then as_stash found)
    shows = subst (λ (s : Option StashCell). IsOwnedAs seen.at key doc s) (ap (option_and_then as_stash) (sym e)) (subst (λ (d : Option DocCell). IsOwnedAs seen.at key d (stash_at c key)) was.read seen.shows)
