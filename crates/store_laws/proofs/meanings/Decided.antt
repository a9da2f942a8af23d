-- What a put of one cell decides.
use Rattle.std.proofs.Common.{◌≡◌, ℕ, Bool, true, false, ◌&&◌, not, Option, Some, None, List, [], ◌∷◌, ap, ◌∙◌, refl, if◌then◌else◌}
use Rattle.std.specs.Prelude.{option_to_list}
use Rattle.std.specs.FinMap.{insert, entries}
use Rattle.std.specs.List.{AllByRecursion, filter_map, cons_option}
use Rattle.std.proofs.lemmas.List.Elements.{filter_map-append}
use Rattle.txn_key.specs.declared.id.TxnId.{TxnId}
use Rattle.txn_record.specs.States.{was_decided_state}
use Rattle.txn_record.specs.declared.entry.Entry.{Entry}
use Rattle.txn_record.specs.declared.record.Record.{Record}
use Rattle.store_trait.specs.Contents.{Content}
use Rattle.store_laws.specs.Decisions.{decided_by, decision, entry_at}
use Rattle.store_laws.specs.Meaning.{records}
use Rattle.store_laws.specs.View.{look, record_at, was_decided, state_passes}
use Rattle.store_trait.specs.declared.cell.Cell.{Cell}
use Rattle.store_trait.specs.declared.cell.Cell.TheVariants as cell
use Rattle.store_trait.specs.declared.name.Name.{Name}
use Rattle.store_trait.specs.declared.name.Name.TheVariants as name
use Rattle.store_laws.proofs.cells.Records.{HasKinds, IsStanding, records_in, all_standing, record_split}

-- the decision that a record tells of, after a content
abbrev pub newly_chosen : Content → ℕ → Record → Option Entry
newly_chosen old at rec = if was_decided_state rec.state && not (was_decided (look old) rec.id) then Some (entry_at at rec) else None

by_records : (old : Content) (at : ℕ) (es : List (Name × Cell)) → filter_map (λ (entry : Name × Cell). decision old at entry.1) es ≡ filter_map (newly_chosen old at) (records_in es)
by_records old at [] = refl
by_records old at ((n, cell.Record rec) ∷ es) = ap (cons_option (newly_chosen old at rec)) (by_records old at es)
by_records old at ((n, _) ∷ es) = by_records old at es

chosen_as_stored : (c : Content) (rec : Record) → record_at c rec.id ≡ Some rec → was_decided (look c) rec.id ≡ was_decided_state rec.state
unfolding was_decided look
chosen_as_stored c rec there = ap (state_passes was_decided_state) there

nothing_new : (b : Bool) (e : Entry) → (if b && not b then Some e else None) ≡ None
nothing_new true e = refl
nothing_new false e = refl

none_newly : (c : Content) (Known : Name → Type 0) (at : ℕ) (recs : List Record) → AllByRecursion (IsStanding c Known) recs → filter_map (newly_chosen c at) recs ≡ []
none_newly c Known at [] all = refl
none_newly c Known at (rec ∷ recs) all = rw (chosen_as_stored c rec all.0.there, nothing_new) (none_newly c Known at recs all.1)

-- records that stay are no decisions
pub decided_by-same : (c d : Content) (at : ℕ) → HasKinds c → records d ≡ records c → decided_by c d at ≡ []
decided_by-same c d at kinds same = by_records c at (entries d) ∙ ap (filter_map (newly_chosen c at)) same ∙ none_newly c (λ n. Unit {0}) at (records c) (all_standing c kinds)

-- the only decision may be that of the record that was put
pub decided_by-put : (c : Content) (at : ℕ) (id : TxnId) (rec : Record) → HasKinds c → decided_by c (insert c (name.Record id) (cell.Record rec)) at ≡ option_to_list (newly_chosen c at rec)
decided_by-put c at id rec kinds =
    let s = record_split c kinds id rec in
    by_records c at (entries (insert c (name.Record id) (cell.Record rec)))
    ∙ ap (filter_map (newly_chosen c at)) s.after
    ∙ filter_map-append _ s.pre (rec ∷ s.post)
    ∙ rw (none_newly c _ at s.pre s.others_before, none_newly c _ at s.post s.others_after) (one (newly_chosen c at rec))
  where
    one : (o : Option Entry) → cons_option o [] ≡ option_to_list o
    one None = refl
    one (Some e) = refl
