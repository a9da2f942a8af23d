-- Records inserted and moved on, where nothing is decided.
use Rattle.std.proofs.Common.{◌≡◌, ℕ, ◌<◌, Bool, true, false, cond, Option, Some, None, is_some, IfSome, not, ◌&&◌, append-nil, [], inl, sym, ap, ◌∙◌, refl, subst}
use Rattle.std.specs.Option.{option_and_then}
use Rattle.std.specs.Prelude.{option_to_list, unwrap_or}
use Rattle.std.specs.FinMap.{get, insert}
use Rattle.std.specs.List.{flat_map}
use Rattle.txn_key.specs.declared.id.TxnId.{TxnId}
use Rattle.txn_key.specs.declared.key.Key.{Key}
use Rattle.txn_record.specs.States.{was_decided_state}
use Rattle.txn_record.specs.declared.record.Record.{Record}
use Rattle.txn_record.specs.declared.state.State.{State}
use Rattle.txn_record.specs.declared.state.State.TheVariants as state
use Rattle.store_trait.specs.Cells.{as_record}
use Rattle.store_trait.specs.Contents.{Content}
use Rattle.store_laws.specs.Decisions.{entry_at}
use Rattle.store_trait.specs.Edits.{puts, hit_insert_record, moved, put_under, edited}
use Rattle.store_laws.specs.Meaning.{pending_of, not_done}
use Rattle.store_trait.specs.Names.{same_state, same_id}
use Rattle.store_laws.specs.Soundness.{IsSound, is_numbered_record, agree, has_revnos}
use Rattle.store_laws.specs.Done.{StaysDone}
use Rattle.store_laws.specs.Steps.{IsStep, IsQuiet}
use Rattle.store_laws.specs.View.{look, record_at, counter, IsOn, was_decided}
use Rattle.store_laws.specs.Readiness.{token, In}
use Rattle.store_trait.specs.declared.cell.Cell.{Cell}
use Rattle.store_trait.specs.declared.cell.Cell.TheVariants as cell
use Rattle.store_trait.specs.declared.edit.Edit.TheVariants as edit
use Rattle.store_trait.specs.declared.name.Name.TheVariants as name
use Rattle.store_laws.proofs.views.Changes.{IsOrderlyStep}
use Rattle.store_laws.proofs.meanings.Decided.{decided_by-put, newly_chosen}
use Rattle.store_laws.proofs.views.KindsOfMove.{prepare_step, end_step}
use Rattle.store_laws.proofs.cells.Looks.{record_looks}
use Rattle.store_laws.specs.Later.{may_follow}
use Rattle.store_laws.proofs.views.Lost.{lost_inserted, lost_moved, goes_plainly, goes_prepared}
use Rattle.store_laws.proofs.meanings.Meanings.{meaning-put}
use Rattle.store_laws.proofs.chains.Numbers.{numbered_prepared, numbered_as}
use Rattle.store_laws.proofs.cells.Misses.{quiet_itself, by_move}
use Rattle.store_laws.proofs.views.Moves.{insert_step}
use Rattle.store_laws.proofs.views.Orderly.{orderly, nonce_agrees}
use Rattle.store_laws.proofs.cells.Records.{same_id-equal}
use Rattle.store_laws.proofs.cells.SoundParts.{sound_put_record}
use Rattle.store_laws.proofs.chains.Done.{done_put}
use Rattle.store_laws.proofs.cells.Entries.{stays_put_record}
use Rattle.store_laws.proofs.cells.Marks.{MarksApart, apart_if_absent, apart_in_state}
use Rattle.store_laws.proofs.cells.Lookups
use Rattle.store_laws.proofs.views.Views.{chosen_at}
use Rattle.store_laws.proofs.cells.Parts.{parts}
use Rattle.store_laws.proofs.cells.Under.{record_under}

-- a record that isn't applying has nothing to do
pub idle : (c : Content) (rec : Record) → same_state state.Applying rec.state ≡ false → pending_of (look c) rec ≡ []
idle c rec e = ap (λ (b : Bool). cond b (not_done (look c) rec.ops (unwrap_or rec.revnos [])) []) e

-- a record whose state decides nothing is no decision, nor is one that was decided
pub unchosen : (c : Content) (at : ℕ) (rec : Record) → was_decided_state rec.state ≡ false → newly_chosen c at rec ≡ None
unchosen c at rec e = ap (λ (b : Bool). cond (b && not (was_decided (look c) rec.id)) (Some (entry_at at rec)) None) e

pub chosen_already : (c : Content) (at : ℕ) (rec : Record) → was_decided (look c) rec.id ≡ true → newly_chosen c at rec ≡ None
chosen_already c at rec e = ap (λ (b : Bool). cond (was_decided_state rec.state && not b) (Some (entry_at at rec)) None) e ∙ never (was_decided_state rec.state)
  where
    never : (b : Bool) → cond (b && not true) (Some (entry_at at rec)) None ≡ None
    never true = refl
    never false = refl

-- a record stands under its own id
pub own_id : (c : Content) (id : TxnId) (rec : Record) → IsSound c → record_at c id ≡ Some rec → id ≡ rec.id
own_id c id rec s there = same_id-equal id rec.id (s.kinds (name.Record id) (cell.Record rec) (record_under c id rec there))

pub kept_id : (c : Content) (id : TxnId) (rec : Record) → IsSound c → record_at c id ≡ Some rec → same_id id rec.id ≡ true
kept_id c id rec s there = s.kinds (name.Record id) (cell.Record rec) (record_under c id rec there)

pub stored_numbers : (c : Content) (id : TxnId) (rec : Record) → IsSound c → record_at c id ≡ Some rec → is_numbered_record rec ≡ true
stored_numbers c id rec s there = (parts c s).numbers (name.Record id) (cell.Record rec) (record_under c id rec there)

-- a preparing record has no nonce
pub no_nonce : (rec : Record) → is_numbered_record rec ≡ true → rec.state ≡ state.Preparing → rec.nonce ≡ None
no_nonce rec numbered prepares = go rec.nonce (ap (λ (s : State). agree (is_some rec.nonce) (not (same_state s state.Preparing))) (sym prepares) ∙ nonce_agrees rec numbered)
  where
    go : (o : Option ℕ) → agree (is_some o) false ≡ true → o ≡ None
    go None e = refl
    go (Some n) e = cc

-- a record that is put, and is no decision, and has to do what the one before it had
pub put_quiet : (c : Content) (id : TxnId) (rec : Record) → let d = insert c (name.Record id) (cell.Record rec) in IsSound c → IsStep c d
    → pending_of (look c) rec ≡ flat_map (pending_of (look c)) (option_to_list (record_at c id)) → ((at : ℕ) → newly_chosen c at rec ≡ None) → IsQuiet c d
put_quiet c id rec s step to_do known = record {
  step = step;
  entry = λ key. inl (Lookups.stash_at-put_record c (cell.Record rec) id key);
  means = meaning-put c id rec s.kinds (record_looks c id rec).held to_do;
  none = λ at. decided_by-put c at id rec s.kinds ∙ ap option_to_list (known at);
}

inserted : (c : Content) (id : TxnId) (rec : Record) → IsSound c → rec.state ≡ state.Preparing → is_numbered_record rec ≡ true → get c (name.Record id) ≡ None → same_id id rec.id ≡ true
    → IsQuiet c (insert c (name.Record id) (cell.Record rec))
unfolding record_at look
inserted c id rec s prepares numbered absent same =
    put_quiet c id rec s (record { sound = sound_put_record c id rec s step same numbered nonce (apart_if_absent c id gone) (λ applies. absurd (cc (prepares, applies))); later = step.later; lost = lost_inserted id rec (record_looks c id rec) gone; done = done_put c id rec (λ was revnos there applies. absurd (cc (gone, there))); cells = stays_put_record c id rec })
    (idle c rec (ap (same_state state.Applying) prepares) ∙ sym (ap (λ (o : Option Record). flat_map (pending_of (look c)) (option_to_list o)) gone))
    (λ at. unchosen c at rec (ap was_decided_state prepares))
  where
    gone : record_at c id ≡ None
    gone = ap (option_and_then as_record) absent

    step : IsOrderlyStep (look c) (look (insert c (name.Record id) (cell.Record rec)))
    step = insert_step id rec (orderly c s) (record_looks c id rec) gone prepares

    nonce : IfSome rec.nonce (λ n. n < counter c)
    nonce = subst (λ (o : Option ℕ). IfSome o (λ n. n < counter c)) (sym (no_nonce rec numbered prepares)) tt

inserts_at : (c : Content) (id : TxnId) (rec : Record) → IsSound c → rec.state ≡ state.Preparing → is_numbered_record rec ≡ true
    → (found : Option Cell) → get c (name.Record id) ≡ found → IsQuiet c (put_under c (name.Record id) (hit_insert_record rec (name.Record id) found))
inserts_at c id rec s prepares numbered (Some x) e = quiet_itself c s
inserts_at c id rec s prepares numbered None e = go (same_id id rec.id) refl
  where
    go : (t : Bool) → same_id id rec.id ≡ t → IsQuiet c (put_under c (name.Record id) (cond t (puts (cell.Record rec)) None))
    go true same = inserted c id rec s prepares numbered e same
    go false same = quiet_itself c s

-- Putting a preparing record under its own id decides nothing.
pub insert_quiet : (c : Content) (id : TxnId) (rec : Record) → IsSound c → rec.state ≡ state.Preparing → is_numbered_record rec ≡ true → IsQuiet c (edited c (name.Record id) (edit.InsertRecord rec))
insert_quiet c id rec s prepares numbered = inserts_at c id rec s prepares numbered (get c (name.Record id)) refl

-- Moves that decide nothing.

-- what a record has to do that is put in the place of another
pub in_place : (c : Content) (id : TxnId) (was rec : Record) → record_at c id ≡ Some was → pending_of (look c) rec ≡ pending_of (look c) was → pending_of (look c) rec ≡ flat_map (pending_of (look c)) (option_to_list (record_at c id))
in_place c id was rec there same = same ∙ sym (append-nil (pending_of (look c) was)) ∙ sym (ap (λ (o : Option Record). flat_map (pending_of (look c)) (option_to_list o)) there)

prepared : (c : Content) (id : TxnId) (number : ℕ) → IsSound c → number < counter c
    → ((rec : Record) (key : Key) → record_at c id ≡ Some rec → rec.state ≡ state.Preparing → IsOn key rec.ops → In (token id number) ((look c).queue_at key))
    → (was : Record) → record_at c id ≡ Some was → was.state ≡ state.Preparing → IsQuiet c (insert c (name.Record id) (cell.Record (moved state.Prepared (Some number) None was)))
unfolding look
prepared c id number s below queued was there from =
    put_quiet c id rec s (record { sound = sound_put_record c id rec s step (kept_id c id was s there) (numbered_prepared was number (stored_numbers c id was s there) from) below (apart_in_state c id was state.Preparing there from (λ e. cc e)) (λ applies. absurd (cc applies)); later = step.later; lost = lost_moved id was rec (record_looks c id rec) there (goes_prepared was number (stored_numbers c id was s there) from); done = done_put c id rec (λ w revnos t applies numbers applied. absurd (cc applied)); cells = stays_put_record c id rec })
    (in_place c id was rec there (idle c rec refl ∙ sym (idle c was (ap (same_state state.Applying) from))))
    (λ at. unchosen c at rec refl)
  where
    rec : Record
    rec = moved state.Prepared (Some number) None was

    step : IsOrderlyStep (look c) (look (insert c (name.Record id) (cell.Record rec)))
    step = prepare_step id was number (orderly c s) (record_looks c id rec) there from (λ key on. queued was key there from on)

-- A preparing record becomes prepared with a nonce that was drawn, once its token stands in the owner
-- queue of each of its keys.
pub prepare_quiet : (c : Content) (id : TxnId) (number : ℕ) → IsSound c → number < counter c
    → ((rec : Record) (key : Key) → record_at c id ≡ Some rec → rec.state ≡ state.Preparing → IsOn key rec.ops → In (token id number) ((look c).queue_at key))
    → IsQuiet c (edited c (name.Record id) (edit.Move state.Preparing state.Prepared (Some number) None))
prepare_quiet c id number s below queued = by_move c id state.Preparing state.Prepared (Some number) None (IsQuiet c) (quiet_itself c s) (prepared c id number s below queued) (get c (name.Record id)) refl

-- a decided record moves on without a new nonce
pub settled_step : (c : Content) (id : TxnId) (from to : State) (was : Record) → IsSound c → record_at c id ≡ Some was → was.state ≡ from → same_state from state.Preparing ≡ same_state to state.Preparing → has_revnos from ≡ has_revnos to
    → same_state state.Applying to ≡ false → may_follow from to ≡ true → MarksApart c id → let d = insert c (name.Record id) (cell.Record (moved to None None was)) in IsOrderlyStep (look c) (look d) → StaysDone (look c) (look d) → IsStep c d
unfolding look
settled_step c id from to was s there state nonces chains stops follows apart step done = record {
  sound = sound_put_record c id rec s step (kept_id c id was s there) (numbered_as was from to state nonces chains (stored_numbers c id was s there)) ((parts c s).record_nonces id was there) apart (λ applies. absurd (cc (stops, applies)));
  later = step.later;
  lost = lost_moved id was rec (record_looks c id rec) there (goes_plainly was from to state follows);
  done = done;
  cells = stays_put_record c id rec;
}
  where
    rec : Record
    rec = moved to None None was

-- a record that was decided is no decision
pub settled_already : (c : Content) (id : TxnId) (was rec : Record) → IsSound c → record_at c id ≡ Some was → rec.id ≡ was.id → was_decided_state was.state ≡ true → (at : ℕ) → newly_chosen c at rec ≡ None
unfolding look
settled_already c id was rec s there same chose at =
    chosen_already c at rec (ap (was_decided (look c)) (same ∙ sym (own_id c id was s there)) ∙ chosen_at (look c) id was there ∙ chose)

ended : (c : Content) (id : TxnId) → IsSound c → (was : Record) → record_at c id ≡ Some was → was.state ≡ state.Aborting → IsQuiet c (insert c (name.Record id) (cell.Record (moved state.Aborted None None was)))
unfolding look
ended c id s was there from =
    put_quiet c id rec s
    (settled_step c id state.Aborting state.Aborted was s there from refl refl refl refl (apart_in_state c id was state.Aborting there from (λ e. cc e)) (end_step id was (orderly c s) (record_looks c id rec) there from) (done_put c id rec (λ w revnos t applies numbers applied. absurd (cc applied))))
    (in_place c id was rec there (idle c rec refl ∙ sym (idle c was (ap (same_state state.Applying) from))))
    (settled_already c id was rec s there refl (ap was_decided_state from))
  where
    rec : Record
    rec = moved state.Aborted None None was

-- An aborting record is aborted.
pub end_quiet : (c : Content) (id : TxnId) → IsSound c → IsQuiet c (edited c (name.Record id) (edit.Move state.Aborting state.Aborted None None))
end_quiet c id s = by_move c id state.Aborting state.Aborted None None (IsQuiet c) (quiet_itself c s) (ended c id s) (get c (name.Record id)) refl
