-- A preparation: what its next call is, and what that comes to.
use Rattle.std.specs.Prelude.{◌≡◌, ℕ, Bool, true, false, Option, Some, None, option_and_then, Result, Ok, Err, List, [], ◌∷◌, IsTrue, if◌then◌else◌}
use Rattle.txn_key.specs.declared.key.Key.{Key}
use Rattle.txn_record.specs.States.{was_prepared_state}
use Rattle.txn_record.specs.declared.record.Record.{Record}
use Rattle.txn_record.specs.declared.state.State.TheVariants as state
use Rattle.store_trait.specs.Cells.{as_record, as_doc, as_stash, as_counter}
use Rattle.store_trait.specs.declared.cell.Cell.{Cell}
use Rattle.store_trait.specs.declared.cell.DocCell.{DocCell}
use Rattle.store_trait.specs.declared.edit.Edit.{Edit}
use Rattle.store_trait.specs.declared.edit.Edit.TheVariants as edit
use Rattle.store_trait.specs.declared.edit.Edited.{Edited}
use Rattle.store_trait.specs.declared.name.Name.{Name}
use Rattle.store_trait.specs.declared.name.Name.TheVariants as name
use Rattle.store_trait.specs.declared.side.Side.TheVariants as side
use Rattle.store_trait.specs.declared.store.Store.{Ghosts}
use Rattle.store_laws.specs.Readiness.{token}
use Rattle.flush_prepare.specs.Answers.{HasRead, HasEdited}
use Rattle.flush_prepare.specs.Draws.{drawn_of}
use Rattle.flush_prepare.specs.Refusals.{IsOfStore, LeftAt}
use Rattle.flush_prepare.specs.Sights.{sight, is_outdated}
use Rattle.flush_prepare.specs.declared.error.StepError.{StepError}
use Rattle.flush_prepare.specs.declared.error.StepError.TheVariants as step
use Rattle.flush_prepare.specs.declared.prepare.Place.{Place}
use Rattle.flush_prepare.specs.declared.prepare.Place.TheVariants.{Draw, Document, Entry, AddToDocument, AddToEntry, EntryAgain, Move}
use Rattle.flush_prepare.specs.declared.prepare.Prepare.{Prepare}
use Rattle.flush_prepare.specs.declared.prepare.PrepareStep.{PrepareStep}
use Rattle.flush_prepare.specs.declared.prepare.PrepareStep.TheVariants.{More, Blocked, Ready}
use Rattle.flush_prepare.specs.declared.sight.Sight.{Sight}
use Rattle.flush_prepare.specs.declared.sight.Sight.TheVariants.{Queued, Marked, Free}

-- ---- what the next call is

abbrev pub name_at : Record → Key → Place → Name
name_at rec key Draw = name.Nonce
name_at rec key (Document nonce) = name.Doc key
name_at rec key (Entry nonce doc) = name.Stash key
name_at rec key (AddToDocument nonce) = name.Doc key
name_at rec key (AddToEntry nonce) = name.Stash key
name_at rec key (EntryAgain nonce revno) = name.Stash key
name_at rec key (Move nonce) = name.Record rec.id

abbrev pub name_of : Prepare → Name
name_of prepare = name_at prepare.rec prepare.key prepare.place

-- an edit, or a read
abbrev pub edit_at : Record → Place → Option Edit
edit_at rec Draw = Some edit.DrawNonce
edit_at rec (AddToDocument nonce) = Some (edit.AddToken (token rec.id nonce))
edit_at rec (AddToEntry nonce) = Some (edit.AddToken (token rec.id nonce))
edit_at rec (Move nonce) = Some (edit.Move state.Preparing state.Prepared (Some nonce) None)
edit_at rec _ = None

abbrev pub edit_of : Prepare → Option Edit
edit_of prepare = edit_at prepare.rec prepare.place

-- ---- what it comes to

-- the present key is begun with the reading of its document
abbrev pub begun : Prepare → ℕ → Prepare
begun prepare nonce = record prepare { place = Document nonce }

-- with the present key done the next one is begun, or the record is moved on
abbrev pub next_begun : Prepare → ℕ → List Key → Prepare
next_begun prepare nonce [] = record prepare { place = Move nonce }
next_begun prepare nonce (key ∷ later) =
    record prepare { key = key; later = later; place = Document nonce }

abbrev pub key_done : Prepare → ℕ → Prepare
key_done prepare nonce = next_begun prepare nonce prepare.later

-- Where the token waits, the key is done. A marked owner without it blocks. Else it is added to the owner.
abbrev pub seen_answer : Sight → PrepareStep
seen_answer (Marked mark) = Blocked mark.id
seen_answer _ = More

abbrev pub after_seen : Prepare → ℕ → Sight → Prepare
after_seen prepare nonce Queued = key_done prepare nonce
after_seen prepare nonce (Marked mark) = begun prepare nonce
after_seen prepare nonce (Free side.Document) = record prepare { place = AddToDocument nonce }
after_seen prepare nonce (Free _) = record prepare { place = AddToEntry nonce }

abbrev pub sight_of : Prepare → ℕ → Option DocCell → Option Cell → Sight
sight_of prepare nonce doc found =
    sight (token prepare.rec.id nonce) doc (option_and_then as_stash found)

abbrev pub read_answer_at : Prepare → Place → Option Cell → PrepareStep
read_answer_at prepare (Entry nonce doc) found = seen_answer (sight_of prepare nonce doc found)
read_answer_at prepare _ found = More

abbrev pub after_read_at : Prepare → Place → Option Cell → Prepare
after_read_at prepare (Document nonce) found =
    record prepare { place = Entry nonce (option_and_then as_doc found) }
after_read_at prepare (Entry nonce doc) found =
    after_seen prepare nonce (sight_of prepare nonce doc found)
after_read_at prepare (EntryAgain nonce revno) found =
    if is_outdated revno (token prepare.rec.id nonce) (option_and_then as_stash found)
    then begun prepare nonce else key_done prepare nonce
after_read_at prepare _ found = prepare

abbrev pub read_answer : Prepare → Option Cell → PrepareStep
read_answer prepare found = read_answer_at prepare prepare.place found

abbrev pub after_read : Prepare → Option Cell → Prepare
after_read prepare found = after_read_at prepare prepare.place found

-- A key whose token wasn't added is begun again. The record that a move answers is taken as it is.
abbrev pub drawn_answer : Result ℕ StepError → Result PrepareStep StepError
drawn_answer (Ok nonce) = Ok More
drawn_answer (Err error) = Err error

abbrev pub after_drawn : Prepare → Result ℕ StepError → Prepare
after_drawn prepare (Ok nonce) = begun prepare nonce
after_drawn prepare (Err error) = prepare

abbrev pub added_answer : Prepare → Bool → Option DocCell → Result PrepareStep StepError
added_answer prepare true None = Err (step.Clash prepare.rec.id (name.Doc prepare.key))
added_answer prepare _ _ = Ok More

abbrev pub after_added : Prepare → ℕ → Bool → Option DocCell → Prepare
after_added prepare nonce false doc = begun prepare nonce
after_added prepare nonce true None = prepare
after_added prepare nonce true (Some doc) =
    record prepare { place = EntryAgain nonce doc.revno }

abbrev pub moved_answer : Record → Option Record → Result PrepareStep StepError
moved_answer rec None = Err (step.Clash rec.id (name.Record rec.id))
moved_answer rec (Some now) =
    if was_prepared_state now.state then Ok (Ready now)
    else Err (step.Clash rec.id (name.Record rec.id))

abbrev pub drawn_in : Prepare → Edited → Result ℕ StepError
drawn_in prepare done =
    drawn_of prepare.rec.id done.hit (option_and_then as_counter done.cell)

abbrev pub edit_answer_at : Prepare → Place → Edited → Result PrepareStep StepError
edit_answer_at prepare Draw done = drawn_answer (drawn_in prepare done)
edit_answer_at prepare (AddToDocument nonce) done =
    added_answer prepare done.hit (option_and_then as_doc done.cell)
edit_answer_at prepare (Move nonce) done =
    moved_answer prepare.rec (option_and_then as_record done.cell)
edit_answer_at prepare _ done = Ok More

abbrev pub after_edit_at : Prepare → Place → Edited → Prepare
after_edit_at prepare Draw done = after_drawn prepare (drawn_in prepare done)
after_edit_at prepare (AddToDocument nonce) done =
    after_added prepare nonce done.hit (option_and_then as_doc done.cell)
after_edit_at prepare (AddToEntry nonce) done =
    if done.hit then key_done prepare nonce else begun prepare nonce
after_edit_at prepare _ done = prepare

abbrev pub edit_answer : Prepare → Edited → Result PrepareStep StepError
edit_answer prepare done = edit_answer_at prepare prepare.place done

abbrev pub after_edit : Prepare → Edited → Prepare
after_edit prepare done = after_edit_at prepare prepare.place done

-- A step is one read or one edit, whose answer says what it comes to; or it is refused, and the
-- preparation stays.
pub data PrepareGoes {S : Type 0} (store : Ghosts S) (old : S) (prepare : Prepare)
    (result : Result PrepareStep StepError) (next : Prepare) (new : S) : Type 0 where
  ByRead : (found : Option Cell) → edit_of prepare ≡ None
      → HasRead store old (name_of prepare) found new
      → result ≡ Ok (read_answer prepare found) → next ≡ after_read prepare found
      → PrepareGoes store old prepare result next new
  ByEdit : (change : Edit) (done : Edited) → edit_of prepare ≡ Some change
      → HasEdited store old (name_of prepare) change done new
      → result ≡ edit_answer prepare done → next ≡ after_edit prepare done
      → PrepareGoes store old prepare result next new
  Refused : (error : StepError) → IsOfStore error
      → (IsTrue store.tells → LeftAt error (store.content old) (name_of prepare)
      (edit_of prepare) (store.content new))
      → result ≡ Err error → next ≡ prepare → PrepareGoes store old prepare result next new
