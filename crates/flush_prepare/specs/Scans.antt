-- A scan: what each of its reads comes to, and what it knows between them.
use Rattle.std.specs.Prelude.{◌≡◌, ◌<◌, ◌+◌, ◌*◌, ℕ, true, Option, Some, None, option_and_then, Result, Ok, Err, List, [], ◌∷◌, ◌++◌, map, length, All}
use Rattle.std.specs.List.{flat_map}
use Rattle.txn_key.specs.declared.id.Token.{Token}
use Rattle.txn_key.specs.declared.key.Key.{Key}
use Rattle.txn_record.specs.Chain.{keys_of}
use Rattle.txn_record.specs.States.{was_prepared_state}
use Rattle.txn_record.specs.declared.record.Record.{Record}
use Rattle.store_trait.specs.Cells.{as_doc, as_stash}
use Rattle.store_trait.specs.Contents.{Content}
use Rattle.store_trait.specs.declared.cell.Cell.{Cell}
use Rattle.store_trait.specs.declared.name.Name.{Name}
use Rattle.store_trait.specs.declared.name.Name.TheVariants as name
use Rattle.store_trait.specs.declared.store.Store.{Ghosts}
use Rattle.store_laws.specs.Found.{IsFoundAt}
use Rattle.store_laws.specs.Soundness.{IsSound}
use Rattle.store_laws.specs.View.{look, owner_queue, settled, IsOn}
use Rattle.flush_prepare.specs.Answers.{HasRead}
use Rattle.flush_prepare.specs.Moments.{WasStored, Moment, WasRead}
use Rattle.flush_prepare.specs.Queues.{scanned}
use Rattle.flush_prepare.specs.Refusals.{IsOfStore}
use Rattle.flush_prepare.specs.declared.error.StepError.{StepError}
use Rattle.flush_prepare.specs.declared.scan.NextRead.{NextRead}
use Rattle.flush_prepare.specs.declared.scan.NextRead.TheVariants.{Document, Entry}
use Rattle.flush_prepare.specs.declared.scan.Scan.{Scan}
use Rattle.flush_prepare.specs.declared.scan.ScanStep.{ScanStep}
use Rattle.flush_prepare.specs.declared.scan.ScanStep.TheVariants.{More, Scanned, Gone}

-- ---- what a read comes to

-- the document is read first, then the stash entry
abbrev pub name_at : Key → NextRead → Name
name_at key Document = name.Doc key
name_at key (Entry doc) = name.Stash key

abbrev pub name_of : Scan → Name
name_of scan = name_at scan.key scan.next

-- with the present key done the next one follows, or all are scanned
abbrev pub answer_done : List Key → List Token → ScanStep
answer_done [] found = Scanned found
answer_done (key ∷ later) found = More

abbrev pub key_done : List Key → Scan → Scan
key_done [] scan = record scan { found = [] }
key_done (key ∷ later) scan = record scan { key = key; later = later; next = Document }

-- what is taken from the owner queue is found; where the record's token should be there and isn't, it is
-- gone
abbrev pub answer_by : Scan → Option (List Token) → ScanStep
answer_by scan None = Gone
answer_by scan (Some tokens) = answer_done scan.later (scan.found ++ tokens)

abbrev pub after_by : Scan → Option (List Token) → Scan
after_by scan None = scan
after_by scan (Some tokens) = key_done scan.later (record scan { found = scan.found ++ tokens })

abbrev pub answer_at : Scan → NextRead → Option Cell → ScanStep
answer_at scan Document found = More
answer_at scan (Entry doc) found =
    answer_by scan (scanned scan.rec (owner_queue doc (option_and_then as_stash found)))

abbrev pub after_at : Scan → NextRead → Option Cell → Scan
after_at scan Document found = record scan { next = Entry (option_and_then as_doc found) }
after_at scan (Entry doc) found =
    after_by scan (scanned scan.rec (owner_queue doc (option_and_then as_stash found)))

abbrev pub answer_to : Scan → Option Cell → ScanStep
answer_to scan found = answer_at scan scan.next found

abbrev pub after_read : Scan → Option Cell → Scan
after_read scan found = after_at scan scan.next found

-- A step is one read, whose answer says what it comes to; or it is refused, and the scan stays.
pub data ScanGoes {S : Type 0} (store : Ghosts S) (old : S) (scan : Scan)
    (result : Result ScanStep StepError) (next : Scan) (new : S) : Type 0 where
  ByRead : (found : Option Cell) → HasRead store old (name_of scan) found new
      → result ≡ Ok (answer_to scan found) → next ≡ after_read scan found
      → ScanGoes store old scan result next new
  Refused : (error : StepError) → IsOfStore error → result ≡ Err error → next ≡ scan
      → ScanGoes store old scan result next new

-- ---- how many steps there are

abbrev pub due_at : ℕ → NextRead → ℕ
due_at later Document = 2 * later + 2
due_at later (Entry doc) = 2 * later + 1

-- how many steps are left at most, the last one counted
abbrev pub due : Scan → ℕ
due scan = due_at (length scan.later) scan.next

abbrev pub ComesNearer : Scan → ScanStep → Scan → Type 0
ComesNearer old More new = due new < due old
ComesNearer old _ new = Unit {0}

-- ---- what a scan knows

-- what was found on a key
pub record KeyScan : Type 0 where
  pub key : Key
  pub tokens : List Token

-- it is what stands before the record's own token as if at such a moment
pub record WasScanned (c : Content) (rec : Record) (s : KeyScan) : Type 0 where
  pub moment : Moment c rec
  pub taken : scanned rec ((look moment.at).queue_at s.key) ≡ Some s.tokens

-- The tokens found on keys, one key after the other.
pub record HasScanned (c : Content) (rec : Record) (keys : List Key) (found : List Token)
    : Type 0 where
  pub scans : List KeyScan
  pub each : All (WasScanned c rec) scans
  pub keys_are : map (λ (s : KeyScan). s.key) scans ≡ keys
  pub found_is : flat_map (λ (s : KeyScan). s.tokens) scans ≡ found

abbrev pub NextIsWorth : Content → Scan → NextRead → Type 0
NextIsWorth c scan Document = Unit {0}
NextIsWorth c scan (Entry doc) = WasRead c scan.rec scan.key doc

-- The record is there, or further on; the keys done were scanned; and the document, if it was read, is
-- one as if read at a moment up to now.
pub record IsScanning (c : Content) (scan : Scan) : Type 0 where
  pub sound : IsSound c
  pub stored : WasStored c scan.rec
  pub prepared : was_prepared_state scan.rec.state ≡ true
  pub done : List Key
  pub keys : keys_of scan.rec.ops ≡ done ++ scan.key ∷ scan.later
  pub found : HasScanned c scan.rec done scan.found
  pub next : NextIsWorth c scan scan.next

-- what a step comes to: all keys were scanned, or the record was settled by others, or the scan goes on
abbrev pub ComesTo : Content → Scan → Result ScanStep StepError → Type 0
ComesTo c scan (Ok (Scanned found)) = HasScanned c scan.rec (keys_of scan.rec.ops) found
ComesTo c scan (Ok Gone) = IsScanning c scan × (settled (look c) scan.rec.id ≡ true)
ComesTo c scan (Ok More) = IsScanning c scan
ComesTo c scan (Err error) = IsScanning c scan

-- a token that was found on some key of the record
pub record IsFoundOn (c : Content) (rec : Record) (x : Token) : Type 0 where
  pub key : Key
  pub on : IsOn key rec.ops
  pub found : IsFoundAt (look c) key x rec.id
