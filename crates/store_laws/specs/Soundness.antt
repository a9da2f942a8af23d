-- What holds of every content on the way, between any two calls on the store: ten rules, each at
-- every name, over cells of their names' kinds.
use Rattle.std.specs.Prelude.{◌≡◌, ◌≢◌, ℕ, ◌<◌, Bool, true, false, ◌&&◌, not, IsTrue, IfSome, ℤ, Option, Some, None, is_some, unwrap_or, option_map, option_to_list, List, [], ◌++◌}
use Rattle.std.specs.FinMap.{get}
use Rattle.txn_key.specs.declared.id.TxnId.{TxnId}
use Rattle.txn_key.specs.declared.id.Token.{Token}
use Rattle.txn_key.specs.declared.key.Key.{Key}
use Rattle.txn_record.specs.Effects.{changes_fit}
use Rattle.txn_record.specs.Revnos.{follows, stays_within, is_within, is_present, is_on_chain}
use Rattle.txn_record.specs.declared.op.Op.{Op}
use Rattle.txn_record.specs.declared.op.Change.{Change}
use Rattle.txn_record.specs.declared.op.Change.TheVariants as change
use Rattle.txn_record.specs.declared.record.Record.{Record}
use Rattle.txn_record.specs.declared.state.State.{State}
use Rattle.txn_record.specs.declared.state.State.TheVariants as state
use Rattle.store_trait.specs.Names.{same_state, may_stand}
use Rattle.store_trait.specs.Contents.{Content}
use Rattle.store_trait.specs.Owners.{owner_of, epoch}
use Rattle.store_laws.specs.Meaning.{pending_of, bodies}
use Rattle.store_laws.specs.View.{View, look, record_at, doc_at, stash_at, counter, was_decided, applying, is_queued_state, HasKey, IsOn, held_number}
use Rattle.store_laws.specs.Readiness.{token, In, Before, IsReady, Sealed}
use Rattle.store_laws.specs.Chains.{IsAt}
use Rattle.store_trait.specs.declared.cell.Cell.{Cell}
use Rattle.store_trait.specs.declared.cell.Cell.TheVariants as cell
use Rattle.store_trait.specs.declared.cell.DocCell.{DocCell}
use Rattle.store_trait.specs.declared.cell.StashCell.{StashCell}
use Rattle.store_trait.specs.declared.name.Name.{Name}
use Rattle.store_trait.specs.declared.name.Name.TheVariants as name
use Rattle.store_trait.specs.declared.side.Side.TheVariants as side

-- Numbers of each cell.

abbrev pub has_revnos : State → Bool
has_revnos state.Applying = true
has_revnos state.Applied = true
has_revnos _ = false

abbrev pub agree : Bool → Bool → Bool
agree true b = b
agree false b = not b

-- a nonce exactly where the record isn't preparing, a chain of revision numbers exactly where it is
-- applying or applied
abbrev pub is_numbered_record : Record → Bool
is_numbered_record rec =
    agree (is_some rec.nonce) (not (same_state rec.state state.Preparing))
    && agree (is_some rec.revnos) (has_revnos rec.state)
    && unwrap_or
    (option_map (λ revnos. follows rec.ops revnos && stays_within rec.ops revnos) rec.revnos) true

abbrev pub is_numbered : Cell → Bool
is_numbered (cell.Record rec) = is_numbered_record rec
is_numbered (cell.Doc doc) = is_present doc.revno && is_within doc.revno
is_numbered (cell.Stash stash) = not (is_present stash.revno) && is_within stash.revno
is_numbered (cell.Nonce counter) = true

-- Tokens of each cell.

abbrev pub tokens_of_doc : DocCell → List Token
tokens_of_doc doc = doc.queue ++ option_to_list doc.remove

abbrev pub tokens_of_stash : StashCell → List Token
tokens_of_stash stash = stash.queue ++ option_to_list stash.insert

-- the tokens of a queue and of a mark are of present records that have the cell's key, and no token
-- stands twice in the queue
pub record HasSoundTokens (view : View) (key : Key) (queue tokens : List Token) : Type 0 where
  pub named : (x : Token) → In x tokens → HasKey view x.id key
  pub once : (x : Token) → Before x x queue → ⊥

-- the tokens of a cell under its key
abbrev pub HasTokens : View → Name → Cell → Type 0
HasTokens view (name.Doc key) (cell.Doc doc) =
    HasSoundTokens view key doc.queue (tokens_of_doc doc)
HasTokens view (name.Stash key) (cell.Stash stash) =
    HasSoundTokens view key stash.queue (tokens_of_stash stash)
HasTokens view _ _ = Unit {0}

abbrev pub AllBelow : ℕ → List Token → Type 0
AllBelow limit tokens = (x : Token) → In x tokens → x.nonce < limit

-- each nonce in a cell is below a limit
abbrev pub NoncesBelow : ℕ → Cell → Type 0
NoncesBelow limit (cell.Record rec) = IfSome rec.nonce (λ nonce. nonce < limit)
NoncesBelow limit (cell.Doc doc) = AllBelow limit (tokens_of_doc doc)
NoncesBelow limit (cell.Stash stash) = AllBelow limit (tokens_of_stash stash)
NoncesBelow limit (cell.Nonce counter) = Unit {0}

-- Records.

-- the token of a prepared or applying record stands in the owner queue of each of its keys
abbrev pub IsInQueues : Content → TxnId → Type 0
IsInQueues c id =
    (rec : Record) (nonce : ℕ) (key : Key) → record_at c id ≡ Some rec
    → IsTrue (is_queued_state rec.state) → rec.nonce ≡ Some nonce → IsOn key rec.ops
    → In (token id nonce) ((look c).queue_at key)

-- What an applying record finds: each key's owner stands at a number of the record's chain on the
-- key, its end included. With no cell that number is -1.
pub record StandsOnChain (view : View) (rec : Record) : Type 0 where
  pub on_chain : (key : Key) → IsOn key rec.ops
      → is_on_chain key (held_number (view.held_at key)) rec.ops (unwrap_or rec.revnos []) ≡ true

-- what an applying record has still to do fits the bodies that it finds, as its operations run
abbrev pub PendingFits : Content → Record → Type 0
PendingFits c rec = changes_fit (pending_of (look c) rec) (bodies c) ≡ true

-- of an applying record
abbrev pub IfApplying : Content → (Record → Type 0) → TxnId → Type 0
IfApplying c P id =
    (rec : Record) → record_at c id ≡ Some rec → IsTrue (same_state state.Applying rec.state)
    → P rec

-- Marks and stash entries.

abbrev pub is_removal : Change → Bool
is_removal change.Remove = true
is_removal _ = false

abbrev pub is_insertion : Change → Bool
is_insertion (change.Insert _) = true
is_insertion _ = false

-- a mark is the valid token of an applying record that has on this key, at the owner's number, an
-- operation of a kind
pub record IsMarkOf (view : View) (key : Key) (mark : Token) (is_kind : Change → Bool)
    : Type 0 where
  pub rec : Record
  pub there : view.record_at mark.id ≡ Some rec
  pub applies : rec.state ≡ state.Applying
  pub nonce : rec.nonce ≡ Some mark.nonce
  pub numbers : List ℤ
  pub numbered : rec.revnos ≡ Some numbers
  pub op : Op
  pub stands : IsAt op (held_number (view.held_at key)) rec.ops numbers
  pub on : op.key ≡ key
  pub kind : is_kind op.change ≡ true

-- a document that owns its key is marked for a removal, a stash entry for an insertion
abbrev pub IsMarkedSoundly : Content → Name → Type 0
IsMarkedSoundly c (name.Doc key) =
    (doc : DocCell) (mark : Token) → doc_at c key ≡ Some doc → doc.remove ≡ Some mark
    → owner_of (doc_at c key) (stash_at c key) ≡ side.Document
    → IsMarkOf (look c) key mark is_removal
IsMarkedSoundly c (name.Stash key) =
    (stash : StashCell) (mark : Token) → stash_at c key ≡ Some stash → stash.insert ≡ Some mark
    → owner_of (doc_at c key) (stash_at c key) ≡ side.Stash
    → IsMarkOf (look c) key mark is_insertion
IsMarkedSoundly c _ = Unit {0}

-- a stash entry's epoch is not the document's, and unmarked it owns its key
pub record IsSoundEntry (doc : Option DocCell) (stash : StashCell) : Type 0 where
  pub no_tie : (d : DocCell) → doc ≡ Some d → epoch d.revno ≢ epoch stash.revno
  pub owns : stash.insert ≡ None → owner_of doc (Some stash) ≡ side.Stash

abbrev pub HasSoundEntry : Content → Name → Type 0
HasSoundEntry c (name.Stash key) =
    (stash : StashCell) → stash_at c key ≡ Some stash → IsSoundEntry (doc_at c key) stash
HasSoundEntry c _ = Unit {0}

-- The rules by name.

-- of the cell under a name, where there is one
abbrev pub AtCell : Content → (Cell → Type 0) → Name → Type 0
AtCell c P n = (x : Cell) → get c n ≡ Some x → P x

-- of a record's name; nothing is asked at other names
abbrev pub AtRecord : (TxnId → Type 0) → Name → Type 0
AtRecord P (name.Record id) = P id
AtRecord P _ = Unit {0}

-- the ten rules, in the order of their numbers, from 1
pub data Rule : Type 0 where
  Numbers : Rule
  Tokens : Rule
  Nonces : Rule
  InQueues : Rule
  AppliesReady : Rule
  DecidedSealed : Rule
  Marks : Rule
  Entries : Rule
  OnChain : Rule
  Fits : Rule

abbrev pub rule_number : Rule → ℕ
rule_number Numbers = 1
rule_number Tokens = 2
rule_number Nonces = 3
rule_number InQueues = 4
rule_number AppliesReady = 5
rule_number DecidedSealed = 6
rule_number Marks = 7
rule_number Entries = 8
rule_number OnChain = 9
rule_number Fits = 10

-- a rule holds of a content at a name
abbrev pub Holds : Rule → Content → Name → Type 0
Holds Numbers c n = AtCell c (λ x. is_numbered x ≡ true) n
Holds Tokens c n = AtCell c (HasTokens (look c) n) n
Holds Nonces c n = AtCell c (NoncesBelow (counter c)) n
Holds InQueues c n = AtRecord (IsInQueues c) n
Holds AppliesReady c n = AtRecord (λ id. applying (look c) id ≡ true → IsReady (look c) id) n
Holds DecidedSealed c n = AtRecord (λ id. was_decided (look c) id ≡ true → Sealed (look c) id) n
Holds Marks c n = IsMarkedSoundly c n
Holds Entries c n = HasSoundEntry c n
Holds OnChain c n = AtRecord (IfApplying c (StandsOnChain (look c))) n
Holds Fits c n = AtRecord (IfApplying c (PendingFits c)) n

-- each cell is of its name's kind, as in every store, and the ten rules hold at every name
pub record IsSound (c : Content) : Type 0 where
  pub kinds : (n : Name) (x : Cell) → get c n ≡ Some x → may_stand n x ≡ true
  pub rules : (rule : Rule) (n : Name) → Holds rule c n
