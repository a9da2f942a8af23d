-- How far a script has come, and what each statement does to that.
use Rattle.std.specs.Prelude.{◌≡◌, ◌≢◌, ◌≤◌, ℕ, ◌&&◌, ◌||◌, ◌==◌, Bool, true, false, not, nat_le, pos, List, [], ◌∷◌, ◌++◌, length, map, Option, Some, None, is_none, if◌then◌else◌}
use Rattle.std.specs.FinMap.{entries, get, insert}
use Rattle.std.specs.List.{flat_map, list_all}
use Rattle.doc_value.specs.declared.value.Value.{Value}
use Rattle.txn_key.specs.declared.id.TxnId.{TxnId}
use Rattle.txn_record.specs.declared.op.Op.{Op}
use Rattle.txn_record.specs.Orders.{after, legal}
use Rattle.txn_record.specs.declared.entry.Entry.{Entry}
use Rattle.store_trait.specs.Contents.{Content, first_past, named}
use Rattle.store_trait.specs.Names.{may_stand}
use Rattle.store_trait.specs.declared.cell.Cell.{Cell}
use Rattle.store_trait.specs.declared.cell.Cell.TheVariants as cell
use Rattle.store_trait.specs.declared.cell.Named.{Named}
use Rattle.store_trait.specs.declared.name.Name.{Name}
use Rattle.store_trait.specs.declared.name.Name.TheVariants as name
use Rattle.store_laws.specs.Meaning.{meaning}
use Rattle.store_laws.specs.Steps.{IsStep}
use Rattle.store_laws.specs.View.{record_at}
use Rattle.txn_runner.specs.Built.{is_built}
use Rattle.txn_runner.specs.Calm.{IsCalm}
use Rattle.txn_runner.specs.Numbers.{Uses}
use Rattle.txn_runner.specs.Store.{has_document, has_record}
use Rattle.txn_runner.specs.declared.waiting.Waiting.{Waiting}
use Rattle.txn_script.specs.declared.plan.GoPlan.{GoPlan}
use Rattle.txn_script.specs.declared.statement.Statement.{Statement}
use Rattle.txn_script.specs.declared.statement.Statement.TheVariants as statement
use Rattle.txn_audit.specs.Audits.{PassesAudit}
use Rattle.txn_play.specs.Batches.{waits, Every, StandsIn, record_states}
use Rattle.txn_play.specs.Readings.{IsVerdict}
use Rattle.txn_play.specs.Remains.{Holding}
use Rattle.txn_play.specs.declared.answer.Answer.{Answer}
use Rattle.txn_play.specs.declared.answer.Answer.TheVariants as answer
use Rattle.txn_play.specs.declared.answer.RecordState.{RecordState}
use Rattle.txn_play.specs.declared.finding.Finding.{Finding}
use Rattle.txn_play.specs.declared.finding.Finding.TheVariants as finding
use Rattle.txn_play.specs.declared.objection.Objection.{Objection}
use Rattle.txn_play.specs.declared.objection.Objection.TheVariants as objection
use Rattle.txn_play.specs.declared.run.Run.{Run}

-- How far a script has come: what the store holds, how many calls on it were counted, the transactions
-- that wait, whether a statement stood that places nothing, whether documents alone were placed, over a
-- store that had no cell as the call began, and the Runs.
pub record Progress : Type 0 where
  pub content : Content
  pub calls : ℕ
  pub waiting : List Waiting
  pub begun : Bool
  pub documents_alone : Bool
  pub runs : List Run

-- whether a store that holds this has no cell
abbrev pub has_no_cell : Content → Bool
has_no_cell content = is_none (first_past None content)

abbrev pub holding_at : Progress → Holding
holding_at p = record { content = p.content; calls = p.calls; runs = p.runs }

-- as a call begins
abbrev pub opening : Content → ℕ → Progress
opening content calls = record {
  content = content;
  calls = calls;
  waiting = [];
  begun = false;
  documents_alone = has_no_cell content;
  runs = [];
}

-- ---- what a statement meets where it stands

-- how many transactions may wait
abbrev pub most_waiting : ℕ
most_waiting = 10000

abbrev pub is_nothing : {A : Type 0} → List A → Bool
is_nothing [] = true
is_nothing (_ ∷ _) = false

-- A batch is run where documents alone were placed.
abbrev pub unless_alone : Progress → Option Objection
unless_alone p = if p.documents_alone then None else Some objection.NotBuilt

-- A cell is placed before every statement that places nothing, under a name that has none. (One of another
-- kind than its name is no line's: see `read_line`.)
abbrev pub against_placing : Progress → Name → Cell → Option Objection
against_placing p at placed =
    if p.begun then Some objection.PlacedTooLate
    else (if is_none (get p.content at) && may_stand at placed then None
    else Some objection.PlacedTwice)

-- A transaction is settled that has one operation, which only asks or updates, on a document that is there.
abbrev pub may_settle : Content → List Op → Bool
may_settle content ops = is_built ops && list_all (λ op. has_document content op.key) ops

-- A transaction may wait where fewer than 10,000 do, and no other of its id does or has a record.
abbrev pub against_waiting : Progress → TxnId → List Op → Option Objection
against_waiting p id ops =
    if nat_le most_waiting (length p.waiting) then Some objection.TooManyWaiting
    else (if waits p.waiting id || has_record p.content id then Some objection.IdExists
    else (if may_settle p.content ops then None else Some objection.NotBuilt))

-- a document as a `doc` line places it
abbrev pub placed_doc : Value → Cell
placed_doc body = cell.Doc (record { body = body; revno = pos 0; queue = []; remove = None })

-- how a batch is run where nothing is said: by one runner, to its end
abbrev pub is_default : GoPlan → Bool
is_default plan = plan.runners == 1 && plan.seed == 0 && is_nothing plan.stops && plan.finish

-- the first objection to a statement where nothing waits that it lets run; none says that it is done
abbrev pub against : Progress → Statement → Option Objection
against p (statement.Doc key body) = against_placing p (name.Doc key) (placed_doc body)
against p (statement.Place at placed) = against_placing p at placed
against p (statement.Submit id ops info) = against_waiting p id ops
against p (statement.Go plan) = if is_default plan then unless_alone p else Some objection.NotBuilt
against p (statement.Resume id) = Some objection.NotBuilt
against p statement.Prune = Some objection.NotBuilt
against p statement.Purge = Some objection.NotBuilt
against p statement.Audit = None
against p statement.Show = None
against p statement.Export = None
against p statement.Order = None

-- whether a statement first lets a batch run that waits: each does but `txn`, `go` and what isn't built
abbrev pub lets_run : Statement → Bool
lets_run (statement.Doc key body) = true
lets_run (statement.Place at placed) = true
lets_run (statement.Submit id ops info) = false
lets_run (statement.Go plan) = false
lets_run (statement.Resume id) = false
lets_run statement.Prune = false
lets_run statement.Purge = false
lets_run statement.Audit = true
lets_run statement.Show = true
lets_run statement.Export = true
lets_run statement.Order = true

-- what stands against running a batch that waits
abbrev pub objection_at_end : Progress → Option Objection
objection_at_end p = if is_nothing p.waiting then None else unless_alone p

-- The first objection to a statement. Where it lets a batch run that waits, only that this may not run: the
-- statement is looked at once it has.
abbrev pub objection_to : Progress → Statement → Option Objection
objection_to p s =
    if lets_run s && not (is_nothing p.waiting) then objection_at_end p else against p s

-- Whether a statement may be refused by what an audit finds: where it runs a batch or shows documents by
-- anything, an export by too many cells alone.
abbrev pub may_find : Statement → Finding → Bool
may_find (statement.Go plan) found = true
may_find statement.Show found = true
may_find statement.Export finding.TooManyCells = true
may_find _ found = false

-- the same where it stands; a batch that it lets run first is refused by anything
abbrev pub may_find_at : Progress → Statement → Finding → Bool
may_find_at p s found =
    if lets_run s && not (is_nothing p.waiting) then true else may_find s found

-- ---- what a statement does

-- A batch was run over the one content, which passes an audit, and left the other: nothing went back, and
-- nobody has anything left to do. The Run's base is what the store meant, and the order is legal and leads to
-- what the store means now. Each transaction of the batch is applied or aborted and has its entry, and the
-- order has no others; no other record was touched. Each used at most one nonce, and one number of a
-- document. One runner alone takes no turns.
pub record RanBatch (old new : Content) (waiting : List Waiting) (run : Run) (states : List RecordState)
    : Type 0 where
  pub opens : PassesAudit old
  pub step : IsStep old new
  pub calm : IsCalm new
  pub base : run.base ≡ meaning old
  pub legal : legal run.base run.order ≡ true
  pub means : meaning new ≡ after run.base run.order
  pub stand : Every (StandsIn new run.order) waiting
  pub only : list_all (λ entry. waits waiting entry.id) run.order ≡ true
  pub others : (id : TxnId) → waits waiting id ≡ false → record_at new id ≡ record_at old id
  pub uses : Uses old new (length waiting) (length waiting) 0 0
  pub turns : run.turns ≡ []
  pub are : states ≡ record_states new waiting

-- A batch was run: its Run is kept behind those before it, and begins with what the store then held.
pub record HasRunBatch (old new : Holding) (waiting : List Waiting) (states : List RecordState)
    : Type 0 where
  pub run : Run
  pub ran : RanBatch old.content new.content waiting run states
  pub kept : new.runs ≡ old.runs ++ run ∷ []
  pub since : old.calls ≤ run.mark
  pub made : run.mark ≤ new.calls

-- the batch was run: nothing waits any more, there is one Run more, and the answer has the states
pub record RunsBatch (p q : Progress) (said : Answer) : Type 0 where
  pub states : List RecordState
  pub ran : HasRunBatch (holding_at p) (holding_at q) p.waiting states
  pub answers : said ≡ answer.States states
  pub none_waits : q.waiting ≡ []
  pub begun : q.begun ≡ true
  pub alone : q.documents_alone ≡ p.documents_alone

-- the cells of a content, in the order of names
abbrev pub cells_of : Content → List Named
cells_of content = map named (entries content)

-- the decisions of all Runs, in order
abbrev pub decided_in : List Run → List Entry
decided_in runs = flat_map (λ run. run.order) runs

-- nothing changes, and this is answered
pub record Tells (p q : Progress) (said expected : Answer) : Type 0 where
  pub stays : q ≡ record p { begun = true; calls = q.calls }
  pub answers : said ≡ expected

-- nothing changes, and the answer is what an audit finds, if something
pub record TellsFinding (p q : Progress) (said : Answer) : Type 0 where
  pub found : Option Finding
  pub is : IsVerdict p.content found
  pub tells : Tells p q said (answer.Audited found)

-- What a statement does, and what it answers, where nothing is against it. How many calls it takes isn't
-- said.
abbrev pub Performs : Statement → Progress → Progress → Answer → Type 0
Performs (statement.Doc key body) p q said =
    (q ≡ record p { content = insert p.content (name.Doc key) (placed_doc body); calls = q.calls })
    × (said ≡ answer.Nothing)
Performs (statement.Place at placed) p q said =
    (q ≡ record p { content = insert p.content at placed; documents_alone = false; calls = q.calls })
    × (said ≡ answer.Nothing)
Performs (statement.Submit id ops info) p q said =
    (q ≡ record p { waiting = p.waiting ++ record { id = id; ops = ops; info = info } ∷ []; begun = true; calls = q.calls })
    × (said ≡ answer.Nothing)
Performs (statement.Go plan) p q said = RunsBatch p q said
Performs (statement.Resume id) p q said = ⊥
Performs statement.Prune p q said = ⊥
Performs statement.Purge p q said = ⊥
Performs statement.Audit p q said = TellsFinding p q said
Performs statement.Show p q said =
    PassesAudit p.content × Tells p q said (answer.Documents (meaning p.content))
Performs statement.Export p q said =
    (length (entries p.content) ≤ 200000) × Tells p q said (answer.Cells (cells_of p.content))
Performs statement.Order p q said = Tells p q said (answer.Order (decided_in p.runs))

-- Nothing is against a statement, and it was done. A batch that waits has run before what lets it.
pub record Does (s : Statement) (p q : Progress) (said : Answer) : Type 0 where
  pub cleared : lets_run s ≡ true → p.waiting ≡ []
  pub allowed : objection_to p s ≡ None
  pub performs : Performs s p q said

-- whether a statement runs the batch itself
abbrev pub runs_batch : Statement → Bool
runs_batch (statement.Go plan) = true
runs_batch _ = false

-- a batch that waited was run by itself
pub record RunsItself (p q : Progress) (said : Answer) : Type 0 where
  pub allowed : p.documents_alone ≡ true
  pub waits : p.waiting ≢ []
  pub runs : RunsBatch p q said
