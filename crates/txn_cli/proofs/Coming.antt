-- How far a call has come in its script, from line to line.
use Rattle.std.proofs.Common.{◌≡◌, ◌≢◌, ◌≤◌, ℕ, ◌+◌, arith, Bool, true, List, [], ◌∷◌, ◌++◌, Option, Some, None, Result, Ok, IsTrue, ⊎_elim, refl, sym, ap, ◌∙◌, subst, add-one}
use Rattle.store_trait.specs.Contents.{Content}
use Rattle.store_trait.specs.Stores.{CallsGoOn}
use Rattle.store_trait.specs.declared.store.Store.{Ghosts}
use Rattle.txn_io.specs.Lines.{LinesView, after_line, limit_passed, reading, unless_passed}
use Rattle.txn_io.specs.declared.lines.LineFault.{LineFault}
use Rattle.txn_io.specs.Unread.{Unread, HasRead, unread}
use Rattle.txn_io.specs.declared.source.Source.{Ghosts as SourceGhosts}
use Rattle.txn_io.specs.declared.sink.Sink.{Ghosts as SinkGhosts}
use Rattle.txn_script.specs.Statements.{line_in}
use Rattle.txn_play.specs.Progress.{Progress}
use Rattle.txn_play.specs.Sessions.{Stands, at}
use Rattle.txn_play.specs.declared.answer.Answer.{Answer}
use Rattle.txn_play.specs.declared.answer.Answer.TheVariants.{}
use Rattle.txn_play.specs.declared.session.Session.{Session}
use Rattle.txn_cli.specs.Call.{start}
use Rattle.txn_cli.specs.Line.{Between, HasDone, HasDoneLine, HasRunFirst, RunsFirst}
use Rattle.txn_cli.specs.Output.{Writing, Wrote, answer_text, answers_text, writing}
use Rattle.txn_cli.specs.Script.{HasLines, Plays, PlaysAs, after_lines, line_lets_run, next_lets_run, next_of, taken_by}
use Rattle.txn_cli.proofs.Scripts.{first_as, lets_next, plays_still, wrote_more, wrote_none}

-- a script was done up to its nth line, and this is unread
pub record IsAt (script : List ℕ) (trail : ℕ → Content) (begun : Progress) (n : ℕ) (p : Progress) (answers : List Answer) (left : Unread) : Type 0 where
  pub plays : Plays script trail begun n p answers
  pub rest : after_lines n script ≡ left.left
  pub taken : taken_by n script ≡ left.taken

-- a script was read up to its nth line, and this is unread
pub record IsReadTo (script : List ℕ) (n : ℕ) (left : Unread) : Type 0 where
  pub there : HasLines n script
  pub rest : after_lines n script ≡ left.left
  pub taken : taken_by n script ≡ left.taken

-- what comes next in the script is what a read answers
pub next_to : (script : List ℕ) (n : ℕ) (left : Unread) (r : Result (Option (List ℕ)) LineFault) → IsReadTo script n left → reading left.taken left.left ≡ r → next_of n script ≡ r
next_to script n left r a read = rw (a.taken, a.rest) read

-- where a line is read, bytes are left
some_left : (taken : ℕ) (left line : List ℕ) → reading taken left ≡ Ok (Some line) → left ≢ []
some_left taken (byte ∷ left) line read = λ none. cc
some_left taken [] line read = absurd (by (limit_passed taken 0 0) read)
  where
    by : (passed : Option LineFault) → unless_passed passed None ≡ Ok (Some line) → ⊥
    by None e = absurd (cc e)
    by (Some fault) e = absurd (cc e)

-- one line more was read
pub reads_on : (script : List ℕ) (n : ℕ) (left new : Unread) (line : List ℕ) → IsReadTo script n left → HasRead left new (Some line) → IsReadTo script (n + 1) new
reads_on script n left new line a read = record {
  there = rw add-one (λ none. some_left left.taken left.left line read.line (sym a.rest ∙ none));
  rest = rw add-one (ap after_line a.rest ∙ sym read.left);
  taken = rw (add-one, a.taken, a.rest) (sym read.taken);
}

-- what was read is what comes next in the script
pub next_is : (script : List ℕ) (trail : ℕ → Content) (begun : Progress) (n : ℕ) (p : Progress) (answers : List Answer) (left new : Unread) (line : Option (List ℕ))
    → IsAt script trail begun n p answers left → HasRead left new line → next_of n script ≡ Ok line
next_is script trail begun n p answers left new line a read = rw (a.taken, a.rest) read.line

-- the first lines of a script were done, up to where the session is, and what they print was written
pub record HasCome {S : Type 0} (store : Ghosts S) (script : List ℕ) (trail : ℕ → Content) (begun : Progress) (n : ℕ) (left : Unread) (session : Session S) (w : Writing) : Type 0 where
  pub answers : List Answer
  pub at : IsAt script trail begun n (at store session) answers left
  pub writes : Wrote w (answers_text answers)

-- what holds between two lines of a script, since the call began: so many lines were done
pub record IsReading {S I O : Type 0} (store : Ghosts S) (source : SourceGhosts I) (sink : SinkGhosts O) (old new : Session S) (old_input input : I) (old_output output : O) (lines : LinesView) (done : ℕ) : Type 0 where
  pub counted : done ≤ lines.taken
  pub within : lines.taken ≤ 268435456
  pub unrefused : lines.fault ≡ None
  pub output_later : sink.faults old_output ≤ sink.faults output
  pub input_later : source.faults old_input ≤ source.faults input
  pub made : CallsGoOn store old.store new.store
  pub stands : Stands store new
  pub read : IsTrue source.tells → IsReadTo (source.rest old_input) done (unread source lines input)
  pub come : IsTrue source.tells → IsTrue store.tells
      → HasCome store (source.rest old_input) (store.trail new.store) (start store old.store) done (unread source lines input) new (writing sink old_output output)

module _ {S : Type 0} (store : Ghosts S) (script : List ℕ) (begun : Progress) (n : ℕ) (left : Unread) (tells : Bool) (before : List ℕ) where
  abbrev written : List ℕ → Writing
  written after = record { tells = tells; before = before; after = after }

  -- further calls on the store
  pub comes_still : (old new : ℕ → Content) (session : Session S) (w : Writing) → ((k : ℕ) → k ≤ store.calls session.store → new k ≡ old k)
      → HasCome store script old begun n left session w → HasCome store script new begun n left session w
  comes_still old new session w same h = record {
    answers = h.answers;
    at = record { plays = plays_still script old new begun (store.calls session.store) same n (at store session) h.answers (omega arith) h.at.plays; rest = h.at.rest; taken = h.at.taken };
    writes = h.writes;
  }

  -- a batch was run first, where it was let
  pub comes_first : (trail : ℕ → Content) (lets : Bool) (session next : Session S) (now after : List ℕ)
      → HasCome store script trail begun n left session (written now) → (lets ≡ true → next_lets_run (next_of n script) ≡ true)
      → HasDone store (RunsFirst lets) session next (record { tells = tells; before = now; after = after })
      → store.calls session.store ≤ store.calls next.store → trail (store.calls next.store) ≡ store.content next.store
      → HasCome store script trail begun n left next (written after)
  comes_first trail lets session next now after h may done later here = ⊎_elim
      (λ same. record {
        answers = h.answers;
        at = record { plays = subst (λ (p : Progress). Plays script trail begun n p h.answers) (sym same.0) h.at.plays; rest = h.at.rest; taken = h.at.taken };
        writes = wrote_none tells before now after h.answers h.writes (λ told. done.writes told ∙ ap (λ (a : Answer). now ++ answer_text a) same.1);
      })
      (λ ran. record {
        answers = h.answers ++ done.answer ∷ [];
        at = record {
          plays = Plays.Batch n (at store session) (at store next) h.answers done.answer h.at.plays (may ran.0) ran.1 (record { later = later; stands = here });
          rest = h.at.rest;
          taken = h.at.taken;
        };
        writes = wrote_more tells before now after h.answers done.answer h.writes done.writes;
      })
      (first_as lets (at store session) (at store next) done.answer done.did)

  -- a line was done
  pub comes_line : (trail : ℕ → Content) (session next : Session S) (line : List ℕ) (new : Unread) (now after : List ℕ)
      → HasCome store script trail begun n left session (written now) → HasRead left new (Some line)
      → HasDone store (PlaysAs (line_in line)) session next (record { tells = tells; before = now; after = after })
      → store.calls session.store ≤ store.calls next.store → trail (store.calls next.store) ≡ store.content next.store
      → HasCome store script trail begun (n + 1) new next (written after)
  comes_line trail session next line new now after h read done later here = record {
    answers = h.answers ++ done.answer ∷ [];
    at = record {
      plays = Plays.Line n line (at store session) (at store next) h.answers done.answer h.at.plays (next_is script trail begun n (at store session) h.answers left new (Some line) h.at read) done.did (record { later = later; stands = here });
      rest = rw add-one (ap after_line h.at.rest ∙ sym read.left);
      taken = rw (add-one, h.at.taken, h.at.rest) (sym read.taken);
    };
    writes = wrote_more tells before now after h.answers done.answer h.writes done.writes;
  }

  -- a batch was run first, and what lies between
  pub comes_between : (old new : ℕ → Content) (line : List ℕ) (session next : Session S) (now after : List ℕ) (between : Between S)
      → new ≡ store.trail next.store → ((k : ℕ) → k ≤ store.calls session.store → new k ≡ old k)
      → HasCome store script old begun n left session (written now) → next_of n script ≡ Ok (Some line)
      → HasRunFirst store line session next (record { tells = tells; before = now; after = after }) between
      → HasCome store script new begun n left between.session (written between.written)
  comes_between old new line session next now after between is same h first ran =
      comes_first new (line_lets_run (line_in line)) session between.session now between.written (comes_still old new session (written now) same h)
      (λ lets. lets_next n script line first lets) ran.ran ran.since (ap (λ (t : ℕ → Content). t (store.calls between.session.store)) is ∙ ran.stands)

  -- a line was done, in both its steps
  pub comes_further : (old : ℕ → Content) (line : List ℕ) (session next : Session S) (new : Unread) (now after : List ℕ)
      → ((k : ℕ) → k ≤ store.calls session.store → store.trail next.store k ≡ old k)
      → store.trail next.store (store.calls next.store) ≡ store.content next.store
      → HasCome store script old begun n left session (written now) → HasRead left new (Some line)
      → HasDoneLine store line session next (record { tells = tells; before = now; after = after })
      → HasCome store script (store.trail next.store) begun (n + 1) new next (written after)
  comes_further old line session next new now after same here h read d =
      comes_line (store.trail next.store) d.between.session next line new d.between.written after
      (comes_between old (store.trail next.store) line session next now after d.between refl same h (next_is script old begun n (at store session) h.answers left new (Some line) h.at read) d.first)
      read d.done d.first.later here
