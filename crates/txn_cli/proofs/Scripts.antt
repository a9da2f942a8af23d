-- How a script goes on by one line or by a batch.
use Rattle.std.proofs.Common.{◌≡◌, ℕ, ◌≤◌, arith, Bool, true, false, List, [], ◌∷◌, ◌++◌, Option, Some, None, Ok, IsTrue, ◌⊎◌, inl, inr, refl, ap, ◌∙◌}
use Rattle.std.proofs.lemmas.List.{append-nil, flat_map_more}
use Rattle.store_trait.specs.Contents.{Content}
use Rattle.txn_io.specs.Lines.{first_line, after_line, reading, unless_passed, limit_passed}
use Rattle.txn_io.specs.declared.lines.LineFault.{LineFault}
use Rattle.txn_runner.specs.declared.waiting.Waiting.{Waiting}
use Rattle.txn_script.specs.Statements.{line_in}
use Rattle.txn_play.specs.Progress.{Progress, RunsItself}
use Rattle.txn_play.specs.declared.answer.Answer.{Answer}
use Rattle.txn_play.specs.declared.answer.Answer.TheVariants.{Nothing}
use Rattle.txn_cli.specs.Line.{RunsFirst, RunsWaiting}
use Rattle.txn_cli.specs.Output.{answer_text, answers_text}
use Rattle.txn_cli.specs.Script.{Plays, line_lets_run, line_may_run, next_lets_run, next_may_run, next_of}

unpassed : (passed : Option LineFault) (found line : Option (List ℕ)) → unless_passed passed found ≡ Ok line → found ≡ line
unpassed None found line e = cc
unpassed (Some f) found line e = absurd (cc)

none_left : (input : List ℕ) → first_line input ≡ None → input ≡ []
none_left [] e = refl
none_left (byte ∷ bytes) e = absurd (cc)

-- where a read finds no line, nothing is left
pub read_out : (taken : ℕ) (input : List ℕ) → reading taken input ≡ Ok None → input ≡ []
read_out taken input e = none_left input (unpassed (limit_passed taken _ _) (first_line input) None e)

empty_parts : (xs ys : List ℕ) → xs ++ ys ≡ [] → ys ≡ []
empty_parts [] ys e = e
empty_parts (x ∷ xs) ys e = absurd (cc)

-- and the source has nothing left behind it
pub rest_out : (taken : ℕ) (input pending rest : List ℕ) → reading taken input ≡ Ok None → pending ++ rest ≡ after_line input → rest ≡ []
rest_out taken input pending rest read after = empty_parts pending rest (after ∙ ap after_line (read_out taken input read))

-- a trail that goes on keeps what stood on it
pub plays_still : (script : List ℕ) (old new : ℕ → Content) (start : Progress) (to : ℕ) → ((k : ℕ) → k ≤ to → new k ≡ old k)
    → (n : ℕ) (p : Progress) (answers : List Answer) → p.calls ≤ to → Plays script old start n p answers → Plays script new start n p answers
plays_still script old new start to same _ _ _ le (Plays.Opens calls follows) = Plays.Opens calls (record { later = follows.later; stands = same calls le ∙ follows.stands })
plays_still script old new start to same _ _ _ le (Plays.Line n line p q answers answer plays next did follows) =
    Plays.Line n line p q answers answer (plays_still script old new start to same n p answers (omega (arith, follows.later, le)) plays) next did
    (record { later = follows.later; stands = same q.calls le ∙ follows.stands })
plays_still script old new start to same _ _ _ le (Plays.Batch n p q answers answer plays lets ran follows) =
    Plays.Batch n p q answers answer (plays_still script old new start to same n p answers (omega (arith, follows.later, le)) plays) lets ran
    (record { later = follows.later; stands = same q.calls le ∙ follows.stands })

-- the calls of a script never fall
pub calls_rise : (script : List ℕ) (trail : ℕ → Content) (start : Progress) (n : ℕ) (p : Progress) (answers : List Answer) → Plays script trail start n p answers → start.calls ≤ p.calls
calls_rise script trail start _ _ _ (Plays.Opens calls follows) = follows.later
calls_rise script trail start _ _ _ (Plays.Line n line p q answers answer plays next did follows) = omega (arith, follows.later, calls_rise script trail start n p answers plays)
calls_rise script trail start _ _ _ (Plays.Batch n p q answers answer plays lets ran follows) = omega (arith, follows.later, calls_rise script trail start n p answers plays)

-- ---- what is written

-- the lines of one answer more
pub wrote_more : (tells : Bool) (before now after : List ℕ) (answers : List Answer) (answer : Answer)
    → (IsTrue tells → now ≡ before ++ answers_text answers) → (IsTrue tells → after ≡ now ++ answer_text answer)
    → IsTrue tells → after ≡ before ++ answers_text (answers ++ answer ∷ [])
wrote_more tells before now after answers answer so_far more told =
    more told ∙ ap (λ (l : List ℕ). l ++ answer_text answer) (so_far told) ∙ flat_map_more answer_text before answers answer

-- and none
pub wrote_none : (tells : Bool) (before now after : List ℕ) (answers : List Answer)
    → (IsTrue tells → now ≡ before ++ answers_text answers) → (IsTrue tells → after ≡ now ++ [])
    → IsTrue tells → after ≡ before ++ answers_text answers
wrote_none tells before now after answers so_far none told = none told ∙ append-nil now ∙ so_far told

-- ---- a batch that runs by itself

-- where a batch is let run first, one runs, or nothing changes
pub first_as : (b : Bool) (p q : Progress) (answer : Answer) → RunsFirst b p q answer → ((q ≡ p) × (answer ≡ Nothing)) ⊎ ((b ≡ true) × RunsItself p q answer)
first_as false p q answer same = inl same
first_as true p q answer ran = by p.waiting ran
  where
    by : (waiting : List Waiting) → RunsWaiting waiting p q answer → ((q ≡ p) × (answer ≡ Nothing)) ⊎ ((true ≡ true) × RunsItself p q answer)
    by [] same = inl same
    by (txn ∷ waiting) ran = inr (refl, ran)

pub lets_next : (n : ℕ) (script line : List ℕ) → next_of n script ≡ Ok (Some line) → line_lets_run (line_in line) ≡ true → next_lets_run (next_of n script) ≡ true
lets_next n script line next lets = ap next_lets_run next ∙ lets

pub may_next : (n : ℕ) (script line : List ℕ) → next_of n script ≡ Ok (Some line) → line_may_run (line_in line) ≡ true → next_may_run (next_of n script) ≡ true
may_next n script line next may = ap next_may_run next ∙ may
