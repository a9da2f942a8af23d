-- A script has fewer transactions than there are nonces, or numbers for a document.
use Rattle.std.proofs.Common.{◌≡◌, ℕ, [], ◌∷◌, cond, false, unwrap_or, ◌+◌, ◌≤◌, Bool, true, Option, Some, None, Result, Ok, Err, List, length, sym, ap, ◌∙◌, subst, arith, IsTrue}
use Rattle.std.specs.FinMap.{empty, get, get-empty, insert, get-insert}
use Rattle.std.specs.Option.{option_and_then}
use Rattle.std.specs.Ordering.{eq_by_cmp}
use Rattle.std.proofs.lemmas.List.{length-append}
use Rattle.doc_value.specs.declared.value.Value.{Value}
use Rattle.txn_key.specs.declared.key.Key.{Key}
use Rattle.store_trait.proofs.NameOrder.{name_cmp_total}
use Rattle.store_trait.specs.Cells.{as_counter, as_doc}
use Rattle.store_trait.specs.Contents.{Content}
use Rattle.store_trait.specs.Names.{name_cmp}
use Rattle.store_laws.specs.View.{counter, doc_at}
use Rattle.store_trait.specs.declared.cell.Cell.{Cell}
use Rattle.store_trait.specs.declared.name.Name.TheVariants as name
use Rattle.txn_runner.specs.Numbers.{Suffices, size_of, number_at}
use Rattle.txn_runner.specs.declared.waiting.Waiting.{Waiting}
use Rattle.txn_script.specs.Statements.{line_in}
use Rattle.txn_script.specs.declared.fault.ScriptFault.{ScriptFault}
use Rattle.txn_script.specs.declared.statement.Statement.{Statement}
use Rattle.txn_script.specs.declared.statement.Statement.TheVariants as statement
use Rattle.txn_play.specs.Progress.{Progress, opening, placed_doc, RunsBatch, Performs, Tells}
use Rattle.txn_play.specs.declared.answer.Answer.{Answer}
use Rattle.txn_play.proofs.Opening.{none_is_empty}
use Rattle.txn_cli.specs.Script.{PlaysAs, Plays}

-- so many nonces and numbers of a document at most were used, or may still be
record Bounds (p : Progress) (n : ℕ) : Type 0 where
  nonces : counter p.content + length p.waiting ≤ n
  numbers : (key : Key) → number_at p.content key + length p.waiting ≤ n

bounds_more : (p : Progress) (n : ℕ) → Bounds p n → Bounds p (n + 1)
bounds_more p n b = record { nonces = omega (arith, b.nonces); numbers = λ key. omega (arith, b.numbers key) }

-- ---- a document is placed

counter_placed : (c : Content) (key : Key) (body : Value) → counter (insert c (name.Doc key) (placed_doc body)) ≡ counter c
unfolding counter
counter_placed c key body = ap (λ (o : Option Cell). unwrap_or (option_and_then as_counter o) 0) (get-insert name_cmp_total c (name.Doc key) (placed_doc body) name.Nonce)

number_placed : (c : Content) (key : Key) (body : Value) (other : Key) → number_at (insert c (name.Doc key) (placed_doc body)) other ≤ number_at c other
unfolding doc_at
number_placed c key body other =
    subst (λ (o : Option Cell). size_of (option_and_then as_doc o) ≤ number_at c other) (sym (get-insert name_cmp_total c (name.Doc key) (placed_doc body) (name.Doc other))) (by (eq_by_cmp name_cmp (name.Doc other) (name.Doc key)))
  where
    by : (t : Bool) → size_of (option_and_then as_doc (cond t (Some (placed_doc body)) (get c (name.Doc other)))) ≤ size_of (option_and_then as_doc (get c (name.Doc other)))
    by true = omega arith
    by false = omega arith

-- ---- what each statement uses

ran : (p q : Progress) (said : Answer) (n : ℕ) → Bounds p n → RunsBatch p q said → Bounds q n
ran p q said n b r =
    let u = r.ran.ran.uses in
    subst (λ (w : List Waiting). Bounds (record q { waiting = w }) n) (sym r.none_waits)
    (record { nonces = omega (arith, b.nonces, u.counter); numbers = λ key. omega (arith, b.numbers key, u.numbers key) })

-- where documents alone were placed
abbrev BoundsAlone : Progress → ℕ → Type 0
BoundsAlone p n = IsTrue p.documents_alone → Bounds p n

told : (p q : Progress) (said expected : Answer) (n : ℕ) → BoundsAlone p n → Tells p q said expected → BoundsAlone q (n + 1)
told p q said expected n b t = subst (λ (x : Progress). BoundsAlone x (n + 1)) (sym t.stays) (λ alone. record { nonces = omega (arith, (b alone).nonces); numbers = λ key. omega (arith, (b alone).numbers key) })

does : (s : Statement) (p q : Progress) (said : Answer) (n : ℕ) → BoundsAlone p n → Performs s p q said → BoundsAlone q (n + 1)
does (statement.Doc key body) p q said n b is = subst (λ (x : Progress). BoundsAlone x (n + 1)) (sym is.0) (λ alone. record {
  nonces = omega (arith, (b alone).nonces, counter_placed p.content key body);
  numbers = λ other. omega (arith, (b alone).numbers other, number_placed p.content key body other);
})
does (statement.Place at placed) p q said n b is = subst (λ (x : Progress). BoundsAlone x (n + 1)) (sym is.0) (λ alone. absurd (cc))
does (statement.Submit id ops info) p q said n b is = subst (λ (x : Progress). BoundsAlone x (n + 1)) (sym is.0) (λ alone. record {
  nonces = omega (arith, (b alone).nonces, length-append p.waiting (record { id = id; ops = ops; info = info } ∷ []));
  numbers = λ key. omega (arith, (b alone).numbers key, length-append p.waiting (record { id = id; ops = ops; info = info } ∷ []));
})
does (statement.Go plan) p q said n b runs = λ alone. bounds_more q n (ran p q said n (b (sym runs.alone ∙ alone)) runs)
does (statement.Resume id) p q said n b none = elim none [ ]
does statement.Prune p q said n b none = elim none [ ]
does statement.Purge p q said n b none = elim none [ ]
does statement.Audit p q said n b heard = told p q said _ n b heard.tells
does statement.Show p q said n b shown = told p q said _ n b shown.1
does statement.Export p q said n b shown = told p q said _ n b shown.1
does statement.Order p q said n b shown = told p q said _ n b shown

plays_as : (r : Result (Option Statement) ScriptFault) (p q : Progress) (said : Answer) (n : ℕ) → BoundsAlone p n → PlaysAs r p q said → BoundsAlone q (n + 1)
plays_as (Ok None) p q said n b same = subst (λ (x : Progress). BoundsAlone x (n + 1)) (sym same.0) (λ alone. bounds_more p n (b alone))
plays_as (Ok (Some s)) p q said n b d = does s p q said n b d.performs
plays_as (Err why) p q said n b none = elim none [ ]

counter_empty : counter empty ≡ 0
unfolding counter
counter_empty = ap (λ (o : Option Cell). unwrap_or (option_and_then as_counter o) 0) (get-empty name_cmp name.Nonce)

number_empty : (key : Key) → number_at empty key ≡ 0
unfolding doc_at
number_empty key = ap (λ (o : Option Cell). size_of (option_and_then as_doc o)) (get-empty name_cmp (name.Doc key))

begins : (c : Content) (from calls : ℕ) → BoundsAlone (record (opening c from) { calls = calls }) 0
begins c from calls alone = subst (λ (x : Content). Bounds (record (opening x from) { calls = calls }) 0) (sym (none_is_empty c alone)) (record { nonces = omega (arith, counter_empty); numbers = λ key. omega (arith, number_empty key) })

bounded : (script : List ℕ) (trail : ℕ → Content) (c : Content) (from : ℕ) (n : ℕ) (p : Progress) (answers : List Answer) → Plays script trail (opening c from) n p answers → BoundsAlone p n
bounded script trail c from _ _ _ (Plays.Opens calls follows) = begins c from calls
bounded script trail c from _ _ _ (Plays.Line m line p q answers said plays first did follows) = plays_as (line_in line) p q said m (bounded script trail c from m p answers plays) did
bounded script trail c from _ _ _ (Plays.Batch m p q answers said plays lets batch follows) = λ alone. ran p q said m (bounded script trail c from m p answers plays (sym batch.runs.alone ∙ alone)) batch.runs

pub suffices_at : (script : List ℕ) (trail : ℕ → Content) (c : Content) (from : ℕ) (n : ℕ) (p : Progress) (answers : List Answer) → Plays script trail (opening c from) n p answers → n ≤ 268435456
    → IsTrue p.documents_alone → Suffices p.content (length p.waiting)
suffices_at script trail c from n p answers plays short alone =
    let b = bounded script trail c from n p answers plays alone in
    record { nonces = omega (arith, b.nonces, short); numbers = λ key. omega (arith, b.numbers key, short) }
