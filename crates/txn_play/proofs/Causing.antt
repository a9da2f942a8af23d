-- Why a statement is refused, by its reason and by what the store answered.
use Rattle.std.proofs.Common.{◌≡◌, ℕ, ◌≤◌, Result, Ok, Err, IsErrOf, IsTrue, sym, ap, subst, arith}
use Rattle.std.specs.Prelude.{IfErr}
use Rattle.txn_key.specs.declared.id.TxnId.{TxnId}
use Rattle.store_trait.specs.Calls.{Exchange, Rose}
use Rattle.store_trait.specs.Exchanges.{Exchanged}
use Rattle.store_trait.specs.Contents.{Content}
use Rattle.store_trait.specs.declared.store.Store.{Ghosts}
use Rattle.store_laws.proofs.trails.Exchanges.{joined}
use Rattle.txn_runner.specs.Causes.{HasCause as StepHasCause, LastShows, ShowsClash}
use Rattle.txn_runner.specs.Numbers.{Suffices, Uses, size_of}
use Rattle.txn_runner.specs.declared.error.StepError.{StepError}
use Rattle.txn_runner.specs.declared.error.StepError.TheVariants as step
use Rattle.txn_play.specs.Refusals.{HasCause, HasReason, IsUnspent, refusal_of_step}
use Rattle.txn_play.specs.Sessions.{IsCaused}
use Rattle.txn_play.specs.declared.refusal.Refusal.{Refusal}
use Rattle.txn_play.specs.declared.refusal.Refusal.TheVariants as refusal
use Rattle.txn_play.specs.declared.session.Session.{Session}

module _ {S : Type 0} (store : Ghosts S) where
  shows_before : (first old new : S) (Shows : Exchange → Type 0) → Exchanged store first old → LastShows store old new Shows → LastShows store first new Shows
  shows_before first old new Shows chain it = record {
    before = it.before;
    exchange = it.exchange;
    since = joined store first old it.before chain it.since;
    last = it.last;
    answer = it.answer;
    shows = it.shows;
  }

  -- what was answered in later calls was answered since before
  pub caused_before : (first old new : S) (why : Refusal) → Exchanged store first old → HasCause store old new why → HasCause store first new why
  caused_before first old new (refusal.Spent step.NoncesSpent) chain h = shows_before first old new _ chain h
  caused_before first old new (refusal.Spent (step.RevnoSpent key)) chain h = shows_before first old new _ chain h
  caused_before first old new (refusal.Broken (step.Clash id at)) chain h = shows_before first old new _ chain h
  caused_before first old new (refusal.Repeated id) chain h = shows_before first old new _ chain h
  caused_before first old new (refusal.Spent step.StoreFault) chain h = h
  caused_before first old new (refusal.Spent step.OutOfMemory) chain h = h
  caused_before first old new (refusal.Spent (step.Lost token)) chain h = h
  caused_before first old new (refusal.Spent (step.Clash id at)) chain h = h
  caused_before first old new (refusal.Broken step.StoreFault) chain h = h
  caused_before first old new (refusal.Broken step.OutOfMemory) chain h = h
  caused_before first old new (refusal.Broken step.NoncesSpent) chain h = h
  caused_before first old new (refusal.Broken (step.RevnoSpent key)) chain h = h
  caused_before first old new (refusal.Broken (step.Lost token)) chain h = h
  caused_before first old new (refusal.Objected w) chain h = tt
  caused_before first old new (refusal.Found f) chain h =
      record { before = h.before; since = joined store first old h.before chain h.since; shows = h.shows }
  caused_before first old new refusal.Store chain h = tt
  caused_before first old new refusal.OutOfMemory chain h = tt

  pub causes_before : {T : Type 0} (first old new : S) (result : Result T Refusal) → Exchanged store first old → IfErr result (HasCause store old new) → IfErr result (HasCause store first new)
  causes_before first old new (Ok x) chain h = tt
  causes_before first old new (Err why) chain h = caused_before first old new why chain h

  -- the cause of a step's refusal is that of the statement's
  pub caused_step : (old new : S) (id : TxnId) (error : StepError) → StepHasCause store old new id error → HasCause store old new (refusal_of_step error)
  caused_step old new id step.StoreFault h = tt
  caused_step old new id step.OutOfMemory h = tt
  caused_step old new id step.NoncesSpent h = h
  caused_step old new id (step.RevnoSpent key) h = h
  caused_step old new id (step.Lost token) h = h
  caused_step old new id (step.Clash who at) h = subst (λ (i : TxnId). LastShows store old new (ShowsClash i at)) (sym h.0) h.1

-- ---- where nonces and numbers suffice, none is wanting

-- what the calls for so many transactions use was there
pub unspent : (c d : Content) (n : ℕ) (why : Refusal) → Suffices c n → Uses c d n n 0 0 → HasReason d why → IsUnspent why
unspent c d n (refusal.Spent step.NoncesSpent) s u last = absurd (grind (arith, s.nonces, u.counter, last))
unspent c d n (refusal.Spent (step.RevnoSpent key)) s u last = absurd (grind (arith, s.numbers key, u.numbers key, ap size_of last.there, last.past))
unspent c d n (refusal.Spent step.StoreFault) s u last = elim last [ ]
unspent c d n (refusal.Spent (step.Lost z)) s u last = elim last [ ]
unspent c d n (refusal.Spent (step.Clash id at)) s u last = elim last [ ]
unspent c d n (refusal.Spent step.OutOfMemory) s u last = elim last [ ]
unspent c d n (refusal.Objected w) s u last = tt
unspent c d n (refusal.Found f) s u last = tt
unspent c d n refusal.Store s u last = tt
unspent c d n refusal.OutOfMemory s u last = tt
unspent c d n (refusal.Broken e) s u last = tt
unspent c d n (refusal.Repeated id) s u last = tt

-- the same, of a batch that is run once its base was listed
pub run_unspent : {T : Type 0} (r : Result T Refusal) (c listed d : Content) (n : ℕ) → Suffices c n → listed ≡ c → Uses listed d n n 0 0 → IfErr r (HasReason d) → IfErr r IsUnspent
run_unspent (Ok x) c listed d n s same u reason = tt
run_unspent (Err why) c listed d n s same u reason = unspent c d n why s (subst (λ (x : Content). Uses x d n n 0 0) same u) reason
