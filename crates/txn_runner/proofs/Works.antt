-- What the calls for one transaction make of a store: of one call, of none, and of one after another.
use Rattle.std.proofs.Common.{◌≡◌, ◌+◌, Bool, true, false, List, [], ◌∷◌, ◌++◌, ◌&&◌, Result, Ok, Err, IsErrOf, IsTrue, ◌⊎◌, inl, inr, refl, sym, ap, ◌∙◌, subst, arith}
use Rattle.std.specs.List.{list_all}
use Rattle.std.proofs.lemmas.List.Folds.{list_all-append}
use Rattle.txn_key.specs.declared.id.TxnId.{TxnId}
use Rattle.txn_record.specs.declared.entry.Entry.{Entry}
use Rattle.txn_record.specs.declared.record.Record.{Record}
use Rattle.store_trait.specs.Exchanges.{Exchanged}
use Rattle.store_trait.specs.Stores.{OneCall}
use Rattle.store_trait.specs.declared.edit.Edit.{Edit}
use Rattle.store_trait.specs.declared.name.Name.{Name}
use Rattle.store_trait.specs.Contents.{Content}
use Rattle.store_laws.specs.Decisions.{entry_at}
use Rattle.store_laws.specs.Soundness.{IsSound}
use Rattle.store_laws.specs.Steps.{IsQuiet, Applies, Aborts}
use Rattle.store_laws.proofs.steps.Chained.{step_then}
use Rattle.store_laws.proofs.cells.Misses.{quiet_itself}
use Rattle.txn_runner.specs.Causes.{AnsweredEdit, IsMissed, IsOfStore}
use Rattle.store_trait.specs.Calls.{Edits}
use Rattle.store_trait.specs.declared.edit.Edited.{Edited}
use Rattle.txn_runner.specs.Settling.{WorksOn, KeepsOthers, DecidesOnly, IsWorth, ComesToStage, MayStop}
use Rattle.txn_runner.specs.declared.error.StepError.{StepError}
use Rattle.txn_runner.specs.declared.error.StepError.TheVariants as step
use Rattle.txn_runner.specs.declared.stage.Stage.{Stage}
use Rattle.txn_runner.specs.declared.waiting.Waiting.{Waiting}
use Rattle.txn_runner.proofs.Running.{run_quiet, run_applies, run_aborts}
use Rattle.store_trait.specs.declared.store.Store.{Ghosts}

pub others_same : (c : Content) (id : TxnId) → KeepsOthers c c id
others_same c id = record { records = λ other apart. refl; docs = λ key there. there }

pub others_then : {a b c : Content} (id : TxnId) → KeepsOthers a b id → KeepsOthers b c id → KeepsOthers a c id
others_then id one two = record { records = λ other apart. two.records other apart ∙ one.records other apart; docs = λ key there. two.docs key (one.docs key there) }

-- one entry more, of the transaction itself
decides_it : (id : TxnId) (before : List Entry) (entry : Entry) → entry.id ≡ id → DecidesOnly id before (before ++ entry ∷ [])
decides_it id before entry same among own all = list_all-append (λ (e : Entry). among e.id) before (entry ∷ []) ∙ both (list_all (λ (e : Entry). among e.id) before) (among entry.id) all (ap among same ∙ own)
  where
    both : (x y : Bool) → x ≡ true → y ≡ true → (x && (y && true)) ≡ true
    both true true p q = refl
    both true false p q = q
    both false y p q = p

pub comes_ok : (c : Content) (txn : Waiting) (next : Stage) → IsWorth c txn next → ComesToStage c txn (Ok next)
comes_ok c txn next worth = record { worth = worth; cause = tt }

pub comes_err : (c : Content) (txn : Waiting) (error : StepError) → MayStop c error → ComesToStage c txn (Err error)
comes_err c txn error cause = record { worth = tt; cause = cause }

of_store : (c : Content) (error : StepError) → IsOfStore error → MayStop c error
of_store c step.StoreFault h = tt
of_store c step.OutOfMemory h = tt
of_store c step.NoncesSpent h = elim h [ ]
of_store c (step.RevnoSpent key) h = elim h [ ]
of_store c (step.Lost z) h = elim h [ ]
of_store c (step.Clash id at) h = elim h [ ]

-- the store itself refused
pub comes_to_nothing : (c : Content) (txn : Waiting) (error : StepError) → IsOfStore error → ComesToStage c txn (Err error)
comes_to_nothing c txn error h = comes_err c txn error (of_store c error h)

-- an edit was made, and the transaction stands at the next stage
pub comes_edited : (c d : Content) (txn : Waiting) (next : Stage) → c ≡ d → IsWorth d txn next → ComesToStage c txn (Ok next)
comes_edited c d txn next made worth = comes_ok c txn next (subst (λ (x : Content). IsWorth x txn next) (sym made) worth)

counted : {S T E : Type 0} (store : Ghosts S) (old new : S) (result : Result T E) (failed : E)
    → OneCall store old new result failed → (store.calls new ≡ store.calls old + 1) ⊎ (store.calls new ≡ store.calls old)
counted store old new (Ok x) failed one = inl one.counted
counted store old new (Err e) failed one = one.counted_err

-- a refusal handed on
pub same_error : {U E : Type 0} (a b : E) → IsErrOf {T = U} (Err a) b → a ≡ b
same_error a b e = cc

still_err : {T U E : Type 0} {P : Type 0} (error failed : E) → IsErrOf {T = T} (Err error) failed ⊎ P → IsErrOf {T = U} (Err error) failed ⊎ P
still_err error failed (inl same) = inl (ap Err (same_error error failed same))
still_err error failed (inr stays) = inr stays

pub call_err : {S T U E : Type 0} (store : Ghosts S) (old new : S) (result : Result T E) (error failed : E)
    → result ≡ Err error → OneCall store old new result failed → OneCall {T = U} store old new (Err error) failed
call_err {S} {T} {U} {E} store old new result error failed is one =
    let o = subst (λ (r : Result T E). OneCall store old new r failed) is one in
    record { trail = o.trail; counted = tt; counted_err = o.counted_err; chain = o.chain; later = o.later; fault = λ same. o.fault (ap Err (same_error error failed same)); still = still_err error failed o.still }

-- a step that is refused for memory before its call
pub refused_idly : {S T : Type 0} (store : Ghosts S) (s : S)
    → (IsTrue store.tells → store.trail s (store.calls s) ≡ store.content s) → OneCall {T = T} store s s (Err step.OutOfMemory) step.StoreFault
refused_idly store s present = record {
  trail = λ told. record { before = λ n le. refl; here = present told };
  counted = tt;
  counted_err = inr refl;
  chain = Exchanged.Nothing s;
  later = omega arith;
  fault = λ fails. absurd (cc fails);
  still = inr refl;
}

pub store_refuses : {S : Type 0} (store : Ghosts S) (old : S) (id : TxnId) (at : Name) (change : Edit) (new : S) (error : StepError) → IsOfStore error → IsMissed store old id at change new error
store_refuses store old id at change new step.StoreFault h = tt
store_refuses store old id at change new step.OutOfMemory h = tt
store_refuses store old id at change new step.NoncesSpent h = elim h [ ]
store_refuses store old id at change new (step.RevnoSpent key) h = elim h [ ]
store_refuses store old id at change new (step.Lost z) h = elim h [ ]
store_refuses store old id at change new (step.Clash who where_) h = elim h [ ]

-- what an edit was answered, with its hit or miss
pub answered_hit : {S : Type 0} (store : Ghosts S) (old : S) (name : Name) (edit : Edit) (done : Edited) (new : S) {hit : Bool} → done.hit ≡ hit → store.calls new ≡ store.calls old + 1
    → store.answered old (Edits name edit (Ok done)) new → AnsweredEdit store old name edit hit new
answered_hit store old name edit done new is counted answer = record {
  found = done.cell;
  counted = counted;
  answer = subst (λ (b : Bool). store.answered old (Edits name edit (Ok (record { hit = b; cell = done.cell }))) new) is answer;
}

module _ {S : Type 0} (store : Ghosts S) where
  pub works_none : (s : S) (id : TxnId) (order : List Entry) → IsSound (store.content s) → WorksOn store s s order order id
  works_none s id order sound = record {
    run = λ mark base h. h;
    step = (quiet_itself (store.content s) sound).step;
    others = others_same (store.content s) id;
    decided = λ among own all. all;
  }

  pub works_then : (a b c : S) (before between after : List Entry) (id : TxnId) → WorksOn store a b before between id → WorksOn store b c between after id → WorksOn store a c before after id
  works_then a b c before between after id one two = record {
    run = λ mark base h. two.run mark base (one.run mark base h);
    step = step_then one.step two.step;
    others = others_then id one.others two.others;
    decided = λ among own all. two.decided among own (one.decided among own all);
  }

module _ {S T E : Type 0} (store : Ghosts S) (old new : S) (result : Result T E) (failed : E)
    (told : IsTrue store.tells) (here : store.trail old (store.calls old) ≡ store.content old) (one : OneCall store old new result failed) (id : TxnId) where
  pub works_quietly : (order : List Entry) → IsQuiet (store.content old) (store.content new) → KeepsOthers (store.content old) (store.content new) id → WorksOn store old new order order id
  works_quietly order quiet others = record {
    run = λ mark base h. run_quiet (store.trail old) (store.trail new) mark (store.calls old) (store.calls new) base order (store.content old) (store.content new) here (one.trail told) (counted store old new result failed one) quiet h;
    step = quiet.step;
    others = others;
    decided = λ among own all. all;
  }

  -- an edit was made
  pub works_edited : (d : Content) → store.content new ≡ d → IsQuiet (store.content old) d → KeepsOthers (store.content old) d id → (order : List Entry) → WorksOn store old new order order id
  works_edited d made quiet others order = works_quietly order (subst (IsQuiet (store.content old)) (sym made) quiet) (subst (λ (c : Content). KeepsOthers (store.content old) c id) (sym made) others)

  -- the content was left as it was
  pub works_idly : (order : List Entry) → IsSound (store.content old) → store.content new ≡ store.content old → WorksOn store old new order order id
  works_idly order sound same = works_quietly order (subst (IsQuiet (store.content old)) (sym same) (quiet_itself (store.content old) sound)) (subst (λ (c : Content). KeepsOthers (store.content old) c id) (sym same) (others_same (store.content old) id))

  pub works_applying : (before : List Entry) (rec : Record) → store.calls new ≡ store.calls old + 1 → Applies (store.content old) (store.content new) rec → KeepsOthers (store.content old) (store.content new) id → rec.id ≡ id
      → WorksOn store old new before (before ++ entry_at (store.calls new) rec ∷ []) id
  works_applying before rec more applies others own = record {
    run = λ mark base h. run_applies (store.trail old) (store.trail new) mark (store.calls old) (store.calls new) base before (store.content old) (store.content new) rec here (one.trail told) more applies h;
    step = applies.step;
    others = others;
    decided = decides_it id before (entry_at (store.calls new) rec) own;
  }

  pub works_applied : (d : Content) (before after : List Entry) (rec : Record) → store.calls new ≡ store.calls old + 1 → store.content new ≡ d → Applies (store.content old) d rec → KeepsOthers (store.content old) d id → rec.id ≡ id → after ≡ before ++ entry_at (store.calls new) rec ∷ []
      → WorksOn store old new before after id
  works_applied d before after rec more made applies others own grown =
      subst (λ (l : List Entry). WorksOn store old new before l id) (sym grown)
      (works_applying before rec more (subst (λ (c : Content). Applies (store.content old) c rec) (sym made) applies) (subst (λ (c : Content). KeepsOthers (store.content old) c id) (sym made) others) own)

  pub works_aborting : (before : List Entry) (rec : Record) → store.calls new ≡ store.calls old + 1 → Aborts (store.content old) (store.content new) rec → KeepsOthers (store.content old) (store.content new) id → rec.id ≡ id
      → WorksOn store old new before (before ++ entry_at (store.calls new) rec ∷ []) id
  works_aborting before rec more aborts others own = record {
    run = λ mark base h. run_aborts (store.trail old) (store.trail new) mark (store.calls old) (store.calls new) base before (store.content old) (store.content new) rec here (one.trail told) more aborts h;
    step = aborts.step;
    others = others;
    decided = decides_it id before (entry_at (store.calls new) rec) own;
  }

  pub works_given_up : (d : Content) (before after : List Entry) (rec : Record) → store.calls new ≡ store.calls old + 1 → store.content new ≡ d → Aborts (store.content old) d rec → KeepsOthers (store.content old) d id → rec.id ≡ id → after ≡ before ++ entry_at (store.calls new) rec ∷ []
      → WorksOn store old new before after id
  works_given_up d before after rec more made aborts others own grown =
      subst (λ (l : List Entry). WorksOn store old new before l id) (sym grown)
      (works_aborting before rec more (subst (λ (c : Content). Aborts (store.content old) c rec) (sym made) aborts) (subst (λ (c : Content). KeepsOthers (store.content old) c id) (sym made) others) own)
