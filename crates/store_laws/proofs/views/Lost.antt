-- What no edit of a runner loses: records, what was written of them, and tokens.
use Rattle.std.proofs.Common.{◌≡◌, ℕ, ℤ, Bool, true, false, ◌||◌, Some, None, List, inl, inr, ⊎_elim, sym, ap, ◌∙◌, refl, subst}
use Rattle.std.proofs.lemmas.Option.{same_Some}
use Rattle.txn_key.specs.declared.id.TxnId.{TxnId}
use Rattle.txn_key.specs.declared.id.Token.{Token}
use Rattle.txn_key.specs.declared.key.Key.{Key}
use Rattle.txn_record.specs.declared.record.Record.{Record}
use Rattle.txn_record.specs.declared.state.State.{State}
use Rattle.txn_record.specs.declared.state.State.TheVariants as state
use Rattle.store_trait.specs.Edits.{moved}
use Rattle.store_trait.specs.Names.{same_state}
use Rattle.store_laws.specs.Readiness.{In}
use Rattle.store_laws.specs.Soundness.{is_numbered_record}
use Rattle.store_laws.specs.Later.{may_follow, GoesTo, IsStillThere, NothingNewBefore, NothingLost}
use Rattle.store_laws.specs.View.{View}
use Rattle.store_laws.proofs.views.Shapes.{SameRecords, SameQueues, ChangesRecord, AddsToken}
use Rattle.store_laws.proofs.views.Additions.{each_queue}
use Rattle.store_laws.proofs.views.Carries.{carry_spent}
use Rattle.store_laws.proofs.views.Changes.{stays_in}
use Rattle.store_laws.proofs.views.Moves.{each_record, put_here}
use Rattle.store_laws.proofs.chains.Numbers.{unnumbered_nonce, unnumbered_revnos}
use Rattle.store_laws.proofs.views.Orderly.{IsOrderly}
use Rattle.store_laws.proofs.views.Queues.{in_with}

-- A record goes on.

follows_itself : (s : State) → may_follow s s ≡ true
follows_itself state.Preparing = refl
follows_itself state.Prepared = refl
follows_itself state.Aborting = refl
follows_itself state.Applying = refl
follows_itself state.Aborted = refl
follows_itself state.Applied = refl

or_true : (b : Bool) → (b || true) ≡ true
or_true true = refl
or_true false = refl

follows_then : (a b c : State) → may_follow a b ≡ true → may_follow b c ≡ true → may_follow a c ≡ true
follows_then state.Preparing b c p q = refl
follows_then state.Prepared state.Preparing state.Preparing p q = p
follows_then state.Prepared _ state.Preparing p q = q
follows_then state.Prepared _ _ p q = refl
follows_then state.Aborting state.Aborting c p q = q
follows_then state.Aborting state.Aborted c p q = ap (λ (b : Bool). same_state c state.Aborting || b) q ∙ or_true (same_state c state.Aborting)
follows_then state.Aborting _ c p q = cc
follows_then state.Applying state.Applying c p q = q
follows_then state.Applying state.Applied c p q = ap (λ (b : Bool). same_state c state.Applying || b) q ∙ or_true (same_state c state.Applying)
follows_then state.Applying _ c p q = cc
follows_then state.Aborted state.Aborted c p q = q
follows_then state.Aborted _ c p q = cc
follows_then state.Applied state.Applied c p q = q
follows_then state.Applied _ c p q = cc

pub goes_itself : (rec : Record) → GoesTo rec rec
goes_itself rec = record { ops = refl; info = refl; state = follows_itself rec.state; nonce = λ n e. e; revnos = λ l e. e }

pub goes_then : {a b c : Record} → GoesTo a b → GoesTo b c → GoesTo a c
goes_then {a = a} {b = b} {c = c} one two = record {
  ops = two.ops ∙ one.ops;
  info = two.info ∙ one.info;
  state = follows_then a.state b.state c.state one.state two.state;
  nonce = λ n e. two.nonce n (one.nonce n e);
  revnos = λ l e. two.revnos l (one.revnos l e);
}

pub goes_plainly : (was : Record) (from to : State) → was.state ≡ from → may_follow from to ≡ true → GoesTo was (moved to None None was)
goes_plainly was from to now follows = record { ops = refl; info = refl; state = ap (λ (s : State). may_follow s to) now ∙ follows; nonce = λ n e. e; revnos = λ l e. e }

pub goes_prepared : (was : Record) (number : ℕ) → is_numbered_record was ≡ true → was.state ≡ state.Preparing → GoesTo was (moved state.Prepared (Some number) None was)
goes_prepared was number numbered now = record { ops = refl; info = refl; state = ap (λ (s : State). may_follow s state.Prepared) now; nonce = λ n e. absurd (cc (unnumbered_nonce was numbered now, e)); revnos = λ l e. e }

pub goes_applying : (was : Record) (revnos : List ℤ) → is_numbered_record was ≡ true → was.state ≡ state.Prepared → GoesTo was (moved state.Applying None (Some revnos) was)
goes_applying was revnos numbered now = record { ops = refl; info = refl; state = ap (λ (s : State). may_follow s state.Applying) now; nonce = λ n e. e; revnos = λ l e. absurd (cc (unnumbered_revnos was numbered now, e)) }

-- Shapes of change.

pub still_there : {new : View} (id : TxnId) (rec : Record) → new.record_at id ≡ Some rec → IsStillThere new id rec
still_there id rec there = record { now = rec; there = there; goes = goes_itself rec }

pub lost_itself : (view : View) → NothingLost view view
lost_itself view = record { records = λ id rec there. still_there id rec there; tokens = λ key x inside. inl inside }

pub lost_same : {old new : View} → SameRecords old new → SameQueues old new → NothingLost old new
lost_same records queues = record {
  records = λ id rec there. still_there id rec (records.records id ∙ there);
  tokens = λ key x inside. inl (stays_in queues key x inside);
}

pub lost_inserted : {old new : View} (id : TxnId) (rec : Record) → ChangesRecord old new id rec → old.record_at id ≡ None → NothingLost old new
lost_inserted {old = old} {new = new} id rec change absent = record {
  records = each_record change.puts (λ t. (r : Record) → old.record_at t ≡ Some r → IsStillThere new t r) (λ r there. absurd (cc (absent, there))) (λ t same r there. still_there t r (same ∙ there));
  tokens = λ key x inside. inl (stays_in change.queues key x inside);
}

pub lost_moved : {old new : View} (id : TxnId) (was rec : Record) → ChangesRecord old new id rec → old.record_at id ≡ Some was → GoesTo was rec → NothingLost old new
lost_moved {old = old} {new = new} id was rec change before goes = record {
  records = each_record change.puts (λ t. (r : Record) → old.record_at t ≡ Some r → IsStillThere new t r)
      (λ r there. record { now = rec; there = put_here id rec change.puts; goes = subst (λ (w : Record). GoesTo w rec) (same_Some was r (sym before ∙ there)) goes })
      (λ t same r there. still_there t r (same ∙ there));
  tokens = λ key x inside. inl (stays_in change.queues key x inside);
}

pub lost_added : {old new : View} (key : Key) (z : Token) → AddsToken old new key z → NothingLost old new
lost_added {old = old} key z change = record {
  records = λ id rec there. still_there id rec (change.records.records id ∙ there);
  tokens = λ k x inside. inl (each_queue change.queues (λ k q. In x (old.queue_at k) → In x q) (in_with x z (old.queue_at key)) (λ k h. h) k inside);
}

-- One after another.

pub lost_then : {a b c : View} → IsOrderly b → NothingNewBefore b c → NothingLost a b → NothingLost b c → NothingLost a c
lost_then o back one two = record {
  records = λ id rec there.
      let mid = one.records id rec there in
      let last = two.records id mid.now mid.there in
      record { now = last.now; there = last.there; goes = goes_then mid.goes last.goes };
  tokens = λ key x inside. ⊎_elim (two.tokens key x) (λ spent. inr (carry_spent back o x spent)) (one.tokens key x inside);
}
