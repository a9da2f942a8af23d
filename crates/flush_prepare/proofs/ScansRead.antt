-- What a scan of all keys says of the record now.
use Rattle.std.proofs.Common.{◌≡◌, ℕ, suc, Bool, true, false, cond, Option, Some, None, List, [], ◌∷◌, map, inl, inr, ◌⊎◌, ⊎_elim, sym, ap, ◌∙◌, refl, subst, arith}
use Rattle.std.proofs.lemmas.Option.{same_Some}
use Rattle.std.specs.List.{All, flat_map}
use Rattle.std.specs.Option.{option_and_then}
use Rattle.txn_key.specs.declared.id.Token.{Token}
use Rattle.txn_key.specs.declared.id.TxnId.{TxnId}
use Rattle.txn_key.specs.declared.key.Key.{Key}
use Rattle.txn_record.specs.Chain.{keys_of}
use Rattle.txn_record.specs.States.{was_prepared_state, is_settled_state}
use Rattle.txn_record.specs.declared.record.Record.{Record}
use Rattle.store_trait.specs.Contents.{Content}
use Rattle.store_trait.specs.Owners.{owner_of}
use Rattle.store_trait.specs.declared.cell.DocCell.{DocCell}
use Rattle.store_trait.specs.declared.cell.StashCell.{StashCell}
use Rattle.store_trait.specs.declared.side.Side.{Side}
use Rattle.store_trait.specs.declared.side.Side.TheVariants as side
use Rattle.store_laws.specs.Found.{IsFoundAt, IsListed}
use Rattle.store_laws.specs.Nonces.{NoncesCome}
use Rattle.store_laws.specs.Readiness.{token, In, Before, StandsAt}
use Rattle.store_laws.specs.Soundness.{IsSound}
use Rattle.store_laws.specs.View.{look, doc_at, stash_at, by_side, doc_queue, stash_queue, valid_nonce, IsOn}
use Rattle.store_laws.proofs.cells.Parts.{parts}
use Rattle.store_laws.proofs.steps.Moments.{since_step}
use Rattle.store_laws.proofs.views.Finding.{found_later, listed_later}
use Rattle.store_laws.proofs.views.Orderly.{orderly}
use Rattle.store_laws.proofs.views.Queues.{in_left, in_right, in_parts}
use Rattle.flush_prepare.specs.Keys.{IsAmong}
use Rattle.flush_prepare.specs.Moments.{Moment}
use Rattle.flush_prepare.specs.PrepareFacts.{nonce_of, IsNotGiven}
use Rattle.flush_prepare.specs.Queues.{before, before_own, if_there, scanned}
use Rattle.flush_prepare.specs.Scans.{KeyScan, WasScanned, HasScanned, IsFoundOn}
use Rattle.flush_prepare.specs.declared.prepare.Prepare.{Prepare}
use Rattle.flush_prepare.proofs.OwnKeys.{key_of_own, own_of_key}
use Rattle.flush_prepare.proofs.QueueLists.{not_there, taken_before, before_taken, before_in}
use Rattle.flush_prepare.proofs.Records.{is_prepared, own_nonce, nonce_valid}

-- in an owner queue of a sound content no token stands twice
once_at : (c : Content) → IsSound c → (key : Key) (x : Token) → Before x x ((look c).queue_at key) → ⊥
unfolding look
once_at c s key x = by (owner_of (doc_at c key) (stash_at c key))
  where
    of_doc : (doc : Option DocCell) → doc_at c key ≡ doc → Before x x (doc_queue doc) → ⊥
    of_doc None e h = absurd h
    of_doc (Some doc) e h = ((parts c s).doc_tokens key doc e).once x h

    of_stash : (stash : Option StashCell) → stash_at c key ≡ stash → Before x x (stash_queue stash) → ⊥
    of_stash None e h = absurd h
    of_stash (Some stash) e h = ((parts c s).stash_tokens key stash e).once x h

    by : (o : Side) → Before x x (by_side o [] (doc_queue (doc_at c key)) (stash_queue (stash_at c key))) → ⊥
    by side.Neither h = absurd h
    by side.Document h = of_doc (doc_at c key) refl h
    by side.Stash h = of_stash (stash_at c key) refl h

-- ---- what was taken from one queue

module _ (rec : Record) (n : ℕ) (nonce : rec.nonce ≡ Some n) (queue tokens : List Token) (taken : scanned rec queue ≡ Some tokens) where
  own_is : before_own rec queue ≡ before (token rec.id n) queue
  own_is = ap (λ (o : Option ℕ). option_and_then (λ n. before (token rec.id n) queue) o) nonce

  -- the tokens before its own, or none where that isn't there
  Taken : Type 0
  Taken = (before (token rec.id n) queue ≡ Some tokens) ⊎ ((before (token rec.id n) queue ≡ None) × (tokens ≡ []))

  how : Taken
  unfolding Taken
  how = by (before_own rec queue) own_is (is_settled_state rec.state) taken
    where
      by : (own : Option (List Token)) → own ≡ before (token rec.id n) queue → (t : Bool) → if_there own (cond t (Some []) None) ≡ Some tokens → (before (token rec.id n) queue ≡ Some tokens) ⊎ ((before (token rec.id n) queue ≡ None) × (tokens ≡ []))
      by (Some found) e t h = inl (sym e ∙ h)
      by None e true h = inr (sym e, sym (same_Some [] tokens h))
      by None e false h = cc

  -- each taken stands before it
  pub each_before : (x : Token) → In x tokens → Before x (token rec.id n) queue
  unfolding Taken
  each_before x inside = ⊎_elim (λ found. taken_before (token rec.id n) x queue tokens found inside) (λ none. absurd (subst (In x) none.1 inside)) how

  -- all that stand before it are taken
  pub all_taken : (Before (token rec.id n) (token rec.id n) queue → ⊥) → (x : Token) → Before x (token rec.id n) queue → In x tokens
  unfolding Taken
  all_taken once x stands = ⊎_elim (λ found. before_taken (token rec.id n) x queue tokens once found stands) (λ none. absurd (not_there (token rec.id n) queue none.0 (before_in x (token rec.id n) queue stands))) how

-- ---- what was scanned on one key

module _ (c : Content) (rec : Record) (prepared : was_prepared_state rec.state ≡ true) (s : KeyScan) (was : WasScanned c rec s) where
  m : Moment c rec
  m = was.moment

  nonce : (n : ℕ) × (rec.nonce ≡ Some n)
  nonce = own_nonce was.moment.at rec was.moment.stored prepared

  valid : valid_nonce (look was.moment.at) rec.id ≡ Some nonce.0
  valid = nonce_valid was.moment.at rec was.moment.stored prepared nonce.0 nonce.1

  listed_then : IsListed (look was.moment.at) s.key rec.id s.tokens
  listed_then = record {
    all = λ x stands.
        let same : stands.nonce ≡ nonce.0 = same_Some stands.nonce nonce.0 (sym stands.valid ∙ valid) in
        all_taken rec nonce.0 nonce.1 ((look was.moment.at).queue_at s.key) s.tokens was.taken (once_at was.moment.at was.moment.sound s.key (token rec.id nonce.0)) x
        (subst (λ (n : ℕ). Before x (token rec.id n) ((look was.moment.at).queue_at s.key)) same stands.before);
  }

  pub listed_now : IsListed (look c) s.key rec.id s.tokens
  listed_now = listed_later (since_step was.moment.at c was.moment.sound was.moment.since).later.back s.key rec.id s.tokens (is_prepared was.moment.at rec was.moment.stored prepared) listed_then

  pub found_now : (x : Token) → In x s.tokens → IsFoundAt (look c) s.key x rec.id
  found_now x inside = found_later (orderly was.moment.at was.moment.sound) (since_step was.moment.at c was.moment.sound was.moment.since).later s.key x rec.id
      (inl (record { nonce = nonce.0; valid = valid; before = each_before rec nonce.0 nonce.1 ((look was.moment.at).queue_at s.key) s.tokens was.taken x inside }))

-- ---- and on all of them

-- the scans one by one
Each : (KeyScan → Type 0) → List KeyScan → Type 0
Each P [] = Unit {0}
Each P (s ∷ scans) = P s × Each P scans

each_of : (P : KeyScan → Type 0) (scans : List KeyScan) → All P scans → Each P scans
unfolding Each
each_of P [] all = tt
each_of P (s ∷ scans) all = (all 0 s (omega arith), each_of P scans (λ i d within. all (suc i) d (omega arith)))

key_there : (P : KeyScan → Type 0) (key : Key) (scans : List KeyScan) → Each P scans → IsAmong key (map (λ (s : KeyScan). s.key) scans) → (s : KeyScan) × (s.key ≡ key) × P s × ((x : Token) → In x s.tokens → In x (flat_map (λ (s : KeyScan). s.tokens) scans))
unfolding Each
key_there P key [] each among = absurd among
key_there P key (s ∷ scans) each (inl same) = (s, same, each.0, λ x inside. in_left x s.tokens (flat_map (λ (s : KeyScan). s.tokens) scans) inside)
key_there P key (s ∷ scans) each (inr later) =
    let rest = key_there P key scans each.1 later in
    (rest.0, rest.1, rest.2, λ x inside. in_right x s.tokens (flat_map (λ (s : KeyScan). s.tokens) scans) (rest.3 x inside))

token_there : (P : KeyScan → Type 0) (x : Token) (scans : List KeyScan) → Each P scans → In x (flat_map (λ (s : KeyScan). s.tokens) scans) → (s : KeyScan) × IsAmong s.key (map (λ (s : KeyScan). s.key) scans) × P s × In x s.tokens
unfolding Each
token_there P x [] each inside = absurd inside
token_there P x (s ∷ scans) each inside = ⊎_elim
    (λ here. (s, inl refl, each.0, here))
    (λ later. let rest = token_there P x scans each.1 later in (rest.0, inr rest.1, rest.2, rest.3))
    (in_parts x s.tokens (flat_map (λ (s : KeyScan). s.tokens) scans) inside)

module _ (c : Content) (rec : Record) (found : List Token) (was : HasScanned c rec (keys_of rec.ops) found) (prepared : was_prepared_state rec.state ≡ true) where
  scans : Each (WasScanned c rec) was.scans
  scans = each_of (WasScanned c rec) was.scans was.each

  pub scan_listed : (key : Key) → IsOn key rec.ops → IsListed (look c) key rec.id found
  scan_listed key on =
      let at = key_there (WasScanned c rec) key was.scans scans (subst (IsAmong key) (sym was.keys_are) (key_of_own key rec.ops on)) in
      let now = listed_now c rec prepared at.0 at.2 in
      record { all = λ x stands. subst (In x) was.found_is (at.3 x (now.all x (subst (λ (k : Key). StandsAt (look c) k x rec.id) (sym at.1) stands))) }

  pub scan_found : (x : Token) → In x found → IsFoundOn c rec x
  scan_found x inside =
      let at = token_there (WasScanned c rec) x was.scans scans (subst (In x) (sym was.found_is) inside) in
      record { key = at.0.key; on = own_of_key at.0.key rec.ops (subst (IsAmong at.0.key) was.keys_are at.1); found = found_now c rec prepared at.0 at.2 x at.3 }

-- ---- nonces of others

pub given_apart : (c d : Content) (prepare : Prepare) (id : TxnId) (given : Option ℕ) → NoncesCome (look c) (look d) id given → ((nonce : ℕ) → id ≡ prepare.rec.id → given ≡ Some nonce → nonce_of prepare ≡ Some nonce → ⊥) → IsNotGiven c d prepare
given_apart c d prepare id given come apart nonce drawn valid = ⊎_elim (λ was. was) (λ now. absurd (apart nonce (sym now.1) now.0 drawn)) (come.from prepare.rec.id nonce valid)

pub given_then : (b c d : Content) (prepare : Prepare) → IsNotGiven b c prepare → IsNotGiven c d prepare → IsNotGiven b d prepare
given_then b c d prepare one two nonce drawn valid = one nonce drawn (two nonce drawn valid)
