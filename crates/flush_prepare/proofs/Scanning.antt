-- What a scan knows from step to step.
use Rattle.std.proofs.Common.{◌≡◌, ℕ, true, Option, Some, None, Ok, IsTrue, List, [], ◌∷◌, ◌++◌, inl, inr, sym, ap, ◌∙◌, refl, subst, arith, append_assoc, append-nil}
use Rattle.std.proofs.lemmas.List.{map-append}
use Rattle.std.proofs.lemmas.List.Elements.{All-push}
use Rattle.std.proofs.lemmas.Grind.{flat_map-append}
use Rattle.std.specs.FinMap.{get}
use Rattle.std.specs.Option.{option_and_then}
use Rattle.txn_key.specs.declared.id.Token.{Token}
use Rattle.txn_key.specs.declared.key.Key.{Key}
use Rattle.txn_record.specs.Chain.{keys_of}
use Rattle.txn_record.specs.States.{was_prepared_state}
use Rattle.txn_record.specs.declared.record.Record.{Record}
use Rattle.store_trait.specs.Cells.{as_doc, as_stash}
use Rattle.store_trait.specs.Contents.{Content}
use Rattle.store_trait.specs.declared.cell.Cell.{Cell}
use Rattle.store_trait.specs.declared.cell.DocCell.{DocCell}
use Rattle.store_trait.specs.declared.name.Name.TheVariants as name
use Rattle.store_trait.specs.declared.store.Store.{Ghosts}
use Rattle.store_laws.specs.Readiness.{token, In}
use Rattle.store_laws.specs.Since.{Since}
use Rattle.store_laws.specs.Soundness.{IsSound}
use Rattle.store_laws.specs.View.{look, doc_at, owner_queue, settled, IsOn}
use Rattle.store_laws.proofs.steps.Moments.{since_step, since_sound}
use Rattle.store_laws.proofs.views.Finding.{missing_settled}
use Rattle.store_laws.proofs.views.Orderly.{orderly}
use Rattle.flush_prepare.specs.Answers.{HasRead}
use Rattle.flush_prepare.specs.Keys.{IsAmong}
use Rattle.flush_prepare.specs.Moments.{WasStored, Moment, WasRead}
use Rattle.flush_prepare.specs.Queues.{before, before_own, scanned}
use Rattle.flush_prepare.specs.Scans.{name_at, name_of, answer_done, key_done, answer_by, after_by, answer_at, after_at, answer_to, after_read, ComesNearer, KeyScan, WasScanned, HasScanned, NextIsWorth, IsScanning, ComesTo, ScanGoes}
use Rattle.flush_prepare.specs.declared.scan.NextRead.{NextRead}
use Rattle.flush_prepare.specs.declared.scan.NextRead.TheVariants.{Document, Entry}
use Rattle.flush_prepare.specs.declared.scan.Scan.{Scan}
use Rattle.flush_prepare.specs.declared.scan.ScanStep.{ScanStep}
use Rattle.flush_prepare.specs.declared.scan.ScanStep.TheVariants.{More}
use Rattle.flush_prepare.proofs.OwnKeys.{own_of_key}
use Rattle.flush_prepare.proofs.QueueLists.{not_there}
use Rattle.flush_prepare.proofs.KeysShown.{was_shown}
use Rattle.flush_prepare.proofs.Records.{stored_since, moment_now, moment_later, read_later, own_nonce, nonce_valid, stored_has_key}

-- ---- what was found

scanned_nothing : (c : Content) (rec : Record) (found : List Token) → found ≡ [] → HasScanned c rec [] found
scanned_nothing c rec found e = record { scans = []; each = λ i d within. absurd (omega (arith, within)); keys_are = refl; found_is = sym e }

scanned_more : (c : Content) (rec : Record) (keys : List Key) (found : List Token) (s : KeyScan) → HasScanned c rec keys found → WasScanned c rec s → HasScanned c rec (keys ++ s.key ∷ []) (found ++ s.tokens)
scanned_more c rec keys found s was now = record {
  scans = was.scans ++ s ∷ [];
  each = All-push (WasScanned c rec) was.scans s was.each now;
  keys_are = map-append (λ (s : KeyScan). s.key) was.scans (s ∷ []) ∙ ap (λ (l : List Key). l ++ s.key ∷ []) was.keys_are;
  found_is = flat_map-append (λ (s : KeyScan). s.tokens) was.scans (s ∷ []) ∙ ap (λ (l : List Token). l ++ (s.tokens ++ [])) was.found_is ∙ ap (λ (l : List Token). found ++ l) (append-nil s.tokens);
}

pub scanned_later : (c d : Content) (rec : Record) (keys : List Key) (found : List Token) → Since c d → HasScanned c rec keys found → HasScanned d rec keys found
scanned_later c d rec keys found since was = record {
  scans = was.scans;
  each = λ i s within. later (was.each i s within);
  keys_are = was.keys_are;
  found_is = was.found_is;
}
  where
    later : {s : KeyScan} → WasScanned c rec s → WasScanned d rec s
    later w = record { moment = moment_later c d rec since w.moment; taken = w.taken }

-- ---- it begins, and lasts

pub scan_begins : (rec : Record) (key : Key) (later : List Key) (found : List Token) → keys_of rec.ops ≡ key ∷ later → found ≡ [] → was_prepared_state rec.state ≡ true
    → (c : Content) → IsSound c → WasStored c rec → IsScanning c (record { rec = rec; key = key; later = later; found = found; next = Document })
scan_begins rec key later found keys none prepared c s stored = record {
  sound = s;
  stored = stored;
  prepared = prepared;
  done = [];
  keys = keys;
  found = scanned_nothing c rec found none;
  next = tt;
}

next_later : (c d : Content) (scan : Scan) (next : NextRead) → Since c d → NextIsWorth c scan next → NextIsWorth d scan next
next_later c d scan Document since was = tt
next_later c d scan (Entry doc) since was = read_later c d scan.rec scan.key doc since was

pub scan_lasts : (c d : Content) (scan : Scan) → Since c d → IsScanning c scan → IsScanning d scan
scan_lasts c d scan since was = record {
  sound = since_sound c d was.sound since;
  stored = stored_since c d scan.rec was.sound since was.stored;
  prepared = was.prepared;
  done = was.done;
  keys = was.keys;
  found = scanned_later c d scan.rec was.done scan.found since was.found;
  next = next_later c d scan scan.next since was.next;
}

-- ---- a step

among_last : (done : List Key) (key : Key) (later : List Key) → IsAmong key (done ++ key ∷ later)
among_last [] key later = inl refl
among_last (k ∷ done) key later = inr (among_last done key later)

module _ (c : Content) (scan : Scan) (worth : IsScanning c scan) where
  present : IsOn scan.key scan.rec.ops
  present = own_of_key scan.key scan.rec.ops (subst (IsAmong scan.key) (sym worth.keys) (among_last worth.done scan.key scan.later))

  document_read : (found : Option Cell) → found ≡ get c (name.Doc scan.key) → ComesTo c (after_at scan Document found) (Ok More)
  unfolding doc_at
  document_read found e = record {
    sound = worth.sound;
    stored = worth.stored;
    prepared = worth.prepared;
    done = worth.done;
    keys = worth.keys;
    found = worth.found;
    next = record { moment = moment_now c scan.rec worth.sound worth.stored; read = ap (option_and_then as_doc) (sym e) };
  }

  -- the present key is done
  done_with : (tokens : List Token) → WasScanned c scan.rec (record { key = scan.key; tokens = tokens }) → (later : List Key) → scan.later ≡ later
      → ComesTo c (key_done later (record scan { found = scan.found ++ tokens })) (Ok (answer_done later (scan.found ++ tokens)))
  done_with tokens now [] e = subst (λ (keys : List Key). HasScanned c scan.rec keys (scan.found ++ tokens)) (sym (worth.keys ∙ ap (λ (l : List Key). worth.done ++ scan.key ∷ l) e)) (scanned_more c scan.rec worth.done scan.found (record { key = scan.key; tokens = tokens }) worth.found now)
  done_with tokens now (key ∷ later) e = record {
    sound = worth.sound;
    stored = worth.stored;
    prepared = worth.prepared;
    done = worth.done ++ scan.key ∷ [];
    keys = worth.keys ∙ ap (λ (l : List Key). worth.done ++ scan.key ∷ l) e ∙ sym (append_assoc worth.done (scan.key ∷ []) (key ∷ later));
    found = scanned_more c scan.rec worth.done scan.found (record { key = scan.key; tokens = tokens }) worth.found now;
    next = tt;
  }

  -- the owner queue as the two reads show it, at a moment between them
  module _ (m : Moment c scan.rec) (queue : List Token) (shown : (look m.at).queue_at scan.key ≡ queue) where
    -- its own token should be there
    gone : scanned scan.rec queue ≡ None → settled (look c) scan.rec.id ≡ true
    gone none = (since_step m.at c m.sound m.since).later.back.settles scan.rec.id
        (missing_settled (orderly m.at m.sound) scan.key scan.rec.id nonce.0 (stored_has_key m.at scan.rec scan.key m.stored present) (nonce_valid m.at scan.rec m.stored worth.prepared nonce.0 nonce.1)
        (λ inside. not_there (token scan.rec.id nonce.0) queue missing (subst (In (token scan.rec.id nonce.0)) shown inside)))
      where
        nonce : (n : ℕ) × (scan.rec.nonce ≡ Some n)
        nonce = own_nonce m.at scan.rec m.stored worth.prepared

        by : (own : Option (List Token)) → before_own scan.rec queue ≡ own → own ≡ None
        by None e = refl
        by (Some tokens) e = absurd (cc (none, e))

        missing : before (token scan.rec.id nonce.0) queue ≡ None
        missing = ap (λ (o : Option ℕ). option_and_then (λ n. before (token scan.rec.id n) queue) o) (sym nonce.1) ∙ by (before_own scan.rec queue) refl

    queue_read : (taken : Option (List Token)) → scanned scan.rec queue ≡ taken → ComesTo c (after_by scan taken) (Ok (answer_by scan taken))
    queue_read None e = (worth, gone e)
    queue_read (Some tokens) e = done_with tokens (record { moment = m; taken = ap (scanned scan.rec) shown ∙ e }) scan.later refl

  entry_read : (doc : Option DocCell) (found : Option Cell) → found ≡ get c (name.Stash scan.key) → WasRead c scan.rec scan.key doc → ComesTo c (after_at scan (Entry doc) found) (Ok (answer_at scan (Entry doc) found))
  entry_read doc found e was =
      let shown = was_shown c scan.rec scan.key doc found e was in
      queue_read shown.moment (owner_queue doc (option_and_then as_stash found)) shown.queue (scanned scan.rec (owner_queue doc (option_and_then as_stash found))) refl

  read_at : (next : NextRead) (found : Option Cell) → found ≡ get c (name_at scan.key next) → NextIsWorth c scan next → ComesTo c (after_at scan next found) (Ok (answer_at scan next found))
  read_at Document found e was = document_read found e
  read_at (Entry doc) found e was = entry_read doc found e was

  pub scan_comes : (found : Option Cell) → found ≡ get c (name_of scan) → ComesTo c (after_read scan found) (Ok (answer_to scan found))
  scan_comes found e = read_at scan.next found e worth.next

-- ---- how many steps there are

nearer_done : (scan : Scan) (doc : Option DocCell) (tokens : List Token) (later : List Key) → scan.later ≡ later → scan.next ≡ Entry doc
    → ComesNearer scan (answer_done later (scan.found ++ tokens)) (key_done later (record scan { found = scan.found ++ tokens }))
nearer_done scan doc tokens [] e next = tt
nearer_done scan doc tokens (key ∷ later) e next = rw (e, next) (omega arith)

nearer_by : (scan : Scan) (doc : Option DocCell) (taken : Option (List Token)) → scan.next ≡ Entry doc → ComesNearer scan (answer_by scan taken) (after_by scan taken)
nearer_by scan doc None next = tt
nearer_by scan doc (Some tokens) next = nearer_done scan doc tokens scan.later refl next

nearer_at : (scan : Scan) (next : NextRead) (found : Option Cell) → scan.next ≡ next → ComesNearer scan (answer_at scan next found) (after_at scan next found)
nearer_at scan Document found e = rw e (omega arith)
nearer_at scan (Entry doc) found e = nearer_by scan doc (scanned scan.rec (owner_queue doc (option_and_then as_stash found))) e

pub scan_nearer : (scan : Scan) (found : Option Cell) → ComesNearer scan (answer_to scan found) (after_read scan found)
scan_nearer scan found = nearer_at scan scan.next found refl

-- ---- over a store

module _ {S : Type 0} (store : Ghosts S) (old : S) (scan : Scan) (found : Option Cell) (new : S) (answer : ScanStep) (next : Scan) (answers : answer ≡ answer_to scan found) (follows : next ≡ after_read scan found) where
  pub scan_goes : HasRead store old (name_of scan) found new → ScanGoes store old scan (Ok answer) next new
  scan_goes read = ScanGoes.ByRead found read (ap Ok answers) follows

  pub scan_went : HasRead store old (name_of scan) found new → (IsTrue store.tells → IsScanning (store.content old) scan) → IsTrue store.tells → ComesTo (store.content new) next (Ok answer)
  scan_went read worth told = subst (λ (c : Content). ComesTo c next (Ok answer)) (sym (read.same told)) (subst (λ (s : Scan). ComesTo (store.content old) s (Ok answer)) (sym follows)
      (subst (λ (a : ScanStep). ComesTo (store.content old) (after_read scan found) (Ok a)) (sym answers) (scan_comes (store.content old) scan (worth told) found (read.told told))))

  pub scan_nears : ComesNearer scan answer next
  scan_nears = subst (λ (s : Scan). ComesNearer scan answer s) (sym follows) (subst (λ (a : ScanStep). ComesNearer scan a (after_read scan found)) (sym answers) (scan_nearer scan found))
