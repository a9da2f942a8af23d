-- A content that holds nothing.
use Rattle.std.proofs.Common.{◌≡◌, true, None, List, [], ◌∷◌, length, sym, ap, ap₂, ◌∙◌, refl, subst, arith}
use Rattle.std.specs.Option.{option_and_then}
use Rattle.std.specs.FinMap.{empty, get, get-empty, entries, from_entries, len-empty, len-entries}
use Rattle.std.specs.List.{filter_map, flat_map}
use Rattle.txn_key.specs.declared.id.TxnId.{TxnId}
use Rattle.txn_key.specs.declared.key.Key.{Key}
use Rattle.txn_record.specs.Effects.{effect}
use Rattle.store_trait.specs.Cells.{as_record, as_doc, as_stash}
use Rattle.store_trait.specs.Contents.{Content}
use Rattle.store_laws.specs.Meaning.{meaning, owned_body, pending_of}
use Rattle.store_trait.specs.Names.{name_cmp}
use Rattle.store_laws.specs.Readiness.{In, IsReady, Sealed}
use Rattle.store_laws.specs.Soundness.{IsSound, Rule, Holds, IsInQueues, IfApplying, StandsOnChain, PendingFits}
use Rattle.store_laws.specs.View.{look, record_at, doc_at, stash_at, owner_queue, was_prepared, was_decided, applying}
use Rattle.store_trait.specs.declared.cell.Cell.{Cell}
use Rattle.store_trait.specs.declared.name.Name.{Name}
use Rattle.store_trait.specs.declared.name.Name.TheVariants as name
use Rattle.store_laws.specs.Alone.{IsAtRest}
use Rattle.store_laws.proofs.views.Views.{present_decided, decided_if_chosen, chosen_if_applying}
use Rattle.store_laws.proofs.cells.Parts.{HasMarksAt}
use Rattle.store_laws.proofs.cells.SoundParts.{at_record, marks_by_name, entries_by_name}

abbrev pub nothing : Content
nothing = empty

none_under : (n : Name) → get nothing n ≡ None
none_under n = get-empty name_cmp n

no_record : (id : TxnId) → record_at nothing id ≡ None
unfolding record_at
no_record id = ap (option_and_then as_record) (none_under (name.Record id))

pub no_doc : (key : Key) → doc_at nothing key ≡ None
unfolding doc_at
no_doc key = ap (option_and_then as_doc) (none_under (name.Doc key))

pub no_stash : (key : Key) → stash_at nothing key ≡ None
unfolding stash_at
no_stash key = ap (option_and_then as_stash) (none_under (name.Stash key))

none_decided : (id : TxnId) → was_prepared (look nothing) id ≡ true → ⊥
unfolding look
none_decided id d = let (rec, there, state) = present_decided (look nothing) id d in cc (no_record id, there)

no_marks : (key : Key) → HasMarksAt nothing key
no_marks key = record {
  of_doc = λ d mark found marked owns. absurd (cc (no_doc key, found));
  of_stash = λ e mark found marked owns. absurd (cc (no_stash key, found));
  entry = λ e found. absurd (cc (no_stash key, found));
}

no_rule_fails : (rule : Rule) (n : Name) → Holds rule nothing n
unfolding look
no_rule_fails Rule.Numbers n = λ x found. absurd (cc (none_under n, found))
no_rule_fails Rule.Tokens n = λ x found. absurd (cc (none_under n, found))
no_rule_fails Rule.Nonces n = λ x found. absurd (cc (none_under n, found))
no_rule_fails Rule.InQueues n = at_record (IsInQueues nothing) (λ id rec nonce key found waits some on. absurd (cc (no_record id, found))) n
no_rule_fails Rule.AppliesReady n = at_record (λ id. applying (look nothing) id ≡ true → IsReady (look nothing) id) (λ id applies. absurd (none_decided id (decided_if_chosen (look nothing) id (chosen_if_applying (look nothing) id applies)))) n
no_rule_fails Rule.DecidedSealed n = at_record (λ id. was_decided (look nothing) id ≡ true → Sealed (look nothing) id) (λ id chose. absurd (none_decided id (decided_if_chosen (look nothing) id chose))) n
no_rule_fails Rule.Marks n = marks_by_name nothing no_marks n
no_rule_fails Rule.Entries n = entries_by_name nothing no_marks n
no_rule_fails Rule.OnChain n = at_record (IfApplying nothing (StandsOnChain (look nothing))) (λ id rec found applies. absurd (cc (no_record id, found))) n
no_rule_fails Rule.Fits n = at_record (IfApplying nothing (PendingFits nothing)) (λ id rec found applies. absurd (cc (no_record id, found))) n

pub empty_sound : IsSound nothing
empty_sound = record { kinds = λ n x found. absurd (cc (none_under n, found)); rules = no_rule_fails }

pub empty_rests : IsAtRest (look nothing)
unfolding look
empty_rests = record { all = λ key x inside. absurd (subst (In x) (ap₂ owner_queue (no_doc key) (no_stash key)) inside) }

no_length : {A : Type 0} (xs : List A) → length xs ≡ 0 → xs ≡ []
no_length [] e = refl
no_length (x ∷ xs) e = absurd (omega (arith, e))

no_entries : entries nothing ≡ []
no_entries = no_length (entries nothing) (sym (len-entries nothing) ∙ len-empty name_cmp Cell)

pub empty_means : meaning nothing ≡ empty
empty_means = ap (λ (es : List (Name × Cell)). effect (flat_map (pending_of (look nothing)) (filter_map (λ (e : Name × Cell). as_record e.1) es)) (from_entries (filter_map (owned_body nothing) es))) no_entries
