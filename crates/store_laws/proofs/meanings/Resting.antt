-- What a content means at rest, and the bodies of a content of documents alone.
use Rattle.std.proofs.Common.{◌≡◌, ℕ, true, Option, Some, None, is_some, sym, ap, ◌∙◌, refl, true≢false}
use Rattle.std.specs.Option.{option_map}
use Rattle.std.specs.FinMap.{get}
use Rattle.txn_key.specs.Documents.{Docs}
use Rattle.txn_key.specs.declared.key.Key.{Key}
use Rattle.store_trait.specs.Contents.{Content}
use Rattle.store_laws.specs.Meaning.{meaning, bodies, pending, records}
use Rattle.store_laws.specs.Readiness.{token}
use Rattle.store_laws.specs.Soundness.{IsSound}
use Rattle.store_laws.specs.View.{look, doc_at, owner_held}
use Rattle.store_trait.specs.declared.cell.DocCell.{DocCell}
use Rattle.store_trait.specs.declared.cell.StashCell.{StashCell}
use Rattle.store_laws.specs.Alone.{IsAtRest}
use Rattle.store_laws.specs.Held.{body_in}
use Rattle.store_laws.specs.Plain.{IsPlain, body_at}
use Rattle.store_laws.proofs.meanings.Bodies.{get-bodies}
use Rattle.store_laws.proofs.meanings.Idle.{NoneApplies, idle-none}
use Rattle.store_laws.proofs.views.Orderly.{orderly}
use Rattle.store_laws.proofs.cells.Records.{all_standing}
use Rattle.store_laws.proofs.meanings.Runs.{get-effect, same_docs}
use Rattle.store_laws.proofs.views.States.{applying_waits, waiting_is_decided}
use Rattle.store_laws.proofs.views.Views.{applying_at, unsettled_if_waiting, waiting_if_applying}

drawn : (o : Option ℕ) → is_some o ≡ true → (n : ℕ) × (o ≡ Some n)
drawn None e = absurd (true≢false (sym e))
drawn (Some n) e = (n, refl)

-- an applying record's token would stand in the owner queue of its key, and is of no settled record
none_applies : (c : Content) → IsSound c → IsAtRest (look c) → (key : Key) → NoneApplies (look c) key
none_applies c sound rest key id applies has =
    let waits = applying_waits has.rec.state (sym (applying_at (look c) id has.rec has.there) ∙ applies) in
    let nonce = drawn has.rec.nonce ((orderly c sound).drawn id has.rec has.there (waiting_is_decided has.rec.state waits)) in
    let queued = (orderly c sound).queued id has.rec nonce.0 key has.there waits nonce.1 has.on in
    true≢false (sym (rest.all key (token id nonce.0) queued) ∙ unsettled_if_waiting (look c) id (waiting_if_applying (look c) id applies))

pub meaning-rest : (c : Content) → IsSound c → IsAtRest (look c) → meaning c ≡ bodies c
meaning-rest c sound rest = same_docs (meaning c) (bodies c) (λ key.
    get-effect key (pending c) (bodies c)
    ∙ idle-none c (λ n. Unit {0}) (look c) key (none_applies c sound rest key) (records c) (all_standing c sound.kinds) (get (bodies c) key))

body_alone : (doc : Option DocCell) → body_in (owner_held doc None) ≡ option_map (λ (d : DocCell). d.body) doc
body_alone None = refl
body_alone (Some doc) = refl

pub get-plain : (c : Content) (key : Key) → IsPlain c → get (bodies c) key ≡ body_at c key
unfolding look
get-plain c key plain = get-bodies c key ∙ ap (λ (stash : Option StashCell). body_in (owner_held (doc_at c key) stash)) (plain.no_stash key) ∙ body_alone (doc_at c key)

pub only_plain : (c : Content) (docs : Docs) → IsPlain c → ((key : Key) → get docs key ≡ body_at c key) → docs ≡ bodies c
only_plain c docs plain same = same_docs docs (bodies c) (λ key. same key ∙ sym (get-plain c key plain))
