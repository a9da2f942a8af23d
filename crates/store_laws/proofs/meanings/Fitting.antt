-- Whether changes fit, on documents that agree where the operations look.
use Rattle.std.proofs.Common.{◌≡◌, ◌≢◌, ◌++◌, true, false, if◌then◌else◌, Option, Bool, ◌&&◌, List, [], ◌∷◌, sym, ap, ap₂, ◌∙◌, refl, inl, inr}
use Rattle.std.specs.FinMap.{get}
use Rattle.std.specs.List.{list_all}
use Rattle.std.proofs.lemmas.Bool.{and_parts}
use Rattle.doc_value.specs.declared.value.Value.{Value}
use Rattle.txn_key.specs.Documents.{Docs}
use Rattle.txn_key.specs.Keys.{same_key}
use Rattle.txn_key.specs.declared.key.Key.{Key}
use Rattle.txn_record.specs.Effects.{effect_of, body_after, tests, changes_fit, change_fits, assertion_holds}
use Rattle.txn_record.proofs.EffectLaws.{get-effect_of_other}
use Rattle.txn_record.specs.declared.op.Op.{Op}
use Rattle.store_laws.specs.View.{IsOn}
use Rattle.store_laws.proofs.meanings.Runs.{run_on, get-effect, same_key-equal}

pub changes_fit-agree : (ops : List Op) (m n : Docs) → ((key : Key) → IsOn key ops → get m key ≡ get n key) → changes_fit ops m ≡ changes_fit ops n
changes_fit-agree [] m n agree = refl
changes_fit-agree (op ∷ ops) m n agree =
    ap₂ (λ (a b : Bool). a && b)
    (ap (change_fits op.change) (agree op.key (inl refl)))
    (changes_fit-agree ops (effect_of op m) (effect_of op n) (λ key on. get-effect key (op ∷ []) m ∙ ap (run_on key (op ∷ [])) (agree key (inr on)) ∙ sym (get-effect key (op ∷ []) n)))

-- changes that were tested fit wherever the operations find the same
pub tested_fits : (ops : List Op) (m n : Docs) → ((key : Key) → IsOn key ops → get m key ≡ get n key) → tests ops m ≡ true → changes_fit ops n ≡ true
tested_fits ops m n agree tested =
    sym (changes_fit-agree ops m n agree) ∙ (and_parts (list_all (λ (op : Op). assertion_holds op.assert (get m op.key)) ops) (changes_fit ops m) tested).1

-- one operation, seen at one key
pub at_one : (key : Key) (op : Op) (docs : Docs) → get (effect_of op docs) key ≡ (if same_key key op.key then body_after op.change (get docs key) else get docs key)
at_one key op docs = get-effect key (op ∷ []) docs

-- operations on two keys may change places
swapped : (p op : Op) → p.key ≢ op.key → (docs : Docs) (key : Key) → get (effect_of p (effect_of op docs)) key ≡ get (effect_of op (effect_of p docs)) key
swapped p op apart docs key =
    at_one key p (effect_of op docs)
    ∙ ap (λ (body : Option Value). if same_key key p.key then body_after p.change body else body) (at_one key op docs)
    ∙ by (same_key key p.key) (same_key key op.key) refl refl
    ∙ sym (at_one key op (effect_of p docs) ∙ ap (λ (body : Option Value). if same_key key op.key then body_after op.change body else body) (at_one key p docs))
  where
    by : (a b : Bool) → same_key key p.key ≡ a → same_key key op.key ≡ b
        → (if a then body_after p.change (if b then body_after op.change (get docs key) else get docs key) else (if b then body_after op.change (get docs key) else get docs key))
        ≡ (if b then body_after op.change (if a then body_after p.change (get docs key) else get docs key) else (if a then body_after p.change (get docs key) else get docs key))
    by true true e f = absurd (apart (sym (same_key-equal key p.key e) ∙ same_key-equal key op.key f))
    by true false e f = refl
    by false true e f = refl
    by false false e f = refl

-- Changes that fit still do once one of them has been made, before others on its key.
pub taken_fits : (op : Op) (pre post : List Op) (m n : Docs) → (IsOn op.key pre → ⊥) → ((key : Key) → get n key ≡ get (effect_of op m) key) → changes_fit (pre ++ op ∷ post) m ≡ true → changes_fit (pre ++ post) n ≡ true
taken_fits op [] post m n away same fit =
    changes_fit-agree post n (effect_of op m) (λ key on. same key) ∙ (and_parts (change_fits op.change (get m op.key)) (changes_fit post (effect_of op m)) fit).1
taken_fits op (p ∷ pre) post m n away same fit =
    let parts = and_parts (change_fits p.change (get m p.key)) (changes_fit (pre ++ op ∷ post) (effect_of p m)) fit in
    let found : get n p.key ≡ get m p.key = same p.key ∙ get-effect_of_other op m p.key (λ q. away (inl q)) in
    let later = taken_fits op pre post (effect_of p m) (effect_of p n) (λ on. away (inr on)) (λ key.
    at_one key p n ∙ ap (λ (body : Option Value). if same_key key p.key then body_after p.change body else body) (same key) ∙ sym (at_one key p (effect_of op m))
    ∙ swapped p op (λ q. away (inl q)) m key) parts.1 in
    λ i. (ap (change_fits p.change) found ∙ parts.0) i && later i

-- a change that fits in its turn fits at once, where no earlier one is on its key
pub fits_now : (op : Op) (pre post : List Op) (m : Docs) → (IsOn op.key pre → ⊥) → changes_fit (pre ++ op ∷ post) m ≡ true → change_fits op.change (get m op.key) ≡ true
fits_now op [] post m away fit = (and_parts (change_fits op.change (get m op.key)) (changes_fit post (effect_of op m)) fit).0
fits_now op (p ∷ pre) post m away fit =
    let rest = (and_parts (change_fits p.change (get m p.key)) (changes_fit (pre ++ op ∷ post) (effect_of p m)) fit).1 in
    ap (change_fits op.change) (sym (get-effect_of_other p m op.key (λ q. away (inl (sym q))))) ∙ fits_now op pre post (effect_of p m) (λ on. away (inr on)) rest
