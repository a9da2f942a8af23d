-- A record that moves on has the numbers of its new state.
use Rattle.std.proofs.Common.{◌≡◌, ℕ, ℤ, Bool, true, false, ◌&&◌, not, Option, Some, None, is_some, unwrap_or, option_map, List, sym, ap, ◌∙◌, refl}
use Rattle.txn_record.specs.Revnos.{follows, stays_within}
use Rattle.txn_record.specs.declared.record.Record.{Record}
use Rattle.txn_record.specs.declared.state.State.{State}
use Rattle.txn_record.specs.declared.state.State.TheVariants as state
use Rattle.store_trait.specs.Edits.{moved}
use Rattle.store_trait.specs.Names.{same_state}
use Rattle.store_laws.specs.Soundness.{is_numbered_record, agree, has_revnos}

-- the chain of a record, where it has one
abbrev chain_fits : Record → Bool
chain_fits rec = unwrap_or (option_map (λ revnos. follows rec.ops revnos && stays_within rec.ops revnos) rec.revnos) true

record Parts (rec : Record) : Type 0 where
  nonce : agree (is_some rec.nonce) (not (same_state rec.state state.Preparing)) ≡ true
  revnos : agree (is_some rec.revnos) (has_revnos rec.state) ≡ true
  chain : chain_fits rec ≡ true

three : (a b c : Bool) → (a && b && c) ≡ true → (a ≡ true) × (b ≡ true) × (c ≡ true)
three true true true e = (refl, refl, refl)
three true true false e = cc
three true false c e = cc
three false b c e = cc

whole : (a b c : Bool) → a ≡ true → b ≡ true → c ≡ true → (a && b && c) ≡ true
whole a b c p q r = λ i. p i && q i && r i

parts : (rec : Record) → is_numbered_record rec ≡ true → Parts rec
parts rec e = let t = three _ _ _ e in record { nonce = t.0; revnos = t.1; chain = t.2 }

numbered : (rec : Record) → Parts rec → is_numbered_record rec ≡ true
numbered rec p = whole _ _ _ p.nonce p.revnos p.chain

pub numbered_prepared : (was : Record) (number : ℕ) → is_numbered_record was ≡ true → was.state ≡ state.Preparing → is_numbered_record (moved state.Prepared (Some number) None was) ≡ true
numbered_prepared was number e from =
    let p = parts was e in
    numbered (moved state.Prepared (Some number) None was) (record { nonce = refl; revnos = ap (λ (s : State). agree (is_some was.revnos) (has_revnos s)) (sym from) ∙ p.revnos; chain = p.chain })

-- a move between states that ask for the same numbers
pub numbered_as : (was : Record) (from to : State) → was.state ≡ from → same_state from state.Preparing ≡ same_state to state.Preparing → has_revnos from ≡ has_revnos to
    → is_numbered_record was ≡ true → is_numbered_record (moved to None None was) ≡ true
numbered_as was from to there nonces chains e =
    let p = parts was e in
    numbered (moved to None None was) (record {
      nonce = ap (λ (b : Bool). agree (is_some was.nonce) (not b)) (sym nonces ∙ ap (λ (s : State). same_state s state.Preparing) (sym there)) ∙ p.nonce;
      revnos = ap (agree (is_some was.revnos)) (sym chains ∙ ap has_revnos (sym there)) ∙ p.revnos;
      chain = p.chain;
    })

pub numbered_applying : (was : Record) (revnos : List ℤ) → was.state ≡ state.Prepared → follows was.ops revnos ≡ true → stays_within was.ops revnos ≡ true
    → is_numbered_record was ≡ true → is_numbered_record (moved state.Applying None (Some revnos) was) ≡ true
numbered_applying was revnos from follows_ within e =
    let p = parts was e in
    numbered (moved state.Applying None (Some revnos) was) (record {
      nonce = ap (λ (s : State). agree (is_some was.nonce) (not (same_state s state.Preparing))) (sym from) ∙ p.nonce;
      revnos = refl;
      chain = λ i. follows_ i && within i;
    })

-- what a record hasn't got

none_of : {A : Type 0} (o : Option A) → agree (is_some o) false ≡ true → o ≡ None
none_of None e = refl
none_of (Some x) e = cc

pub unnumbered_nonce : (rec : Record) → is_numbered_record rec ≡ true → rec.state ≡ state.Preparing → rec.nonce ≡ None
unnumbered_nonce rec e now = none_of rec.nonce (ap (λ (s : State). agree (is_some rec.nonce) (not (same_state s state.Preparing))) (sym now) ∙ (parts rec e).nonce)

pub unnumbered_revnos : (rec : Record) → is_numbered_record rec ≡ true → rec.state ≡ state.Prepared → rec.revnos ≡ None
unnumbered_revnos rec e now = none_of rec.revnos (ap (λ (s : State). agree (is_some rec.revnos) (has_revnos s)) (sym now) ∙ (parts rec e).revnos)
