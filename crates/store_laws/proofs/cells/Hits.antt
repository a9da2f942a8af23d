-- What each kind of edit found where it hit, and where it must hit.
use Rattle.std.proofs.Common.{◌≡◌, ℕ, ℤ, ◌+◌, pos, ◌+ℤ◌, ◌<◌, nat_lt, Bool, true, false, cond, Option, Some, None, is_some, option_map, List, sym, ap, ◌∙◌, refl, subst, arith, unwrap_or}
use Rattle.std.specs.Option.{option_and_then}
use Rattle.std.specs.FinMap.{get, insert}
use Rattle.std.proofs.lemmas.Bool.Decides.{nat_tests}
use Rattle.std.proofs.lemmas.Slice.Eq.{bytes_eq-Decides}
use Rattle.doc_value.specs.declared.value.Value.{Value}
use Rattle.doc_update.specs.Updates.{updated}
use Rattle.txn_key.specs.declared.id.TxnId.{TxnId}
use Rattle.txn_key.specs.declared.id.Token.{Token}
use Rattle.txn_key.specs.declared.key.Key.{Key}
use Rattle.txn_record.specs.declared.record.Record.{Record}
use Rattle.txn_record.specs.declared.state.State.{State}
use Rattle.store_trait.specs.Cells.{as_record, as_doc, as_counter}
use Rattle.store_trait.specs.Contents.{Content}
use Rattle.store_trait.specs.Edits.{Hit, puts, hit, hit_move, hit_insert_record, hit_add_token, hit_draw_nonce, hit_update, hit_place, unmarked, is_updatable, with_body, nonce_limit, with_token, moved, put_under, edited}
use Rattle.store_trait.specs.Names.{same_state, same_id, may_stand}
use Rattle.store_laws.specs.View.{record_at, doc_at, counter}
use Rattle.store_trait.specs.declared.cell.Cell.{Cell}
use Rattle.store_trait.specs.declared.cell.Cell.TheVariants as cell
use Rattle.store_trait.specs.declared.cell.DocCell.{DocCell}
use Rattle.store_trait.specs.declared.edit.Edit.TheVariants as edit
use Rattle.store_trait.specs.declared.name.Name.{Name}
use Rattle.store_trait.specs.declared.name.Name.TheVariants as name
use Rattle.store_laws.specs.Hits.{HasInserted, HasMoved, HasAdded, HasUpdated, HasDrawn}
use Rattle.store_laws.proofs.views.KindsOfMove.{same_states}
use Rattle.store_laws.specs.Soundness.{IsSound}
use Rattle.store_laws.proofs.cells.Misses.{same_itself}
use Rattle.store_laws.proofs.cells.Local.{put_there}
use Rattle.store_laws.proofs.cells.Lookups.{counter-put_nonce}
use Rattle.store_laws.proofs.cells.Under.{record_under, doc_under}

-- what stands under a name once a hit was put there
now_there : (c : Content) (n : Name) (x : Cell) → get (insert c n x) n ≡ Some x
now_there c n x = put_there c n (puts x)

-- a hit behind a test
behind : (t : Bool) (h : Hit) → is_some (cond t h None) ≡ true → t ≡ true
behind true h e = refl
behind false h e = cc

record_put : (c : Content) (id : TxnId) (rec : Record) → record_at (insert c (name.Record id) (cell.Record rec)) id ≡ Some rec
unfolding record_at
record_put c id rec = ap (option_and_then as_record) (now_there c (name.Record id) (cell.Record rec))

doc_put : (c : Content) (key : Key) (doc : DocCell) → doc_at (insert c (name.Doc key) (cell.Doc doc)) key ≡ Some doc
unfolding doc_at
doc_put c key doc = ap (option_and_then as_doc) (now_there c (name.Doc key) (cell.Doc doc))

-- Insertions.

insert_found : (c : Content) (id : TxnId) (rec : Record) (found : Option Cell) → get c (name.Record id) ≡ found → let h = hit_insert_record rec (name.Record id) found in is_some h ≡ true → HasInserted c (put_under c (name.Record id) h) id rec
unfolding record_at
insert_found c id rec (Some x) e hits = cc
insert_found c id rec None e hits = record {
  absent = ap (option_and_then as_record) e;
  now = subst (λ (t : Bool). record_at (put_under c (name.Record id) (cond t (puts (cell.Record rec)) None)) id ≡ Some rec) (sym (behind (same_id id rec.id) (puts (cell.Record rec)) hits)) (record_put c id rec);
}

pub insert_hit : (c : Content) (id : TxnId) (rec : Record) → is_some (hit (edit.InsertRecord rec) (name.Record id) (get c (name.Record id))) ≡ true → HasInserted c (edited c (name.Record id) (edit.InsertRecord rec)) id rec
insert_hit c id rec hits = insert_found c id rec (get c (name.Record id)) refl hits

-- Moves.

module _ (c : Content) (id : TxnId) (from to : State) (drawn : Option ℕ) (revnos : Option (List ℤ)) where
  move_found : (found : Option Cell) → get c (name.Record id) ≡ found → let h = hit_move from to drawn revnos (name.Record id) found in is_some h ≡ true → HasMoved c (put_under c (name.Record id) h) id from to drawn revnos
  unfolding record_at
  move_found None e hits = cc
  move_found (Some (cell.Doc doc)) e hits = cc
  move_found (Some (cell.Stash stash)) e hits = cc
  move_found (Some (cell.Nonce number)) e hits = cc
  move_found (Some (cell.Record was)) e hits =
      let same = behind (same_state was.state from) (puts (cell.Record (moved to drawn revnos was))) hits in
      record {
        was = was;
        there = ap (option_and_then as_record) e;
        state = same_states was.state from same;
        now = subst (λ (t : Bool). record_at (put_under c (name.Record id) (cond t (puts (cell.Record (moved to drawn revnos was))) None)) id ≡ Some (moved to drawn revnos was)) (sym same) (record_put c id (moved to drawn revnos was));
      }

  pub move_hit : is_some (hit (edit.Move from to drawn revnos) (name.Record id) (get c (name.Record id))) ≡ true → HasMoved c (edited c (name.Record id) (edit.Move from to drawn revnos)) id from to drawn revnos
  move_hit hits = move_found (get c (name.Record id)) refl hits

-- Tokens.

module _ (c : Content) (key : Key) (z : Token) where
  unmarked_hit : (mark : Option Token) (h : Hit) → is_some (unmarked mark h) ≡ true → mark ≡ None
  unmarked_hit None h e = refl
  unmarked_hit (Some mark) h e = cc

  add_found : (found : Option Cell) → get c (name.Doc key) ≡ found → let h = hit_add_token z (name.Doc key) found in is_some h ≡ true → HasAdded c (put_under c (name.Doc key) h) key z
  unfolding doc_at
  add_found None e hits = cc
  add_found (Some (cell.Record rec)) e hits = cc
  add_found (Some (cell.Stash stash)) e hits = cc
  add_found (Some (cell.Nonce number)) e hits = cc
  add_found (Some (cell.Doc doc)) e hits =
      let new : DocCell = record doc { queue = with_token z doc.queue } in
      let free = unmarked_hit doc.remove (puts (cell.Doc new)) hits in
      record {
        doc = doc;
        there = ap (option_and_then as_doc) e;
        unmarked = free;
        now = subst (λ (m : Option Token). doc_at (put_under c (name.Doc key) (unmarked m (puts (cell.Doc new)))) key ≡ Some new) (sym free) (doc_put c key new);
      }

  pub add_hit : is_some (hit (edit.AddToken z) (name.Doc key) (get c (name.Doc key))) ≡ true → HasAdded c (edited c (name.Doc key) (edit.AddToken z)) key z
  add_hit hits = add_found (get c (name.Doc key)) refl hits

-- Updates.

module _ (c : Content) (key : Key) (revno : ℤ) (z : Token) (update : Value) where
  update_found : (found : Option Cell) → get c (name.Doc key) ≡ found → let h = hit_update revno z update (name.Doc key) found in is_some h ≡ true → HasUpdated c (put_under c (name.Doc key) h) key revno z update
  unfolding doc_at
  update_found None e hits = cc
  update_found (Some (cell.Record rec)) e hits = cc
  update_found (Some (cell.Stash stash)) e hits = cc
  update_found (Some (cell.Nonce number)) e hits = cc
  update_found (Some (cell.Doc doc)) e hits = go (is_updatable doc revno z) (updated update doc.body) refl refl hits
    where
      go : (t : Bool) (made : Option Value) → is_updatable doc revno z ≡ t → updated update doc.body ≡ made → let h : Hit = cond t (option_map (λ (body : Value). Some (with_body doc body)) made) None in is_some h ≡ true → HasUpdated c (put_under c (name.Doc key) h) key revno z update
      go false made p q h = cc
      go true None p q h = cc
      go true (Some body) p q h = record { doc = doc; body = body; there = ap (option_and_then as_doc) e; updatable = p; fits = q; now = doc_put c key (record doc { body = body; revno = doc.revno +ℤ pos 1 }) }

  pub update_hit : is_some (hit (edit.Update revno z update) (name.Doc key) (get c (name.Doc key))) ≡ true → HasUpdated c (edited c (name.Doc key) (edit.Update revno z update)) key revno z update
  update_hit hits = update_found (get c (name.Doc key)) refl hits

-- Nonces.

is_less : (a b : ℕ) → nat_lt a b ≡ true → a < b
is_less a b e = grind (arith, nat_tests)

drawn : (c : Content) (number : ℕ) → counter c ≡ number → number < nonce_limit → HasDrawn c (insert c name.Nonce (cell.Nonce (number + 1)))
drawn c number e less = record { left = subst (λ (n : ℕ). n < nonce_limit) (sym e) less; now = counter-put_nonce c (cell.Nonce (number + 1)) ∙ ap (λ (n : ℕ). n + 1) (sym e) }

draw_found : (c : Content) (found : Option Cell) → get c name.Nonce ≡ found → let h = hit_draw_nonce name.Nonce found in is_some h ≡ true → HasDrawn c (put_under c name.Nonce h)
unfolding counter
draw_found c None e hits = drawn c 0 (ap (λ (o : Option Cell). unwrap_or (option_and_then as_counter o) 0) e) (omega arith)
draw_found c (Some (cell.Record rec)) e hits = cc
draw_found c (Some (cell.Doc doc)) e hits = cc
draw_found c (Some (cell.Stash stash)) e hits = cc
draw_found c (Some (cell.Nonce number)) e hits =
    let left = behind (nat_lt number nonce_limit) (puts (cell.Nonce (number + 1))) hits in
    subst (λ (t : Bool). HasDrawn c (put_under c name.Nonce (cond t (puts (cell.Nonce (number + 1))) None))) (sym left) (drawn c number (ap (λ (o : Option Cell). unwrap_or (option_and_then as_counter o) 0) e) (is_less number nonce_limit left))

pub draw_hit : (c : Content) → is_some (hit edit.DrawNonce name.Nonce (get c name.Nonce)) ≡ true → HasDrawn c (edited c name.Nonce edit.DrawNonce)
draw_hit c hits = draw_found c (get c name.Nonce) refl hits

-- Where an edit must hit.

pub insert_must : (c : Content) (id : TxnId) (rec : Record) → get c (name.Record id) ≡ None → id ≡ rec.id → is_some (hit (edit.InsertRecord rec) (name.Record id) (get c (name.Record id))) ≡ true
insert_must c id rec absent own =
    ap (λ (found : Option Cell). is_some (hit_insert_record rec (name.Record id) found)) absent
    ∙ ap (λ (t : Bool). is_some (cond t (puts (cell.Record rec)) None)) ((bytes_eq-Decides id.0 rec.id.0).1 (ap (λ (i : TxnId). i.0) own))

pub move_must : (c : Content) (id : TxnId) (from to : State) (drawn : Option ℕ) (revnos : Option (List ℤ)) (was : Record) → record_at c id ≡ Some was → was.state ≡ from
    → is_some (hit (edit.Move from to drawn revnos) (name.Record id) (get c (name.Record id))) ≡ true
move_must c id from to drawn revnos was there now =
    ap (λ (found : Option Cell). is_some (hit_move from to drawn revnos (name.Record id) found)) (record_under c id was there)
    ∙ ap (λ (t : Bool). is_some (cond t (puts (cell.Record (moved to drawn revnos was))) None)) (ap (λ (s : State). same_state s from) now ∙ same_itself from)

pub add_must : (c : Content) (key : Key) (z : Token) (doc : DocCell) → doc_at c key ≡ Some doc → doc.remove ≡ None → is_some (hit (edit.AddToken z) (name.Doc key) (get c (name.Doc key))) ≡ true
add_must c key z doc there free =
    ap (λ (found : Option Cell). is_some (hit_add_token z (name.Doc key) found)) (doc_under c key doc there)
    ∙ ap (λ (m : Option Token). is_some (unmarked m (puts (cell.Doc (record doc { queue = with_token z doc.queue }))))) free

pub update_must : (c : Content) (key : Key) (revno : ℤ) (z : Token) (update body : Value) (doc : DocCell) → doc_at c key ≡ Some doc → is_updatable doc revno z ≡ true → updated update doc.body ≡ Some body
    → is_some (hit (edit.Update revno z update) (name.Doc key) (get c (name.Doc key))) ≡ true
update_must c key revno z update body doc there ready fits =
    ap (λ (found : Option Cell). is_some (hit_update revno z update (name.Doc key) found)) (doc_under c key doc there)
    ∙ (λ i. is_some (cond (ready i) (option_map (λ (b : Value). Some (with_body doc b)) (fits i)) None))

less_is : (a b : ℕ) → a < b → nat_lt a b ≡ true
less_is a b less = grind (arith, nat_tests)

draw_at : (c : Content) → IsSound c → counter c < nonce_limit → (found : Option Cell) → get c name.Nonce ≡ found → is_some (hit_draw_nonce name.Nonce found) ≡ true
unfolding counter
draw_at c s left None e = refl
draw_at c s left (Some (cell.Record rec)) e = absurd (cc (s.kinds name.Nonce (cell.Record rec) e))
draw_at c s left (Some (cell.Doc doc)) e = absurd (cc (s.kinds name.Nonce (cell.Doc doc) e))
draw_at c s left (Some (cell.Stash stash)) e = absurd (cc (s.kinds name.Nonce (cell.Stash stash) e))
draw_at c s left (Some (cell.Nonce number)) e =
    ap (λ (t : Bool). is_some (cond t (puts (cell.Nonce (number + 1))) None)) (less_is number nonce_limit (subst (λ (n : ℕ). n < nonce_limit) (ap (λ (o : Option Cell). unwrap_or (option_and_then as_counter o) 0) e) left))

pub draw_must : (c : Content) → IsSound c → counter c < nonce_limit → is_some (hit edit.DrawNonce name.Nonce (get c name.Nonce)) ≡ true
draw_must c s left = draw_at c s left (get c name.Nonce) refl

pub place_must : (c : Content) (n : Name) (x : Cell) → get c n ≡ None → may_stand n x ≡ true → is_some (hit (edit.Place x) n (get c n)) ≡ true
place_must c n x absent stands =
    ap (λ (found : Option Cell). is_some (hit_place x n found)) absent ∙ ap (λ (t : Bool). is_some (cond t (puts x) None)) stands
