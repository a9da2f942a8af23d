-- What an edit leaves under a name may stand there, if what it found there might.
use Rattle.std.proofs.Common.{◌≡◌, ℕ, ◌+◌, ◌&&◌, nat_lt, Bool, true, false, ℤ, Option, Some, None, option_map, is_none, List, cond, refl}
use Rattle.std.specs.Ordering.{int_eq}
use Rattle.std.proofs.lemmas.Bool.{and_parts}
use Rattle.doc_value.specs.declared.value.Value.{Value}
use Rattle.doc_update.specs.Updates.{updated}
use Rattle.txn_key.specs.declared.key.Key.{Key}
use Rattle.txn_key.specs.declared.id.Token.{Token}
use Rattle.txn_record.specs.declared.record.Record.{Record}
use Rattle.txn_record.specs.declared.state.State.{State}
use Rattle.store_trait.specs.Names.{same_id, same_state, may_stand, may_hold}
use Rattle.store_trait.specs.Same.{same_cell}
use Rattle.store_trait.specs.Edits.{puts, with_body, with_token, without_token, is_updatable, is_free_doc, is_free_stash, is_newer_doc, is_newer_stash, nonce_limit, moved, may_leave, hit, hit_insert_record, hit_move, hit_add_token, hit_update, hit_mark_remove, hit_mark_insert, hit_put_doc_newer, hit_put_stash_newer, hit_drop_doc, hit_pull, hit_draw_nonce, hit_place, hit_erase, hit_replace}
use Rattle.store_trait.specs.declared.name.Name.{Name}
use Rattle.store_trait.specs.declared.name.Name.TheVariants as name
use Rattle.store_trait.specs.declared.cell.Cell.{Cell}
use Rattle.store_trait.specs.declared.cell.Cell.TheVariants as cell
use Rattle.store_trait.specs.declared.cell.DocCell.{DocCell}
use Rattle.store_trait.specs.declared.edit.Edit.{Edit}
use Rattle.store_trait.specs.declared.edit.Edit.TheVariants as edit

where_tested : (test : Bool) (name : Name) (after : Cell) → (test ≡ true → may_stand name after ≡ true) → may_leave name (cond test (puts after) None) ≡ true
where_tested true name after h = h refl
where_tested false name after h = refl

gone_tested : (test : Bool) (name : Name) → may_leave name (cond test (Some None) None) ≡ true
gone_tested true name = refl
gone_tested false name = refl

where_updated : (test : Bool) (body : Option Value) (key : Key) (doc : DocCell) → may_leave (name.Doc key) (cond test (option_map (λ body. Some (with_body doc body)) body) None) ≡ true
where_updated true None key doc = refl
where_updated true (Some body) key doc = refl
where_updated false body key doc = refl

inserts : (rec : Record) (name : Name) (found : Option Cell) → may_leave name (hit_insert_record rec name found) ≡ true
inserts rec (name.Record id) None = where_tested (same_id id rec.id) (name.Record id) (cell.Record rec) (λ e. e)
inserts rec _ _ = refl

moves : (from to : State) (drawn : Option ℕ) (revnos : Option (List ℤ)) (name : Name) (found : Option Cell) → may_hold name found ≡ true → may_leave name (hit_move from to drawn revnos name found) ≡ true
moves from to drawn revnos (name.Record id) (Some (cell.Record rec)) h = where_tested (same_state rec.state from) (name.Record id) (cell.Record (moved to drawn revnos rec)) (λ _. h)
moves from to drawn revnos _ _ h = refl

adds : (token : Token) (name : Name) (found : Option Cell) → may_leave name (hit_add_token token name found) ≡ true
adds token (name.Doc key) (Some (cell.Doc doc)) = where_tested (is_none doc.remove) (name.Doc key) (cell.Doc (record doc { queue = with_token token doc.queue })) (λ _. refl)
adds token (name.Stash key) None = refl
adds token (name.Stash key) (Some (cell.Stash stash)) = where_tested (is_none stash.insert) (name.Stash key) (cell.Stash (record stash { queue = with_token token stash.queue })) (λ _. refl)
adds token _ _ = refl

updates : (revno : ℤ) (token : Token) (update : Value) (name : Name) (found : Option Cell) → may_leave name (hit_update revno token update name found) ≡ true
updates revno token update (name.Doc key) (Some (cell.Doc doc)) = where_updated (is_updatable doc revno token) (updated update doc.body) key doc
updates revno token update _ _ = refl

marks_removal : (revno : ℤ) (token : Token) (name : Name) (found : Option Cell) → may_leave name (hit_mark_remove revno token name found) ≡ true
marks_removal revno token (name.Doc key) (Some (cell.Doc doc)) = where_tested (is_free_doc revno token doc) (name.Doc key) (cell.Doc (record doc { remove = Some token })) (λ _. refl)
marks_removal revno token _ _ = refl

marks_insertion : (revno : ℤ) (token : Token) (name : Name) (found : Option Cell) → may_leave name (hit_mark_insert revno token name found) ≡ true
marks_insertion revno token (name.Stash key) (Some (cell.Stash stash)) = where_tested (is_free_stash revno token stash) (name.Stash key) (cell.Stash (record stash { insert = Some token })) (λ _. refl)
marks_insertion revno token _ _ = refl

puts_doc : (revno : ℤ) (body : Value) (queue : List Token) (name : Name) (found : Option Cell) → may_leave name (hit_put_doc_newer revno body queue name found) ≡ true
puts_doc revno body queue (name.Doc key) found = where_tested (is_newer_doc revno (name.Doc key) found) (name.Doc key) (cell.Doc (record { body = body; revno = revno; queue = queue; remove = None })) (λ _. refl)
puts_doc revno body queue _ found = refl

puts_stash : (revno : ℤ) (queue : List Token) (name : Name) (found : Option Cell) → may_leave name (hit_put_stash_newer revno queue name found) ≡ true
puts_stash revno queue (name.Stash key) found = where_tested (is_newer_stash revno (name.Stash key) found) (name.Stash key) (cell.Stash (record { revno = revno; queue = queue; insert = None })) (λ _. refl)
puts_stash revno queue _ found = refl

drops : (revno : ℤ) (name : Name) (found : Option Cell) → may_leave name (hit_drop_doc revno name found) ≡ true
drops revno (name.Doc key) (Some (cell.Doc doc)) = gone_tested (int_eq doc.revno revno) (name.Doc key)
drops revno _ _ = refl

pulls : (revno : ℤ) (token : Token) (name : Name) (found : Option Cell) → may_leave name (hit_pull revno token name found) ≡ true
pulls revno token (name.Doc key) (Some (cell.Doc doc)) = where_tested (is_free_doc revno token doc) (name.Doc key) (cell.Doc (record doc { queue = without_token token doc.queue })) (λ _. refl)
pulls revno token (name.Stash key) (Some (cell.Stash stash)) = where_tested (is_free_stash revno token stash) (name.Stash key) (cell.Stash (record stash { queue = without_token token stash.queue })) (λ _. refl)
pulls revno token _ _ = refl

draws : (name : Name) (found : Option Cell) → may_leave name (hit_draw_nonce name found) ≡ true
draws name.Nonce None = refl
draws name.Nonce (Some (cell.Nonce counter)) = where_tested (nat_lt counter nonce_limit) name.Nonce (cell.Nonce (counter + 1)) (λ _. refl)
draws _ _ = refl

places : (placed : Cell) (name : Name) (found : Option Cell) → may_leave name (hit_place placed name found) ≡ true
places placed name None = where_tested (may_stand name placed) name placed (λ e. e)
places placed name (Some _) = refl

erases : (erased : Cell) (name : Name) (found : Option Cell) → may_leave name (hit_erase erased name found) ≡ true
erases erased name None = refl
erases erased name (Some held) = gone_tested (may_stand name erased && same_cell held erased) name

replaces : (old new : Cell) (name : Name) (found : Option Cell) → may_leave name (hit_replace old new name found) ≡ true
replaces old new name None = refl
replaces old new name (Some held) = where_tested (may_stand name old && may_stand name new && same_cell held old) name new (λ e.
    let p = and_parts (may_stand name old && may_stand name new) (same_cell held old) e in
    (and_parts (may_stand name old) (may_stand name new) p.0).1)

pub hit_may_leave : (edit : Edit) (name : Name) (found : Option Cell) → may_hold name found ≡ true → may_leave name (hit edit name found) ≡ true
hit_may_leave (edit.InsertRecord rec) name found h = inserts rec name found
hit_may_leave (edit.Move from to nonce revnos) name found h = moves from to nonce revnos name found h
hit_may_leave (edit.AddToken token) name found h = adds token name found
hit_may_leave (edit.Update revno token update) name found h = updates revno token update name found
hit_may_leave (edit.MarkRemove revno token) name found h = marks_removal revno token name found
hit_may_leave (edit.MarkInsert revno token) name found h = marks_insertion revno token name found
hit_may_leave (edit.PutDocNewer revno body queue) name found h = puts_doc revno body queue name found
hit_may_leave (edit.PutStashNewer revno queue) name found h = puts_stash revno queue name found
hit_may_leave (edit.DropDoc revno) name found h = drops revno name found
hit_may_leave (edit.Pull revno token) name found h = pulls revno token name found
hit_may_leave edit.DrawNonce name found h = draws name found
hit_may_leave (edit.Place placed) name found h = places placed name found
hit_may_leave (edit.Erase erased) name found h = erases erased name found
hit_may_leave (edit.Replace old new) name found h = replaces old new name found
