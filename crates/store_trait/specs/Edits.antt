use Rattle.std.specs.Prelude.{◌≡◌, ℕ, ◌+◌, Bool, true, false, not, ◌&&◌, nat_lt, ℤ, pos, negsuc, ◌+ℤ◌, int_lt, Option, Some, None, is_none, option_map, List, [], ◌∷◌, ◌++◌, filter, if◌then◌else◌}
use Rattle.std.specs.Ordering.{int_eq}
use Rattle.std.specs.List.{list_any}
use Rattle.std.specs.FinMap.{get, insert, remove}
use Rattle.doc_value.specs.declared.value.Value.{Value}
use Rattle.doc_update.specs.Updates.{updated}
use Rattle.txn_key.specs.declared.id.Token.{Token}
use Rattle.txn_record.specs.declared.record.Record.{Record}
use Rattle.txn_record.specs.declared.state.State.{State}
use Rattle.store_trait.specs.Names.{same_id, same_state, may_stand, may_hold}
pub use Rattle.store_trait.specs.Same.{same_token}
use Rattle.store_trait.specs.Same.{same_cell}
use Rattle.store_trait.specs.Contents.{Content}
use Rattle.store_trait.specs.Owners.{epoch}
use Rattle.store_trait.specs.declared.name.Name.{Name}
use Rattle.store_trait.specs.declared.name.Name.TheVariants as name
use Rattle.store_trait.specs.declared.cell.Cell.{Cell}
use Rattle.store_trait.specs.declared.cell.Cell.TheVariants as cell
use Rattle.store_trait.specs.declared.cell.DocCell.{DocCell}
use Rattle.store_trait.specs.declared.cell.StashCell.{StashCell}
use Rattle.store_trait.specs.declared.edit.Edit.{Edit}
use Rattle.store_trait.specs.declared.edit.Edit.TheVariants as edit

-- What an edit does to the cell that stands under its name, if one does. A miss, where the guard
-- doesn't hold, is None; a hit is the cell after it, or Some None where the cell is gone.
abbrev pub Hit : Type 0
Hit = Option (Option Cell)

abbrev pub puts : Cell → Hit
puts after = Some (Some after)

-- ---- queues

abbrev pub has_token : Token → List Token → Bool
has_token token queue = list_any (same_token token) queue

-- the queue with a token at its end, unless it is there
abbrev pub with_token : Token → List Token → List Token
with_token token queue = if has_token token queue then queue else queue ++ token ∷ []

-- the queue with a token taken out
abbrev pub without_token : Token → List Token → List Token
without_token token queue = filter (λ other. not (same_token token other)) queue

-- ---- guards

-- the document stands at a number that has a next one, and the token waits on it
abbrev pub is_updatable : DocCell → ℤ → Token → Bool
is_updatable doc revno token =
    int_eq doc.revno revno && int_lt revno (pos 9223372036854775807) && has_token token doc.queue

-- the cell stands at that number, unmarked, and the token waits on it
abbrev pub is_free_doc : ℤ → Token → DocCell → Bool
is_free_doc revno token doc =
    int_eq doc.revno revno && is_none doc.remove && has_token token doc.queue

abbrev pub is_free_stash : ℤ → Token → StashCell → Bool
is_free_stash revno token stash =
    int_eq stash.revno revno && is_none stash.insert && has_token token stash.queue

-- a key has no document, or one at a smaller number
abbrev pub is_newer_doc : ℤ → Name → Option Cell → Bool
is_newer_doc revno (name.Doc _) None = true
is_newer_doc revno (name.Doc _) (Some (cell.Doc doc)) = int_lt doc.revno revno
is_newer_doc revno _ _ = false

-- a key has no stash entry, or one of a smaller epoch
abbrev pub is_newer_stash : ℤ → Name → Option Cell → Bool
is_newer_stash revno (name.Stash _) None = true
is_newer_stash revno (name.Stash _) (Some (cell.Stash stash)) =
    nat_lt (epoch stash.revno) (epoch revno)
is_newer_stash revno _ _ = false

-- the last counter, at which no nonce is left
abbrev pub nonce_limit : ℕ
nonce_limit = 4294967295

-- ---- edits of records

-- a field that is set where a new value is given
abbrev pub given_or : {A : Type 0} → Option A → Option A → Option A
given_or None old = old
given_or (Some new) old = Some new

abbrev pub moved : State → Option ℕ → Option (List ℤ) → Record → Record
moved to nonce revnos rec = record rec {
  state = to;
  nonce = given_or nonce rec.nonce;
  revnos = given_or revnos rec.revnos;
}

abbrev pub hit_insert_record : Record → Name → Option Cell → Hit
hit_insert_record rec (name.Record id) None =
    if same_id id rec.id then puts (cell.Record rec) else None
hit_insert_record _ _ _ = None

abbrev pub hit_move : State → State → Option ℕ → Option (List ℤ) → Name → Option Cell → Hit
hit_move from to nonce revnos (name.Record _) (Some (cell.Record rec)) =
    if same_state rec.state from then puts (cell.Record (moved to nonce revnos rec)) else None
hit_move _ _ _ _ _ _ = None

-- ---- edits of queues, on a document and on a stash entry

-- an edit that a marked cell misses
abbrev pub unmarked : {A B : Type 0} → Option A → Option B → Option B
unmarked mark hit = if is_none mark then hit else None

-- an entry that is made for a first token
abbrev pub new_stash : Token → StashCell
new_stash token = record { revno = negsuc 0; queue = token ∷ []; insert = None }

abbrev pub hit_add_token : Token → Name → Option Cell → Hit
hit_add_token token (name.Doc _) (Some (cell.Doc doc)) =
    unmarked doc.remove (puts (cell.Doc (record doc { queue = with_token token doc.queue })))
hit_add_token token (name.Stash _) None = puts (cell.Stash (new_stash token))
hit_add_token token (name.Stash _) (Some (cell.Stash stash)) =
    unmarked stash.insert
    (puts (cell.Stash (record stash { queue = with_token token stash.queue })))
hit_add_token _ _ _ = None

abbrev pub hit_pull : ℤ → Token → Name → Option Cell → Hit
hit_pull revno token (name.Doc _) (Some (cell.Doc doc)) =
    if is_free_doc revno token doc
    then puts (cell.Doc (record doc { queue = without_token token doc.queue }))
    else None
hit_pull revno token (name.Stash _) (Some (cell.Stash stash)) =
    if is_free_stash revno token stash
    then puts (cell.Stash (record stash { queue = without_token token stash.queue }))
    else None
hit_pull _ _ _ _ = None

-- ---- edits of documents and stash entries

abbrev pub with_body : DocCell → Value → Cell
with_body doc body = cell.Doc (record doc { body = body; revno = doc.revno +ℤ pos 1 })

abbrev pub hit_doc_update : ℤ → Token → Value → DocCell → Hit
hit_doc_update revno token update doc =
    if is_updatable doc revno token
    then option_map (λ body. Some (with_body doc body)) (updated update doc.body)
    else None

abbrev pub hit_update : ℤ → Token → Value → Name → Option Cell → Hit
hit_update revno token update (name.Doc _) (Some (cell.Doc doc)) =
    hit_doc_update revno token update doc
hit_update _ _ _ _ _ = None

abbrev pub hit_mark_remove : ℤ → Token → Name → Option Cell → Hit
hit_mark_remove revno token (name.Doc _) (Some (cell.Doc doc)) =
    if is_free_doc revno token doc
    then puts (cell.Doc (record doc { remove = Some token }))
    else None
hit_mark_remove _ _ _ _ = None

abbrev pub hit_mark_insert : ℤ → Token → Name → Option Cell → Hit
hit_mark_insert revno token (name.Stash _) (Some (cell.Stash stash)) =
    if is_free_stash revno token stash
    then puts (cell.Stash (record stash { insert = Some token }))
    else None
hit_mark_insert _ _ _ _ = None

abbrev pub hit_put_doc_newer : ℤ → Value → List Token → Name → Option Cell → Hit
hit_put_doc_newer revno body queue name found =
    if is_newer_doc revno name found
    then puts (cell.Doc (record { body = body; revno = revno; queue = queue; remove = None }))
    else None

abbrev pub hit_put_stash_newer : ℤ → List Token → Name → Option Cell → Hit
hit_put_stash_newer revno queue name found =
    if is_newer_stash revno name found
    then puts (cell.Stash (record { revno = revno; queue = queue; insert = None }))
    else None

abbrev pub hit_drop_doc : ℤ → Name → Option Cell → Hit
hit_drop_doc revno (name.Doc _) (Some (cell.Doc doc)) =
    if int_eq doc.revno revno then Some None else None
hit_drop_doc _ _ _ = None

-- ---- the nonce

-- an absent counter counts as 0
abbrev pub hit_draw_nonce : Name → Option Cell → Hit
hit_draw_nonce name.Nonce None = puts (cell.Nonce 1)
hit_draw_nonce name.Nonce (Some (cell.Nonce counter)) =
    if nat_lt counter nonce_limit then puts (cell.Nonce (counter + 1)) else None
hit_draw_nonce _ _ = None

-- ---- edits of any cell

abbrev pub hit_place : Cell → Name → Option Cell → Hit
hit_place placed name None = if may_stand name placed then puts placed else None
hit_place _ _ _ = None

abbrev pub hit_erase : Cell → Name → Option Cell → Hit
hit_erase erased name (Some held) =
    if may_stand name erased && same_cell held erased then Some None else None
hit_erase _ _ None = None

abbrev pub hit_replace : Cell → Cell → Name → Option Cell → Hit
hit_replace old new name (Some held) =
    if may_stand name old && may_stand name new && same_cell held old then puts new else None
hit_replace _ _ _ None = None

abbrev pub hit : Edit → Name → Option Cell → Hit
hit (edit.InsertRecord rec) = hit_insert_record rec
hit (edit.Move from to nonce revnos) = hit_move from to nonce revnos
hit (edit.AddToken token) = hit_add_token token
hit (edit.Update revno token update) = hit_update revno token update
hit (edit.MarkRemove revno token) = hit_mark_remove revno token
hit (edit.MarkInsert revno token) = hit_mark_insert revno token
hit (edit.PutDocNewer revno body queue) = hit_put_doc_newer revno body queue
hit (edit.PutStashNewer revno queue) = hit_put_stash_newer revno queue
hit (edit.DropDoc revno) = hit_drop_doc revno
hit (edit.Pull revno token) = hit_pull revno token
hit edit.DrawNonce = hit_draw_nonce
hit (edit.Place placed) = hit_place placed
hit (edit.Erase erased) = hit_erase erased
hit (edit.Replace old new) = hit_replace old new

-- ---- contents

-- whether what an edit leaves under a name may stand there
abbrev pub may_leave : Name → Hit → Bool
may_leave name None = true
may_leave name (Some after) = may_hold name after

-- the content once a hit, or a miss, has been made under a name
abbrev pub put_under : Content → Name → Hit → Content
put_under content name None = content
put_under content name (Some None) = remove content name
put_under content name (Some (Some after)) = insert content name after

-- the content after an edit: at most the cell under the name differs
abbrev pub edited : Content → Name → Edit → Content
edited content name edit = put_under content name (hit edit name (get content name))

-- what an edit that answers Failed may leave: the content as before
abbrev pub left : Content → Name → Edit → Content → Type 0
left content name edit new = new ≡ content
