-- A call that leaves the content as it was, and what an edit left where it hit.
use Rattle.std.proofs.Common.{◌≡◌, ℕ, ℤ, Bool, true, false, cond, Option, Some, None, is_some, List, inl, ap, ◌∙◌, refl}
use Rattle.std.specs.FinMap.{get, insert}
use Rattle.std.specs.Option.{option_and_then}
use Rattle.txn_key.specs.declared.id.TxnId.{TxnId}
use Rattle.txn_record.specs.declared.record.Record.{Record}
use Rattle.txn_record.specs.declared.state.State.{State}
use Rattle.txn_record.specs.declared.state.State.TheVariants as state
use Rattle.store_trait.specs.Cells.{as_record}
use Rattle.store_trait.specs.Contents.{Content}
use Rattle.store_trait.specs.Edits.{Hit, puts, hit, hit_move, moved, put_under, edited}
use Rattle.store_trait.specs.Names.{same_state}
use Rattle.store_laws.specs.Soundness.{IsSound}
use Rattle.store_laws.specs.Steps.{IsQuiet}
use Rattle.store_laws.specs.View.{look, record_at}
use Rattle.store_trait.specs.declared.cell.Cell.{Cell}
use Rattle.store_trait.specs.declared.cell.Cell.TheVariants as cell
use Rattle.store_trait.specs.declared.edit.Edit.{Edit}
use Rattle.store_trait.specs.declared.edit.Edit.TheVariants as edit
use Rattle.store_trait.specs.declared.name.Name.{Name}
use Rattle.store_trait.specs.declared.name.Name.TheVariants as name
use Rattle.store_laws.proofs.chains.Done.{done_itself}
use Rattle.store_laws.proofs.cells.Entries.{cells_stay, leaves_cells}
use Rattle.store_laws.proofs.views.Later.{later_itself}
use Rattle.store_laws.proofs.views.Lost.{lost_itself}
use Rattle.store_laws.proofs.views.KindsOfMove.{same_states}
use Rattle.store_laws.proofs.meanings.Decided.{decided_by-same}
use Rattle.store_laws.proofs.cells.Under.{record_under}

pub quiet_itself : (c : Content) → IsSound c → IsQuiet c c
quiet_itself c s = record { step = record { sound = s; later = later_itself (look c); lost = lost_itself (look c); done = done_itself (look c); cells = cells_stay (leaves_cells (λ key. refl) (λ key. refl)) }; entry = λ key. inl refl; means = refl; none = λ at. decided_by-same c c at s.kinds refl }

missed : (c : Content) (n : Name) (h : Hit) → is_some h ≡ false → put_under c n h ≡ c
missed c n None e = refl
missed c n (Some h) e = cc

-- an edit that misses leaves all as it was
pub miss_leaves : (c : Content) (n : Name) (e : Edit) → is_some (hit e n (get c n)) ≡ false → edited c n e ≡ c
miss_leaves c n e miss = missed c n (hit e n (get c n)) miss

-- A move: either nothing is there in its first state, or the record there moves.

-- by cases on what a move finds
pub by_move : (c : Content) (id : TxnId) (from to : State) (drawn : Option ℕ) (revnos : Option (List ℤ)) (P : Content → Type 0) → P c
    → ((was : Record) → record_at c id ≡ Some was → was.state ≡ from → P (insert c (name.Record id) (cell.Record (moved to drawn revnos was))))
    → (found : Option Cell) → get c (name.Record id) ≡ found → P (put_under c (name.Record id) (hit_move from to drawn revnos (name.Record id) found))
unfolding record_at
by_move c id from to drawn revnos P stays moves None e = stays
by_move c id from to drawn revnos P stays moves (Some (cell.Doc doc)) e = stays
by_move c id from to drawn revnos P stays moves (Some (cell.Stash stash)) e = stays
by_move c id from to drawn revnos P stays moves (Some (cell.Nonce counter)) e = stays
by_move c id from to drawn revnos P stays moves (Some (cell.Record was)) e = go (same_state was.state from) refl
  where
    go : (t : Bool) → same_state was.state from ≡ t → P (put_under c (name.Record id) (cond t (puts (cell.Record (moved to drawn revnos was))) None))
    go true same = moves was (ap (option_and_then as_record) e) (same_states was.state from same)
    go false same = stays

pub same_itself : (s : State) → same_state s s ≡ true
same_itself state.Preparing = refl
same_itself state.Prepared = refl
same_itself state.Aborting = refl
same_itself state.Applying = refl
same_itself state.Aborted = refl
same_itself state.Applied = refl

-- a move of a record that is in its first state
pub moves_there : (c : Content) (id : TxnId) (from to : State) (drawn : Option ℕ) (revnos : Option (List ℤ)) (was : Record) → record_at c id ≡ Some was → was.state ≡ from
    → edited c (name.Record id) (edit.Move from to drawn revnos) ≡ insert c (name.Record id) (cell.Record (moved to drawn revnos was))
moves_there c id from to drawn revnos was there now =
    ap (λ (found : Option Cell). put_under c (name.Record id) (hit_move from to drawn revnos (name.Record id) found)) (record_under c id was there)
    ∙ ap (λ (t : Bool). put_under c (name.Record id) (cond t (puts (cell.Record (moved to drawn revnos was))) None)) (ap (λ (s : State). same_state s from) now ∙ same_itself from)
