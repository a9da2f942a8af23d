-- The documents while they are completed: bodies at keys, and what cells have still to do to them.
use Rattle.std.specs.Prelude.{◌≡◌, ℕ, ◌<◌, suc, Option, Some, None, option_map, List, [], ◌∷◌, map, length, if◌then◌else◌}
use Rattle.std.specs.FinMap.{empty, insert}
use Rattle.std.specs.List.{AllWithin, HoldsAt, flat_map}
use Rattle.doc_value.specs.declared.value.Value.{Value}
use Rattle.txn_key.specs.Documents.{Docs}
use Rattle.txn_key.specs.declared.key.Key.{Key}
use Rattle.txn_record.specs.Effects.{effect, changes_fit, change_fits, body_after}
use Rattle.txn_record.specs.declared.op.Change.{Change}
use Rattle.txn_record.specs.declared.op.Op.{Op}
use Rattle.txn_record.specs.declared.state.State.TheVariants as state
use Rattle.store_trait.specs.Contents.{Content}
use Rattle.store_trait.specs.Names.{same_state}
use Rattle.store_trait.specs.declared.cell.Cell.{Cell}
use Rattle.store_trait.specs.declared.cell.Cell.TheVariants as cell
use Rattle.store_trait.specs.declared.cell.Named.{Named}
use Rattle.store_trait.specs.declared.name.Name.{Name}
use Rattle.store_trait.specs.declared.name.Name.TheVariants as name
use Rattle.store_laws.specs.Held.{body_in}
use Rattle.store_laws.specs.Meaning.{pending_of, meaning}
use Rattle.store_laws.specs.Soundness.{Holds, Fits}
use Rattle.store_laws.specs.View.{View, look}
use Rattle.listed_cells.specs.Listing.{content_of}

-- ---- bodies at keys

-- the documents with this body at the key, where there is one
abbrev pub added : Key → Option Value → Docs → Docs
added key None docs = docs
added key (Some body) docs = insert docs key body

abbrev pub with_bodies : Docs → List Key → List (Option Value) → Docs
with_bodies docs [] _ = docs
with_bodies docs (key ∷ keys) [] = docs
with_bodies docs (key ∷ keys) (body ∷ bodies) = with_bodies (added key body docs) keys bodies

-- the documents that bodies at keys mean
abbrev pub kept : List Key → List (Option Value) → Docs
kept keys bodies = with_bodies empty keys bodies

-- the body under a key, as its owner holds it
abbrev pub held_body : Content → Key → Option Value
held_body c key = body_in ((look c).held_at key)

-- what a change makes of a body, and nothing where it doesn't fit
abbrev pub after_change : Change → Option Value → Option (Option Value)
after_change change found =
    if change_fits change found then Some (body_after change found) else None

-- ---- what cells have still to do

-- the operations of a record that is applying
abbrev pub applying_ops : Cell → List Op
applying_ops (cell.Record rec) = if same_state state.Applying rec.state then rec.ops else []
applying_ops _ = []

abbrev pub pending_in : View → Cell → List Op
pending_in view (cell.Record rec) = pending_of view rec
pending_in view _ = []

abbrev pub to_do : View → List Named → List Op
to_do view cells = flat_map (λ (x : Named). pending_in view x.cell) cells

-- The place of the first cell that has to do what doesn't fit, on the documents that the cells before
-- it leave.
abbrev pub first_unfit : View → List Named → Docs → Option ℕ
first_unfit view [] docs = None
first_unfit view (x ∷ cells) docs =
    if changes_fit (pending_in view x.cell) docs
    then option_map suc (first_unfit view cells (effect (pending_in view x.cell) docs))
    else Some 0

-- ---- the keys that they may have to do with

abbrev pub op_keys : List Op → List Key
op_keys ops = map (λ (op : Op). op.key) ops

abbrev pub keys_under : Name → Cell → List Key
keys_under (name.Doc key) x = key ∷ []
keys_under _ x = op_keys (applying_ops x)

abbrev pub keys_in : List Named → List Key
keys_in cells = flat_map (λ (x : Named). keys_under x.name x.cell) cells

-- ---- the outcome

-- the documents are what the cells mean, and all that is pending fits
pub record IsComplete (cells : List Named) (docs : Docs) : Type 0 where
  pub means : docs ≡ meaning (content_of cells)
  pub fits : (n : Name) → Holds Fits (content_of cells) n

-- the cell at the place is the first with pending operations that don't fit
pub record IsUnfit (cells : List Named) (place : ℕ) : Type 0 where
  pub within : place < length cells
  pub fails : HoldsAt (λ x. Holds Fits (content_of cells) x.name → ⊥) cells place
  pub before : AllWithin (λ x. Holds Fits (content_of cells) x.name) cells 0 place
