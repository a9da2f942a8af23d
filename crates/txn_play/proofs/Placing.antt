-- What placing a cell comes to.
use Rattle.std.proofs.Common.{◌≡◌, Bool, true, false, ◌&&◌, Option, Some, None, is_some, is_none, refl, sym, ap, ◌∙◌}
use Rattle.std.specs.Bool.{OnTrue}
use Rattle.std.specs.FinMap.{get, insert}
use Rattle.store_trait.specs.Calls.{IsMade}
use Rattle.store_trait.specs.Contents.{Content}
use Rattle.store_trait.specs.Edits.{hit_place, put_under}
use Rattle.store_trait.specs.Names.{may_stand}
use Rattle.store_trait.specs.declared.cell.Cell.{Cell}
use Rattle.store_trait.specs.declared.edit.Edit.TheVariants as edit
use Rattle.store_trait.specs.declared.edit.Edited.{Edited}
use Rattle.store_trait.specs.declared.name.Name.{Name}

pub record Places (c : Content) (at : Name) (cell : Cell) (new : Content) (placed : Bool) : Type 0 where
  pub free : placed ≡ (is_none (get c at) && may_stand at cell)
  pub made : OnTrue placed (new ≡ insert c at cell)
  pub missed : placed ≡ false → new ≡ c

pub places : (c : Content) (at : Name) (cell : Cell) (new : Content) (done : Edited) → IsMade c at (edit.Place cell) new done → Places c at cell new done.hit
places c at cell new done m = by (get c at) (may_stand at cell) refl refl
  where
    on_true : (b : Bool) (P : Type 0) → (b ≡ true → P) → OnTrue b P
    on_true true P p = p refl
    on_true false P p = tt

    clash : {b : Bool} {A : Type 0} → b ≡ true → b ≡ false → A
    clash p q = absurd (cc)

    -- with what the guard says of the cell that is there
    by : (o : Option Cell) (may : Bool) → get c at ≡ o → may_stand at cell ≡ may → Places c at cell new done.hit
    by None true e s =
        let is : hit_place cell at (get c at) ≡ Some (Some cell) = rw (e, s) refl in
        let hits = m.hit ∙ ap is_some is in
        record {
          free = hits ∙ sym (λ i. is_none (e i) && s i);
          made = on_true done.hit _ (λ _. m.made ∙ ap (put_under c at) is);
          missed = λ f. clash hits f;
        }
    by None false e s =
        let is : hit_place cell at (get c at) ≡ None = rw (e, s) refl in
        let misses = m.hit ∙ ap is_some is in
        record {
          free = misses ∙ sym (λ i. is_none (e i) && s i);
          made = on_true done.hit _ (λ t. clash t misses);
          missed = λ _. m.made ∙ ap (put_under c at) is;
        }
    by (Some there) may e s =
        let is : hit_place cell at (get c at) ≡ None = rw e refl in
        let misses = m.hit ∙ ap is_some is in
        record {
          free = misses ∙ sym (ap (λ (o : Option Cell). is_none o && may_stand at cell) e);
          made = on_true done.hit _ (λ t. clash t misses);
          missed = λ _. m.made ∙ ap (put_under c at) is;
        }
