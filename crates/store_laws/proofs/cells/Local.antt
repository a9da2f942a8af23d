-- An edit changes one cell at most.
use Rattle.std.proofs.Common.{◌≡◌, ◌≢◌, Bool, true, false, cond, Some, None, ap, ◌∙◌, refl, unwrap_or}
use Rattle.std.specs.Cmp.{Equal-is}
use Rattle.std.specs.FinMap.{get, get-insert, get-remove}
use Rattle.std.specs.Ordering.{is_eq, eq_by_cmp}
use Rattle.std.proofs.lemmas.Cmp.{tied_itself}
use Rattle.store_trait.proofs.NameOrder.{name_cmp_total, name_cmp-IsAntisymmetric}
use Rattle.store_trait.specs.Contents.{Content}
use Rattle.store_trait.specs.Edits.{Hit, hit, put_under, edited}
use Rattle.store_trait.specs.Names.{name_cmp}
use Rattle.store_trait.specs.declared.edit.Edit.{Edit}
use Rattle.store_trait.specs.declared.name.Name.{Name}

unlike : (m n : Name) → m ≢ n → eq_by_cmp name_cmp m n ≡ false
unlike m n apart = go (eq_by_cmp name_cmp m n) refl
  where
    go : (t : Bool) → eq_by_cmp name_cmp m n ≡ t → t ≡ false
    go true e = absurd (apart (name_cmp-IsAntisymmetric m n ((Equal-is (name_cmp m n)).0 e)))
    go false e = refl

alike : (n : Name) → eq_by_cmp name_cmp n n ≡ true
alike n = ap is_eq (tied_itself name_cmp_total n)

put_elsewhere : (c : Content) (n : Name) (h : Hit) (m : Name) → m ≢ n → get (put_under c n h) m ≡ get c m
put_elsewhere c n None m apart = refl
put_elsewhere c n (Some None) m apart = get-remove name_cmp_total c n m ∙ ap (λ (t : Bool). cond t None (get c m)) (unlike m n apart)
put_elsewhere c n (Some (Some x)) m apart = get-insert name_cmp_total c n x m ∙ ap (λ (t : Bool). cond t (Some x) (get c m)) (unlike m n apart)

pub put_there : (c : Content) (n : Name) (h : Hit) → get (put_under c n h) n ≡ unwrap_or h (get c n)
put_there c n None = refl
put_there c n (Some None) = get-remove name_cmp_total c n n ∙ ap (λ (t : Bool). cond t None (get c n)) (alike n)
put_there c n (Some (Some x)) = get-insert name_cmp_total c n x n ∙ ap (λ (t : Bool). cond t (Some x) (get c n)) (alike n)

-- under another name all is as before
pub edited_elsewhere : (c : Content) (n : Name) (e : Edit) (m : Name) → m ≢ n → get (edited c n e) m ≡ get c m
edited_elsewhere c n e m apart = put_elsewhere c n (hit e n (get c n)) m apart

-- under its name stands what the hit makes, or what stood there
pub edited_there : (c : Content) (n : Name) (e : Edit) → get (edited c n e) n ≡ unwrap_or (hit e n (get c n)) (get c n)
edited_there c n e = put_there c n (hit e n (get c n))
