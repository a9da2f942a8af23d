-- The test of two values is equality.
use Rattle.std.proofs.Common.{◌≡◌, List, [], ◌∷◌, Bool, true, false, map, refl, sym, ap, ap₂, ◌∙◌, subst}
use Rattle.std.specs.Bool.{Decides}
use Rattle.std.proofs.lemmas.Bool.{and_from, and_parts, true≢false}
use Rattle.std.proofs.lemmas.Bool.Decides.{Decides-int_eq}
use Rattle.std.proofs.lemmas.Slice.Eq.{bytes_eq-Decides}
use Rattle.doc_value.specs.declared.value.Named.{Named}
use Rattle.doc_value.specs.declared.value.Value.{Value, out-Value, map-Value}
use Rattle.doc_value.specs.declared.value.Value.TheOpen.{Value-F}
use Rattle.doc_value.specs.declared.value.Value.TheViews.{roll-Value, roll-out-Value, out-roll-Value}
use Rattle.doc_value.specs.declared.value.Value.TheFolds.{fold-roll-Value, ind-Value}
use Rattle.doc_value.specs.Fields.{judged}
use Rattle.doc_value.specs.Same.{same, same_step, same_layers, same_items, same_fields}

abbrev pub IsDecided : Value → Type 0
IsDecided v = ((w : Value) → same v w ≡ true → v ≡ w) × (same v v ≡ true)

abbrev Told : Type 0
Told = (v : Value) × IsDecided v

abbrev plain : Told → Value
plain told = told.0

abbrev tests : Value-F Told → Value-F (Value → Bool)
tests y = map-Value Value (Value → Bool) same (map-Value Told Value plain y)

items_equal : (ts : List Told) (ws : List Value) → same_items (map same (map plain ts)) ws ≡ true → map plain ts ≡ ws
items_equal [] [] h = refl
items_equal [] (w ∷ ws) h = absurd (true≢false (sym h))
items_equal (t ∷ ts) [] h = absurd (true≢false (sym h))
items_equal (t ∷ ts) (w ∷ ws) h = let p = and_parts _ _ h in ap₂ (λ v vs. v ∷ vs) (t.1.0 w p.0) (items_equal ts ws p.1)

items_self : (ts : List Told) → same_items (map same (map plain ts)) (map plain ts) ≡ true
items_self [] = refl
items_self (t ∷ ts) = and_from _ _ t.1.1 (items_self ts)

fields_equal : (ts : List (Named Told)) (ws : List (Named Value)) → same_fields (map (judged same) (map (judged plain) ts)) ws ≡ true → map (judged plain) ts ≡ ws
fields_equal [] [] h = refl
fields_equal [] (w ∷ ws) h = absurd (true≢false (sym h))
fields_equal (t ∷ ts) [] h = absurd (true≢false (sym h))
fields_equal (t ∷ ts) (w ∷ ws) h =
    let p = and_parts _ _ h in
    let q = and_parts _ _ p.1 in
    let name = (bytes_eq-Decides t.name w.name).0 p.0 in
    let value = t.value.1.0 w.value q.0 in
    let whole : judged plain t ≡ w = ap₂ (λ (n : List _) (v : Value). record { name = n; value = v }) name value in
    ap₂ (λ v vs. v ∷ vs) whole (fields_equal ts ws q.1)

fields_self : (ts : List (Named Told)) → same_fields (map (judged same) (map (judged plain) ts)) (map (judged plain) ts) ≡ true
fields_self [] = refl
fields_self (t ∷ ts) = and_from _ _ ((bytes_eq-Decides t.name t.name).1 refl) (and_from _ _ t.value.1.1 (fields_self ts))

level_equal : (y : Value-F Told) (z : Value-F Value) → same_layers (tests y) z ≡ true → map-Value Told Value plain y ≡ z
level_equal Value-F.Null Value-F.Null h = refl
level_equal (Value-F.Bool true) (Value-F.Bool other) h = ap Value-F.Bool (sym h)
level_equal (Value-F.Bool false) (Value-F.Bool false) h = refl
level_equal (Value-F.Int n) (Value-F.Int m) h = ap Value-F.Int ((Decides-int_eq n m).0 h)
level_equal (Value-F.Text s) (Value-F.Text t) h = ap Value-F.Text ((bytes_eq-Decides s t).0 h)
level_equal (Value-F.List ts) (Value-F.List ws) h = ap Value-F.List (items_equal ts ws h)
level_equal (Value-F.Object ts) (Value-F.Object ws) h = ap Value-F.Object (fields_equal ts ws h)
level_equal _ _ h = cc

level_self : (y : Value-F Told) → same_layers (tests y) (map-Value Told Value plain y) ≡ true
level_self Value-F.Null = refl
level_self (Value-F.Bool true) = refl
level_self (Value-F.Bool false) = refl
level_self (Value-F.Int n) = (Decides-int_eq n n).1 refl
level_self (Value-F.Text s) = (bytes_eq-Decides s s).1 refl
level_self (Value-F.List ts) = items_self ts
level_self (Value-F.Object ts) = fields_self ts

rolled : (y : Value-F Told) → IsDecided (roll-Value (map-Value Told Value plain y))
rolled y =
    let layer = map-Value Told Value plain y in
    let unfolded : (w : Value) → same (roll-Value layer) w ≡ same_layers (tests y) (out-Value w) = λ w. ap (λ (f : Value → Bool). f w) (fold-roll-Value (Value → Bool) same_step layer) in (
      (λ w h. ap roll-Value (level_equal y (out-Value w) (sym (unfolded w) ∙ h)) ∙ roll-out-Value w),
      unfolded (roll-Value layer) ∙ ap (same_layers (tests y)) (out-roll-Value layer) ∙ level_self y,
    )

pub decided : (v : Value) → IsDecided v
decided = ind-Value IsDecided (λ x y is. subst (λ z. IsDecided (roll-Value z)) is (rolled y))

pub same-Decides : (v w : Value) → Decides (same v w) (v ≡ w)
same-Decides v w = ((decided v).0 w, λ e. subst (λ u. same v u ≡ true) e (decided v).1)
