-- Each sound value is that of plain JSON.
use Rattle.std.proofs.Common.{◌≡◌, ℤ, pos, List, [], ◌∷◌, Bool, true, map, unwrap_or, refl, sym, ap, ap₂, ◌∙◌, subst}
use Rattle.std.proofs.lemmas.Bool.{and_parts}
use Rattle.std.proofs.lemmas.Str.{IsUtf8-from_is_utf8}
use Rattle.serde_json.specs.Data.{Data, null, boolean, number, string, array, object, Members, no_members, member}
use Rattle.serde_json.specs.Find.{of_integer}
use Rattle.serde_json.specs.View.{items_of}
use Rattle.doc_value.specs.declared.value.Named.{Named}
use Rattle.doc_value.specs.declared.value.Value.{Value, Int, List as Items_of, Object, map-Value}
use Rattle.doc_value.specs.declared.value.Value.TheOpen.{Value-F}
use Rattle.doc_value.specs.declared.value.Value.TheViews.{roll-Value}
use Rattle.doc_value.specs.declared.value.Value.TheFolds.{fold-Value, fold-roll-Value, ind-Value}
use Rattle.doc_value.specs.declared.value.Value.TheVariants.{rolls-Null, rolls-Bool, rolls-Int, rolls-Text, rolls-List, rolls-Object}
use Rattle.doc_value.specs.Fields.{judged}
use Rattle.doc_value.specs.JsonValue.{value_of, values_of, fields_of}
use Rattle.doc_value.specs.Sound.{fits_64_bits, all_sound, fields_sound, sound_step, is_sound}
use Rattle.doc_value.proofs.PlainJson.{IsPlain, ItemsArePlain, MembersArePlain, IsPlainNumber, plain_number}

abbrev pub members_in : List (Named Data) → Members
members_in [] = no_members
members_in (field ∷ fields) = member field.name field.value (members_in fields)

abbrev pub data_step : Value-F Data → Data
data_step Value-F.Null = null
data_step (Value-F.Bool b) = boolean b
data_step (Value-F.Int z) = number (of_integer z)
data_step (Value-F.Text s) = string s
data_step (Value-F.List ds) = array (items_of ds)
data_step (Value-F.Object fields) = object (members_in fields)

abbrev pub data_of : Value → Data
data_of = fold-Value Data data_step

abbrev pub IsRebuilt : Value → Type 0
IsRebuilt v = is_sound v ≡ true → (value_of (data_of v) ≡ v) × IsPlain (data_of v)

abbrev Told : Type 0
Told = (v : Value) × IsRebuilt v

abbrev plain : Told → Value
plain told = told.0

items_told : (ts : List Told) → all_sound (map is_sound (map plain ts)) ≡ true
    → (values_of (items_of (map data_of (map plain ts))) ≡ map plain ts) × ItemsArePlain (items_of (map data_of (map plain ts)))
items_told [] h = (refl, tt)
items_told (t ∷ ts) h =
    let p = and_parts _ _ h in
    let own = t.1 p.0 in
    let rest = items_told ts p.1 in
    (ap₂ (λ v vs. v ∷ vs) own.0 rest.0, (own.1, rest.1))

fields_told : (ts : List (Named Told)) → fields_sound (map (judged is_sound) (map (judged plain) ts)) ≡ true
    → (fields_of (members_in (map (judged data_of) (map (judged plain) ts))) ≡ map (judged plain) ts) × MembersArePlain (members_in (map (judged data_of) (map (judged plain) ts)))
fields_told [] h = (refl, tt)
fields_told (t ∷ ts) h =
    let p = and_parts _ _ h in
    let q = and_parts _ _ p.1 in
    let own = t.value.1 q.0 in
    let rest = fields_told ts q.1 in
    (ap₂ (λ (v : Value) (fs : List (Named Value)). record { name = t.name; value = v } ∷ fs) own.0 rest.0, (IsUtf8-from_is_utf8 t.name p.0, own.1, rest.1))

abbrev number_plain : (z : ℤ) → fits_64_bits z ≡ true → IsPlainNumber (of_integer z)
number_plain z h = record { whole = z; is = refl; fits = h }

-- one level, where each value inside is told
level : (y : Value-F Told) → sound_step (map-Value Value Bool is_sound (map-Value Told Value plain y)) ≡ true
    → (value_of (data_step (map-Value Value Data data_of (map-Value Told Value plain y))) ≡ roll-Value (map-Value Told Value plain y)) × IsPlain (data_step (map-Value Value Data data_of (map-Value Told Value plain y)))
level Value-F.Null h = (sym rolls-Null, tt)
level (Value-F.Bool b) h = (sym (rolls-Bool b), tt)
level (Value-F.Int z) h =
    let small = number_plain z h in
    (ap (λ o. Int (unwrap_or o (pos 0))) (plain_number (of_integer z) small) ∙ sym (rolls-Int z), small)
level (Value-F.Text s) h = (sym (rolls-Text s), IsUtf8-from_is_utf8 s h)
level (Value-F.List ts) h = let told = items_told ts h in (ap Items_of told.0 ∙ sym (rolls-List _), told.1)
level (Value-F.Object ts) h = let told = fields_told ts h in (ap Object told.0 ∙ sym (rolls-Object _), told.1)

rolled : (y : Value-F Told) → IsRebuilt (roll-Value (map-Value Told Value plain y))
rolled y = λ h.
    let layer = map-Value Told Value plain y in
    let built = fold-roll-Value Data data_step layer in
    let told = level y (sym (fold-roll-Value Bool sound_step layer) ∙ h) in
    (ap value_of built ∙ told.0, subst IsPlain (sym built) told.1)

pub rebuilt : (v : Value) → IsRebuilt v
rebuilt = ind-Value IsRebuilt (λ x y is. subst (λ z. IsRebuilt (roll-Value z)) is (rolled y))
