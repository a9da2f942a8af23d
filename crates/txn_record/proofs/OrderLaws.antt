-- How a recorded order grows at its end.
use Rattle.std.proofs.Common.{◌≡◌, Bool, true, false, ◌&&◌, ◌||◌, not, List, [], ◌∷◌, ◌++◌, sym, ◌∙◌, refl}
use Rattle.std.specs.Cmp.Lexicographic.{nat_list_eq_equiv}
use Rattle.std.specs.Str.{bytes_eq}
use Rattle.std.proofs.lemmas.Bool.{and_parts, true≢false}
use Rattle.txn_key.specs.Documents.{Docs}
use Rattle.txn_record.specs.Effects.{tests}
use Rattle.txn_record.specs.Orders.{outcome_effect, after, is_right, outcomes_right, has_entry, ids_distinct, legal}
use Rattle.txn_record.specs.declared.entry.Entry.{Entry}

pub after-push : (base : Docs) (entries : List Entry) (entry : Entry) → after base (entries ++ entry ∷ []) ≡ outcome_effect entry.outcome entry.ops (after base entries)
after-push base [] entry = refl
after-push base (e ∷ entries) entry = after-push (outcome_effect e.outcome e.ops base) entries entry

neither : (a b : Bool) → (a || b) ≡ false → (a ≡ false) × (b ≡ false)
neither true b e = absurd (true≢false e)
neither false b e = (refl, e)

outcomes_right-push : (base : Docs) (entries : List Entry) (entry : Entry) → outcomes_right base entries ≡ true → is_right entry.outcome (tests entry.ops (after base entries)) ≡ true
    → outcomes_right base (entries ++ entry ∷ []) ≡ true
outcomes_right-push base [] entry all last = λ i. last i && true
outcomes_right-push base (e ∷ entries) entry all last =
    let parts = and_parts (is_right e.outcome (tests e.ops base)) (outcomes_right (outcome_effect e.outcome e.ops base) entries) all in
    let rest = outcomes_right-push (outcome_effect e.outcome e.ops base) entries entry parts.1 last in
    λ i. parts.0 i && rest i

not_true : (b : Bool) → not b ≡ true → b ≡ false
not_true true e = absurd (true≢false (sym e))
not_true false e = refl

-- an id that is neither in the list nor at its end is not in the longer list
absent-push : (entries : List Entry) (last other : Entry) → has_entry entries other ≡ false → bytes_eq last.id.0 other.id.0 ≡ false → has_entry (entries ++ last ∷ []) other ≡ false
absent-push [] last other h e = λ i. e i || false
absent-push (x ∷ entries) last other h e =
    let parts = neither (bytes_eq x.id.0 other.id.0) (has_entry entries other) h in
    let rest = absent-push entries last other parts.1 e in
    λ i. parts.0 i || rest i

ids_distinct-push : (entries : List Entry) (entry : Entry) → ids_distinct entries ≡ true → has_entry entries entry ≡ false → ids_distinct (entries ++ entry ∷ []) ≡ true
ids_distinct-push [] entry d h = refl
ids_distinct-push (x ∷ entries) entry d h =
    let apart = and_parts (not (has_entry entries x)) (ids_distinct entries) d in
    let new = neither (bytes_eq x.id.0 entry.id.0) (has_entry entries entry) h in
    let turned : bytes_eq entry.id.0 x.id.0 ≡ false = nat_list_eq_equiv.symm entry.id.0 x.id.0 ∙ new.0 in
    let here = absent-push entries entry x (not_true _ apart.0) turned in
    let rest = ids_distinct-push entries entry apart.1 new.1 in
    λ i. not (here i) && rest i

pub legal-push : (base : Docs) (entries : List Entry) (entry : Entry) → legal base entries ≡ true → has_entry entries entry ≡ false
    → is_right entry.outcome (tests entry.ops (after base entries)) ≡ true → legal base (entries ++ entry ∷ []) ≡ true
legal-push base entries entry all new last =
    let parts = and_parts (ids_distinct entries) (outcomes_right base entries) all in
    let ids = ids_distinct-push entries entry parts.0 new in
    let right = outcomes_right-push base entries entry parts.1 last in
    λ i. ids i && right i
