-- One group of changes more: what is left of them, and what is put so far.
use Rattle.std.proofs.Common.{◌≡◌, ℕ, zero, suc, Bool, true, false, ◌&&◌, not, List, [], ◌∷◌, ◌++◌, take, drop, map, Option, Some, None, option_and_then, refl, sym, ap, ◌∙◌}
use Rattle.std.specs.List.{list_any, list_all}
use Rattle.std.specs.Str.{bytes_eq}
use Rattle.std.proofs.lemmas.Bool.{true≢false, and_parts, and_from, or_parts, not-true}
use Rattle.std.proofs.lemmas.List.Folds.{list_any-append, list_all-append}
use Rattle.doc_value.specs.declared.value.Value.{Value}
use Rattle.doc_update.specs.Changes.{Change}
use Rattle.doc_update.specs.Conflicts.{conflict, are_apart}
use Rattle.doc_apply.specs.Groups.{first_part, first_head, begins_with, has_head, count_head, parts_in_order, precedes_head, heads_rise}
use Rattle.doc_update.specs.Places.{part_of, placed}
use Rattle.doc_apply.specs.Puts.{placed_all}
use Rattle.doc_update.specs.Updates.{after_change, after_changes}
use Rattle.doc_apply.specs.declared.put.Put.{Put}
use Rattle.doc_apply.proofs.Grouping.{puts_before, puts_before_part, below_head, group_is}
use Rattle.doc_value.proofs.NameOrder.{before, past, past-itself, before-trans, before-differs, by_order, bytes_eq-turned, bytes_eq-itself, equal-name}
use Rattle.doc_update.proofs.PlacedLaws.{put_there}
use Rattle.doc_update.proofs.Facts.{no_some}

-- ---- the group and the rest

abbrev pub group : List ℕ → List Change → List Change
group name changes = take (count_head name changes) changes

abbrev pub others : List ℕ → List Change → List Change
others name changes = drop (count_head name changes) changes

counted : (name : List ℕ) (change : Change) (changes : List Change) → has_head name change ≡ true → count_head name (change ∷ changes) ≡ suc (count_head name changes)
counted name change changes h = simp h

not_counted : (name : List ℕ) (change : Change) (changes : List Change) → has_head name change ≡ false → count_head name (change ∷ changes) ≡ 0
not_counted name change changes h = simp h

pub group_heads : (name : List ℕ) (changes : List Change) → list_all (has_head name) (group name changes) ≡ true
group_heads name [] = refl
group_heads name (change ∷ changes) = by (has_head name change) refl (group_heads name changes)
  where
    by : (b : Bool) → has_head name change ≡ b → list_all (has_head name) (group name changes) ≡ true → list_all (has_head name) (group name (change ∷ changes)) ≡ true
    by true h rest = ap (λ n. list_all (has_head name) (take n (change ∷ changes))) (counted name change changes h) ∙ and_from (has_head name change) (list_all (has_head name) (group name changes)) h rest
    by false h rest = ap (λ n. list_all (has_head name) (take n (change ∷ changes))) (not_counted name change changes h)

pub joined : (n : ℕ) (changes : List Change) → take n changes ++ drop n changes ≡ changes
joined zero changes = refl
joined (suc n) [] = refl
joined (suc n) (change ∷ changes) = ap (λ (cs : List Change). change ∷ cs) (joined n changes)

apart_parts : (xs ys : List Change) → are_apart (xs ++ ys) ≡ true → (are_apart xs ≡ true) × (are_apart ys ≡ true)
apart_parts [] ys h = (refl, h)
apart_parts (x ∷ xs) ys h =
    let parts = and_parts (not (list_any (conflict x) (xs ++ ys))) (are_apart (xs ++ ys)) h in
    let clear = or_parts (list_any (conflict x) xs) (list_any (conflict x) ys) (sym (list_any-append (conflict x) xs ys) ∙ not-true (list_any (conflict x) (xs ++ ys)) (parts.0)) in
    let rest = apart_parts xs ys (parts.1) in
    (and_from (not (list_any (conflict x) xs)) (are_apart xs) (ap not (clear.0)) (rest.0), rest.1)

pub parts_apart : (n : ℕ) (changes : List Change) → are_apart changes ≡ true → (are_apart (take n changes) ≡ true) × (are_apart (drop n changes) ≡ true)
parts_apart n changes h = apart_parts (take n changes) (drop n changes) (ap are_apart (joined n changes) ∙ h)

pub rest_rises : (n : ℕ) (changes : List Change) → heads_rise changes ≡ true → heads_rise (drop n changes) ≡ true
rest_rises zero changes h = h
rest_rises (suc n) [] h = h
rest_rises (suc n) (change ∷ changes) h = rest_rises n changes ((and_parts (precedes_head (first_part change.path) changes) (heads_rise changes) h).1)

-- ---- the head of the rest is above

abbrev at_least : List ℕ → Option (List ℕ) → Bool
at_least name None = true
at_least name (Some part) = not (past name part)

abbrev pub is_next : List ℕ → Option (List ℕ) → Bool
is_next name None = true
is_next name (Some part) = before name part

after_own : (name : List ℕ) (path : List (List ℕ)) (changes : List Change) → begins_with name path ≡ true → precedes_head (first_part path) changes ≡ true → at_least name (first_head changes) ≡ true
after_own name [] changes h k = absurd (true≢false (sym h))
after_own name (part ∷ parts) [] h k = refl
after_own name (part ∷ parts) (change ∷ changes) h k = by change.path k
  where
    is : bytes_eq part name ≡ true
    is = h

    by : (path : List (List ℕ)) → parts_in_order (Some part) (first_part path) ≡ true → at_least name (first_part path) ≡ true
    by [] e = refl
    by (other ∷ more) e = ap (λ n. not (past n other)) (sym (equal-name part name h)) ∙ e

above_own : (name : List ℕ) (path : List (List ℕ)) → begins_with name path ≡ false → at_least name (first_part path) ≡ true → is_next name (first_part path) ≡ true
above_own name [] h k = refl
above_own name (part ∷ parts) h k =
    by_order name part (bytes_eq-turned name part ∙ h) (λ less. less) (λ more. absurd (true≢false (sym more ∙ not-true (past name part) k)))

pub next_head : (name : List ℕ) (changes : List Change) → heads_rise changes ≡ true → at_least name (first_head changes) ≡ true → is_next name (first_head (others name changes)) ≡ true
next_head name [] h k = refl
next_head name (change ∷ changes) h k = by (has_head name change) refl (next_head name changes)
  where
    by : (b : Bool) → has_head name change ≡ b → (heads_rise changes ≡ true → at_least name (first_head changes) ≡ true → is_next name (first_head (others name changes)) ≡ true) → is_next name (first_head (others name (change ∷ changes))) ≡ true
    by true e rest =
        let parts = and_parts (precedes_head (first_part change.path) changes) (heads_rise changes) h in
        ap (λ n. is_next name (first_head (drop n (change ∷ changes)))) (counted name change changes e) ∙ rest (parts.1) (after_own name change.path changes e (parts.0))
    by false e rest = ap (λ n. is_next name (first_head (drop n (change ∷ changes)))) (not_counted name change changes e) ∙ above_own name change.path e k

own_least : (name : List ℕ) (head : Option (List ℕ)) → head ≡ Some name → at_least name head ≡ true
own_least name None is = refl
own_least name (Some part) is = let same : part ≡ name = cc in ap (λ p. not (past name p)) same ∙ ap not (past-itself name)

-- ---- what is put so far

pub placed_more : (puts : List Put) (put : Put) (found : Option Value) → placed_all (puts ++ put ∷ []) found ≡ option_and_then (λ (f : Option Value). placed put.part f put.after) (placed_all puts found)
placed_more [] put found = last (placed put.part found put.after)
  where
    last : (o : Option (Option Value)) → option_and_then (placed_all []) o ≡ o
    last None = refl
    last (Some g) = refl
placed_more (first ∷ puts) put found = by (placed first.part found first.after) (λ g. placed_more puts put g)
  where
    by : (o : Option (Option Value)) → ((g : Option Value) → placed_all (puts ++ put ∷ []) g ≡ option_and_then (λ (f : Option Value). placed put.part f put.after) (placed_all puts g))
        → option_and_then (placed_all (puts ++ put ∷ [])) o ≡ option_and_then (λ (f : Option Value). placed put.part f put.after) (option_and_then (placed_all puts) o)
    by None more = refl
    by (Some g) more = more g

found_beside : (name : List ℕ) (puts : List Put) (found g : Option Value) → list_all (λ put. before put.part name) puts ≡ true → placed_all puts found ≡ Some g → part_of name g ≡ part_of name found
found_beside name [] found g h e = ap (part_of name) (same g found e)
  where
    same : (g found : Option Value) → Some found ≡ Some g → g ≡ found
    same g found e = cc
found_beside name (put ∷ puts) found g h e = by (placed put.part found put.after) refl (λ f. found_beside name puts f g)
  where
    by : (o : Option (Option Value)) → placed put.part found put.after ≡ o
        → ((f : Option Value) → list_all (λ (p : Put). before p.part name) puts ≡ true → placed_all puts f ≡ Some g → part_of name g ≡ part_of name f) → part_of name g ≡ part_of name found
    by None is more = no_some g (placed_all (put ∷ puts) found) (ap (option_and_then (placed_all puts)) is) e
    by (Some f) is more =
        let parts = and_parts (before put.part name) (list_all (λ (p : Put). before p.part name) puts) h in
        more f (parts.1) (sym (ap (option_and_then (placed_all puts)) is) ∙ e) ∙ (put_there found put.part put.after f is).1 name (before-differs put.part name (parts.0))

-- ---- one group more

split_changes : (xs ys : List Change) (found : Option Value) → after_changes (xs ++ ys) found ≡ option_and_then (after_changes ys) (after_changes xs found)
split_changes [] ys found = refl
split_changes (x ∷ xs) ys found = by (after_change x found) (λ g. split_changes xs ys g)
  where
    by : (o : Option (Option Value)) → ((g : Option Value) → after_changes (xs ++ ys) g ≡ option_and_then (after_changes ys) (after_changes xs g)) → option_and_then (after_changes (xs ++ ys)) o ≡ option_and_then (after_changes ys) (option_and_then (after_changes xs) o)
    by None more = refl
    by (Some g) more = more g

-- a group that isn't empty, as one put
abbrev group_fact : List ℕ → List Change → Option Value → Type 0
group_fact name changes found = after_changes (group name changes) found ≡ option_and_then (placed name found) (after_changes (map below_head (group name changes)) (part_of name found))

first_begins : (name : List ℕ) (path : List (List ℕ)) → first_part path ≡ Some name → begins_with name path ≡ true
first_begins name [] h = cc
first_begins name (part ∷ parts) h = let same : part ≡ name = cc in ap (λ p. bytes_eq p name) same ∙ bytes_eq-itself name

group_whole : (name : List ℕ) (changes : List Change) (found : Option Value) → first_head changes ≡ Some name → are_apart changes ≡ true → group_fact name changes found
group_whole name [] found h apart = cc
group_whole name (change ∷ changes) found h apart =
    let own = first_begins name change.path h in
    let is = counted name change changes own in
    let taken : list_all (has_head name) (take (suc (count_head name changes)) (change ∷ changes)) ≡ true = and_from (has_head name change) (list_all (has_head name) (group name changes)) own (group_heads name changes) in
    let clear = (parts_apart (suc (count_head name changes)) (change ∷ changes) apart).0 in
    ap (λ n. after_changes (take n (change ∷ changes)) found) is ∙ group_is name change (group name changes) found taken clear
    ∙ ap (λ n. option_and_then (placed name found) (after_changes (map below_head (take n (change ∷ changes))) (part_of name found))) (sym is)

pub group_step : (name : List ℕ) (changes : List Change) (puts : List Put) (found : Option Value) (below : Option (Option Value))
    → first_head changes ≡ Some name → are_apart changes ≡ true → puts_before puts changes ≡ true → after_changes (map below_head (group name changes)) (part_of name found) ≡ below
    → option_and_then (after_changes changes) (placed_all puts found) ≡ option_and_then (after_changes (others name changes)) (option_and_then (λ (f : Option Value). option_and_then (placed name f) below) (placed_all puts found))
group_step name changes puts found below head apart early is = by (placed_all puts found) refl
  where
    earlier : list_all (λ put. before put.part name) puts ≡ true
    earlier = sym (ap (puts_before_part puts) head) ∙ early

    by : (o : Option (Option Value)) → placed_all puts found ≡ o → option_and_then (after_changes changes) o ≡ option_and_then (after_changes (others name changes)) (option_and_then (λ (f : Option Value). option_and_then (placed name f) below) o)
    by None e = refl
    by (Some g) e =
        ap (λ cs. after_changes cs g) (sym (joined (count_head name changes) changes)) ∙ split_changes (group name changes) (others name changes) g
        ∙ ap (option_and_then (after_changes (others name changes))) (group_whole name changes g head apart
        ∙ ap (λ f. option_and_then (placed name g) (after_changes (map below_head (group name changes)) f)) (found_beside name puts found g earlier e)
        ∙ ap (option_and_then (placed name g)) is)

nothing : (name : List ℕ) (o : Option (Option Value)) (changes : List Change) → option_and_then (after_changes changes) (option_and_then (λ (f : Option Value). option_and_then (placed name f) None) o) ≡ None
nothing name None changes = refl
nothing name (Some f) changes = refl

pub group_unfit : (name : List ℕ) (changes : List Change) (puts : List Put) (found : Option Value) → first_head changes ≡ Some name → are_apart changes ≡ true → puts_before puts changes ≡ true
    → after_changes (map below_head (group name changes)) (part_of name found) ≡ None → option_and_then (after_changes changes) (placed_all puts found) ≡ None
group_unfit name changes puts found head apart early is = group_step name changes puts found None head apart early is ∙ nothing name (placed_all puts found) (others name changes)

pub group_put : (name : List ℕ) (changes : List Change) (puts : List Put) (found after : Option Value) → first_head changes ≡ Some name → are_apart changes ≡ true → puts_before puts changes ≡ true
    → after_changes (map below_head (group name changes)) (part_of name found) ≡ Some after
    → option_and_then (after_changes (others name changes)) (placed_all (puts ++ record { part = name; after = after } ∷ []) found) ≡ option_and_then (after_changes changes) (placed_all puts found)
group_put name changes puts found after head apart early is =
    ap (option_and_then (after_changes (others name changes))) (placed_more puts (record { part = name; after = after }) found)
    ∙ sym (group_step name changes puts found (Some after) head apart early is)

pub put_before : (name : List ℕ) (changes : List Change) (puts : List Put) (after : Option Value) → first_head changes ≡ Some name → heads_rise changes ≡ true → puts_before puts changes ≡ true
    → puts_before (puts ++ record { part = name; after = after } ∷ []) (others name changes) ≡ true
put_before name changes puts after head rise early =
    by (first_head (others name changes)) (next_head name changes rise (own_least name (first_head changes) head))
  where
    earlier : list_all (λ put. before put.part name) puts ≡ true
    earlier = sym (ap (puts_before_part puts) head) ∙ early

    further : (next : List ℕ) → before name next ≡ true → (puts : List Put) → list_all (λ put. before put.part name) puts ≡ true → list_all (λ put. before put.part next) puts ≡ true
    further next h [] k = refl
    further next h (put ∷ puts) k =
        let parts = and_parts (before put.part name) (list_all (λ (p : Put). before p.part name) puts) k in
        and_from (before put.part next) (list_all (λ (p : Put). before p.part next) puts) (before-trans put.part name next (parts.0) h) (further next h puts (parts.1))

    by : (next : Option (List ℕ)) → is_next name next ≡ true → puts_before_part (puts ++ record { part = name; after = after } ∷ []) next ≡ true
    by None h = refl
    by (Some next) h =
        list_all-append (λ (p : Put). before p.part next) puts (record { part = name; after = after } ∷ [])
        ∙ and_from (list_all (λ (p : Put). before p.part next) puts) (before name next && true) (further next h puts earlier) (and_from (before name next) true h refl)
