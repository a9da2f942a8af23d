use Rattle.std.proofs.Common.{◌≡◌, ℕ, ◌+◌, ◌<◌, ◌≤◌, true, false, nat_le, cond, List, [], ◌∷◌, ◌++◌, Option, Some, None, refl, sym, ap, ◌∙◌, arith}
use Rattle.std.proofs.lemmas.Bool.Decides.{nat_tests}
use Rattle.std.proofs.lemmas.List.{append-nil}
use Rattle.std.specs.Ordering.{is_eq}
use Rattle.std.specs.declared.cmp.Ordering.TheVariants.{Less, Equal, Greater}
use Rattle.std.specs.FinMap.{empty, get, insert, same_map, get-insert}
use Rattle.store_trait.specs.Names.{name_cmp}
use Rattle.store_trait.specs.Contents.{Content}
use Rattle.store_trait.specs.Edits.{Hit, edited, put_under, hit as hit_of}
use Rattle.store_trait.specs.declared.cell.Cell.{Cell}
use Rattle.store_trait.specs.declared.edit.Edit.{Edit}
use Rattle.store_trait.specs.declared.name.Name.{Name}
use Rattle.store_memory.specs.declared.log.Logged.{Logged}
use Rattle.store_memory.specs.Told.{Told, with_change, replayed, trail_of, content_of, IsMadeBy, is_held, leaves_cell, logged, changes_at, called, noted}
use Rattle.store_memory.specs.Told.{hit_of as hit_at}
use Rattle.store_trait.proofs.NameOrder.{name_cmp_total, name_cmp-IsAntisymmetric}
use Rattle.store_trait.proofs.SameCells.{cell-Decides}

pub made_test : (at calls : ℕ) → at ≤ calls → nat_le at calls ≡ true
made_test at calls h = grind (arith, nat_tests)

later_test : (at calls : ℕ) → calls < at → nat_le at calls ≡ false
later_test at calls h = grind (arith, nat_tests)

with_made : (calls : ℕ) (change : Logged) (c : Content) → change.at ≤ calls → with_change calls change c ≡ edited c change.name change.edit
with_made calls change c h = ap (λ b. cond b (edited c change.name change.edit) c) (made_test _ _ h)

with_later : (calls : ℕ) (change : Logged) (c : Content) → calls < change.at → with_change calls change c ≡ c
with_later calls change c h = ap (λ b. cond b (edited c change.name change.edit) c) (later_test _ _ h)

-- once all changes are made, nothing changes
settled : (c : Content) (log : List Logged) (m n : ℕ) → IsMadeBy m log → m ≤ n → replayed c log n ≡ replayed c log m
settled c [] m n h le = refl
settled c (change ∷ log) m n h le =
    ap (λ d. replayed d log n) (with_made n change c (omega (arith, h.0)) ∙ sym (with_made m change c h.0)) ∙ settled (with_change m change c) log m n h.1 le

replayed-append : (c : Content) (log changes : List Logged) (n : ℕ) → replayed c (log ++ changes) n ≡ replayed (replayed c log n) changes n
replayed-append c [] changes n = refl
replayed-append c (first ∷ log) changes n = replayed-append (with_change n first c) log changes n

made_later : (log : List Logged) (m n : ℕ) → IsMadeBy m log → m ≤ n → IsMadeBy n log
made_later [] m n h le = tt
made_later (change ∷ log) m n h le = (omega (arith, h.0), made_later log m n h.1 le)

-- each change was made by that call
abbrev pub AreAt : ℕ → List Logged → Type 0
AreAt call [] = Unit {0}
AreAt call (change ∷ log) = (change.at ≡ call) × AreAt call log

-- what the log gets of a call was made by it
pub logged_at : (call : ℕ) (name : Name) (edit : Edit) (hit : Hit) (found : Option Cell) → AreAt call (logged call name edit hit found)
logged_at call name edit hit found =
    elim (leaves_cell hit found) as (λ b. AreAt call (cond b [] (record { at = call; name = name; edit = edit } ∷ []))) [
      | true ↦ tt
      | false ↦ (refl, tt)
    ]

made_at : (n : ℕ) (changes : List Logged) → AreAt n changes → IsMadeBy n changes
made_at n [] h = tt
made_at n (change ∷ changes) h = (omega (arith, h.0), made_at n changes h.1)

made_more : (log changes : List Logged) (n : ℕ) → IsMadeBy n log → AreAt n changes → IsMadeBy n (log ++ changes)
made_more [] changes n h now = made_at n changes now
made_more (change ∷ log) changes n h now = (h.0, made_more log changes n h.1 now)

replayed-later : (c : Content) (changes : List Logged) (call n : ℕ) → AreAt call changes → n < call → replayed c changes n ≡ c
replayed-later c [] call n h le = refl
replayed-later c (change ∷ changes) call n h le =
    ap (λ d. replayed d changes n) (with_later n change c (omega (arith, h.0))) ∙ replayed-later c changes call n h.1 le

-- changes that are noted at a call are made by then
pub noted_made : (told : Told) (changes : List Logged) → AreAt told.calls changes → IsMadeBy told.calls told.log → IsMadeBy told.calls (told.log ++ changes)
noted_made told changes now h = made_more told.log changes told.calls h now

pub later_made : (told : Told) (calls : ℕ) → IsMadeBy told.calls told.log → told.calls ≤ calls → IsMadeBy calls told.log
later_made told calls h le = made_later told.log told.calls calls h le

-- a later call without changes leaves the content
pub content_stays : (told : Told) (calls : ℕ) → IsMadeBy told.calls told.log → told.calls ≤ calls → trail_of told calls ≡ content_of told
content_stays told calls h le = settled empty told.log told.calls calls h le

-- the content after the next call: what its changes make of the content before
called_content : (told : Told) (changes : List Logged) → IsMadeBy told.calls told.log → content_of (called told changes) ≡ replayed (content_of told) changes (told.calls + 1)
called_content told changes h = replayed-append empty told.log changes (told.calls + 1) ∙ ap (λ c. replayed c changes (told.calls + 1)) (content_stays told (told.calls + 1) h (omega arith))

-- a call without changes leaves the content
pub content_same : (told : Told) → IsMadeBy told.calls told.log → content_of (called told []) ≡ content_of told
content_same told h = called_content told [] h

-- a cell that stands under a name is put there again
put_again : (c : Content) (name : Name) (held : Cell) → get c name ≡ Some held → insert c name held ≡ c
put_again c name held there =
    same_map name_cmp_total name_cmp-IsAntisymmetric (insert c name held) c (λ q.
    get-insert name_cmp_total c name held q
    ∙ elim (name_cmp q name) as (λ r. name_cmp q name ≡ r → cond (is_eq r) (Some held) (get c q) ≡ get c q) [
      | Less ↦ λ t. refl
      | Equal ↦ λ t. sym (ap (get c) (name_cmp-IsAntisymmetric q name t) ∙ there)
      | Greater ↦ λ t. refl
    ] refl)

pub stands_so : (after : Cell) (found : Option Cell) → is_held after found ≡ true → found ≡ Some after
stands_so after None h = cc h
stands_so after (Some held) h = ap Some ((cell-Decides held after).0 h)

-- an edit that is noted in the next call makes what it hits
changed_then : (told : Told) (name : Name) (edit : Edit) (hit : Hit) → IsMadeBy told.calls told.log → hit_of edit name (get (content_of told) name) ≡ hit → content_of (called told (record { at = told.calls + 1; name = name; edit = edit } ∷ [])) ≡ put_under (content_of told) name hit
changed_then told name edit hit h is =
    let change : Logged = record { at = told.calls + 1; name = name; edit = edit } in
    called_content told (change ∷ []) h ∙ with_made (told.calls + 1) change (content_of told) (omega arith) ∙ ap (put_under (content_of told) name) is

-- an edit makes what it hits, and isn't noted where that is what stood there
pub content_after : (told : Told) (name : Name) (edit : Edit) (hit : Hit) → IsMadeBy told.calls told.log → hit_of edit name (get (content_of told) name) ≡ hit → content_of (called told (logged (told.calls + 1) name edit hit (get (content_of told) name))) ≡ put_under (content_of told) name hit
content_after told name edit None h is = called_content told [] h
content_after told name edit (Some None) h is = changed_then told name edit (Some None) h is
content_after told name edit (Some (Some after)) h is =
    let found = get (content_of told) name in
    let change : Logged = record { at = told.calls + 1; name = name; edit = edit } in
    elim (is_held after found) as (λ b. is_held after found ≡ b → content_of (called told (cond b [] (change ∷ []))) ≡ insert (content_of told) name after) [
      | true ↦ λ t. called_content told [] h ∙ sym (put_again (content_of told) name after (stands_so after found t))
      | false ↦ λ t. changed_then told name edit (Some (Some after)) h is
    ] refl

-- an edit that is noted at the present call makes what it hits
pub noted_content : (told : Told) (name : Name) (edit : Edit) (hit : Hit) → hit_of edit name (get (content_of told) name) ≡ hit → content_of (noted told (record { at = told.calls; name = name; edit = edit } ∷ [])) ≡ put_under (content_of told) name hit
noted_content told name edit hit is =
    let change : Logged = record { at = told.calls; name = name; edit = edit } in
    replayed-append empty told.log (change ∷ []) told.calls ∙ with_made told.calls change (content_of told) (omega arith) ∙ ap (put_under (content_of told) name) is

-- what the log gets of an edit that puts a cell: nothing where that stands there
pub puts_again : (call : ℕ) (told : Told) (name : Name) (edit : Edit) (after : Cell) → hit_at told name edit ≡ Some (Some after) → is_held after (get (content_of told) name) ≡ true → changes_at call told name edit ≡ []
puts_again call told name edit after hits held =
    let change : Logged = record { at = call; name = name; edit = edit } in
    ap (λ hit. logged call name edit hit (get (content_of told) name)) hits ∙ ap (λ b. cond b [] (change ∷ [])) held

pub puts_other : (call : ℕ) (told : Told) (name : Name) (edit : Edit) (after : Cell) → hit_at told name edit ≡ Some (Some after) → is_held after (get (content_of told) name) ≡ false → changes_at call told name edit ≡ record { at = call; name = name; edit = edit } ∷ []
puts_other call told name edit after hits apart =
    let change : Logged = record { at = call; name = name; edit = edit } in
    ap (λ hit. logged call name edit hit (get (content_of told) name)) hits ∙ ap (λ b. cond b [] (change ∷ [])) apart

-- and of one that takes a cell out
pub takes_out : (call : ℕ) (told : Told) (name : Name) (edit : Edit) → hit_at told name edit ≡ Some None → changes_at call told name edit ≡ record { at = call; name = name; edit = edit } ∷ []
takes_out call told name edit hits = ap (λ hit. logged call name edit hit (get (content_of told) name)) hits

-- a log that got nothing tells the same
pub noted_nothing : (told : Told) → noted told [] ≡ told
noted_nothing told = ap (λ (log : List Logged). record told { log = log }) (append-nil told.log)

-- the changes of the next call are in no earlier content of the trail
pub trail_stays : (told : Told) (changes : List Logged) → AreAt (told.calls + 1) changes → (n : ℕ) → n ≤ told.calls → trail_of (called told changes) n ≡ trail_of told n
trail_stays told changes now n le = replayed-append empty told.log changes n ∙ replayed-later (trail_of told n) changes (told.calls + 1) n now (omega arith)
