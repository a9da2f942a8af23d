-- Two changes whose paths don't conflict: their order makes no difference.
use Rattle.std.proofs.Common.{◌≡◌, ℕ, Bool, true, false, ◌&&◌, ◌||◌, List, [], ◌∷◌, Option, Some, None, option_and_then, is_some, is_none, refl, sym, ap, ◌∙◌}
use Rattle.std.specs.Str.{bytes_eq}
use Rattle.std.proofs.lemmas.Bool.{true≢false}
use Rattle.std.proofs.lemmas.Slice.Eq.{bytes_eq-Decides}
use Rattle.doc_value.specs.declared.value.Named.{Named}
use Rattle.doc_value.specs.declared.value.Value.{Value, Object}
use Rattle.doc_update.specs.Conflicts.{paths_conflict}
use Rattle.doc_update.specs.Places.{is_open, part_of, placed, changed, with_field}
use Rattle.doc_update.specs.Syntax.{is_object}
use Rattle.doc_update.proofs.Steps.{Effect, by_steps}
use Rattle.doc_value.proofs.NameOrder.{bytes_eq-turned}
use Rattle.doc_update.proofs.PlacedLaws.{placed-Object, placed-closed, placed-unfit, by_kind, put_there, put_fits}
use Rattle.doc_update.proofs.PlacedOrder.{put_again, put_both}
use Rattle.doc_update.proofs.Facts.{inner, no_some}

then_alike : (f g : Effect) (o : Option (Option Value)) → ((y : Option Value) → o ≡ Some y → f y ≡ g y) → option_and_then f o ≡ option_and_then g o
then_alike f g None alike = refl
then_alike f g (Some y) alike = alike y refl

abbrev unfit : Effect
unfit found = None

then_none : (o : Option (Option Value)) → option_and_then unfit o ≡ None
then_none None = refl
then_none (Some y) = refl

is_none-from : (o : Option (Option Value)) → is_some o ≡ false → o ≡ None
is_none-from None h = refl
is_none-from (Some y) h = absurd (true≢false h)

-- ---- what is there stays there

abbrev StaysThere : Option Value → Type 0
StaysThere found = (part : List ℕ) (after g : Option Value) → placed part found after ≡ Some g → is_some found ≡ true → is_some g ≡ true

stays_nothing : StaysThere None
stays_nothing part after g e h = absurd (true≢false (sym h))

stays_object : (fields : List (Named Value)) → StaysThere (Some (Object fields))
stays_object fields part after g e h = ap is_some (sym (inner _ _ (Some (Object (with_field part after fields))) e (placed-Object part fields after)))

stays_closed : (value : Value) → is_object value ≡ false → StaysThere (Some value)
stays_closed value closed part None g e h = ap is_some (sym (inner _ _ (Some value) e (placed-closed part value closed)))
stays_closed value closed part (Some after) g e h = no_some g _ (placed-unfit part value after closed) e

pub stays_there : (found : Option Value) → StaysThere found
stays_there = by_kind StaysThere stays_nothing stays_object stays_closed

pub changed_there : (effect : Effect) (part : List ℕ) (parts : List (List ℕ)) (found g : Option Value) → changed effect (part ∷ parts) found ≡ Some g → is_some found ≡ true → is_some g ≡ true
changed_there effect part parts found g e h = by_steps effect part parts found g e (λ after below put. stays_there found part after g put h)

-- ---- a change below a part that was put is a change of what is put

later_there : (effect : Effect) (name : List ℕ) (names : List (List ℕ)) (after later : Option Value) → changed effect (name ∷ names) after ≡ Some later → (is_none after || is_some later) ≡ true
later_there effect name names None later e = refl
later_there effect name names (Some value) later e = changed_there effect name names (Some value) later e refl

shut : (after later : Option Value) (opens : Bool) → (is_none after || opens) ≡ false → (is_none after || is_some later) ≡ true → (is_none later || opens) ≡ false
shut None later opens h k = absurd (true≢false h)
shut (Some a) None opens h k = absurd (true≢false (sym k))
shut (Some a) (Some b) opens h k = h

fused_unfit : (effect : Effect) (part name : List ℕ) (names : List (List ℕ)) (found after : Option Value) → placed part found after ≡ None
    → None ≡ option_and_then (placed part found) (changed effect (name ∷ names) after)
fused_unfit effect part name names found after refused =
    sym (then_alike (placed part found) unfit (changed effect (name ∷ names) after) (λ later e. is_none-from (placed part found later) (put_fits found part later ∙ shut after later (is_open found) (sym (put_fits found part after) ∙ ap is_some refused) (later_there effect name names after later e)))
    ∙ then_none (changed effect (name ∷ names) after))

fused_put : (effect : Effect) (part name : List ℕ) (names : List (List ℕ)) (found after g : Option Value) → placed part found after ≡ Some g
    → changed effect (part ∷ name ∷ names) g ≡ option_and_then (placed part found) (changed effect (name ∷ names) after)
fused_put effect part name names found after g put =
    ap (λ f. option_and_then (placed part g) (changed effect (name ∷ names) f)) ((put_there found part after g put).0)
    ∙ then_alike (placed part g) (placed part found) (changed effect (name ∷ names) after) (λ later e. put_again found part after later g put (later_there effect name names after later e))

pub fused : (effect : Effect) (part name : List ℕ) (names : List (List ℕ)) (found : Option Value) (below : Option (Option Value))
    → option_and_then (changed effect (part ∷ name ∷ names)) (option_and_then (placed part found) below) ≡ option_and_then (placed part found) (option_and_then (changed effect (name ∷ names)) below)
fused effect part name names found None = refl
fused effect part name names found (Some after) = by (placed part found after) refl
  where
    by : (put : Option (Option Value)) → placed part found after ≡ put → option_and_then (changed effect (part ∷ name ∷ names)) put ≡ option_and_then (placed part found) (changed effect (name ∷ names) after)
    by None e = fused_unfit effect part name names found after e
    by (Some g) e = fused_put effect part name names found after g e

-- ---- two changes below different parts

aside : (effect : Effect) (part name : List ℕ) (names : List (List ℕ)) (found : Option Value) → bytes_eq part name ≡ false → (below : Option (Option Value))
    → option_and_then (changed effect (name ∷ names)) (option_and_then (placed part found) below)
    ≡ option_and_then (λ (after : Option Value). option_and_then (λ (later : Option Value). option_and_then (λ (g : Option Value). placed name g later) (placed part found after)) (changed effect names (part_of name found))) below
aside effect part name names found apart None = refl
aside effect part name names found apart (Some after) = by (placed part found after) refl
  where
    by : (put : Option (Option Value)) → placed part found after ≡ put
        → option_and_then (changed effect (name ∷ names)) put ≡ option_and_then (λ (later : Option Value). option_and_then (λ (g : Option Value). placed name g later) put) (changed effect names (part_of name found))
    by None e = sym (then_none (changed effect names (part_of name found)))
    by (Some g) e = ap (λ f. option_and_then (placed name g) (changed effect names f)) ((put_there found part after g e).1 name apart)

-- two answers taken in either order
swapped : (f : Option Value → Option Value → Option (Option Value)) (a b : Option (Option Value))
    → option_and_then (λ (x : Option Value). option_and_then (λ (y : Option Value). f x y) b) a ≡ option_and_then (λ (y : Option Value). option_and_then (λ (x : Option Value). f x y) a) b
swapped f None None = refl
swapped f None (Some y) = refl
swapped f (Some x) None = refl
swapped f (Some x) (Some y) = refl

pub commute : (path other : List (List ℕ)) (effect later : Effect) (found : Option Value) → paths_conflict path other ≡ false
    → option_and_then (changed later other) (changed effect path found) ≡ option_and_then (changed effect path) (changed later other found)
commute [] other effect later found apart = absurd (true≢false apart)
commute (part ∷ parts) [] effect later found apart = absurd (true≢false apart)
commute (part ∷ parts) (name ∷ names) effect later found apart = by (bytes_eq part name) refl (λ rest. commute parts names effect later (part_of part found) rest)
  where
    -- neither rest is empty, since the paths don't conflict
    below_same : (parts names : List (List ℕ)) → paths_conflict parts names ≡ false
        → option_and_then (changed later names) (changed effect parts (part_of part found)) ≡ option_and_then (changed effect parts) (changed later names (part_of part found))
        → option_and_then (changed later (part ∷ names)) (changed effect (part ∷ parts) found) ≡ option_and_then (changed effect (part ∷ parts)) (changed later (part ∷ names) found)
    below_same [] names rest alike = absurd (true≢false rest)
    below_same (p ∷ ps) [] rest alike = absurd (true≢false rest)
    below_same (p ∷ ps) (n ∷ ns) rest alike =
        fused later part n ns found (changed effect (p ∷ ps) (part_of part found)) ∙ ap (option_and_then (placed part found)) alike
        ∙ sym (fused effect part p ps found (changed later (n ∷ ns) (part_of part found)))

    by : (b : Bool) → bytes_eq part name ≡ b
        → (paths_conflict parts names ≡ false → option_and_then (changed later names) (changed effect parts (part_of part found)) ≡ option_and_then (changed effect parts) (changed later names (part_of part found)))
        → option_and_then (changed later (name ∷ names)) (changed effect (part ∷ parts) found) ≡ option_and_then (changed effect (part ∷ parts)) (changed later (name ∷ names) found)
    by true same below =
        let named : part ≡ name = (bytes_eq-Decides part name).0 same in
        let rest : paths_conflict parts names ≡ false = sym (ap (λ (b : Bool). b && paths_conflict parts names) same) ∙ apart in
        ap (λ n. option_and_then (changed later (n ∷ names)) (changed effect (part ∷ parts) found)) (sym named)
        ∙ below_same parts names rest (below rest) ∙ ap (λ n. option_and_then (changed effect (part ∷ parts)) (changed later (n ∷ names) found)) named
    by false differ below =
        aside later part name names found differ (changed effect parts (part_of part found))
        ∙ then_alike _ _ (changed effect parts (part_of part found)) (λ after _. then_alike _ _ (changed later names (part_of name found)) (λ late _. put_both found part name after late differ))
        ∙ swapped (λ after late. option_and_then (λ (g : Option Value). placed part g after) (placed name found late)) (changed effect parts (part_of part found)) (changed later names (part_of name found))
        ∙ sym (aside effect name part parts found (bytes_eq-turned name part ∙ differ) (changed later names (part_of name found)))
