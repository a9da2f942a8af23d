-- What serde_json reads has the members of each object in byte order of distinct names.
use Rattle.std.proofs.Common.{◌≡◌, ℕ, List, Option, Some, None, option_map, option_and_then, IfSome, Ordering, Less, Equal, Greater, nat_cmp, refl, ap, ◌∙◌, subst}
use Rattle.std.specs.Prelude.{⊤}
use Rattle.std.specs.Ordering.{match_ordering, ordering_reverse}
use Rattle.std.specs.Cmp.Lexicographic.{slice_cmp}
use Rattle.std.proofs.lemmas.Cmp.{nat_list_cmp_total}
use Rattle.json.specs.Lex.{tokens}
use Rattle.json.specs.Json as json
use Rattle.serde_json.specs.Data.{Data, null, boolean, number, string, array, object, Items, no_items, item, Members, no_members, member, put}
use Rattle.serde_json.specs.Read.{number_of, of_json, of_items, of_members, max_depth, read}

abbrev name_cmp : List ℕ → List ℕ → Ordering
name_cmp = slice_cmp nat_cmp

-- the name is below the first member's
abbrev pub IsBelow : List ℕ → Members → Type 0
IsBelow k no_members = ⊤
IsBelow k (member l e ms) = slice_cmp nat_cmp k l ≡ Less

abbrev mutual
  pub InOrder : Data → Type 0
  InOrder null = ⊤
  InOrder (boolean b) = ⊤
  InOrder (number n) = ⊤
  InOrder (string s) = ⊤
  InOrder (array ds) = ItemsInOrder ds
  InOrder (object ms) = MembersInOrder ms

  pub ItemsInOrder : Items → Type 0
  ItemsInOrder no_items = ⊤
  ItemsInOrder (item d ds) = InOrder d × ItemsInOrder ds

  pub MembersInOrder : Members → Type 0
  MembersInOrder no_members = ⊤
  MembersInOrder (member k d ms) = IsBelow k ms × InOrder d × MembersInOrder ms

below_choice : (l : List ℕ) (o : Ordering) (a b c : Members) → IsBelow l a → IsBelow l b → IsBelow l c → IsBelow l (match_ordering o a b c)
below_choice l Less a b c p q r = p
below_choice l Equal a b c p q r = q
below_choice l Greater a b c p q r = r

IsBelow-put : (l k : List ℕ) (d : Data) (ms : Members) → slice_cmp nat_cmp l k ≡ Less → IsBelow l ms → IsBelow l (put k d ms)
IsBelow-put l k d no_members less below = less
IsBelow-put l k d (member m e ms) less below = below_choice l (slice_cmp nat_cmp k m) (member k d (member m e ms)) (member m d ms) (member m e (put k d ms)) less below below

order_choice : (k l : List ℕ) (d e : Data) (ms : Members) (o : Ordering) → slice_cmp nat_cmp k l ≡ o → InOrder d → MembersInOrder (member l e ms) → MembersInOrder (put k d ms)
    → MembersInOrder (match_ordering o (member k d (member l e ms)) (member l d ms) (member l e (put k d ms)))
order_choice k l d e ms Less is h old rest = (is, h, old)
order_choice k l d e ms Equal is h old rest = (old.0, h, old.2)
order_choice k l d e ms Greater is h old rest =
    (IsBelow-put l k d ms (nat_list_cmp_total.antisymm l k ∙ ap ordering_reverse is) old.0, old.1, rest)

MembersInOrder-put : (k : List ℕ) (d : Data) (ms : Members) → InOrder d → MembersInOrder ms → MembersInOrder (put k d ms)
MembersInOrder-put k d no_members h old = (tt, h, tt)
MembersInOrder-put k d (member l e ms) h old = order_choice k l d e ms (slice_cmp nat_cmp k l) refl h old (MembersInOrder-put k d ms h old.2)

IfSome-map : {A B : Type 0} (P : A → Type 0) (Q : B → Type 0) (f : A → B) → ((a : A) → P a → Q (f a)) → (o : Option A) → IfSome o P → IfSome (option_map f o) Q
IfSome-map P Q f h None x = tt
IfSome-map P Q f h (Some a) x = h a x

IfSome-and_then : {A B : Type 0} (P : A → Type 0) (Q : B → Type 0) (f : A → Option B) → ((a : A) → P a → IfSome (f a) Q) → (o : Option A) → IfSome o P → IfSome (option_and_then f o) Q
IfSome-and_then P Q f h None x = tt
IfSome-and_then P Q f h (Some a) x = h a x

any : {A : Type 0} (o : Option A) → IfSome o (λ _. ⊤)
any None = tt
any (Some a) = tt

mutual
  InOrder-of_json : (j : json.Json) → IfSome (of_json j) InOrder
  InOrder-of_json json.null = tt
  InOrder-of_json (json.boolean b) = tt
  InOrder-of_json (json.number s) = IfSome-map (λ _. ⊤) InOrder number (λ _ _. tt) (number_of s) (any _)
  InOrder-of_json (json.string s) = tt
  InOrder-of_json (json.array js) = IfSome-map ItemsInOrder InOrder array (λ _ h. h) (of_items js) (ItemsInOrder-of_items js)
  InOrder-of_json (json.object ms) = IfSome-map MembersInOrder InOrder object (λ _ h. h) (of_members ms no_members) (MembersInOrder-of_members ms no_members tt)

  ItemsInOrder-of_items : (js : json.Items) → IfSome (of_items js) ItemsInOrder
  ItemsInOrder-of_items json.no_items = tt
  ItemsInOrder-of_items (json.item j js) =
      IfSome-and_then InOrder ItemsInOrder _ (λ d h. IfSome-map ItemsInOrder ItemsInOrder (item d) (λ _ more. (h, more)) (of_items js) (ItemsInOrder-of_items js)) (of_json j) (InOrder-of_json j)

  MembersInOrder-of_members : (ms : json.Members) (found : Members) → MembersInOrder found → IfSome (of_members ms found) MembersInOrder
  MembersInOrder-of_members json.no_members found h = h
  MembersInOrder-of_members (json.member k j ms) found h =
      IfSome-and_then InOrder MembersInOrder _ (λ d own. MembersInOrder-of_members ms (put k d found) (MembersInOrder-put k d found own h)) (of_json j) (InOrder-of_json j)

pub InOrder-read : (text : List ℕ) (d : Data) → read text ≡ Some d → InOrder d
InOrder-read text d e =
    subst (λ o. IfSome o InOrder) e
    (IfSome-and_then (λ _. ⊤) InOrder of_json (λ j _. InOrder-of_json j) (option_and_then (λ p. json.if_last p.0 p.1) (json.value max_depth (tokens text))) (any _))
