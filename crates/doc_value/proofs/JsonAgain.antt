-- The compact text of plain JSON in order is read as the same JSON.
use Rattle.std.proofs.Common.{◌≡◌, ℕ, ◌≤◌, List, [], Some, option_map, option_and_then, Less, Greater, ℤ, pos, negsuc, ◌^◌, true, nat_cmp, refl, sym, ap, ◌∙◌, subst, arith, append-nil, ltb-true}
use Rattle.std.specs.Ordering.{ordering_reverse}
use Rattle.std.specs.Cmp.Lexicographic.{slice_cmp}
use Rattle.std.proofs.lemmas.Cmp.{nat_list_cmp_total}
use Rattle.json.specs.Lex.{tokens}
use Rattle.json.specs.Json as json
use Rattle.json.specs.Tree as tree
use Rattle.json.proofs.Printed.Tokens.{tokens-print}
use Rattle.json.proofs.Printed.Trees.{value-json_tokens, ArePrintable-json_tokens}
use Rattle.serde_json.specs.Data.{Data, null, boolean, number, string, array, object, Items, no_items, item, Members, no_members, member, put, depth}
use Rattle.serde_json.specs.Find.{of_integer}
use Rattle.serde_json.specs.Read.{number_of, of_json, of_items, of_members, max_depth, read}
use Rattle.serde_json.specs.Written.{number_text, outline, items_outline, members_outline, compact_text}
use Rattle.serde_json.proofs.Numbers.{number_of-decimal, number_of-negative}
use Rattle.serde_json.proofs.Texts.{print-outline}
use Rattle.doc_value.specs.Syntax.{json_in}
use Rattle.doc_value.specs.Sound.{fits_64_bits}
use Rattle.doc_value.proofs.JsonOrder.{IsBelow, InOrder, ItemsInOrder, MembersInOrder}
use Rattle.doc_value.proofs.PlainJson.{IsPlain, ItemsArePlain, MembersArePlain, numbers-outline, depth-outline}
use Rattle.doc_value.proofs.PlainUtf8.{utf8-compact_text}
use Rattle.doc_value.proofs.Utf8Reading.{json_in-text}

-- ---- members that go in one after another

abbrev joined : Members → Members → Members
joined no_members more = more
joined (member k d ms) more = member k d (joined ms more)

joined-nil : (ms : Members) → joined ms no_members ≡ ms
joined-nil no_members = refl
joined-nil (member k d ms) = ap (member k d) (joined-nil ms)

joined-next : (found : Members) (k : List ℕ) (d : Data) (ms : Members) → joined (joined found (member k d no_members)) ms ≡ joined found (member k d ms)
joined-next no_members k d ms = refl
joined-next (member l e found) k d ms = ap (member l e) (joined-next found k d ms)

below_later : (l : List ℕ) (ms : Members) (k : List ℕ) (d : Data) (more : Members) → IsBelow l (joined ms (member k d more)) → MembersInOrder (joined ms (member k d more)) → slice_cmp nat_cmp l k ≡ Less
below_later l no_members k d more h order = h
below_later l (member m e ms) k d more h order = nat_list_cmp_total.trans l m k h (below_later m ms k d more order.0 order.2)

-- a name above all that stand goes last
put_after : (found : Members) (k : List ℕ) (d : Data) (more : Members) → MembersInOrder (joined found (member k d more)) → put k d found ≡ joined found (member k d no_members)
put_after no_members k d more order = refl
put_after (member l e found) k d more order =
    let above : slice_cmp nat_cmp k l ≡ Greater = nat_list_cmp_total.antisymm k l ∙ ap ordering_reverse (below_later l found k d more order.0 order.2) in
    rw above (ap (member l e) (put_after found k d more order.2))

own_order : (found : Members) (k : List ℕ) (d : Data) (more : Members) → MembersInOrder (joined found (member k d more)) → InOrder d
own_order no_members k d more order = order.1
own_order (member l e found) k d more order = own_order found k d more order.2

-- ---- the outline is read as the JSON

number_of-whole : (z : ℤ) → fits_64_bits z ≡ true → number_of (number_text (of_integer z)) ≡ Some (of_integer z)
number_of-whole (pos n) h = number_of-decimal n (omega (arith, ltb-true n (2 ^ 63) h))
number_of-whole (negsuc n) h = number_of-negative n (ltb-true n (2 ^ 63) h)

mutual
  of_json-outline : (d : Data) → IsPlain d → InOrder d → of_json (outline d) ≡ Some d
  of_json-outline null h order = refl
  of_json-outline (boolean b) h order = refl
  of_json-outline (number n) h order =
      ap (option_map number) (ap (λ m. number_of (number_text m)) h.is ∙ number_of-whole h.whole h.fits ∙ ap Some (sym h.is))
  of_json-outline (string s) h order = refl
  of_json-outline (array ds) h order = ap (option_map array) (of_items-outline ds h order)
  of_json-outline (object ms) h order = ap (option_map object) (of_members-outline no_members ms h order)

  of_items-outline : (ds : Items) → ItemsArePlain ds → ItemsInOrder ds → of_items (items_outline ds) ≡ Some ds
  of_items-outline no_items h order = refl
  of_items-outline (item d ds) h order =
      ap (option_and_then (λ e. option_map (item e) (of_items (items_outline ds)))) (of_json-outline d h.0 order.0) ∙ ap (option_map (item d)) (of_items-outline ds h.1 order.1)

  of_members-outline : (found ms : Members) → MembersArePlain ms → MembersInOrder (joined found ms) → of_members (members_outline ms) found ≡ Some (joined found ms)
  of_members-outline found no_members h order = ap Some (sym (joined-nil found))
  of_members-outline found (member k d ms) h order =
      let next = joined-next found k d ms in
      ap (option_and_then (λ e. of_members (members_outline ms) (put k e found))) (of_json-outline d h.1 (own_order found k d ms order))
      ∙ ap (of_members (members_outline ms)) (put_after found k d ms order)
      ∙ of_members-outline (joined found (member k d no_members)) ms h.2 (subst MembersInOrder (sym next) order) ∙ ap Some next

-- ---- the whole text

tokens-compact_text : (d : Data) → IsPlain d → tokens (compact_text d) ≡ tree.json_tokens (outline d)
tokens-compact_text d h =
    ap tokens (sym (print-outline d)) ∙ tokens-print (tree.json_tokens (outline d)) (ArePrintable-json_tokens (outline d) (numbers-outline d h))

read-compact_text : (d : Data) → IsPlain d → InOrder d → depth d ≤ max_depth → read (compact_text d) ≡ Some d
read-compact_text d h order shallow =
    ap (λ ts. option_and_then of_json (option_and_then (λ p. json.if_last p.0 p.1) (json.value max_depth ts))) (tokens-compact_text d h ∙ sym (append-nil (tree.json_tokens (outline d))))
    ∙ ap (λ o. option_and_then of_json (option_and_then (λ p. json.if_last p.0 p.1) o)) (value-json_tokens (outline d) max_depth [] (omega (arith, depth-outline d)))
    ∙ of_json-outline d h order

pub json_in-compact_text : (d : Data) → IsPlain d → InOrder d → depth d ≤ max_depth → json_in (compact_text d) ≡ Some d
json_in-compact_text d h order shallow = json_in-text (compact_text d) (utf8-compact_text d h) ∙ read-compact_text d h order shallow
