-- What a JSON text may hold and a value may not.
use Rattle.std.specs.Prelude.{ℕ, Bool, false, ◌||◌, ◌&&◌, ◌==◌, true, List, length, is_some}
use Rattle.std.specs.List.{list_any}
use Rattle.serde_json.specs.Data.{Data, null, boolean, number, string, array, object, Items, no_items, item, Members, no_members, member}
use Rattle.serde_json.specs.Find.{as_i64}

-- a name that is empty or holds a NUL
abbrev pub is_bad_name : List ℕ → Bool
is_bad_name name = (length name == 0) || list_any (λ byte. byte == 0) name

-- some object, at any depth, has such a name
abbrev mutual
  pub has_bad_name : Data → Bool
  has_bad_name null = false
  has_bad_name (boolean b) = false
  has_bad_name (number n) = false
  has_bad_name (string s) = false
  has_bad_name (array ds) = some_item_has_bad_name ds
  has_bad_name (object ms) = some_member_has_bad_name ms

  pub some_item_has_bad_name : Items → Bool
  some_item_has_bad_name no_items = false
  some_item_has_bad_name (item d ds) = has_bad_name d || some_item_has_bad_name ds

  pub some_member_has_bad_name : Members → Bool
  some_member_has_bad_name no_members = false
  some_member_has_bad_name (member k d ms) =
      is_bad_name k || has_bad_name d || some_member_has_bad_name ms

-- each number, at any depth, is a whole number of 64 bits
abbrev mutual
  pub is_whole : Data → Bool
  is_whole null = true
  is_whole (boolean b) = true
  is_whole (number n) = is_some (as_i64 n)
  is_whole (string s) = true
  is_whole (array ds) = items_are_whole ds
  is_whole (object ms) = members_are_whole ms

  pub items_are_whole : Items → Bool
  items_are_whole no_items = true
  items_are_whole (item d ds) = is_whole d && items_are_whole ds

  pub members_are_whole : Members → Bool
  members_are_whole no_members = true
  members_are_whole (member k d ms) = is_whole d && members_are_whole ms
