-- What values are as keys.
use Rattle.std.specs.Prelude.{ℕ, Bool, ◌||◌, not, ◌==◌, nat_lt, Option, Some, None, option_and_then, List, length, codes, if◌then◌else◌}
use Rattle.std.specs.List.{list_any}
use Rattle.std.specs.Option.{option_map}
use Rattle.std.specs.Str.{bytes_eq}
use Rattle.doc_value.specs.declared.doc_id.DocId.{DocId}
use Rattle.doc_value.specs.declared.doc_id.DocId.TheVariants.{Text, Int}
use Rattle.doc_value.specs.declared.value.Value.{Value, out-Value}
use Rattle.doc_value.specs.declared.value.Value.TheOpen.{Value-F}
use Rattle.txn_key.specs.declared.key.Key.{Key}

abbrev pub holds_byte : ℕ → List ℕ → Bool
holds_byte byte name = list_any (λ b. b == byte) name

-- the name of a collection: 1 to 120 bytes with no NUL, and not `_id`
abbrev pub is_collection : List ℕ → Bool
is_collection name =
    not ((length name == 0) || nat_lt 120 (length name) || holds_byte 0 name
    || bytes_eq name (codes "_id"))

-- a text that is the id of a document: at most 1,024 bytes with no NUL
abbrev pub is_text_id : List ℕ → Bool
is_text_id text = not (nat_lt 1024 (length text) || holds_byte 0 text)

abbrev pub collection_of : Value-F Value → Option (List ℕ)
collection_of (Value-F.Text name) = if is_collection name then Some name else None
collection_of _ = None

abbrev pub doc_id_of : Value-F Value → Option DocId
doc_id_of (Value-F.Text text) = if is_text_id text then Some (Text text) else None
doc_id_of (Value-F.Int number) = Some (Int number)
doc_id_of _ = None

abbrev pub key_with : List ℕ → Option DocId → Option Key
key_with name id = option_map (λ d. record { c = name; d = d }) id

-- the key that a collection and an id name
abbrev pub key_in : Value → Value → Option Key
key_in c d =
    option_and_then (λ name. key_with name (doc_id_of (out-Value d))) (collection_of (out-Value c))
