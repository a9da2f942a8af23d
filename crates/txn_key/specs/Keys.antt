use Rattle.std.specs.Prelude.{Bool}
use Rattle.std.specs.Ordering.{nat_cmp, ordering_then, is_eq}
use Rattle.std.specs.declared.cmp.Ordering.{Ordering}
use Rattle.std.specs.Cmp.Lexicographic.{slice_cmp}
use Rattle.doc_value.specs.Ids.{id_cmp as doc_id_cmp}
use Rattle.txn_key.specs.declared.key.Key.{Key}

-- by collection name in bytes, then by the id of the document: texts before whole numbers
abbrev pub key_cmp : Key → Key → Ordering
key_cmp j k = ordering_then (slice_cmp nat_cmp j.c k.c) (doc_id_cmp j.d k.d)

abbrev pub same_key : Key → Key → Bool
same_key a b = is_eq (key_cmp a b)
