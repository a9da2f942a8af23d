use Rattle.std.specs.Prelude.{ℕ, Bool, true, false, ◌&&◌, ◌||◌, nat_le, ℤ, pos, ◌+ℤ◌, ◌-ℤ◌, neg_ℤ, int_lt, not, unsigned_abs, Option, Some, None, option_map, unwrap_or, List, [], ◌∷◌, if◌then◌else◌}
use Rattle.std.specs.Ordering.{int_eq}
use Rattle.txn_key.specs.Keys.{same_key}
use Rattle.txn_key.specs.declared.key.Key.{Key}
use Rattle.txn_record.specs.declared.op.Op.{Op}
use Rattle.txn_record.specs.declared.op.Change.{Change}
use Rattle.txn_record.specs.declared.op.Change.TheVariants as change

-- a number of 0 or more says that the document is present
abbrev pub is_present : ℤ → Bool
is_present revno = not (int_lt revno (pos 0))

-- Whether a change does something where it finds this number: an insertion to a missing document, an update or a
-- removal to a present one.
abbrev pub has_effect : Change → ℤ → Bool
has_effect change.Nothing revno = false
has_effect (change.Insert _) revno = not (is_present revno)
has_effect (change.Update _) revno = is_present revno
has_effect change.Remove revno = is_present revno

-- The number that a change leaves where it does something: one more in absolute value, of the sign that says whether
-- the document is there afterwards.
abbrev pub next_number : Change → ℤ → ℤ
next_number change.Nothing revno = revno
next_number (change.Insert _) revno = neg_ℤ revno +ℤ pos 1
next_number (change.Update _) revno = revno +ℤ pos 1
next_number change.Remove revno = neg_ℤ revno -ℤ pos 1

-- the number that a change leaves where it finds this one
abbrev pub number_after : Change → ℤ → ℤ
number_after change revno = if has_effect change revno then next_number change revno else revno

-- the number that the first of these operations on a key finds
abbrev pub first_on : Key → List Op → List ℤ → Option ℤ
first_on key (op ∷ ops) (revno ∷ revnos) =
    if same_key key op.key then Some revno else first_on key ops revnos
first_on key [] _ = None
first_on key _ [] = None

-- one number an operation, and each operation finds what the one before it on the same key left
abbrev pub follows : List Op → List ℤ → Bool
follows [] [] = true
follows (op ∷ ops) (revno ∷ revnos) =
    unwrap_or (option_map (int_eq (number_after op.change revno)) (first_on op.key ops revnos)) true
    && follows ops revnos
follows [] (_ ∷ _) = false
follows (_ ∷ _) [] = false

-- the greatest absolute value of a revision number
abbrev pub revno_limit : ℕ
revno_limit = 4611686018427387904

abbrev pub is_within : ℤ → Bool
is_within revno = nat_le (unsigned_abs revno) revno_limit

-- no number of a chain passes the limit, its ends included
abbrev pub stays_within : List Op → List ℤ → Bool
stays_within (op ∷ ops) (revno ∷ revnos) =
    is_within revno && is_within (number_after op.change revno) && stays_within ops revnos
stays_within [] _ = true
stays_within _ [] = true

-- whether a number is one of the chain's on a key, its end included
abbrev pub is_on_chain : Key → ℤ → List Op → List ℤ → Bool
is_on_chain key number (op ∷ ops) (revno ∷ revnos) =
    (same_key key op.key && (int_eq number revno || int_eq number (number_after op.change revno)))
    || is_on_chain key number ops revnos
is_on_chain key number [] _ = false
is_on_chain key number _ [] = false
