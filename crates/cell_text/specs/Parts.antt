-- What the values in a cell are read as: nothing where one is faulty.
use Rattle.std.specs.Prelude.{ℕ, ℤ, pos, map, nat_lt, codes, Bool, true, false, ◌==◌, ◌&&◌, Option, Some, None, List, [], ◌∷◌, if◌then◌else◌}
use Rattle.std.specs.Option.{option_map}
use Rattle.std.specs.Result.{result_ok}
use Rattle.doc_value.specs.Depth.{nesting}
use Rattle.doc_value.specs.declared.value.Named.{Named as Field}
use Rattle.doc_value.specs.declared.value.Value.{Value, out-Value}
use Rattle.doc_value.specs.declared.value.Value.TheOpen.{Value-F}
use Rattle.txn_key.specs.Ids.{id_of, nonce_of, token_of}
use Rattle.txn_key.specs.Syntax.{key_in}
use Rattle.txn_key.specs.declared.id.Token.{Token}
use Rattle.txn_key.specs.declared.id.TxnId.{TxnId}
use Rattle.txn_key.specs.declared.key.Key.{Key}
use Rattle.txn_record.specs.Syntax.{ops_in}
use Rattle.txn_record.specs.declared.op.Op.{Op}
use Rattle.txn_record.specs.declared.state.State.{State}
use Rattle.txn_record.specs.declared.state.State.TheVariants.{Preparing, Prepared, Aborting, Applying, Aborted, Applied}
use Rattle.cell_text.specs.Fields.{is_named}

-- ---- texts and numbers

abbrev pub text_in : {A : Type 0} → (List ℕ → Option A) → Value-F Value → Option A
text_in read (Value-F.Text text) = read text
text_in read _ = None

abbrev pub number_in : Value-F Value → Option ℤ
number_in (Value-F.Int number) = Some number
number_in _ = None

unfoldable pub token_in : Value-F Value → Option Token
token_in layer = text_in token_of layer

-- all, where each is there
abbrev pub all_read : {A : Type 0} → List (Option A) → Option (List A)
all_read [] = Some []
all_read (Some first ∷ rest) = option_map (λ others. first ∷ others) (all_read rest)
all_read (None ∷ rest) = None

abbrev pub list_in : {A : Type 0} → (Value-F Value → Option A) → Value-F Value → Option (List A)
list_in read (Value-F.List values) = all_read (map (λ value. read (out-Value value)) values)
list_in read _ = None

-- ---- what has to be there

abbrev pub needed : {A : Type 0} → (Value-F Value → Option A) → Option Value → Option A
needed read (Some value) = read (out-Value value)
needed read None = None

abbrev pub state_with : ℕ → Option State
state_with number =
    if number == 1 then Some Preparing
    else (if number == 2 then Some Prepared
    else (if number == 3 then Some Aborting
    else (if number == 4 then Some Applying
    else (if number == 5 then Some Aborted
    else (if number == 6 then Some Applied else None)))))

abbrev pub state_in : Value-F Value → Option State
state_in (Value-F.Int (pos number)) = state_with number
state_in _ = None

-- a number of 32 bits
abbrev pub counter_in : Value-F Value → Option ℕ
counter_in (Value-F.Int (pos number)) = if nat_lt 4294967295 number then None else Some number
counter_in _ = None

abbrev pub ops_there : Option Value → Option (List Op)
ops_there (Some value) = result_ok (ops_in value)
ops_there None = None

-- the key of an object of a collection and an id
abbrev pub key_of_fields : List (Field Value) → Option Key
key_of_fields (c ∷ d ∷ []) = if is_named c (codes "c") && is_named d (codes "d") then key_in c.value d.value else None
key_of_fields _ = None

abbrev pub key_object_in : Value-F Value → Option Key
key_object_in (Value-F.Object fields) = key_of_fields fields
key_object_in _ = None

-- ---- what may be absent

abbrev pub if_there : {A : Type 0} → A → (Value-F Value → Option A) → Option Value → Option A
if_there absent read (Some value) = read (out-Value value)
if_there absent read None = Some absent

abbrev pub queue_in : Option Value → Option (List Token)
queue_in value = if_there [] (list_in token_in) value

abbrev pub revno_in : Option Value → Option ℤ
revno_in value = if_there (pos 0) number_in value

abbrev pub mark_in : Option Value → Option (Option Token)
mark_in value = if_there None (λ layer. option_map Some (token_in layer)) value

abbrev pub nonce_in : Option Value → Option (Option ℕ)
nonce_in value = if_there None (λ layer. option_map Some (text_in nonce_of layer)) value

abbrev pub revnos_in : Option Value → Option (Option (List ℤ))
revnos_in value = if_there None (λ layer. option_map Some (list_in number_in layer)) value

-- what is noted with a transaction nests at most 90 deep
abbrev pub info_in : Option Value → Option (Option Value)
info_in None = Some None
info_in (Some value) = if nat_lt 90 (nesting value) then None else Some (Some value)
