use Rattle.std.specs.Prelude.{ℕ, ◌*◌, ◌==◌, ◌&&◌, List, ◌∷◌, ◌++◌, length, take, drop, slice_index, if◌then◌else◌, Option, None, option_and_then}
use Rattle.std.specs.Cmp.Lexicographic.{slice_cmp}
use Rattle.std.specs.Int.{w32, to_be_bytes, from_be_bytes}
use Rattle.std.specs.Ordering.{nat_cmp}
use Rattle.std.specs.Option.{option_map}
use Rattle.std.specs.Result.{result_ok}
use Rattle.std.specs.declared.cmp.Ordering.{Ordering}
use Rattle.hex.specs.Hex.{decode_of, encode_lower}
use Rattle.txn_key.specs.declared.id.Token.{Token}
use Rattle.txn_key.specs.declared.id.TxnId.{TxnId}

-- the n bytes that a text of 2n hexadecimal digits is written for, in either case of letters
abbrev pub bytes_of : ℕ → List ℕ → Option (List ℕ)
bytes_of n text = if length text == 2 * n then result_ok (decode_of text) else None

-- the id that a text of 24 hexadecimal digits is written for
abbrev pub id_of : List ℕ → Option TxnId
id_of text = option_map (λ bytes. record { 0 = bytes }) (bytes_of 12 text)

-- the nonce that a text of 8 hexadecimal digits is written for, high digits first
abbrev pub nonce_of : List ℕ → Option ℕ
nonce_of text = option_map (from_be_bytes w32) (bytes_of 4 text)

abbrev pub token_with : TxnId → Option ℕ → Option Token
token_with id nonce = option_map (λ n. record { id = id; nonce = n }) nonce

-- the token that a text is written for: an id, `_` and a nonce
abbrev pub token_of : List ℕ → Option Token
token_of text =
    if (length text == 33) && (slice_index text 24 == 95)
    then option_and_then (λ id. token_with id (nonce_of (drop 25 text))) (id_of (take 24 text))
    else None

-- how an id, a nonce and a token are printed, in lower case
abbrev pub id_text : TxnId → List ℕ
id_text id = encode_lower id.0

abbrev pub nonce_text : ℕ → List ℕ
nonce_text nonce = encode_lower (to_be_bytes w32 nonce)

abbrev pub token_text : Token → List ℕ
token_text token = id_text token.id ++ 95 ∷ nonce_text token.nonce

-- by their bytes
abbrev pub id_cmp : TxnId → TxnId → Ordering
id_cmp s t = slice_cmp nat_cmp s.0 t.0
