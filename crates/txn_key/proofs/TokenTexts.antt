use Rattle.std.proofs.Common.{◌≡◌, ℕ, ◌+◌, ◌*◌, ◌<◌, ◌^◌, ◌==◌, ◌&&◌, zero, suc, Bool, true, List, ◌∷◌, ◌++◌, length, take, drop, slice_index, if◌then◌else◌, Option, Some, None, option_and_then, ap, ◌∙◌, refl, subst, arith, length-append}
use Rattle.std.proofs.Math.Seq.{take-append_seam, drop-append-add, get_or-append_seam}
use Rattle.std.proofs.lemmas.Bool.{eq-eqb}
use Rattle.std.proofs.lemmas.Nat.{from_be_bytes-to_be_bytes_4}
use Rattle.std.specs.Int.{w32, to_be_bytes, from_be_bytes}
use Rattle.std.specs.Option.{option_map}
use Rattle.std.specs.Result.{result_ok}
use Rattle.hex.specs.Hex.{decode_of, encode_lower, lower_digits, IsBytes}
use Rattle.hex.proofs.HexLemmas.{decode_of-encode_lower, length-encode_with}
use Rattle.txn_key.specs.Ids.{bytes_of, id_of, nonce_of, token_with, token_of, id_text, nonce_text, token_text}
use Rattle.txn_key.specs.declared.id.Token.{Token}
use Rattle.txn_key.specs.declared.id.TxnId.{TxnId}

length-encode_lower : (n : ℕ) (xs : List ℕ) → length xs ≡ n → length (encode_lower xs) ≡ 2 * n
length-encode_lower n xs e = length-encode_with lower_digits xs ∙ ap (λ (k : ℕ). 2 * k) e

bytes_of-encode_lower : (n : ℕ) (xs : List ℕ) → length xs ≡ n → IsBytes xs → bytes_of n (encode_lower xs) ≡ Some xs
bytes_of-encode_lower n xs e bytes =
    let counted = eq-eqb (length (encode_lower xs)) (2 * n) (length-encode_lower n xs e) in
    ap (λ (b : Bool). if b then result_ok (decode_of (encode_lower xs)) else None) counted ∙ ap result_ok (decode_of-encode_lower xs bytes)

IsBytes-to_be_bytes : (n : ℕ) → IsBytes (to_be_bytes w32 n)
IsBytes-to_be_bytes n zero = omega arith
IsBytes-to_be_bytes n (suc zero) = omega arith
IsBytes-to_be_bytes n (suc (suc zero)) = omega arith
IsBytes-to_be_bytes n (suc (suc (suc zero))) = omega arith
IsBytes-to_be_bytes n (suc (suc (suc (suc i)))) = omega arith

pub nonce_reads_back : (n : ℕ) → n < 2 ^ 32 → nonce_of (nonce_text n) ≡ Some n
nonce_reads_back n h =
    ap (option_map (from_be_bytes w32)) (bytes_of-encode_lower 4 (to_be_bytes w32 n) refl (IsBytes-to_be_bytes n))
    ∙ ap Some (from_be_bytes-to_be_bytes_4 n h)

pub id_reads_back : (id : TxnId) → length id.0 ≡ 12 → IsBytes id.0 → id_of (id_text id) ≡ Some id
id_reads_back id e bytes = ap (option_map (λ (xs : List ℕ). let made : TxnId = record { 0 = xs } in made)) (bytes_of-encode_lower 12 id.0 e bytes)

-- a text of two parts round `_`, the first of 24 bytes and the second of 8
parts_read : (a b : List ℕ) (id : TxnId) (n : ℕ) → length a ≡ 24 → length b ≡ 8 → id_of a ≡ Some id → nonce_of b ≡ Some n → token_of (a ++ 95 ∷ b) ≡ Some (record { id = id; nonce = n })
parts_read a b id n la lb first second =
    let text = a ++ 95 ∷ b in
    let long : length text ≡ 33 = omega (arith, length-append a (95 ∷ b)) in
    let mark : slice_index text 24 ≡ 95 = subst (λ (k : ℕ). slice_index text k ≡ 95) la (get_or-append_seam a 95 b 0) in
    let front : take 24 text ≡ a = subst (λ (k : ℕ). take k text ≡ a) la (take-append_seam a (95 ∷ b)) in
    let back : drop 25 text ≡ b = subst (λ (k : ℕ). drop (k + 1) text ≡ b) la (drop-append-add a (95 ∷ b) 1) in
    let whole : (length text == 33) && (slice_index text 24 == 95) ≡ true = (λ i. eq-eqb (length text) 33 long i && eq-eqb (slice_index text 24) 95 mark i) in
    let read : List ℕ → List ℕ → Option Token = λ x y. option_and_then (λ (z : TxnId). token_with z (nonce_of y)) (id_of x) in
    ap (λ (c : Bool). if c then read (take 24 text) (drop 25 text) else None) whole
    ∙ (λ i. read (front i) (back i))
    ∙ (λ i. option_and_then (λ (z : TxnId). token_with z (second i)) (first i))

pub token_of-token_text : (t : Token) → length t.id.0 ≡ 12 → IsBytes t.id.0 → t.nonce < 2 ^ 32 → token_of (token_text t) ≡ Some t
token_of-token_text t e bytes small =
    parts_read (id_text t.id) (nonce_text t.nonce) t.id t.nonce (length-encode_lower 12 t.id.0 e) (length-encode_lower 4 (to_be_bytes w32 t.nonce) refl)
    (id_reads_back t.id e bytes) (nonce_reads_back t.nonce small)
