use Rattle.std.proofs.Common.{◌≡◌, ◌≤◌, ◌+◌, ◌-◌, ◌++◌, ℕ, List, take, drop, length, length-drop, length-take, drop-drop, sym, ap, ◌∙◌, append_assoc, arith}
use Rattle.std.proofs.Math.Nat.{min-eq_left}
use Rattle.std.proofs.Math.Seq.{take-add}
use Rattle.std.proofs.lemmas.List.{take_all, take-append-le, take-append-drop}

-- the first bytes of a piece, and then the first of what is left of it
pub put_more : (old now later piece : List ℕ) (done more : ℕ) → now ≡ old ++ take done piece → later ≡ now ++ take more (take (length piece - done) (drop done piece)) → later ≡ old ++ take (done + more) piece
put_more old now later piece done more before put =
    let left : take (length piece - done) (drop done piece) ≡ drop done piece = take_all _ _ (omega (arith, length-drop done piece)) in
    put ∙ ap (λ x. now ++ take more x) left
    ∙ ap (λ x. x ++ take more (drop done piece)) before
    ∙ append_assoc old (take done piece) (take more (drop done piece))
    ∙ ap (λ x. old ++ x) (sym (take-add done more piece))

-- what was copied to the front of a buffer, and what is left behind it, is what was left before
pub copied_all : (bytes copied behind slice : List ℕ) (at n : ℕ) → n ≤ length bytes - at → copied ≡ take (at + n - at) (drop at slice) → slice ≡ bytes → take n (copied ++ behind) ++ drop (at + n) bytes ≡ drop at bytes
copied_all bytes copied behind slice at n room copied_is same =
    let steps : at + n - at ≡ n = omega arith in
    let front : copied ≡ take n (drop at bytes) = copied_is ∙ ap (λ k. take k (drop at slice)) steps ∙ ap (λ l. take n (drop at l)) same in
    let size : length copied ≡ n = ap length front ∙ length-take n (drop at bytes) ∙ min-eq_left (omega (arith, length-drop at bytes, room)) in
    let whole : take n (copied ++ behind) ≡ copied = take-append-le n copied behind (omega (arith, size)) ∙ take_all n copied (omega (arith, size)) in
    ap (λ l. l ++ drop (at + n) bytes) (whole ∙ front) ∙ ap (λ l. take n (drop at bytes) ++ l) (sym (drop-drop n at bytes)) ∙ take-append-drop n (drop at bytes)
