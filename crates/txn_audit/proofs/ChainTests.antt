-- A chain of revision numbers, tested operation by operation.
use Rattle.std.proofs.Common.{◌≡◌, ℕ, suc, ◌+◌, ◌<◌, Bool, true, false, ◌&&◌, cond, ℤ, pos, int_eq, Some, option_map, unwrap_or, List, [], ◌∷◌, length, get_or, drop, refl, sym, ap, ◌∙◌, arith}
use Rattle.std.proofs.lemmas.List.{at_drop_more}
use Rattle.txn_key.specs.Keys.{same_key}
use Rattle.txn_key.specs.declared.key.Key.{Key}
use Rattle.txn_record.specs.Revnos.{number_after, first_on, follows, stays_within}
use Rattle.txn_record.specs.declared.op.Op.{Op}

-- an operation on another key is passed over
pub first_past : (key : Key) (ops : List Op) (revnos : List ℤ) (i : ℕ) (op : Op) → length revnos ≡ length ops → i < length ops
    → same_key key (get_or ops i op).key ≡ false → first_on key (drop i ops) (drop i revnos) ≡ first_on key (drop (i + 1) ops) (drop (i + 1) revnos)
first_past key ops revnos i op count within other =
    at_drop_more (λ o. first_on key o (drop i revnos)) ops i op within
    ∙ at_drop_more (λ r. first_on key (get_or ops i op ∷ drop (i + 1) ops) r) revnos i (pos 0) (omega arith)
    ∙ ap (λ t. cond t (Some (get_or revnos i (pos 0))) (first_on key (drop (i + 1) ops) (drop (i + 1) revnos))) other

and_none : (b : Bool) → (b && false) ≡ false
and_none true = refl
and_none false = refl

-- with more operations than numbers, or fewer, there is no chain
pub uneven : (ops : List Op) (revnos : List ℤ) → (length ops ≡ length revnos → ⊥) → follows ops revnos ≡ false
uneven [] [] ne = absurd (ne refl)
uneven [] (_ ∷ _) ne = refl
uneven (_ ∷ _) [] ne = refl
uneven (op ∷ ops) (revno ∷ revnos) ne =
    ap (λ b. unwrap_or (option_map (int_eq (number_after op.change revno)) (first_on op.key ops revnos)) true && b) (uneven ops revnos (λ e. ne (ap suc e)))
    ∙ and_none (unwrap_or (option_map (int_eq (number_after op.change revno)) (first_on op.key ops revnos)) true)

pub unchained : (ops : List Op) (revnos : List ℤ) → (length ops ≡ length revnos → ⊥) → false ≡ (follows ops revnos && stays_within ops revnos)
unchained ops revnos ne = sym (ap (λ b. b && stays_within ops revnos) (uneven ops revnos ne))

pub chain_past : (ops : List Op) (revnos : List ℤ) (first : Bool) → first ≡ stays_within ops revnos → first ≡ false → first ≡ (follows ops revnos && stays_within ops revnos)
chain_past ops revnos first e f = f ∙ sym (ap (λ b. follows ops revnos && b) (sym e ∙ f) ∙ and_none (follows ops revnos))
