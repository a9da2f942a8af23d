-- What a list of operations does to the body at one key.
use Rattle.std.proofs.Common.{◌≡◌, ◌≢◌, Bool, true, false, cond, Option, List, [], ◌∷◌, ◌++◌, sym, ap, ◌∙◌, refl, subst, if◌then◌else◌, true≢false, ◌⊎◌, inl, inr}
use Rattle.std.specs.Cmp.{Equal-is}
use Rattle.std.specs.FinMap.{get, same_map}
use Rattle.std.specs.Ordering.{is_eq}
use Rattle.std.proofs.lemmas.Cmp.{tied_itself}
use Rattle.doc_value.specs.declared.value.Value.{Value}
use Rattle.txn_key.proofs.KeyOrder.{key_cmp_total, key_cmp-IsAntisymmetric}
use Rattle.txn_key.specs.Documents.{Docs}
use Rattle.txn_key.specs.Keys.{key_cmp, same_key}
use Rattle.txn_key.specs.declared.key.Key.{Key}
use Rattle.txn_record.proofs.EffectLaws.{get-effect_of_here, get-effect_of_other}
use Rattle.txn_record.specs.Effects.{effect, effect_of, body_after}
use Rattle.txn_record.specs.declared.op.Op.{Op}
use Rattle.store_laws.specs.View.{IsOn}

pub same_key-equal : (j k : Key) → same_key j k ≡ true → j ≡ k
same_key-equal j k e = key_cmp-IsAntisymmetric j k ((Equal-is (key_cmp j k)).0 e)

pub same_key-itself : (k : Key) → same_key k k ≡ true
same_key-itself k = ap is_eq (tied_itself key_cmp_total k)

pub same_key-apart : (j k : Key) → j ≢ k → same_key j k ≡ false
same_key-apart j k apart = by (same_key j k) refl
  where
    by : (b : Bool) → same_key j k ≡ b → b ≡ false
    by true e = absurd (apart (same_key-equal j k e))
    by false e = refl

pub same_key-other : (j k : Key) → same_key j k ≡ false → j ≢ k
same_key-other j k e q = true≢false (sym (subst (λ (i : Key). same_key j i ≡ true) q (same_key-itself j)) ∙ e)

abbrev pub IsAmong : Op → List Op → Type 0
IsAmong op [] = ⊥
IsAmong op (o ∷ ops) = (o ≡ op) ⊎ IsAmong op ops

-- the body at a key once operations have run
abbrev pub run_on : Key → List Op → Option Value → Option Value
run_on key [] body = body
run_on key (op ∷ ops) body = run_on key ops (if same_key key op.key then body_after op.change body else body)

pub get-effect : (key : Key) (ops : List Op) (docs : Docs) → get (effect ops docs) key ≡ run_on key ops (get docs key)
get-effect key [] docs = refl
get-effect key (op ∷ ops) docs = get-effect key ops (effect_of op docs) ∙ ap (run_on key ops) (step (same_key key op.key) refl)
  where
    step : (b : Bool) → same_key key op.key ≡ b → get (effect_of op docs) key ≡ cond (same_key key op.key) (body_after op.change (get docs key)) (get docs key)
    step true e = rw e (subst (λ (k : Key). get (effect_of op docs) k ≡ body_after op.change (get docs k)) (sym (same_key-equal key op.key e)) (get-effect_of_here op docs))
    step false e = rw e (get-effect_of_other op docs key (same_key-other key op.key e))

pub run_on-append : (key : Key) (xs ys : List Op) (body : Option Value) → run_on key (xs ++ ys) body ≡ run_on key ys (run_on key xs body)
run_on-append key [] ys body = refl
run_on-append key (op ∷ xs) ys body = run_on-append key xs ys _

pub run_on-away : (key : Key) (ops : List Op) (body : Option Value) → (IsOn key ops → ⊥) → run_on key ops body ≡ body
run_on-away key [] body away = refl
run_on-away key (op ∷ ops) body away = rw (same_key-apart key op.key (λ q. away (inl (sym q)))) (run_on-away key ops body (λ on. away (inr on)))

-- where each operation on the key leaves the body
pub run_on-idle : (key : Key) (ops : List Op) (body : Option Value) → ((op : Op) → IsAmong op ops → op.key ≡ key → body_after op.change body ≡ body) → run_on key ops body ≡ body
run_on-idle key [] body leaves = refl
run_on-idle key (op ∷ ops) body leaves = ap (run_on key ops) (by (same_key key op.key) refl) ∙ run_on-idle key ops body (λ o among. leaves o (inr among))
  where
    by : (b : Bool) → same_key key op.key ≡ b → (if b then body_after op.change body else body) ≡ body
    by true e = leaves op (inl refl) (sym (same_key-equal key op.key e))
    by false e = refl

pub same_docs : (m n : Docs) → ((key : Key) → get m key ≡ get n key) → m ≡ n
same_docs = same_map key_cmp_total key_cmp-IsAntisymmetric
