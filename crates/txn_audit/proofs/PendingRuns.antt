-- Pending operations one after the other.
use Rattle.std.proofs.Common.{◌≡◌, ◌≤◌, ◌<◌, ◌+◌, ◌&&◌, ◌++◌, ℕ, zero, suc, Bool, true, false, Option, Some, None, List, [], ◌∷◌, ℤ, pos, length, get_or, drop, min, if◌then◌else◌, nat_le, unsigned_abs, option_map, sym, ap, ◌∙◌, refl, arith}
use Rattle.std.proofs.lemmas.List.{at_drop_more}
use Rattle.std.specs.FinMap.{get}
use Rattle.txn_key.specs.Documents.{Docs}
use Rattle.txn_record.specs.Effects.{effect, effect_of, changes_fit, change_fits}
use Rattle.txn_record.specs.declared.op.Op.{Op}
use Rattle.store_trait.specs.declared.cell.Named.{Named}
use Rattle.store_laws.specs.Meaning.{not_done}
use Rattle.store_laws.specs.View.{View, epoch_at}
use Rattle.txn_audit.specs.Bodies.{pending_in, to_do, first_unfit}

pub effect-append : (xs ys : List Op) (docs : Docs) → effect (xs ++ ys) docs ≡ effect ys (effect xs docs)
effect-append [] ys docs = refl
effect-append (op ∷ xs) ys docs = effect-append xs ys (effect_of op docs)

changes_fit-append : (xs ys : List Op) (docs : Docs) → changes_fit (xs ++ ys) docs ≡ (changes_fit xs docs && changes_fit ys (effect xs docs))
changes_fit-append [] ys docs = refl
changes_fit-append (op ∷ xs) ys docs =
    ap (λ (b : Bool). change_fits op.change (get docs op.key) && b) (changes_fit-append xs ys (effect_of op docs))
    ∙ by (change_fits op.change (get docs op.key)) (changes_fit xs (effect_of op docs)) (changes_fit ys (effect xs (effect_of op docs)))
  where
    by : (a b c : Bool) → (a && (b && c)) ≡ ((a && b) && c)
    by true b c = refl
    by false b c = refl

-- the number at a place within the list, whatever stands for one past its end
pub at_zero : (xs : List ℤ) (i : ℕ) → i < length xs → get_or xs i (pos 0) ≡ get_or xs i (get_or xs i (pos 0))
at_zero [] i within = absurd (omega arith)
at_zero (x ∷ xs) zero within = refl
at_zero (x ∷ xs) (suc i) within = at_zero xs i (omega arith)

module _ (view : View) where
  first_split : (op : Op) (ops : List Op) (revno : ℤ) (revnos : List ℤ) → not_done view (op ∷ ops) (revno ∷ revnos) ≡ not_done view (op ∷ []) (revno ∷ []) ++ not_done view ops revnos
  first_split op ops revno revnos = by (nat_le (epoch_at view op.key) (unsigned_abs revno))
    where
      by : (b : Bool) → (if b then op ∷ not_done view ops revnos else not_done view ops revnos) ≡ (if b then op ∷ not_done view [] [] else not_done view [] []) ++ not_done view ops revnos
      by true = refl
      by false = refl

  module _ (ops : List Op) (revnos : List ℤ) (i : ℕ) (op : Op) (revno : ℤ) (in_ops : i < length ops) (in_revnos : i < length revnos) (is_op : op ≡ get_or ops i op) (is_revno : revno ≡ get_or revnos i revno) where
    split : not_done view (drop i ops) (drop i revnos) ≡ not_done view (op ∷ []) (revno ∷ []) ++ not_done view (drop (i + 1) ops) (drop (i + 1) revnos)
    split =
        at_drop_more (λ (l : List Op). not_done view l (drop i revnos)) ops i op in_ops
        ∙ ap (λ (one : Op). not_done view (one ∷ drop (i + 1) ops) (drop i revnos)) (sym is_op)
        ∙ at_drop_more (λ (l : List ℤ). not_done view (op ∷ drop (i + 1) ops) l) revnos i revno in_revnos
        ∙ ap (λ (one : ℤ). not_done view (op ∷ drop (i + 1) ops) (one ∷ drop (i + 1) revnos)) (sym is_revno)
        ∙ first_split op (drop (i + 1) ops) revno (drop (i + 1) revnos)

    -- an operation that fits and runs leaves the others
    pub step_effect : (docs after : Docs) → after ≡ effect (not_done view (op ∷ []) (revno ∷ [])) docs
        → effect (not_done view (drop (i + 1) ops) (drop (i + 1) revnos)) after ≡ effect (not_done view (drop i ops) (drop i revnos)) docs
    step_effect docs after e =
        ap (effect (not_done view (drop (i + 1) ops) (drop (i + 1) revnos))) e
        ∙ sym (ap (λ (l : List Op). effect l docs) split ∙ effect-append (not_done view (op ∷ []) (revno ∷ [])) (not_done view (drop (i + 1) ops) (drop (i + 1) revnos)) docs)

    parted : (docs : Docs) → changes_fit (not_done view (drop i ops) (drop i revnos)) docs ≡ (changes_fit (not_done view (op ∷ []) (revno ∷ [])) docs && changes_fit (not_done view (drop (i + 1) ops) (drop (i + 1) revnos)) (effect (not_done view (op ∷ []) (revno ∷ [])) docs))
    parted docs = ap (λ (l : List Op). changes_fit l docs) split ∙ changes_fit-append (not_done view (op ∷ []) (revno ∷ [])) (not_done view (drop (i + 1) ops) (drop (i + 1) revnos)) docs

    pub step_fits : (docs after : Docs) → after ≡ effect (not_done view (op ∷ []) (revno ∷ [])) docs → changes_fit (not_done view (op ∷ []) (revno ∷ [])) docs ≡ true
        → changes_fit (not_done view (drop (i + 1) ops) (drop (i + 1) revnos)) after ≡ changes_fit (not_done view (drop i ops) (drop i revnos)) docs
    step_fits docs after e fits =
        ap (changes_fit (not_done view (drop (i + 1) ops) (drop (i + 1) revnos))) e
        ∙ sym (parted docs ∙ ap (λ (b : Bool). b && changes_fit (not_done view (drop (i + 1) ops) (drop (i + 1) revnos)) (effect (not_done view (op ∷ []) (revno ∷ [])) docs)) fits)

    pub stops : (docs : Docs) → changes_fit (not_done view (op ∷ []) (revno ∷ [])) docs ≡ false → changes_fit (not_done view (drop i ops) (drop i revnos)) docs ≡ false
    stops docs unfit = parted docs ∙ ap (λ (b : Bool). b && changes_fit (not_done view (drop (i + 1) ops) (drop (i + 1) revnos)) (effect (not_done view (op ∷ []) (revno ∷ [])) docs)) unfit

  none_numbered : (ops : List Op) → not_done view ops [] ≡ []
  none_numbered [] = refl
  none_numbered (op ∷ ops) = refl

  -- past the end of either list nothing is left
  pub none_left : (ops : List Op) (revnos : List ℤ) (i : ℕ) → min (length ops) (length revnos) ≤ i → not_done view (drop i ops) (drop i revnos) ≡ []
  none_left [] revnos i past = ap (λ (l : List Op). not_done view l (drop i revnos)) (drop_none i)
    where
      drop_none : (i : ℕ) → drop {A = Op} i [] ≡ []
      drop_none zero = refl
      drop_none (suc i) = refl
  none_left (op ∷ ops) [] i past = ap (not_done view (drop i (op ∷ ops))) (drop_none i) ∙ none_numbered (drop i (op ∷ ops))
    where
      drop_none : (i : ℕ) → drop {A = ℤ} i [] ≡ []
      drop_none zero = refl
      drop_none (suc i) = refl
  none_left (op ∷ ops) (revno ∷ revnos) zero past = absurd (omega arith)
  none_left (op ∷ ops) (revno ∷ revnos) (suc i) past = none_left ops revnos i (omega arith)

  -- ---- the cells one after the other

  -- a place among later cells as a place among all
  abbrev pub shifted : ℕ → Option ℕ → Option ℕ
  shifted i found = option_map (λ n. n + i) found

  shifted-suc : (i : ℕ) (found : Option ℕ) → shifted i (option_map suc found) ≡ shifted (i + 1) found
  shifted-suc i None = refl
  shifted-suc i (Some n) = ap Some (omega arith)

  pub shifted-none : (found : Option ℕ) → found ≡ shifted 0 found
  shifted-none None = refl
  shifted-none (Some n) = ap Some (omega arith)

  shifted_first : (i : ℕ) → shifted i (Some 0) ≡ Some i
  shifted_first i = ap Some (omega arith)

  module _ (cells : List Named) (i : ℕ) (x : Named) (within : i < length cells) (is : x ≡ get_or cells i x) where
    first : drop i cells ≡ x ∷ drop (i + 1) cells
    first = at_drop_more (λ (l : List Named). l) cells i x within ∙ ap (λ (one : Named). one ∷ drop (i + 1) cells) (sym is)

    pub cell_effect : (docs after : Docs) → after ≡ effect (pending_in view x.cell) docs → effect (to_do view (drop (i + 1) cells)) after ≡ effect (to_do view (drop i cells)) docs
    cell_effect docs after e =
        ap (effect (to_do view (drop (i + 1) cells))) e
        ∙ sym (ap (λ (l : List Named). effect (to_do view l) docs) first ∙ effect-append (pending_in view x.cell) (to_do view (drop (i + 1) cells)) docs)

    pub cell_fits : (docs after : Docs) → after ≡ effect (pending_in view x.cell) docs → changes_fit (pending_in view x.cell) docs ≡ true → shifted (i + 1) (first_unfit view (drop (i + 1) cells) after) ≡ shifted i (first_unfit view (drop i cells) docs)
    cell_fits docs after e fits =
        ap (λ (d : Docs). shifted (i + 1) (first_unfit view (drop (i + 1) cells) d)) e
        ∙ sym (ap (λ (l : List Named). shifted i (first_unfit view l docs)) first
        ∙ ap (λ (b : Bool). shifted i (if b then option_map suc (first_unfit view (drop (i + 1) cells) (effect (pending_in view x.cell) docs)) else Some 0)) fits
        ∙ shifted-suc i (first_unfit view (drop (i + 1) cells) (effect (pending_in view x.cell) docs)))

    pub cell_stops : (docs : Docs) → changes_fit (pending_in view x.cell) docs ≡ false → Some i ≡ shifted i (first_unfit view (drop i cells) docs)
    cell_stops docs unfit =
        sym (ap (λ (l : List Named). shifted i (first_unfit view l docs)) first
        ∙ ap (λ (b : Bool). shifted i (if b then option_map suc (first_unfit view (drop (i + 1) cells) (effect (pending_in view x.cell) docs)) else Some 0)) unfit
        ∙ shifted_first i)
