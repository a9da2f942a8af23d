use Rattle.std.proofs.Common.{◌≡◌, ◌+◌, ◌<◌, ◌≤◌, ◌++◌, ◌==◌, ℕ, suc, List, [], ◌∷◌, Bool, true, false, cond, ◌||◌, Some, None, length, take, drop, refl, sym, ap, ◌∙◌, zero-add, arith, subst}
use Rattle.std.proofs.lemmas.Option.{none-some}
use Rattle.std.specs.Option.{unwrap_or}
use Rattle.std.proofs.lemmas.Iterator.Adapters.{position_from-zero}
use Rattle.std.specs.List.{position, position_from}
use Rattle.txn_io.specs.Lines.{line_of, after_line, line_cost, has_newline}

abbrev pub is_newline : ℕ → Bool
is_newline byte = byte == 10

-- bytes without a newline, whatever comes after them
pub record HasNoNewline (bytes : List ℕ) : Type 0 where
  pub line : (rest : List ℕ) → line_of (bytes ++ rest) ≡ bytes ++ line_of rest
  pub after : (rest : List ℕ) → after_line (bytes ++ rest) ≡ after_line rest
  pub cost : (rest : List ℕ) → line_cost (bytes ++ rest) ≡ length bytes + line_cost rest

-- bytes whose first newline stands at that index
pub record HasNewlineAt (bytes : List ℕ) (index : ℕ) : Type 0 where
  pub within : index < length bytes
  pub line : (rest : List ℕ) → line_of (bytes ++ rest) ≡ take index bytes
  pub after : (rest : List ℕ) → after_line (bytes ++ rest) ≡ drop (suc index) bytes ++ rest
  pub cost : (rest : List ℕ) → line_cost (bytes ++ rest) ≡ suc index

no_newline_cons : (byte : ℕ) (bytes : List ℕ) → (byte == 10) ≡ false → HasNoNewline bytes → HasNoNewline (byte ∷ bytes)
no_newline_cons byte bytes other none = record {
  line = λ rest. rw other (ap (λ x. byte ∷ x) (none.line rest));
  after = λ rest. rw other (none.after rest);
  cost = λ rest. rw other (omega (arith, none.cost rest));
}

newline_cons : (byte : ℕ) (bytes : List ℕ) (index : ℕ) → (byte == 10) ≡ false → HasNewlineAt bytes index → HasNewlineAt (byte ∷ bytes) (suc index)
newline_cons byte bytes index other at = record {
  within = omega (arith, at.within);
  line = λ rest. rw other (ap (λ x. byte ∷ x) (at.line rest));
  after = λ rest. rw other (at.after rest);
  cost = λ rest. rw other (omega (arith, at.cost rest));
}

newline_here : (byte : ℕ) (bytes : List ℕ) → (byte == 10) ≡ true → HasNewlineAt (byte ∷ bytes) 0
newline_here byte bytes same = record {
  within = omega arith;
  line = λ rest. rw same refl;
  after = λ rest. rw same refl;
  cost = λ rest. rw same refl;
}

newline_more : (start byte : ℕ) (bytes : List ℕ) (found : ℕ) → (byte == 10) ≡ false → ((index : ℕ) × (found ≡ start + 1 + index) × HasNewlineAt bytes index) → (index : ℕ) × (found ≡ start + index) × HasNewlineAt (byte ∷ bytes) index
newline_more start byte bytes found other more = (suc more.0, omega (arith, more.1), newline_cons byte bytes more.0 other more.2)

no_newline_from : (start : ℕ) (bytes : List ℕ) → position_from is_newline start bytes ≡ None → HasNoNewline bytes
no_newline_from start [] none = record {
  line = λ rest. refl;
  after = λ rest. refl;
  cost = λ rest. sym (zero-add (line_cost rest));
}
no_newline_from start (byte ∷ bytes) none =
    elim (byte == 10)
    as (λ b. (byte == 10) ≡ b → cond b (Some start) (position_from is_newline (start + 1) bytes) ≡ None → HasNoNewline (byte ∷ bytes)) [
      | true ↦ λ _ e. absurd (none-some _ (sym e))
      | false ↦ λ other e. no_newline_cons byte bytes other (no_newline_from (start + 1) bytes e)
    ] refl none

newline_from : (start : ℕ) (bytes : List ℕ) (found : ℕ) → position_from is_newline start bytes ≡ Some found → (index : ℕ) × (found ≡ start + index) × HasNewlineAt bytes index
newline_from start [] found at = absurd (none-some _ at)
newline_from start (byte ∷ bytes) found at =
    elim (byte == 10)
    as (λ b. (byte == 10) ≡ b → cond b (Some start) (position_from is_newline (start + 1) bytes) ≡ Some found → (index : ℕ) × (found ≡ start + index) × HasNewlineAt (byte ∷ bytes) index) [
      | true ↦ λ same e. let here : start ≡ found = ap (λ o. unwrap_or o start) e in (0, omega (arith, here), newline_here byte bytes same)
      | false ↦ λ other e. newline_more start byte bytes found other (newline_from (start + 1) bytes found e)
    ] refl at

-- the line's bytes are no more than what it takes
pub line_no_longer : (input : List ℕ) → length (line_of input) ≤ line_cost input
line_no_longer [] = omega arith
line_no_longer (byte ∷ bytes) =
    elim (byte == 10) as (λ b. length (cond b [] (byte ∷ line_of bytes)) ≤ cond b 1 (line_cost bytes + 1))
    [ true ↦ omega arith | false ↦ let h = line_no_longer bytes in omega (arith, h) ]

pub no_newline : (bytes : List ℕ) → position is_newline bytes ≡ None → HasNoNewline bytes
no_newline bytes none = no_newline_from 0 bytes (sym (position_from-zero is_newline bytes) ∙ none)

pub newline : (bytes : List ℕ) (index : ℕ) → position is_newline bytes ≡ Some index → HasNewlineAt bytes index
newline bytes index found =
    let there = newline_from 0 bytes index (sym (position_from-zero is_newline bytes) ∙ found) in
    let same : there.0 ≡ index = omega (arith, there.1) in
    subst (HasNewlineAt bytes) same there.2

-- bytes that stand whole at the front of a line have no newline
pub front_of_line : (bytes rest : List ℕ) → line_of (bytes ++ rest) ≡ bytes ++ line_of rest → has_newline bytes ≡ false
front_of_line [] rest whole = refl
front_of_line (byte ∷ bytes) rest whole =
    elim (byte == 10)
    as (λ b. cond b [] (byte ∷ line_of (bytes ++ rest)) ≡ byte ∷ (bytes ++ line_of rest) → (b || has_newline bytes) ≡ false) [
      | true ↦ λ e. absurd (cc)
      | false ↦ λ e. front_of_line bytes rest (cc)
    ] whole
