-- Parts in order, put among fields in order: the fields below each, the part, and the rest with the parts that follow.
use Rattle.std.proofs.Common.{◌≡◌, ℕ, suc, ◌+◌, ◌<◌, Bool, true, false, not, List, [], ◌∷◌, ◌++◌, length, get_or, take, drop, Option, Some, None, if◌then◌else◌, refl, sym, ap, ap₂, ◌∙◌, append_assoc}
use Rattle.std.specs.List.{list_all}
use Rattle.std.specs.Str.{bytes_eq}
use Rattle.std.proofs.lemmas.Bool.{true≢false, and_parts, and_from, not-true}
use Rattle.std.proofs.lemmas.List.{at_drop_more}
use Rattle.std.proofs.lemmas.List.Folds.{list_all-append}
use Rattle.doc_value.specs.declared.value.Named.{Named}
use Rattle.doc_value.specs.declared.value.Value.{Value}
use Rattle.doc_update.specs.Places.{with_field, field_or_none}
use Rattle.doc_apply.specs.Puts.{with_fields, puts_rise, names_rise, precedes_put, precedes_field, count_below, without_own}
use Rattle.doc_apply.specs.declared.put.Put.{Put}
use Rattle.doc_update.proofs.FieldLaws.{kept, kept-append}
use Rattle.doc_value.proofs.NameOrder.{before, past, past-before, before-trans, past-itself, before-not-past, by_order, equal-name}
use Rattle.doc_value.proofs.OrderedNames.{names_pass, pass_by}

kept-pass : (test : List ℕ → Bool) (fields : List (Named Value)) → names_pass test (kept test fields) ≡ true
kept-pass test [] = refl
kept-pass test (f ∷ fs) = by (test f.name) refl (kept-pass test fs)
  where
    by : (b : Bool) → test f.name ≡ b → names_pass test (kept test fs) ≡ true → names_pass test (if b then f ∷ kept test fs else kept test fs) ≡ true
    by true e rest = and_from (test f.name) (names_pass test (kept test fs)) e rest
    by false e rest = rest

kept-all : (test : List ℕ → Bool) (fields : List (Named Value)) → names_pass test fields ≡ true → kept test fields ≡ fields
kept-all test [] h = refl
kept-all test (f ∷ fs) h = let parts = and_parts (test f.name) (names_pass test fs) h in simp (parts.0) (ap (λ (zs : List (Named Value)). f ∷ zs) (kept-all test fs (parts.1)))

pub kept-no : (test : List ℕ → Bool) (fields : List (Named Value)) → names_pass (λ name. not (test name)) fields ≡ true → kept test fields ≡ []
kept-no test [] h = refl
kept-no test (f ∷ fs) h = let parts = and_parts (not (test f.name)) (names_pass (λ name. not (test name)) fs) h in simp (not-true (test f.name) (parts.0)) (kept-no test fs (parts.1))

-- ---- fields below a part stay before it

front_one : (name : List ℕ) (after : Option Value) (front fields : List (Named Value)) → names_pass (λ n. before n name) front ≡ true → with_field name after (front ++ fields) ≡ front ++ with_field name after fields
front_one name after front fields h =
    ap₂ (λ (below above : List (Named Value)). (below ++ field_or_none name after) ++ above)
    (kept-append (λ n. before n name) front fields ∙ ap (λ (xs : List (Named Value)). xs ++ kept (λ n. before n name) fields) (kept-all (λ n. before n name) front h))
    (kept-append (λ n. past n name) front fields ∙ ap (λ (xs : List (Named Value)). xs ++ kept (λ n. past n name) fields) (kept-no (λ n. past n name) front (pass_by (λ n. before n name) (λ n. not (past n name)) (λ n e. ap not (before-not-past n name e)) front h)))
    ∙ simp append_assoc

-- the names stand before every part
abbrev all_before : List (Named Value) → List Put → Bool
all_before front puts = list_all (λ put. names_pass (λ n. before n put.part) front) puts

front_all : (puts : List Put) (front fields : List (Named Value)) → all_before front puts ≡ true → with_fields puts (front ++ fields) ≡ front ++ with_fields puts fields
front_all [] front fields h = refl
front_all (put ∷ puts) front fields h =
    let parts = and_parts (names_pass (λ n. before n put.part) front) (all_before front puts) h in
    ap (with_fields puts) (front_one put.part put.after front fields (parts.0)) ∙ front_all puts front (with_field put.part put.after fields) (parts.1)

-- ---- parts in order

later_parts : (name : List ℕ) (puts : List Put) → precedes_put name puts ≡ true → puts_rise puts ≡ true → list_all (λ put. before name put.part) puts ≡ true
later_parts name [] h rise = refl
later_parts name (put ∷ puts) h rise =
    let parts = and_parts (precedes_put put.part puts) (puts_rise puts) rise in
    and_from (before name put.part) (list_all (λ later. before name later.part) puts) h (further puts (later_parts put.part puts (parts.0) (parts.1)))
  where
    further : (puts : List Put) → list_all (λ later. before put.part later.part) puts ≡ true → list_all (λ later. before name later.part) puts ≡ true
    further [] e = refl
    further (q ∷ qs) e = let parts = and_parts (before put.part q.part) (list_all (λ later. before put.part later.part) qs) e in and_from (before name q.part) (list_all (λ later. before name later.part) qs) (before-trans name put.part q.part h (parts.0)) (further qs (parts.1))

before_next : (name next : List ℕ) (after : Option Value) (fields : List (Named Value)) → before name next ≡ true → names_pass (λ n. before n next) (kept (λ n. before n name) fields ++ field_or_none name after) ≡ true
before_next name next after fields h =
    list_all-append (λ field. before field.name next) (kept (λ n. before n name) fields) (field_or_none name after)
    ∙ and_from (names_pass (λ n. before n next) (kept (λ n. before n name) fields)) (names_pass (λ n. before n next) (field_or_none name after)) (pass_by (λ n. before n name) (λ n. before n next) (λ n e. before-trans n name next e h) (kept (λ n. before n name) fields) (kept-pass (λ n. before n name) fields)) (own after)
  where
    own : (after : Option Value) → names_pass (λ n. before n next) (field_or_none name after) ≡ true
    own None = refl
    own (Some value) = and_from (before name next) true h refl

front_before : (name : List ℕ) (after : Option Value) (fields : List (Named Value)) (puts : List Put) → list_all (λ put. before name put.part) puts ≡ true → all_before (kept (λ n. before n name) fields ++ field_or_none name after) puts ≡ true
front_before name after fields [] h = refl
front_before name after fields (put ∷ puts) h =
    let parts = and_parts (before name put.part) (list_all (λ later. before name later.part) puts) h in
    and_from (names_pass (λ n. before n put.part) (kept (λ n. before n name) fields ++ field_or_none name after)) (all_before (kept (λ n. before n name) fields ++ field_or_none name after) puts) (before_next name put.part after fields (parts.0)) (front_before name after fields puts (parts.1))

-- ---- fields in order

pub later_names : (name : List ℕ) (fields : List (Named Value)) → precedes_field name fields ≡ true → names_rise fields ≡ true → names_pass (λ n. before name n) fields ≡ true
later_names name [] h rise = refl
later_names name (f ∷ fs) h rise =
    let parts = and_parts (precedes_field f.name fs) (names_rise fs) rise in
    and_from (before name f.name) (names_pass (λ n. before name n) fs) h (pass_by (λ n. before f.name n) (λ n. before name n) (λ n e. before-trans name f.name n h e) fs (later_names f.name fs (parts.0) (parts.1)))

-- where the first isn't below, none is
none_below : (name : List ℕ) (f : Named Value) (fs : List (Named Value)) → names_rise (f ∷ fs) ≡ true → before f.name name ≡ false → kept (λ n. before n name) (f ∷ fs) ≡ []
none_below name f fs rise h =
    let parts = and_parts (precedes_field f.name fs) (names_rise fs) rise in
    let later = later_names f.name fs (parts.0) (parts.1) in
    kept-no (λ n. before n name) (f ∷ fs) (and_from (not (before f.name name)) (names_pass (λ n. not (before n name)) fs) (ap not h) (pass_by (λ n. before f.name n) (λ n. not (before n name)) (λ n e. ap not (not_before n e)) fs later))
  where
    not_before : (n : List ℕ) → before f.name n ≡ true → before n name ≡ false
    not_before n e = by (before n name) refl
      where
        by : (b : Bool) → before n name ≡ b → before n name ≡ false
        by true k = absurd (true≢false (sym (before-trans f.name n name e k) ∙ h))
        by false k = k

-- and all but itself are above
rest_above : (name : List ℕ) (f : Named Value) (fs : List (Named Value)) → names_rise (f ∷ fs) ≡ true → before f.name name ≡ false → kept (λ n. past n name) (f ∷ fs) ≡ without_own name (f ∷ fs)
rest_above name f fs rise h =
    let parts = and_parts (precedes_field f.name fs) (names_rise fs) rise in
    let later = later_names f.name fs (parts.0) (parts.1) in
    by (bytes_eq f.name name) refl later
  where
    above : (n : List ℕ) → past f.name name ≡ true → before f.name n ≡ true → past n name ≡ true
    above n p e = past-before n name ∙ before-trans name f.name n (sym (past-before f.name name) ∙ p) e

    by : (b : Bool) → bytes_eq f.name name ≡ b → names_pass (λ n. before f.name n) fs ≡ true → kept (λ n. past n name) (f ∷ fs) ≡ (if b then fs else f ∷ fs)
    by true e later =
        let is : f.name ≡ name = equal-name f.name name e in
        let own : past f.name name ≡ false = ap (λ n. past n name) is ∙ past-itself name in
        let next : names_pass (λ n. past n name) fs ≡ true = pass_by (λ n. before f.name n) (λ n. past n name) (λ n k. past-before n name ∙ ap (λ m. before m n) (sym is) ∙ k) fs later in
        simp own (kept-all (λ n. past n name) fs next)
    by false e later =
        let own : past f.name name ≡ true = by_order f.name name e (λ less. absurd (true≢false (sym less ∙ h))) (λ more. more) in
        kept-all (λ n. past n name) (f ∷ fs) (and_from (past f.name name) (names_pass (λ n. past n name) fs) own (pass_by (λ n. before f.name n) (λ n. past n name) (λ n k. above n own k) fs later))

record IsSplit (name : List ℕ) (fields : List (Named Value)) : Type 0 where
  pub below : take (count_below name fields) fields ≡ kept (λ n. before n name) fields
  pub above : without_own name (drop (count_below name fields) fields) ≡ kept (λ n. past n name) fields
  pub rises : names_rise (without_own name (drop (count_below name fields) fields)) ≡ true

own_rises : (name : List ℕ) (fields : List (Named Value)) → names_rise fields ≡ true → names_rise (without_own name fields) ≡ true
own_rises name [] h = refl
own_rises name (f ∷ fs) h = by (bytes_eq f.name name)
  where
    by : (b : Bool) → names_rise (if b then fs else f ∷ fs) ≡ true
    by true = (and_parts (precedes_field f.name fs) (names_rise fs) h).1
    by false = h

split : (name : List ℕ) (fields : List (Named Value)) → names_rise fields ≡ true → IsSplit name fields
split name [] h = record { below = refl; above = refl; rises = refl }
split name (f ∷ fs) h = by (before f.name name) refl (split name fs)
  where
    here : before f.name name ≡ false → count_below name (f ∷ fs) ≡ 0
    here e = simp e

    there : before f.name name ≡ true → count_below name (f ∷ fs) ≡ suc (count_below name fs)
    there e = simp e

    by : (b : Bool) → before f.name name ≡ b → (names_rise fs ≡ true → IsSplit name fs) → IsSplit name (f ∷ fs)
    by true e more =
        let rest = more ((and_parts (precedes_field f.name fs) (names_rise fs) h).1) in
        record {
          below = ap (λ n. take n (f ∷ fs)) (there e) ∙ ap (λ (zs : List (Named Value)). f ∷ zs) (rest.below) ∙ simp e;
          above = ap (λ n. without_own name (drop n (f ∷ fs))) (there e) ∙ rest.above ∙ simp (before-not-past f.name name e);
          rises = ap (λ n. names_rise (without_own name (drop n (f ∷ fs)))) (there e) ∙ rest.rises;
        }
    by false e more = record {
      below = ap (λ n. take n (f ∷ fs)) (here e) ∙ sym (none_below name f fs h e);
      above = ap (λ n. without_own name (drop n (f ∷ fs))) (here e) ∙ sym (rest_above name f fs h e);
      rises = ap (λ n. names_rise (without_own name (drop n (f ∷ fs)))) (here e) ∙ own_rises name (f ∷ fs) h;
    }

-- ---- one part more

pub record IsMerged (made : List (Named Value)) (put : Put) (puts : List Put) (fields : List (Named Value)) : Type 0 where
  pub all : ((made ++ take (count_below put.part fields) fields) ++ field_or_none put.part put.after) ++ with_fields puts (without_own put.part (drop (count_below put.part fields) fields)) ≡ made ++ with_fields (put ∷ puts) fields
  pub puts_left : puts_rise puts ≡ true
  pub names_left : names_rise (without_own put.part (drop (count_below put.part fields) fields)) ≡ true

pub merged_one : (made : List (Named Value)) (put : Put) (puts : List Put) (fields : List (Named Value)) → puts_rise (put ∷ puts) ≡ true → names_rise fields ≡ true → IsMerged made put puts fields
merged_one made put puts fields rise order =
    let parts = and_parts (precedes_put put.part puts) (puts_rise puts) rise in
    let cut = split put.part fields order in
    let low = kept (λ n. before n put.part) fields in
    let high = kept (λ n. past n put.part) fields in
    let own = field_or_none put.part put.after in
    let front : with_fields puts ((low ++ own) ++ high) ≡ (low ++ own) ++ with_fields puts high = front_all puts (low ++ own) high (front_before put.part put.after fields puts (later_parts put.part puts (parts.0) (parts.1))) in
    record {
      all = ap₂ (λ (xs ys : List (Named Value)). ((made ++ xs) ++ own) ++ with_fields puts ys) (cut.below) (cut.above) ∙ grouped made low own (with_fields puts high) ∙ ap (λ (xs : List (Named Value)). made ++ xs) (sym front);
      puts_left = parts.1;
      names_left = cut.rises;
    }
  where
    grouped : (a b c d : List (Named Value)) → ((a ++ b) ++ c) ++ d ≡ a ++ ((b ++ c) ++ d)
    grouped a b c d = simp append_assoc

pub merged_next : (puts : List Put) (n : ℕ) (put : Put) (made fields : List (Named Value)) → n < length puts → put ≡ get_or puts n put → puts_rise (drop n puts) ≡ true → names_rise fields ≡ true
    → IsMerged made put (drop (n + 1) puts) fields
merged_next puts n put made fields within is rise order =
    merged_one made put (drop (n + 1) puts) fields (sym (at_drop_more puts_rise puts n put within ∙ ap (λ p. puts_rise (p ∷ drop (n + 1) puts)) (sym is)) ∙ rise) order
