-- Bodies at the places of keys that rise, and the documents that they mean.
use Rattle.std.proofs.Common.{◌≡◌, ◌≢◌, ◌<◌, ◌+◌, ℕ, zero, suc, Bool, true, false, true≢false, IsTrue, Option, Some, None, List, [], ◌∷◌, length, get_or, set, drop, cond, sym, ap, ◌∙◌, refl, subst, arith}
use Rattle.std.specs.FinMap.{get, empty, get-insert, get-empty}
use Rattle.std.specs.List.{AllByRecursion}
use Rattle.std.specs.Ordering.{is_lt, is_eq, eq_by_cmp}
use Rattle.std.specs.declared.cmp.Ordering.{Ordering}
use Rattle.std.specs.declared.cmp.Ordering.TheVariants.{Less, Equal, Greater}
use Rattle.std.proofs.lemmas.Bool.{and_parts}
use Rattle.std.proofs.lemmas.Cmp.{tied_itself}
use Rattle.std.proofs.lemmas.List.{at_drop_more, length-set, get_or-set_same}
use Rattle.doc_value.specs.declared.value.Value.{Value}
use Rattle.txn_key.proofs.DocumentLaws.{get-with_body_here, get-with_body_other}
use Rattle.txn_key.proofs.KeyOrder.{key_cmp_total, key_cmp-IsAntisymmetric}
use Rattle.txn_key.proofs.RisingKeys.{IsPast-insert}
use Rattle.txn_key.specs.Documents.{Docs, IsPast, with_body}
use Rattle.txn_key.specs.Keys.{key_cmp, same_key}
use Rattle.txn_key.specs.Places.{GoesAt, StandsAt, below_each, keys_rise}
use Rattle.txn_key.specs.declared.key.Key.{Key}
use Rattle.txn_record.specs.Effects.{body_after, change_fits}
use Rattle.txn_record.specs.declared.op.Change.{Change}
use Rattle.store_laws.proofs.meanings.Runs.{same_docs, same_key-equal, same_key-other}
use Rattle.txn_audit.specs.Bodies.{added, with_bodies, kept, after_change}
use Rattle.txn_audit.specs.Became.{after, fits, put_at}
use Rattle.txn_audit.specs.declared.bodies.Became.{Became}
use Rattle.txn_audit.specs.declared.bodies.Became.TheVariants as became

-- ---- one body more

pub added_here : (key : Key) (body : Option Value) (m : Docs) → get m key ≡ None → get (added key body m) key ≡ body
added_here key None m e = e
added_here key (Some b) m e = get-with_body_here key (Some b) m

pub added_other : (key : Key) (body : Option Value) (m : Docs) (q : Key) → q ≢ key → get (added key body m) q ≡ get m q
added_other key None m q apart = refl
added_other key (Some b) m q apart = get-with_body_other key (Some b) m q apart

added_agree : (key : Key) (body : Option Value) (m n : Docs) (q : Key) → get m q ≡ get n q → get (added key body m) q ≡ get (added key body n) q
added_agree key None m n q e = e
added_agree key (Some b) m n q e = get-insert key_cmp_total m key b q ∙ ap (cond (eq_by_cmp key_cmp q key) (Some b)) e ∙ sym (get-insert key_cmp_total n key b q)

apart_cmp : (q k : Key) (r : Ordering) → key_cmp q k ≡ r → is_eq r ≡ false → q ≢ k
apart_cmp q k r e f same = true≢false (sym (ap is_eq (tied_itself key_cmp_total k)) ∙ ap is_eq (subst (λ (z : Key). key_cmp z k ≡ r) same e) ∙ f)

-- ---- bodies at their keys

-- a key before all of them is left
left_goes : (key : Key) (ks : List Key) (bs : List (Option Value)) (m : Docs) → GoesAt key zero ks → get (with_bodies m ks bs) key ≡ get m key
left_goes key [] bs m h = refl
left_goes key (k ∷ ks) [] m h = refl
left_goes key (k ∷ ks) (b ∷ bs) m h = left_goes key ks bs (added k b m) h.1 ∙ added_other k b m key (apart_cmp key k Less h.0 refl)

at_place : (key : Key) (ks : List Key) (bs : List (Option Value)) (m : Docs) (i : ℕ) (d : Option Value) → length bs ≡ length ks → StandsAt key i ks → get m key ≡ None → get (with_bodies m ks bs) key ≡ get_or bs i d
at_place key [] bs m i d same h none = absurd h
at_place key (k ∷ ks) [] m i d same h none = absurd (omega (arith, same))
at_place key (k ∷ ks) (b ∷ bs) m zero d same h none =
    left_goes key ks bs (added k b m) h.1 ∙ subst (λ (q : Key). get (added q b m) key ≡ b) (key_cmp-IsAntisymmetric key k h.0) (added_here key b m none)
at_place key (k ∷ ks) (b ∷ bs) m (suc i) d same h none =
    at_place key ks bs (added k b m) i d (omega (arith, same)) h.1 (added_other k b m key (apart_cmp key k Greater h.0 refl) ∙ none)

agree_after : (q : Key) (ks : List Key) (bs : List (Option Value)) (m n : Docs) → get m q ≡ get n q → get (with_bodies m ks bs) q ≡ get (with_bodies n ks bs) q
agree_after q [] bs m n e = e
agree_after q (k ∷ ks) [] m n e = e
agree_after q (k ∷ ks) (b ∷ bs) m n e = agree_after q ks bs (added k b m) (added k b n) (added_agree k b m n q e)

-- a body that is put matters at its own key only
others : (q key : Key) (ks : List Key) (bs : List (Option Value)) (m n : Docs) (i : ℕ) (b : Option Value) → q ≢ key → StandsAt key i ks → get m q ≡ get n q → get (with_bodies m ks (set bs i b)) q ≡ get (with_bodies n ks bs) q
others q key [] bs m n i b apart h e = absurd h
others q key (k ∷ ks) [] m n i b apart h e = e
others q key (k ∷ ks) (x ∷ bs) m n zero b apart h e =
    let off : q ≢ k = subst (λ (z : Key). q ≢ z) (key_cmp-IsAntisymmetric key k h.0) apart in
    agree_after q ks bs (added k b m) (added k x n) (added_other k b m q off ∙ e ∙ sym (added_other k x n q off))
others q key (k ∷ ks) (x ∷ bs) m n (suc i) b apart h e = others q key ks bs (added k x m) (added k x n) i b apart h.1 (added_agree k x m n q e)

stands_within : (key : Key) (ks : List Key) (i : ℕ) → StandsAt key i ks → i < length ks
stands_within key [] i h = absurd h
stands_within key (k ∷ ks) zero h = omega arith
stands_within key (k ∷ ks) (suc i) h = omega (arith, stands_within key ks i h.1)

module _ (key : Key) (ks : List Key) (bs : List (Option Value)) (i : ℕ) (same : length bs ≡ length ks) (h : StandsAt key i ks) where
  pub kept_at : (d : Option Value) → get (kept ks bs) key ≡ get_or bs i d
  kept_at d = at_place key ks bs empty i d same h (get-empty key_cmp key)

  put_there : (b : Option Value) → kept ks (set bs i b) ≡ with_body key b (kept ks bs)
  put_there b = same_docs _ _ (λ q. by q (same_key q key) refl)
    where
      by : (q : Key) (t : Bool) → same_key q key ≡ t → get (kept ks (set bs i b)) q ≡ get (with_body key b (kept ks bs)) q
      by q true e =
          let within : i < length bs = omega (arith, same, stands_within key ks i h) in
          subst (λ (k : Key). get (kept ks (set bs i b)) k ≡ get (with_body key b (kept ks bs)) k) (sym (same_key-equal q key e))
          (at_place key ks (set bs i b) empty i b (length-set bs i b ∙ same) h (get-empty key_cmp key) ∙ get_or-set_same bs i b b within ∙ sym (get-with_body_here key b (kept ks bs)))
      by q false e =
          let off = same_key-other q key e in
          others q key ks bs empty empty i b off h refl ∙ sym (get-with_body_other key b (kept ks bs) q off)

  stays : (d : Option Value) → kept ks bs ≡ with_body key (get_or bs i d) (kept ks bs)
  stays d = same_docs _ _ (λ q. by q (same_key q key) refl)
    where
      by : (q : Key) (t : Bool) → same_key q key ≡ t → get (kept ks bs) q ≡ get (with_body key (get_or bs i d) (kept ks bs)) q
      by q true e =
          subst (λ (k : Key). get (kept ks bs) k ≡ get (with_body key (get_or bs i d) (kept ks bs)) k) (sym (same_key-equal q key e))
          (kept_at d ∙ sym (get-with_body_here key (get_or bs i d) (kept ks bs)))
      by q false e = sym (get-with_body_other key (get_or bs i d) (kept ks bs) q (same_key-other q key e))

  -- ---- one change

  pub ran_fits : (ch : Change) (b : Became) (d : Option Value) → after b (get_or bs i d) ≡ after_change ch (get_or bs i d) → fits b ≡ change_fits ch (get (kept ks bs) key)
  ran_fits ch b d e = by b (change_fits ch (get_or bs i d)) e ∙ ap (change_fits ch) (sym (kept_at d))
    where
      by : (b : Became) (t : Bool) → after b (get_or bs i d) ≡ cond t (Some (body_after ch (get_or bs i d))) None → fits b ≡ t
      by became.Unfit true e = cc
      by became.Unfit false e = refl
      by became.Same true e = refl
      by became.Same false e = cc
      by (became.Body x) true e = refl
      by (became.Body x) false e = cc

  pub ran : (ch : Change) (b : Became) (d : Option Value) → after b (get_or bs i d) ≡ after_change ch (get_or bs i d) → IsTrue (fits b) → kept ks (put_at bs i b) ≡ with_body key (body_after ch (get (kept ks bs) key)) (kept ks bs)
  ran ch b d e ok = by b (change_fits ch (get_or bs i d)) e ok ∙ ap (λ (o : Option Value). with_body key (body_after ch o) (kept ks bs)) (sym (kept_at d))
    where
      by : (b : Became) (t : Bool) → after b (get_or bs i d) ≡ cond t (Some (body_after ch (get_or bs i d))) None → IsTrue (fits b) → kept ks (put_at bs i b) ≡ with_body key (body_after ch (get_or bs i d)) (kept ks bs)
      by became.Unfit t e ok = absurd (true≢false (sym ok))
      by became.Same true e ok = let is : get_or bs i d ≡ body_after ch (get_or bs i d) = cc in stays d ∙ ap (λ (o : Option Value). with_body key o (kept ks bs)) is
      by became.Same false e ok = cc
      by (became.Body x) true e ok = let is : x ≡ body_after ch (get_or bs i d) = cc in put_there x ∙ ap (λ (o : Option Value). with_body key o (kept ks bs)) is
      by (became.Body x) false e ok = cc

-- ---- the documents, one key after the other

pub rest_past : (k : Key) (b : Option Value) (docs : Docs) (ks : List Key) → IsPast k docs → below_each k ks ≡ true → AllByRecursion (λ (q : Key). IsPast q docs) ks → AllByRecursion (λ (q : Key). IsPast q (added k b docs)) ks
rest_past k b docs [] past below all = tt
rest_past k b docs (q ∷ ks) past below all =
    let parts = and_parts (is_lt (key_cmp k q)) (below_each k ks) below in
    (by b, rest_past k b docs ks past parts.1 all.1)
  where
    less : (r : Ordering) → is_lt r ≡ true → r ≡ Less
    less Less h = refl
    less Equal h = cc h
    less Greater h = cc h

    by : (b : Option Value) → IsPast q (added k b docs)
    by None = all.0
    by (Some body) = IsPast-insert docs k body q past (less _ (and_parts (is_lt (key_cmp k q)) (below_each k ks) below).0)

pub next_added : (docs : Docs) (ks : List Key) (bs : List (Option Value)) (i : ℕ) (k : Key) (b : Option Value) → i < length ks → i < length bs → k ≡ get_or ks i k → b ≡ get_or bs i b
    → with_bodies (added k b docs) (drop (i + 1) ks) (drop (i + 1) bs) ≡ with_bodies docs (drop i ks) (drop i bs)
next_added docs ks bs i k b in_keys in_bodies is_key is_body =
    sym (at_drop_more (λ (l : List Key). with_bodies docs l (drop i bs)) ks i k in_keys
    ∙ ap (λ (one : Key). with_bodies docs (one ∷ drop (i + 1) ks) (drop i bs)) (sym is_key)
    ∙ at_drop_more (λ (l : List (Option Value)). with_bodies docs (k ∷ drop (i + 1) ks) l) bs i b in_bodies
    ∙ ap (λ (one : Option Value). with_bodies docs (k ∷ drop (i + 1) ks) (one ∷ drop (i + 1) bs)) (sym is_body))

pub next_past : (docs : Docs) (ks : List Key) (i : ℕ) (k : Key) (b : Option Value) → i < length ks → k ≡ get_or ks i k → keys_rise (drop i ks) ≡ true → AllByRecursion (λ (q : Key). IsPast q docs) (drop i ks)
    → (keys_rise (drop (i + 1) ks) ≡ true) × AllByRecursion (λ (q : Key). IsPast q (added k b docs)) (drop (i + 1) ks)
next_past docs ks i k b within is rise past =
    let split : drop i ks ≡ k ∷ drop (i + 1) ks = at_drop_more (λ (l : List Key). l) ks i k within ∙ ap (λ (one : Key). one ∷ drop (i + 1) ks) (sym is) in
    let rises = and_parts (below_each k (drop (i + 1) ks)) (keys_rise (drop (i + 1) ks)) (subst (λ (l : List Key). keys_rise l ≡ true) split rise) in
    let all = subst (λ (l : List Key). AllByRecursion (λ (q : Key). IsPast q docs) l) split past in
    (rises.1, rest_past k b docs (drop (i + 1) ks) all.0 rises.0 all.1)

pub head_past : (docs : Docs) (ks : List Key) (i : ℕ) (k : Key) → i < length ks → k ≡ get_or ks i k → AllByRecursion (λ (q : Key). IsPast q docs) (drop i ks) → IsPast k docs
head_past docs ks i k within is past =
    let split : drop i ks ≡ k ∷ drop (i + 1) ks = at_drop_more (λ (l : List Key). l) ks i k within ∙ ap (λ (one : Key). one ∷ drop (i + 1) ks) (sym is) in
    (subst (λ (l : List Key). AllByRecursion (λ (q : Key). IsPast q docs) l) split past).0
