use Rattle.std.proofs.Common.{◌≡◌, Bool, IsTrue, ◌==◌, sym, ap, ◌∙◌, refl, subst}
use Rattle.std.specs.Cmp.{IsTotalOrder}
use Rattle.std.specs.Cmp.Lexicographic.{slice_cmp}
use Rattle.std.specs.FinMap.{IsAntisymmetric, nat_cmp-IsAntisymmetric, int_cmp-IsAntisymmetric, slice_cmp-IsAntisymmetric}
use Rattle.std.specs.Ordering.{nat_cmp, ordering_reverse, ordering_then, ordering_index}
use Rattle.std.specs.declared.cmp.Ordering.{Ordering}
use Rattle.std.specs.declared.cmp.Ordering.TheVariants.{Less, Equal, Greater}
use Rattle.std.proofs.lemmas.Cmp.{nat_list_cmp_total, int_cmp_total, then_total, on_total, tied_itself}
use Rattle.std.proofs.lemmas.Bool.{true≢false}
use Rattle.doc_value.specs.Ids.{id_cmp as doc_id_cmp}
use Rattle.doc_value.specs.declared.doc_id.DocId.{DocId}
use Rattle.doc_value.specs.declared.doc_id.DocId.TheVariants.{Text, Int}
use Rattle.txn_key.specs.declared.id.TxnId.{TxnId}
use Rattle.txn_key.specs.declared.key.Key.{Key}
use Rattle.txn_key.specs.Keys.{key_cmp}
use Rattle.txn_key.specs.Ids.{id_cmp}

-- two steps of a comparison tie only where both do
tied_parts : (r s : Ordering) → ordering_then r s ≡ Equal → (r ≡ Equal) × (s ≡ Equal)
tied_parts Less s e = cc
tied_parts Equal s e = (refl, e)
tied_parts Greater s e = cc

doc_id_turns : (x y : DocId) → doc_id_cmp x y ≡ ordering_reverse (doc_id_cmp y x)
doc_id_turns (Text a) (Text b) = nat_list_cmp_total.antisymm a b
doc_id_turns (Text a) (Int n) = refl
doc_id_turns (Int m) (Text b) = refl
doc_id_turns (Int m) (Int n) = int_cmp_total.antisymm m n

doc_id_chains : (x y z : DocId) → doc_id_cmp x y ≡ Less → doc_id_cmp y z ≡ Less → doc_id_cmp x z ≡ Less
doc_id_chains (Text a) (Text b) (Text c) p q = nat_list_cmp_total.trans a b c p q
doc_id_chains (Text a) (Text b) (Int n) p q = refl
doc_id_chains (Text a) (Int n) (Text c) p q = cc
doc_id_chains (Text a) (Int m) (Int n) p q = refl
doc_id_chains (Int m) (Text b) z p q = cc
doc_id_chains (Int m) (Int n) (Text c) p q = cc
doc_id_chains (Int m) (Int n) (Int o) p q = int_cmp_total.trans m n o p q

doc_id_ties : (x y z : DocId) → doc_id_cmp x y ≡ Equal → doc_id_cmp x z ≡ doc_id_cmp y z
doc_id_ties (Text a) (Text b) (Text c) p = nat_list_cmp_total.congr a b c p
doc_id_ties (Text a) (Text b) (Int n) p = refl
doc_id_ties (Text a) (Int n) z p = cc
doc_id_ties (Int m) (Text b) z p = cc
doc_id_ties (Int m) (Int n) (Text c) p = refl
doc_id_ties (Int m) (Int n) (Int o) p = int_cmp_total.congr m n o p

pub doc_id_cmp_total : IsTotalOrder doc_id_cmp
doc_id_cmp_total = record { antisymm = doc_id_turns; trans = doc_id_chains; congr = doc_id_ties }

pub doc_id_cmp-IsAntisymmetric : IsAntisymmetric doc_id_cmp
doc_id_cmp-IsAntisymmetric (Text a) (Text b) e = ap Text (slice_cmp-IsAntisymmetric nat_cmp-IsAntisymmetric a b e)
doc_id_cmp-IsAntisymmetric (Text a) (Int n) e = cc
doc_id_cmp-IsAntisymmetric (Int m) (Text b) e = cc
doc_id_cmp-IsAntisymmetric (Int m) (Int n) e = ap Int (int_cmp-IsAntisymmetric m n e)

pub key_cmp_total : IsTotalOrder key_cmp
key_cmp_total = then_total (on_total (λ (k : Key). k.c) nat_list_cmp_total) (on_total (λ (k : Key). k.d) doc_id_cmp_total)

pub key_cmp-IsAntisymmetric : IsAntisymmetric key_cmp
key_cmp-IsAntisymmetric j k e =
    let parts = tied_parts (slice_cmp nat_cmp j.c k.c) (doc_id_cmp j.d k.d) e in
    let c = slice_cmp-IsAntisymmetric nat_cmp-IsAntisymmetric j.c k.c parts.0 in
    let d = doc_id_cmp-IsAntisymmetric j.d k.d parts.1 in
    λ i. record { c = c i; d = d i }

pub id_cmp_total : IsTotalOrder id_cmp
id_cmp_total = on_total (λ (t : TxnId). t.0) nat_list_cmp_total

pub id_cmp-IsAntisymmetric : IsAntisymmetric id_cmp
id_cmp-IsAntisymmetric s t e =
    let same = slice_cmp-IsAntisymmetric nat_cmp-IsAntisymmetric s.0 t.0 e in
    λ i. record { 0 = same i }

keys_of_tie : (r : Ordering) (b : Bool) (j k : Key) → r ≡ key_cmp j k → b ≡ (ordering_index r == 1) → IsTrue b → j ≡ k
keys_of_tie Less b j k e q h = absurd (true≢false (sym h ∙ q))
keys_of_tie Equal b j k e q h = key_cmp-IsAntisymmetric j k (sym e)
keys_of_tie Greater b j k e q h = absurd (true≢false (sym h ∙ q))

tie_of_keys : (r : Ordering) (b : Bool) (j k : Key) → r ≡ key_cmp j k → b ≡ (ordering_index r == 1) → j ≡ k → IsTrue b
tie_of_keys r b j k e q same =
    let tied : key_cmp j k ≡ Equal = subst (λ (z : Key). key_cmp j z ≡ Equal) same (tied_itself key_cmp_total j) in
    q ∙ ap (λ o. ordering_index o == 1) (e ∙ tied)

-- a comparison answers a tie exactly at equal keys
pub equal_keys : (r : Ordering) (b : Bool) (j k : Key) → r ≡ key_cmp j k → b ≡ (ordering_index r == 1) → (IsTrue b → j ≡ k) × (j ≡ k → IsTrue b)
equal_keys r b j k e q = (keys_of_tie r b j k e q, tie_of_keys r b j k e q)
