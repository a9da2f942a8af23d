-- The tests of two cells are equality.
use Rattle.std.proofs.Common.{◌≡◌, true, List, refl, ap, subst, Option}
use Rattle.std.specs.Bool.{Decides}
use Rattle.std.proofs.lemmas.Bool.{and_from, and_parts}
use Rattle.std.proofs.lemmas.Bool.Decides.{Decides-int_eq}
use Rattle.doc_value.proofs.SameValues.{same-Decides}
use Rattle.txn_key.specs.declared.id.Token.{Token}
use Rattle.txn_record.specs.Same.{same_list, same_option}
use Rattle.txn_record.proofs.SameRecords.{number-Decides, option-Decides, list-Decides, id-Decides, record-Decides}
use Rattle.store_trait.specs.Same.{same_token, same_doc, same_stash, same_cell}
use Rattle.store_trait.specs.declared.cell.Cell.{Cell}
use Rattle.store_trait.specs.declared.cell.Cell.TheVariants as cell
use Rattle.store_trait.specs.declared.cell.DocCell.{DocCell}
use Rattle.store_trait.specs.declared.cell.StashCell.{StashCell}

token_equal : (a b : Token) → same_token a b ≡ true → a ≡ b
token_equal a b h =
    let p = and_parts _ _ h in
    let id = (id-Decides a.id b.id).0 p.0 in
    let nonce = (number-Decides a.nonce b.nonce).0 p.1 in
    λ i. record { id = id i; nonce = nonce i }

token_self : (a : Token) → same_token a a ≡ true
token_self a = and_from _ _ ((id-Decides a.id a.id).1 refl) ((number-Decides a.nonce a.nonce).1 refl)

pub token-Decides : (a b : Token) → Decides (same_token a b) (a ≡ b)
token-Decides a b = (token_equal a b, λ e. subst (λ (t : Token). same_token a t ≡ true) e (token_self a))

queue-Decides : (a b : List Token) → Decides (same_list same_token a b) (a ≡ b)
queue-Decides = list-Decides same_token token-Decides

mark-Decides : (a b : Option Token) → Decides (same_option same_token a b) (a ≡ b)
mark-Decides = option-Decides same_token token-Decides

doc_equal : (a b : DocCell) → same_doc a b ≡ true → a ≡ b
doc_equal a b h =
    let p = and_parts _ _ h in
    let q = and_parts _ _ p.0 in
    let r = and_parts _ _ q.0 in
    let body = (same-Decides a.body b.body).0 r.0 in
    let revno = (Decides-int_eq a.revno b.revno).0 r.1 in
    let queue = (queue-Decides a.queue b.queue).0 q.1 in
    let mark = (mark-Decides a.remove b.remove).0 p.1 in
    λ i. record { body = body i; revno = revno i; queue = queue i; remove = mark i }

doc_self : (a : DocCell) → same_doc a a ≡ true
doc_self a =
    and_from _ _ (and_from _ _ (and_from _ _ ((same-Decides a.body a.body).1 refl) ((Decides-int_eq a.revno a.revno).1 refl))
    ((queue-Decides a.queue a.queue).1 refl)) ((mark-Decides a.remove a.remove).1 refl)

stash_equal : (a b : StashCell) → same_stash a b ≡ true → a ≡ b
stash_equal a b h =
    let p = and_parts _ _ h in
    let q = and_parts _ _ p.0 in
    let revno = (Decides-int_eq a.revno b.revno).0 q.0 in
    let queue = (queue-Decides a.queue b.queue).0 q.1 in
    let mark = (mark-Decides a.insert b.insert).0 p.1 in
    λ i. record { revno = revno i; queue = queue i; insert = mark i }

stash_self : (a : StashCell) → same_stash a a ≡ true
stash_self a =
    and_from _ _ (and_from _ _ ((Decides-int_eq a.revno a.revno).1 refl) ((queue-Decides a.queue a.queue).1 refl))
    ((mark-Decides a.insert a.insert).1 refl)

cell_equal : (a b : Cell) → same_cell a b ≡ true → a ≡ b
cell_equal (cell.Record rec) (cell.Record other) h = ap cell.Record ((record-Decides rec other).0 h)
cell_equal (cell.Doc doc) (cell.Doc other) h = ap cell.Doc (doc_equal doc other h)
cell_equal (cell.Stash stash) (cell.Stash other) h = ap cell.Stash (stash_equal stash other h)
cell_equal (cell.Nonce counter) (cell.Nonce other) h = ap cell.Nonce ((number-Decides counter other).0 h)
cell_equal _ _ h = cc

cell_self : (a : Cell) → same_cell a a ≡ true
cell_self (cell.Record rec) = (record-Decides rec rec).1 refl
cell_self (cell.Doc doc) = doc_self doc
cell_self (cell.Stash stash) = stash_self stash
cell_self (cell.Nonce counter) = (number-Decides counter counter).1 refl

pub cell-Decides : (a b : Cell) → Decides (same_cell a b) (a ≡ b)
cell-Decides a b = (cell_equal a b, λ e. subst (λ (c : Cell). same_cell a c ≡ true) e (cell_self a))
