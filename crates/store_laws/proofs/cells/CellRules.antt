-- What the rules say of one cell alone, where a cell is put: kinds, numbers, tokens, nonces.
use Rattle.std.proofs.Common.{◌≡◌, ℕ, ◌≤◌, ◌<◌, Bool, true, false, cond, Option, Some, None, List, IfSome, sym, ap, ◌∙◌, subst, if◌then◌else◌, refl, arith}
use Rattle.std.specs.FinMap.{get, insert}
use Rattle.std.specs.Ordering.{eq_by_cmp}
use Rattle.std.specs.Cmp.{Equal-is}
use Rattle.std.proofs.lemmas.Option.{same_Some}
use Rattle.txn_key.specs.declared.id.TxnId.{TxnId}
use Rattle.txn_key.specs.declared.id.Token.{Token}
use Rattle.txn_key.specs.declared.key.Key.{Key}
use Rattle.txn_record.specs.declared.record.Record.{Record}
use Rattle.store_trait.proofs.NameOrder.{name_cmp-IsAntisymmetric}
use Rattle.store_trait.specs.Contents.{Content}
use Rattle.store_trait.specs.Names.{name_cmp, may_stand}
use Rattle.store_trait.specs.declared.cell.Cell.{Cell}
use Rattle.store_trait.specs.declared.cell.Cell.TheVariants as cell
use Rattle.store_trait.specs.declared.cell.DocCell.{DocCell}
use Rattle.store_trait.specs.declared.name.Name.{Name}
use Rattle.store_trait.specs.declared.name.Name.TheVariants as name
use Rattle.store_laws.specs.View.{View, look, doc_at, counter}
use Rattle.store_laws.specs.Later.{IsLater}
use Rattle.store_laws.specs.Soundness.{IsSound, Rule, is_numbered, HasSoundTokens, HasTokens, NoncesBelow, AllBelow, tokens_of_doc, tokens_of_stash}
use Rattle.store_laws.proofs.cells.Lookups
use Rattle.store_laws.proofs.views.Equals.{by_key}
use Rattle.store_laws.proofs.cells.Looks.{put}

-- what holds of the cell put and of all others holds of each
pub each_cell : (c : Content) (n : Name) (x : Cell) (P : Name → Cell → Type 0) → P n x → ((m : Name) (y : Cell) → get c m ≡ Some y → P m y) → (m : Name) (y : Cell) → get (insert c n x) m ≡ Some y → P m y
each_cell c n x P here others m y found = go (eq_by_cmp name_cmp m n) refl
  where
    now : cond (eq_by_cmp name_cmp m n) (Some x) (get c m) ≡ Some y
    now = sym (Lookups.get_put c n x m) ∙ found

    go : (t : Bool) → eq_by_cmp name_cmp m n ≡ t → P m y
    go true e =
        let same : x ≡ y = same_Some x y (sym (ap (λ (t : Bool). cond t (Some x) (get c m)) e) ∙ now) in
        subst (λ (y : Cell). P m y) same (subst (λ (m : Name). P m x) (sym (name_cmp-IsAntisymmetric m n ((Equal-is (name_cmp m n)).0 e))) here)
    go false e = others m y (sym (ap (λ (t : Bool). cond t (Some x) (get c m)) e) ∙ now)

-- the same of documents
pub each_doc : (c : Content) (key : Key) (doc : DocCell) (P : Key → DocCell → Type 0) → P key doc → ((k : Key) (d : DocCell) → doc_at c k ≡ Some d → P k d) → (k : Key) (d : DocCell) → doc_at (put c key doc) k ≡ Some d → P k d
each_doc c key doc P here others k d found =
    by_key k key (λ t. (if t then Some doc else doc_at c k) ≡ Some d → P k d)
    (λ e now. subst (λ (d : DocCell). P k d) (same_Some doc d now) (subst (λ (k : Key). P k doc) (sym e) here))
    (λ e now. others k d now)
    (sym (Lookups.doc_at-put_doc c (cell.Doc doc) key k) ∙ found)

-- the rules on one cell
pub record IsSoundCell (view : View) (n : Name) (x : Cell) : Type 0 where
  pub stands : may_stand n x ≡ true
  pub numbered : is_numbered x ≡ true
  pub tokens : HasTokens view n x
  pub nonces : NoncesBelow view.counter x

abbrev pub HasSoundCells : Content → Type 0
HasSoundCells c = (n : Name) (x : Cell) → get c n ≡ Some x → IsSoundCell (look c) n x

pub sound_cells : (c : Content) → IsSound c → HasSoundCells c
unfolding look
sound_cells c s n x found = record {
  stands = s.kinds n x found;
  numbered = s.rules Rule.Numbers n x found;
  tokens = s.rules Rule.Tokens n x found;
  nonces = s.rules Rule.Nonces n x found;
}

-- each stays so as others go on

pub tokens_later : {old new : View} → IsLater old new → (key : Key) (queue tokens : List Token) → HasSoundTokens old key queue tokens → HasSoundTokens new key queue tokens
tokens_later later key queue tokens h = record { named = λ x inside. later.back.keys x.id key (h.named x inside); once = h.once }

pub below_later : (a b : ℕ) → a ≤ b → (tokens : List Token) → AllBelow a tokens → AllBelow b tokens
below_later a b le tokens h = λ x inside. let less = h x inside in omega (arith, less)

nonce_later : (a b : ℕ) → a ≤ b → (nonce : Option ℕ) → IfSome nonce (λ n. n < a) → IfSome nonce (λ n. n < b)
nonce_later a b le None h = h
nonce_later a b le (Some n) h = omega arith

has_later : {old new : View} → IsLater old new → (n : Name) (x : Cell) → HasTokens old n x → HasTokens new n x
has_later later (name.Doc key) (cell.Doc doc) h = tokens_later later key doc.queue (tokens_of_doc doc) h
has_later later (name.Stash key) (cell.Stash stash) h = tokens_later later key stash.queue (tokens_of_stash stash) h
has_later later _ _ h = tt

nonces_later : (a b : ℕ) → a ≤ b → (x : Cell) → NoncesBelow a x → NoncesBelow b x
nonces_later a b le (cell.Record rec) h = nonce_later a b le rec.nonce h
nonces_later a b le (cell.Doc doc) h = below_later a b le (tokens_of_doc doc) h
nonces_later a b le (cell.Stash stash) h = below_later a b le (tokens_of_stash stash) h
nonces_later a b le (cell.Nonce n) h = tt

cell_later : {old new : View} → IsLater old new → (n : Name) (x : Cell) → IsSoundCell old n x → IsSoundCell new n x
cell_later {old = old} {new = new} later n x h = record {
  stands = h.stands;
  numbered = h.numbered;
  tokens = has_later later n x h.tokens;
  nonces = nonces_later old.counter new.counter later.counter x h.nonces;
}

-- A sound cell is put: all other names stay.
pub cells_put : (c : Content) (n : Name) (x : Cell) → HasSoundCells c → IsLater (look c) (look (insert c n x)) → IsSoundCell (look c) n x → HasSoundCells (insert c n x)
cells_put c n x s later here = each_cell c n x (IsSoundCell (look (insert c n x))) (cell_later later n x here) (λ m y found. cell_later later m y (s m y found))

pub cells_put_record : (c : Content) (id : TxnId) (rec : Record) → let d = insert c (name.Record id) (cell.Record rec) in HasSoundCells c → IsLater (look c) (look d) → may_stand (name.Record id) (cell.Record rec) ≡ true → is_numbered (cell.Record rec) ≡ true
    → IfSome rec.nonce (λ nonce. nonce < counter c) → HasSoundCells d
unfolding look
cells_put_record c id rec s later stands numbered below = cells_put c (name.Record id) (cell.Record rec) s later (record { stands = stands; numbered = numbered; tokens = tt; nonces = below })

pub cells_put_nonce : (c : Content) (next : ℕ) → let d = insert c name.Nonce (cell.Nonce next) in HasSoundCells c → IsLater (look c) (look d) → HasSoundCells d
cells_put_nonce c next s later = cells_put c name.Nonce (cell.Nonce next) s later (record { stands = refl; numbered = refl; tokens = tt; nonces = tt })

-- with tokens that are sound and drawn
pub cells_put_doc : (c : Content) (key : Key) (doc : DocCell) → HasSoundCells c → IsLater (look c) (look (put c key doc)) → is_numbered (cell.Doc doc) ≡ true
    → HasSoundTokens (look c) key doc.queue (tokens_of_doc doc) → AllBelow (counter c) (tokens_of_doc doc) → HasSoundCells (put c key doc)
unfolding look
cells_put_doc c key doc s later numbered tokens below = cells_put c (name.Doc key) (cell.Doc doc) s later (record { stands = refl; numbered = numbered; tokens = tokens; nonces = below })
