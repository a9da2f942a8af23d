use Rattle.std.proofs.Common.{◌≡◌, refl, ap}
use Rattle.std.specs.Cmp.{IsTotalOrder}
use Rattle.std.specs.FinMap.{IsAntisymmetric}
use Rattle.std.specs.Ordering.{ordering_reverse}
use Rattle.std.specs.declared.cmp.Ordering.TheVariants.{Less, Equal}
use Rattle.txn_key.proofs.KeyOrder.{id_cmp_total, id_cmp-IsAntisymmetric, key_cmp_total, key_cmp-IsAntisymmetric}
use Rattle.store_trait.specs.Names.{name_cmp}
use Rattle.store_trait.specs.declared.name.Name.{Name}
use Rattle.store_trait.specs.declared.name.Name.TheVariants as name

turns : (x y : Name) → name_cmp x y ≡ ordering_reverse (name_cmp y x)
turns (name.Record a) (name.Record b) = id_cmp_total.antisymm a b
turns (name.Record a) (name.Doc b) = refl
turns (name.Record a) (name.Stash b) = refl
turns (name.Record a) name.Nonce = refl
turns (name.Doc a) (name.Record b) = refl
turns (name.Doc a) (name.Doc b) = key_cmp_total.antisymm a b
turns (name.Doc a) (name.Stash b) = refl
turns (name.Doc a) name.Nonce = refl
turns (name.Stash a) (name.Record b) = refl
turns (name.Stash a) (name.Doc b) = refl
turns (name.Stash a) (name.Stash b) = key_cmp_total.antisymm a b
turns (name.Stash a) name.Nonce = refl
turns name.Nonce (name.Record b) = refl
turns name.Nonce (name.Doc b) = refl
turns name.Nonce (name.Stash b) = refl
turns name.Nonce name.Nonce = refl

chains : (x y z : Name) → name_cmp x y ≡ Less → name_cmp y z ≡ Less → name_cmp x z ≡ Less
chains (name.Record a) (name.Record b) (name.Record c) p q = id_cmp_total.trans a b c p q
chains (name.Record a) y (name.Doc c) p q = refl
chains (name.Record a) y (name.Stash c) p q = refl
chains (name.Record a) y name.Nonce p q = refl
chains (name.Record a) (name.Doc b) (name.Record c) p q = cc
chains (name.Record a) (name.Stash b) (name.Record c) p q = cc
chains (name.Record a) name.Nonce (name.Record c) p q = cc
chains (name.Doc a) (name.Record b) z p q = cc
chains (name.Doc a) (name.Doc b) (name.Record c) p q = cc
chains (name.Doc a) (name.Doc b) (name.Doc c) p q = key_cmp_total.trans a b c p q
chains (name.Doc a) (name.Doc b) (name.Stash c) p q = refl
chains (name.Doc a) (name.Doc b) name.Nonce p q = refl
chains (name.Doc a) (name.Stash b) (name.Record c) p q = cc
chains (name.Doc a) (name.Stash b) (name.Doc c) p q = cc
chains (name.Doc a) (name.Stash b) (name.Stash c) p q = refl
chains (name.Doc a) (name.Stash b) name.Nonce p q = refl
chains (name.Doc a) name.Nonce (name.Record c) p q = cc
chains (name.Doc a) name.Nonce (name.Doc c) p q = cc
chains (name.Doc a) name.Nonce (name.Stash c) p q = cc
chains (name.Doc a) name.Nonce name.Nonce p q = refl
chains (name.Stash a) (name.Record b) z p q = cc
chains (name.Stash a) (name.Doc b) z p q = cc
chains (name.Stash a) (name.Stash b) (name.Record c) p q = cc
chains (name.Stash a) (name.Stash b) (name.Doc c) p q = cc
chains (name.Stash a) (name.Stash b) (name.Stash c) p q = key_cmp_total.trans a b c p q
chains (name.Stash a) (name.Stash b) name.Nonce p q = refl
chains (name.Stash a) name.Nonce (name.Record c) p q = cc
chains (name.Stash a) name.Nonce (name.Doc c) p q = cc
chains (name.Stash a) name.Nonce (name.Stash c) p q = cc
chains (name.Stash a) name.Nonce name.Nonce p q = refl
chains name.Nonce (name.Record b) z p q = cc
chains name.Nonce (name.Doc b) z p q = cc
chains name.Nonce (name.Stash b) z p q = cc
chains name.Nonce name.Nonce z p q = cc

pub name_cmp-IsAntisymmetric : IsAntisymmetric name_cmp
name_cmp-IsAntisymmetric (name.Record a) (name.Record b) e = ap name.Record (id_cmp-IsAntisymmetric a b e)
name_cmp-IsAntisymmetric (name.Record a) (name.Doc b) e = cc
name_cmp-IsAntisymmetric (name.Record a) (name.Stash b) e = cc
name_cmp-IsAntisymmetric (name.Record a) name.Nonce e = cc
name_cmp-IsAntisymmetric (name.Doc a) (name.Record b) e = cc
name_cmp-IsAntisymmetric (name.Doc a) (name.Doc b) e = ap name.Doc (key_cmp-IsAntisymmetric a b e)
name_cmp-IsAntisymmetric (name.Doc a) (name.Stash b) e = cc
name_cmp-IsAntisymmetric (name.Doc a) name.Nonce e = cc
name_cmp-IsAntisymmetric (name.Stash a) (name.Record b) e = cc
name_cmp-IsAntisymmetric (name.Stash a) (name.Doc b) e = cc
name_cmp-IsAntisymmetric (name.Stash a) (name.Stash b) e = ap name.Stash (key_cmp-IsAntisymmetric a b e)
name_cmp-IsAntisymmetric (name.Stash a) name.Nonce e = cc
name_cmp-IsAntisymmetric name.Nonce (name.Record b) e = cc
name_cmp-IsAntisymmetric name.Nonce (name.Doc b) e = cc
name_cmp-IsAntisymmetric name.Nonce (name.Stash b) e = cc
name_cmp-IsAntisymmetric name.Nonce name.Nonce e = refl

ties : (x y z : Name) → name_cmp x y ≡ Equal → name_cmp x z ≡ name_cmp y z
ties x y z p = ap (λ n. name_cmp n z) (name_cmp-IsAntisymmetric x y p)

pub name_cmp_total : IsTotalOrder name_cmp
name_cmp_total = record { antisymm = turns; trans = chains; congr = ties }
