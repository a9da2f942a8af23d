use Rattle.std.proofs.Common.{sym, ap, map, subst, ◌∙◌}
use Rattle.std.proofs.lemmas.List.{at_drop_all}
use Rattle.std.proofs.lemmas.List.Sorted.{IsPermutation-map}
use Rattle.std.specs.FinMap.{keys}
use Rattle.std.specs.List.Sorted.{IsPermutation}
use Rattle.txn_key.specs.KeySets.{KeySet, with_keys, set_of}
use Rattle.txn_key.specs.Places.{keys_rise}
use Rattle.txn_key.proofs.KeySets.{set_of_none, keys_of_set, same_keys}
use Rattle.txn_key.proofs.keys.distinct_keys.Goals as goal

pub loop-key-init : goal.loop-key-init
loop-key-init c =
    let none = c.new-found.ensures.items in
    record {
      so_far = ap (with_keys (map (λ key. key.now) c.deref-key-items.result.now)) (ap set_of none ∙ set_of_none);
      rise = ap keys_rise none;
    }

pub returns-clause-all : goal.returns-clause-all
returns-clause-all c =
    let loop = c.loop-key in
    let sorted = c.deref-key-items.result.now in
    let ended = at_drop_all (λ keys. with_keys (map (λ key. key.now) keys) (set_of loop.found.items)) sorted loop.key-index c.loop-key-test.false in
    let moved = IsPermutation-map (λ key. key.now) c.args.keys.items c.sort_by.new.self.items c.sort_by.ensures.permutation in
    let same = subst (λ keys. IsPermutation (map (λ key. key.now) c.args.keys.items) (map (λ key. key.now) keys)) (sym c.deref-key-items.ensures.value) moved in
    c.from_vec.ensures ∙ sym (keys_of_set loop.found.items loop.invariant.rise)
    ∙ ap (λ (set : KeySet). keys set) (sym ended ∙ loop.invariant.so_far ∙ same_keys (map (λ key. key.now) c.args.keys.items) (map (λ key. key.now) sorted) same)
