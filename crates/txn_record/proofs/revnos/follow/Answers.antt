use Rattle.std.proofs.Common.{◌≡◌, ℕ, ◌≤◌, ◌+◌, ◌++◌, ◌<◌, List, [], ◌∷◌, ℤ, pos, unsigned_abs, drop, length, get_or, set, sym, ap, ◌∙◌, subst, arith, to_z, of_z, w64}
use Rattle.std.proofs.lemmas.Int.{to_z-of_z}
use Rattle.std.proofs.lemmas.List.{at_drop_all, length-set}
use Rattle.std.specs.FinMap.{values}
use Rattle.txn_record.specs.Chain.{Numbers, numbers_at, numbers_after, found_by}
use Rattle.txn_record.specs.Revnos.{number_after}
use Rattle.txn_record.specs.declared.op.Op.{Op}
use Rattle.txn_record.proofs.ChainSteps.{next_found, next_numbers, values_there}
use Rattle.txn_record.proofs.NumberSizes.{grows_by_one, small_fits, room_at, room_after}
use Rattle.txn_record.proofs.revnos.follow.Goals as goal

abbrev wrap : ℤ → ℤ
wrap n = to_z w64 (of_z w64 n)

pub loop-op-preserved : goal.loop-op-preserved
loop-op-preserved c =
    let loop = c.loop-op in
    let ops = c.args.ops.now in
    let keys = c.args.keys.now in
    let i = loop.op-index in
    let op = c.op-item.result in
    let place = c.place_of-place.result in
    let there = c.place_of-place.ensures in
    let same = loop.invariant.count in
    let number = get_or loop.last place (pos 0) in
    let after = number_after op.change number in
    let in_room : room_at i number = loop.invariant.room place (pos 0) (omega (arith, there.within, same)) in
    let next_room : room_at (i + 1) after = omega (arith, grows_by_one op.change number, in_room) in
    let read : wrap (get_or c.as_slice.result.now place (pos 0)) ≡ number =
    ap (λ (xs : List ℤ). wrap (get_or xs place (pos 0))) c.as_slice.ensures ∙ to_z-of_z w64 number (small_fits number (omega (arith, in_room, c.requires.few))) in
    let pushed : c.push.new.self ≡ loop.found ++ number ∷ [] = c.in_ok-push.ensures.ok ∙ ap (λ (n : ℤ). loop.found ++ n ∷ []) read in
    let changed : c.set.new.self ≡ set loop.last place after =
    c.set.ensures ∙ ap (λ (n : ℤ). set loop.last place (wrap n)) (c.number_after.ensures ∙ ap (number_after op.change) read)
    ∙ ap (set loop.last place) (to_z-of_z w64 after (small_fits after (omega (arith, next_room, c.requires.few)))) in
    record {
      found = (λ j. pushed j ++ found_by (drop (i + 1) ops) (numbers_at keys (changed j)))
          ∙ next_found keys c.requires.rise ops i op loop.found loop.last place (pos 0) (omega arith) c.op-item.is same there.stands ∙ loop.invariant.found;
      last = ap (λ (ns : List ℤ). numbers_after (drop (i + 1) ops) (numbers_at keys ns)) changed
          ∙ next_numbers keys c.requires.rise ops i op loop.last place (pos 0) (omega arith) c.op-item.is same there.stands ∙ loop.invariant.last;
      count = ap length changed ∙ length-set loop.last place after ∙ same;
      room = subst (λ (ns : List ℤ). (k : ℕ) → (d : ℤ) → k < length ns → unsigned_abs (get_or ns k d) ≤ 4611686018427386903 + (i + 1)) (sym changed) (room_after i loop.last place after loop.invariant.room next_room);
    }

pub returns-clause-last : goal.returns-clause-last
returns-clause-last c =
    let loop = c.loop-op in
    let keys = c.args.keys.now in
    let ended = at_drop_all (λ (ops : List Op). numbers_after ops (numbers_at keys loop.last)) c.args.ops.now loop.op-index c.loop-op-test.false in
    sym (values_there keys c.requires.rise loop.last loop.invariant.count) ∙ ap (λ (numbers : Numbers). values numbers) (sym ended ∙ loop.invariant.last)
