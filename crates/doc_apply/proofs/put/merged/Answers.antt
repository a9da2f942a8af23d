use Rattle.std.proofs.Common.{◌≡◌, ◌+◌, ◌++◌, [], ◌∷◌, List, length, take, drop, sym, ap, ◌∙◌}
use Rattle.std.proofs.lemmas.Iterator.Adapters.{YieldsList-from_vec}
use Rattle.std.proofs.lemmas.Iterator.Consumers.{YieldsList-turn}
use Rattle.std.proofs.lemmas.List.{at_drop_more, length_push}
use Rattle.doc_value.specs.declared.value.Named.{Named}
use Rattle.doc_value.specs.declared.value.Value.{Value}
use Rattle.doc_update.specs.Places.{field_or_none}
use Rattle.doc_apply.specs.Puts.{with_fields, puts_rise, names_rise, count_below, without_own}
use Rattle.doc_apply.specs.declared.put.Put.{Put}
use Rattle.doc_apply.proofs.Merging.{merged_next}
use Rattle.doc_apply.proofs.put.merged.Goals as goal

pub loop-put-preserved : goal.loop-put-preserved
loop-put-preserved c =
    let puts = c.args.puts.items in
    let n = length c.loop-put.yielded in
    let rest = c.loop-put.rest.now in
    let put = c.in-Some.put in
    let turn = YieldsList-turn (YieldsList-from_vec puts (cc) (cc)) c.loop-put.yielded c.loop-put.put-iterator c.loop-put.yielded_by c.next.result c.next.new.self put c.in-Some.is c.next.ensures.steps in
    let step = merged_next puts n put c.loop-put.made rest (turn.0) (turn.1) (c.loop-put.invariant.puts) (c.loop-put.invariant.names) in
    let below : c.push_put.new.made ≡ (c.loop-put.made ++ take (count_below put.part rest) rest) ++ field_or_none put.part put.after = cc (c.in_ok-push_put.ensures, c.in_ok-push_all.ensures, c.split_at.ensures.front, c.count_below.ensures.count) in
    let above : c.without_own-rest.result.now ≡ without_own put.part (drop (count_below put.part rest) rest) = cc (c.without_own-rest.ensures, c.split_at.ensures.back, c.count_below.ensures.count) in
    let more : length (c.loop-put.yielded ++ put ∷ []) ≡ n + 1 = length_push c.loop-put.yielded put in
    let left : with_fields (put ∷ drop (n + 1) puts) rest ≡ with_fields (drop n puts) rest = sym (at_drop_more (λ ps. with_fields ps rest) puts n put (turn.0) ∙ ap (λ (p : Put). with_fields (p ∷ drop (n + 1) puts) rest) (sym (turn.1))) in
    record {
      made = ap (λ (m : List (Named Value)). m ++ with_fields (drop (length (c.loop-put.yielded ++ put ∷ [])) puts) c.without_own-rest.result.now) below
          ∙ ap (λ k. ((c.loop-put.made ++ take (count_below put.part rest) rest) ++ field_or_none put.part put.after) ++ with_fields (drop k puts) c.without_own-rest.result.now) more
          ∙ ap (λ (r : List (Named Value)). ((c.loop-put.made ++ take (count_below put.part rest) rest) ++ field_or_none put.part put.after) ++ with_fields (drop (n + 1) puts) r) above
          ∙ step.all ∙ ap (λ (fs : List (Named Value)). c.loop-put.made ++ fs) left ∙ c.loop-put.invariant.made;
      puts = ap (λ k. puts_rise (drop k puts)) more ∙ step.puts_left;
      names = ap names_rise above ∙ step.names_left;
    }
