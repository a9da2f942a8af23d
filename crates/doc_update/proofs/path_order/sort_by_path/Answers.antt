use Rattle.std.proofs.Common.{rules}
use Rattle.std.proofs.lemmas.Cmp.{lists_total, nat_list_cmp_total}
use Rattle.std.proofs.lemmas.List.Sorted.{answers_always, ranks_by}
use Rattle.doc_update.proofs.path_order.sort_by_path.Goals as goal

pub returns : goal.returns
returns c = record {
  moved = c.sort_by.ensures.permutation;
  sorted = c.in_ok-sort_by.ensures.sorted _ (ranks_by (lists_total nat_list_cmp_total) (λ change. change.parts)) (answers_always _ _ _ (λ f a r g h. search rules));
}
