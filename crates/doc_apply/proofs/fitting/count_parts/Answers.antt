use Rattle.std.proofs.Common.{◌==◌, ◌+◌, sym, ap, ◌∙◌}
use Rattle.std.specs.Prelude.{count_by}
use Rattle.std.proofs.lemmas.List.Splits.{length-slice_split}
use Rattle.doc_apply.proofs.fitting.count_parts.Goals as goal

pub returns : goal.returns
returns c = ap (λ n. n + 1) (c.count_dots.ensures ∙ ap (count_by (λ byte. byte == 46)) c.as_bytes.ensures.value) ∙ sym (length-slice_split (λ byte. byte == 46) c.args.path.now)
