use Rattle.std.proofs.Common.{refl, sym, ap, ◌∙◌}
use Rattle.std.proofs.lemmas.Bool.{false≢true}
use Rattle.serde_json.specs.Read.{read}
use Rattle.doc_value.proofs.Utf8Reading.{json_in-text, json_in-other}
use Rattle.doc_value.proofs.read.parse.Goals as goal

pub returns-in_default-clause-err : goal.returns-in_default-clause-err
returns-in_default-clause-err c = λ _. (refl, json_in-other _ c.in_default.ensures.cases.0)

pub returns-in-Ok-from_str-clause-ok : goal.returns-in-Ok-from_str-clause-ok
returns-in-Ok-from_str-clause-ok c =
    json_in-text _ c.in-Ok.ensures.cases.1 ∙ ap read (sym c.in-Ok.ensures.cases.0) ∙ c.in-Ok-from_str.ensures.ok

pub returns-in-Err-2-clause-err : goal.returns-in-Err-2-clause-err
returns-in-Err-2-clause-err c =
    λ _. (refl, json_in-text _ c.in-Ok.ensures.cases.1 ∙ ap read (sym c.in-Ok.ensures.cases.0) ∙ c.in-Err.ensures.err (λ memory. let known = rw c.if-is_memory.false at c.is_memory.ensures in absurd (false≢true (known.1 memory))))
