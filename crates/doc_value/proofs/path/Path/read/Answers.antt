use Rattle.std.proofs.Common.{sym, ap, ◌∙◌, length}
use Rattle.doc_value.specs.Paths.{path_of, parts_of}
use Rattle.doc_value.proofs.Utf8Reading.{path_in-text, path_in-other}
use Rattle.doc_value.proofs.path.Path.read.Goals as goal

pub returns-in_default : goal.returns-in_default
returns-in_default c = record { exact = λ _. sym (path_in-other _ c.in_default.ensures.cases.0) }

pub returns : goal.returns
returns c = record { exact = λ spared. c.read_text.ensures.exact spared ∙ ap (λ bytes. path_of (length bytes) (parts_of bytes)) c.in-Ok.ensures.cases.0 ∙ sym (path_in-text _ c.in-Ok.ensures.cases.1) }
