use Rattle.std.proofs.Common.{sym, subst, ◌∙◌}
use Rattle.doc_value.specs.Readable.{IsReadable}
use Rattle.doc_value.proofs.ReadValues.{IsReadable-value_of}
use Rattle.doc_value.proofs.read.read_value.Goals as goal

pub returns-clause-readable : goal.returns-clause-readable
returns-clause-readable c =
    subst IsReadable (sym c.in_ok-convert.ensures.value)
    (IsReadable-value_of c.args.bytes.now _ c.in_ok-json.ensures.ok (sym c.is_deeper.ensures ∙ c.if-is_deeper.false) (sym c.has_refused_name.ensures ∙ c.if-has_refused_name.false) c.in_ok-convert.ensures.sound)
