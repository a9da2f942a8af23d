use Rattle.std.proofs.Common.{◌≡◌, ◌++◌, List, ℕ, [], sym, subst, ◌∙◌, ap, IsUtf8}
use Rattle.doc_value.specs.declared.value.Value.{Value}
use Rattle.doc_value.specs.Texts.{compact}
use Rattle.doc_value.specs.Syntax.{value_in}
use Rattle.doc_value.proofs.RoundTrip.{reads_back, utf8-compact}
use Rattle.doc_value.proofs.print.print_value.Goals as goal

alone : (out before : List ℕ) (value : Value) → out ≡ before ++ compact value → before ≡ [] → out ≡ compact value
alone out before value written empty = written ∙ ap (λ s. s ++ compact value) empty

pub returns-clause-utf8 : goal.returns-clause-utf8
returns-clause-utf8 c =
    let text = alone _ _ c.args.value.now c.in_ok-write_value.ensures.exact c.new-out.ensures.items in
    subst IsUtf8 (sym text) (utf8-compact c.args.value.now c.in_ok-write_value.ensures.sound)

pub returns-clause-reads_back : goal.returns-clause-reads_back
returns-clause-reads_back c = λ nests names ordered.
    let text = alone _ _ c.args.value.now c.in_ok-write_value.ensures.exact c.new-out.ensures.items in
    ap value_in text ∙ reads_back c.args.value.now (record { nests = nests; names = names; ordered = ordered; sound = c.in_ok-write_value.ensures.sound })
