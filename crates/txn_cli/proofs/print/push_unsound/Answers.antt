use Rattle.std.proofs.Common.{◌≡◌, ℕ, List, ◌++◌, ap, ◌∙◌}
use Rattle.std.proofs.lemmas.List.{append_assoc}
use Rattle.txn_cli.proofs.print.push_unsound.Goals as goal

-- five pieces, one after another
joined : (old a b c d e : List ℕ) → ((((old ++ a) ++ b) ++ c) ++ d) ++ e ≡ old ++ ((((a ++ b) ++ c) ++ d) ++ e)
joined old a b c d e =
    ap (λ (l : List ℕ). ((l ++ c) ++ d) ++ e) (append_assoc old a b)
    ∙ ap (λ (l : List ℕ). (l ++ d) ++ e) (append_assoc old (a ++ b) c)
    ∙ ap (λ (l : List ℕ). l ++ e) (append_assoc old ((a ++ b) ++ c) d)
    ∙ append_assoc old (((a ++ b) ++ c) ++ d) e

pub returns : goal.returns
returns c = rw (c.in_ok-push.ensures.items, c.in_ok-push_name.ensures, c.in_ok-extend_from_slice-3.ensures.items, c.in_ok-extend_from_slice-2.ensures.items, c.in_ok-extend_from_slice.ensures.items, c.as_bytes.ensures.value, c.format.ensures.text)
    (joined c.args.out.now.items _ _ _ _ _)
