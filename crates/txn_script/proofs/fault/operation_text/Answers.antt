use Rattle.std.proofs.Common.{◌≡◌, ◌∙◌, ◌++◌, decimal, codes, string_bytes, append_assoc}
use Rattle.std.proofs.lemmas.Result.{IfOk-weaker}
use Rattle.txn_script.specs.Faults.{fault_text}
use Rattle.txn_script.specs.declared.fault.ScriptFault.TheVariants.{Operation}
use Rattle.txn_script.proofs.fault.operation_text.Goals as goal

pub returns : goal.returns
returns c =
    let whole = fault_text (Operation c.args.number c.args.why) in
    let parts = codes "error in transaction op " ++ (decimal c.args.number ++ (codes ": " ++ c.op_text-why.result.now)) in
    let wrote : string_bytes c.in_ok-text.text ≡ parts = c.in_ok-text.ensures.ok in
    let joined : parts ≡ whole = rw c.op_text-why.ensures (simp append_assoc) in
    IfOk-weaker c.from_str.result (λ text. text ≡ c.as_str.result.now) (λ text. text ≡ whole)
    (λ text is. is ∙ c.as_str.ensures.value ∙ wrote ∙ joined) c.from_str.ensures
