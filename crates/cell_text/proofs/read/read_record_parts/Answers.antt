use Rattle.std.proofs.Common.{◌≡◌, codes, refl, rules, Option, Some}
use Rattle.std.specs.Option.{option_copied}
use Rattle.txn_key.specs.Ids.{id_of}
use Rattle.cell_text.specs.Parts.{text_in, needed, state_in, ops_there, nonce_in, revnos_in, info_in}
use Rattle.cell_text.proofs.RecordsRead.{there, record_from}
use Rattle.cell_text.proofs.read.read_record_parts.Goals as goal

pub returns-in_err-ops : goal.returns-in_err-ops
returns-in_err-ops c =
    let id = there (option_copied c.field.result) _ (needed (text_in id_of)) c.in_ok-id.id c.field.ensures c.in_ok-id.ensures in
    let info = there (option_copied c.field-2.result) _ info_in c.in_ok-info.info c.field-2.ensures (c.in_ok-info.ensures (λ h. cc h)) in
    let nonce = there (option_copied c.field-3.result) _ nonce_in c.in_ok-nonce.nonce c.field-3.ensures c.in_ok-nonce.ensures in
    rw (record_from c.args.is.now _ _ _ _ _ _ id info nonce refl refl refl) (search rules)

pub returns-in_err-revnos : goal.returns-in_err-revnos
returns-in_err-revnos c =
    let id = there (option_copied c.field.result) _ (needed (text_in id_of)) c.in_ok-id.id c.field.ensures c.in_ok-id.ensures in
    let info = there (option_copied c.field-2.result) _ info_in c.in_ok-info.info c.field-2.ensures (c.in_ok-info.ensures (λ h. cc h)) in
    let nonce = there (option_copied c.field-3.result) _ nonce_in c.in_ok-nonce.nonce c.field-3.ensures c.in_ok-nonce.ensures in
    let ops = there (option_copied c.field-4.result) _ ops_there c.in_ok-ops.ops c.field-4.ensures (c.in_ok-ops.ensures (λ h. cc h)) in
    rw (record_from c.args.is.now _ _ _ _ _ _ id info nonce ops refl refl) (search rules)

pub returns-in_err-state : goal.returns-in_err-state
returns-in_err-state c =
    let id = there (option_copied c.field.result) _ (needed (text_in id_of)) c.in_ok-id.id c.field.ensures c.in_ok-id.ensures in
    let info = there (option_copied c.field-2.result) _ info_in c.in_ok-info.info c.field-2.ensures (c.in_ok-info.ensures (λ h. cc h)) in
    let nonce = there (option_copied c.field-3.result) _ nonce_in c.in_ok-nonce.nonce c.field-3.ensures c.in_ok-nonce.ensures in
    let ops = there (option_copied c.field-4.result) _ ops_there c.in_ok-ops.ops c.field-4.ensures (c.in_ok-ops.ensures (λ h. cc h)) in
    let revnos = there (option_copied c.field-5.result) _ revnos_in c.in_ok-revnos.revnos c.field-5.ensures (c.in_ok-revnos.ensures (λ h. cc h)) in
    rw (record_from c.args.is.now _ _ _ _ _ _ id info nonce ops revnos refl) (search rules)

pub returns : goal.returns
returns c =
    let id = there (option_copied c.field.result) _ (needed (text_in id_of)) c.in_ok-id.id c.field.ensures c.in_ok-id.ensures in
    let info = there (option_copied c.field-2.result) _ info_in c.in_ok-info.info c.field-2.ensures (c.in_ok-info.ensures (λ h. cc h)) in
    let nonce = there (option_copied c.field-3.result) _ nonce_in c.in_ok-nonce.nonce c.field-3.ensures c.in_ok-nonce.ensures in
    let ops = there (option_copied c.field-4.result) _ ops_there c.in_ok-ops.ops c.field-4.ensures (c.in_ok-ops.ensures (λ h. cc h)) in
    let revnos = there (option_copied c.field-5.result) _ revnos_in c.in_ok-revnos.revnos c.field-5.ensures (c.in_ok-revnos.ensures (λ h. cc h)) in
    let state = there (option_copied c.field-6.result) _ (needed state_in) c.in_ok-state.state c.field-6.ensures c.in_ok-state.ensures in
    rw (record_from c.args.is.now _ _ _ _ _ _ id info nonce ops revnos state) (λ _. refl)
