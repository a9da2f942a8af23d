use Rattle.store_laws.proofs.steps.PlainEdits.{plain_empty, plain_record, plain_nonce, plain_add, plain_update, plain_place}
use Rattle.store_laws.proofs.plain.staying_plain.Goals as goal

pub returns : goal.returns
returns c = record {
  nothing = plain_empty;
  records = plain_record;
  nonce = plain_nonce;
  tokens = λ c key token p. plain_add c key p token;
  updates = λ c key revno token update p. plain_update c key p revno token update;
  places = λ c key body p. plain_place c key p body;
}
