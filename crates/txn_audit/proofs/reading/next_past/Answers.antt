use Rattle.std.proofs.Common.{rules}
use Rattle.store_trait.proofs.OneCalls.{chain_of_one}
use Rattle.txn_audit.proofs.reading.next_past.Goals as goal

pub returns-clause-call : goal.returns-clause-call
returns-clause-call g c = record {
  trail = search rules;
  counted = search rules;
  counted_err = search rules;
  chain = chain_of_one _ _ _ _ _ c.next.ensures.answered c.next.ensures.counted;
  later = search rules;
  fault = search rules;
  still = search rules;
}

pub returns-in_err-next-clause-call : goal.returns-in_err-next-clause-call
returns-in_err-next-clause-call g c = record {
  trail = search rules;
  counted = search rules;
  counted_err = search rules;
  chain = chain_of_one _ _ _ _ _ c.next.ensures.answered c.next.ensures.counted;
  later = search rules;
  fault = search rules;
  still = search rules;
}
