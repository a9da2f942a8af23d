use Rattle.std.proofs.Common.{inl}
use Rattle.store_laws.proofs.chains.Applying.{passed_if_past}
use Rattle.store_laws.proofs.chains.Passing.{one_passed}
use Rattle.store_laws.proofs.settling.passing_an_operation.Goals as goal

pub returns : goal.returns
returns g = record { nothing = λ view op revno idle. inl idle; alone = one_passed; beyond = λ c id rec op revno sound. passed_if_past c sound id rec op revno }
