use Rattle.std.proofs.Common.{arith}
use Rattle.std.proofs.lemmas.Grind.{common_steps}
use Rattle.std.proofs.lemmas.List.{take_all, take-append-le}
use Rattle.store_memory.proofs.memory.write.Goals as goal

pub returns-in-Err-clause-log_err : goal.returns-in-Err-clause-log_err
returns-in-Err-clause-log_err c = grind (arith, common_steps, take_all, take-append-le)
