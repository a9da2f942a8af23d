use Rattle.store_laws.proofs.meanings.OneOperation.{tests_one}
use Rattle.store_laws.proofs.deciding.testing_one_operation.Goals as goal

pub returns : goal.returns
returns g = tests_one
