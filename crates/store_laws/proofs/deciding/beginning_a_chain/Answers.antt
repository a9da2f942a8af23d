use Rattle.store_laws.proofs.meanings.OneOperation.{chain_one}
use Rattle.store_laws.proofs.deciding.beginning_a_chain.Goals as goal

pub returns : goal.returns
returns g = chain_one
