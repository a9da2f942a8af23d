use Rattle.store_laws.proofs.chains.Passing.{applying_on}
use Rattle.store_laws.proofs.settling.staying_done.Goals as goal

pub returns : goal.returns
returns g = λ c d id rec now revnos step there applies numbers after. applying_on c d step id rec now revnos there applies numbers after
