use Rattle.std.proofs.Common.{sym, ◌∙◌, true≢false}
use Rattle.txn_key.proofs.KeyPlaces.{not_there}
use Rattle.txn_key.proofs.keys.place_of.Goals as goal

pub returns-in-Err : goal.returns-in-Err
returns-in-Err c = absurd (true≢false (sym c.requires.there ∙ not_there c.args.key.now c.args.keys.now c.in-Err.place c.in-Err.ensures.goes))
