use Rattle.std.proofs.Common.{rules, ◌<◌, length}
use Rattle.listed_cells.proofs.Waiting.{within_queues, waits_there}
use Rattle.listed_cells.proofs.standing.Standing.waits_on.Goals as goal

pub index-requires : goal.index-requires
index-requires c =
    let within : c.in-Some.place < length c.args.self.now.queues.items = within_queues _ _ _ c.requires.queues c.in-Some.ensures.within in
    search (rules, within)

pub returns-in-Some : goal.returns-in-Some
returns-in-Some c = waits_there _ _ _ _ c.args.token.now _ _ c.requires.queues c.in-Some.ensures.within c.index.ensures c.in-Some.ensures.queue c.contains.ensures
