use Rattle.txn_runner.proofs.settling.advance.Goals as goal

pub returns-in-Draw-clause-works : goal.returns-in-Draw-clause-works
returns-in-Draw-clause-works g c = λ told. c.draw.ensures.works told c.args.order.now.items

pub returns-in-Queue-clause-works : goal.returns-in-Queue-clause-works
returns-in-Queue-clause-works g c = λ told. c.queue.ensures.works told c.args.order.now.items

pub returns-in-Prepare-clause-works : goal.returns-in-Prepare-clause-works
returns-in-Prepare-clause-works g c = λ told. c.prepare.ensures.works told c.args.order.now.items

pub returns-in-Look-clause-works : goal.returns-in-Look-clause-works
returns-in-Look-clause-works g c = λ told. c.look.ensures.works told c.args.order.now.items

pub returns-in-Update-clause-works : goal.returns-in-Update-clause-works
returns-in-Update-clause-works g c = λ told. c.update.ensures.works told c.args.order.now.items

pub returns-in-Finish-clause-works : goal.returns-in-Finish-clause-works
returns-in-Finish-clause-works g c = λ told. c.finish.ensures.works told c.args.order.now.items

pub returns-in-Abort-clause-works : goal.returns-in-Abort-clause-works
returns-in-Abort-clause-works g c = λ told. c.abort.ensures.works told c.args.order.now.items
