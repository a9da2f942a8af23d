use Rattle.store_laws.proofs.trails.CallsMade.{calls_then}
use Rattle.txn_play.proofs.Causing.{causes_before}
use Rattle.txn_play.proofs.Batches.{batch_then}
use Rattle.txn_play.proofs.OwnOperations.{records_after, records_before}
use Rattle.std.proofs.Common.{arith}
use Rattle.txn_runner.proofs.Numbers.{uses_then, uses_within}
use Rattle.txn_play.proofs.settling.run_all.Goals as goal

pub returns-in-Ok-clause-works : goal.returns-in-Ok-clause-works
returns-in-Ok-clause-works g c = λ told. batch_then _ _ _ _ _ _ _ _ (c.submit_all.ensures.works told c.args.order.now.items) (c.settle_all.ensures.works told)

pub returns-in-Err-clause-works : goal.returns-in-Err-clause-works
returns-in-Err-clause-works g c = λ told. c.submit_all.ensures.works told c.args.order.now.items

pub returns-in-Ok-clause-uses : goal.returns-in-Ok-clause-uses
returns-in-Ok-clause-uses g c = λ told. uses_then (uses_within (c.submit_all.ensures.uses told) (omega arith) (omega arith)) (c.settle_all.ensures.uses told)

pub returns-in-Err-clause-uses : goal.returns-in-Err-clause-uses
returns-in-Err-clause-uses g c = λ told. uses_within (c.submit_all.ensures.uses told) (omega arith) (omega arith)

pub returns-in-Ok-clause-cause : goal.returns-in-Ok-clause-cause
returns-in-Ok-clause-cause g c = causes_before _ _ _ _ _ c.submit_all.ensures.calls.chain c.settle_all.ensures.cause

pub returns-in-Ok-clause-records : goal.returns-in-Ok-clause-records
returns-in-Ok-clause-records g c = λ told. records_after _ _ _ _ _ (c.settle_all.ensures.works told).step (c.in-Ok.ensures.begun told).submitted

pub returns-in-Err-clause-records : goal.returns-in-Err-clause-records
returns-in-Err-clause-records g c = λ told. records_before _ _ _ (c.submit_all.ensures.own told)

pub returns-in-Ok-clause-calls : goal.returns-in-Ok-clause-calls
returns-in-Ok-clause-calls g c = calls_then _ _ _ _ c.submit_all.ensures.calls c.settle_all.ensures.calls
