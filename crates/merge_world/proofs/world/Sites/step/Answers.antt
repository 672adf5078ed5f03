use Rattle.std.proofs.Common.{refl}
use Rattle.merge_world.proofs.Happenings.{event-so, proceeds-so}
use Rattle.merge_world.proofs.Resumings.{restarts-same}
use Rattle.merge_world.proofs.Shows.{nobody, proceeds-printable, shows-nothing}
use Rattle.merge_world.proofs.world.Sites.step.Goals as goal

pub returns-in-Wait-clause-happened : goal.returns-in-Wait-clause-happened
returns-in-Wait-clause-happened g c = event-so _ _ _ _ _ _ _ c.in-Wait.is (c.wait_event.ensures _)

pub returns-in-Wait-clause-printable : goal.returns-in-Wait-clause-printable
returns-in-Wait-clause-printable g c = shows-nothing _ refl _ _ _ _ _ (c.wait_event.ensures nobody)

pub returns-in-Insert-clause-happened : goal.returns-in-Insert-clause-happened
returns-in-Insert-clause-happened g c = event-so _ _ _ _ _ _ _ c.in-Insert.is (c.insert_event.ensures _)

pub returns-in-Insert-clause-printable : goal.returns-in-Insert-clause-printable
returns-in-Insert-clause-printable g c = shows-nothing _ refl _ _ _ _ _ (c.insert_event.ensures nobody)

pub returns-in-Update-clause-happened : goal.returns-in-Update-clause-happened
returns-in-Update-clause-happened g c = event-so _ _ _ _ _ _ _ c.in-Update.is (c.update_event.ensures _)

pub returns-in-Update-clause-printable : goal.returns-in-Update-clause-printable
returns-in-Update-clause-printable g c = shows-nothing _ refl _ _ _ _ _ (c.update_event.ensures nobody)

pub returns-in-Delete-clause-happened : goal.returns-in-Delete-clause-happened
returns-in-Delete-clause-happened g c = event-so _ _ _ _ _ _ _ c.in-Delete.is (c.delete_event.ensures _)

pub returns-in-Delete-clause-printable : goal.returns-in-Delete-clause-printable
returns-in-Delete-clause-printable g c = shows-nothing _ refl _ _ _ _ _ (c.delete_event.ensures nobody)

pub returns-in-Close-clause-happened : goal.returns-in-Close-clause-happened
returns-in-Close-clause-happened g c = event-so _ _ _ _ _ _ _ c.in-Close.is (c.close_event.ensures _)

pub returns-in-Close-clause-printable : goal.returns-in-Close-clause-printable
returns-in-Close-clause-printable g c = shows-nothing _ refl _ _ _ _ _ (c.close_event.ensures nobody)

pub returns-in-Sync-clause-happened : goal.returns-in-Sync-clause-happened
returns-in-Sync-clause-happened g c = event-so _ _ _ _ _ _ _ c.in-Sync.is c.sync_event.ensures

pub returns-in-Sync-clause-printable : goal.returns-in-Sync-clause-printable
returns-in-Sync-clause-printable g c = shows-nothing _ refl _ _ _ _ _ c.sync_event.ensures

pub returns-in-SendJoin-clause-happened : goal.returns-in-SendJoin-clause-happened
returns-in-SendJoin-clause-happened g c = event-so _ _ _ _ _ _ _ c.in-SendJoin.is (c.send_event.ensures _)

pub returns-in-SendJoin-clause-printable : goal.returns-in-SendJoin-clause-printable
returns-in-SendJoin-clause-printable g c = shows-nothing _ refl _ _ _ _ _ (c.send_event.ensures nobody)

pub returns-in-SendUpload-clause-happened : goal.returns-in-SendUpload-clause-happened
returns-in-SendUpload-clause-happened g c = event-so _ _ _ _ _ _ _ c.in-SendUpload.is (c.send_event-in-SendUpload.ensures _)

pub returns-in-SendUpload-clause-printable : goal.returns-in-SendUpload-clause-printable
returns-in-SendUpload-clause-printable g c = shows-nothing _ refl _ _ _ _ _ (c.send_event-in-SendUpload.ensures nobody)

pub returns-in-SendRanges-clause-happened : goal.returns-in-SendRanges-clause-happened
returns-in-SendRanges-clause-happened g c = event-so _ _ _ _ _ _ _ c.in-SendRanges.is (c.send_event-in-SendRanges.ensures _)

pub returns-in-SendRanges-clause-printable : goal.returns-in-SendRanges-clause-printable
returns-in-SendRanges-clause-printable g c = shows-nothing _ refl _ _ _ _ _ (c.send_event-in-SendRanges.ensures nobody)

pub returns-in-SendDownload-clause-happened : goal.returns-in-SendDownload-clause-happened
returns-in-SendDownload-clause-happened g c = event-so _ _ _ _ _ _ _ c.in-SendDownload.is (c.send_event-in-SendDownload.ensures _)

pub returns-in-SendDownload-clause-printable : goal.returns-in-SendDownload-clause-printable
returns-in-SendDownload-clause-printable g c = shows-nothing _ refl _ _ _ _ _ (c.send_event-in-SendDownload.ensures nobody)

pub returns-in-Deliver-clause-happened : goal.returns-in-Deliver-clause-happened
returns-in-Deliver-clause-happened g c = event-so _ _ _ _ _ _ _ c.in-Deliver.is c.deliver_event.ensures

pub returns-in-Deliver-clause-printable : goal.returns-in-Deliver-clause-printable
returns-in-Deliver-clause-printable g c = shows-nothing _ refl _ _ _ _ _ c.deliver_event.ensures

pub returns-in-Reinit-clause-happened : goal.returns-in-Reinit-clause-happened
returns-in-Reinit-clause-happened g c = event-so _ _ _ _ _ _ _ c.in-Reinit.is (c.reinit_event.ensures _)

pub returns-in-Reinit-clause-printable : goal.returns-in-Reinit-clause-printable
returns-in-Reinit-clause-printable g c = shows-nothing _ refl _ _ _ _ _ (c.reinit_event.ensures nobody)

pub returns-in-Purge-clause-happened : goal.returns-in-Purge-clause-happened
returns-in-Purge-clause-happened g c = event-so _ _ _ _ _ _ _ c.in-Purge.is (c.purge_event.ensures _)

pub returns-in-Purge-clause-printable : goal.returns-in-Purge-clause-printable
returns-in-Purge-clause-printable g c = shows-nothing _ refl _ _ _ _ _ (c.purge_event.ensures nobody)

pub returns-in-Restart-clause-happened : goal.returns-in-Restart-clause-happened
returns-in-Restart-clause-happened g c = proceeds-so _ _ _ _ _ _ _ c.in-Restart.is (c.restart_event.ensures.happened _)

pub returns-in-Restart-clause-printable : goal.returns-in-Restart-clause-printable
returns-in-Restart-clause-printable g c = proceeds-printable _ refl _ _ _ _ _ (c.restart_event.ensures.happened nobody)

pub returns-in-Restart-clause-damaged : goal.returns-in-Restart-clause-damaged
returns-in-Restart-clause-damaged g c = λ site table key here is. rw (restarts-same _ _ _ c.in-Restart.is here) (c.restart_event.ensures.damaged table key is)

pub returns-in-Show-clause-happened : goal.returns-in-Show-clause-happened
returns-in-Show-clause-happened g c = event-so _ _ _ _ _ _ _ c.in-Show.is (c.show_event.ensures.happened _)

pub returns-in-Partition-clause-happened : goal.returns-in-Partition-clause-happened
returns-in-Partition-clause-happened g c = event-so _ _ _ _ _ _ _ c.in-Partition.is (c.partition_event.ensures _)

pub returns-in-Partition-clause-printable : goal.returns-in-Partition-clause-printable
returns-in-Partition-clause-printable g c = shows-nothing _ refl _ _ _ _ _ (c.partition_event.ensures nobody)

pub returns-in-Conflicts-clause-happened : goal.returns-in-Conflicts-clause-happened
returns-in-Conflicts-clause-happened g c = event-so _ _ _ _ _ _ _ c.in-Conflicts.is (c.conflicts_event.ensures.happened _)

pub returns-in-Ranges-clause-happened : goal.returns-in-Ranges-clause-happened
returns-in-Ranges-clause-happened g c = event-so _ _ _ _ _ _ _ c.in-Ranges.is (c.ranges_event.ensures _)

pub returns-in-Ranges-clause-printable : goal.returns-in-Ranges-clause-printable
returns-in-Ranges-clause-printable g c = shows-nothing _ refl _ _ _ _ _ (c.ranges_event.ensures nobody)

pub returns-in-Generations-clause-happened : goal.returns-in-Generations-clause-happened
returns-in-Generations-clause-happened g c = event-so _ _ _ _ _ _ _ c.in-Generations.is (c.generations_event.ensures _)

pub returns-in-Generations-clause-printable : goal.returns-in-Generations-clause-printable
returns-in-Generations-clause-printable g c = shows-nothing _ refl _ _ _ _ _ (c.generations_event.ensures nobody)

pub returns-in-Count-clause-happened : goal.returns-in-Count-clause-happened
returns-in-Count-clause-happened g c = event-so _ _ _ _ _ _ _ c.in-Count.is (c.count_event.ensures _)

pub returns-in-Count-clause-printable : goal.returns-in-Count-clause-printable
returns-in-Count-clause-printable g c = shows-nothing _ refl _ _ _ _ _ (c.count_event.ensures nobody)
