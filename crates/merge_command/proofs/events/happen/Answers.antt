-- Each event happens at the moment that the clock told, and is answered by what can be printed.
use Rattle.std.proofs.Common.{refl, rules, true, ◌≡◌}
use Rattle.merge_world.proofs.Shows.{nobody, shows-nothing}
use Rattle.merge_command.specs.Taken.{is_taken}
use Rattle.merge_command.proofs.Clocks.{ordered-at, took-so}
use Rattle.merge_command.proofs.events.happen.Goals as goal

pub insert_event-requires : goal.insert_event-requires
insert_event-requires g c = ordered-at _ _ c.requires

pub returns-in-Insert-clause-took : goal.returns-in-Insert-clause-took
returns-in-Insert-clause-took g c = let own : is_taken c.args.here c.args.event.now ≡ true = search rules in took-so _ _ _ _ _ _ _ _ _ own c.in-Insert.is c.insert_event.ensures c.now-sites.ensures.moment c.now-sites.ensures.later

pub returns-in-Insert-clause-printable : goal.returns-in-Insert-clause-printable
returns-in-Insert-clause-printable g c = shows-nothing _ refl _ _ _ _ _ (c.insert_event.ensures nobody)

pub update_event-requires : goal.update_event-requires
update_event-requires g c = ordered-at _ _ c.requires

pub returns-in-Update-clause-took : goal.returns-in-Update-clause-took
returns-in-Update-clause-took g c = let own : is_taken c.args.here c.args.event.now ≡ true = search rules in took-so _ _ _ _ _ _ _ _ _ own c.in-Update.is c.update_event.ensures c.now-sites.ensures.moment c.now-sites.ensures.later

pub returns-in-Update-clause-printable : goal.returns-in-Update-clause-printable
returns-in-Update-clause-printable g c = shows-nothing _ refl _ _ _ _ _ (c.update_event.ensures nobody)

pub delete_event-requires : goal.delete_event-requires
delete_event-requires g c = ordered-at _ _ c.requires

pub returns-in-Delete-clause-took : goal.returns-in-Delete-clause-took
returns-in-Delete-clause-took g c = let own : is_taken c.args.here c.args.event.now ≡ true = search rules in took-so _ _ _ _ _ _ _ _ _ own c.in-Delete.is c.delete_event.ensures c.now-sites.ensures.moment c.now-sites.ensures.later

pub returns-in-Delete-clause-printable : goal.returns-in-Delete-clause-printable
returns-in-Delete-clause-printable g c = shows-nothing _ refl _ _ _ _ _ (c.delete_event.ensures nobody)

pub close_event-requires : goal.close_event-requires
close_event-requires g c = ordered-at _ _ c.requires

pub returns-in-Close-clause-took : goal.returns-in-Close-clause-took
returns-in-Close-clause-took g c = let own : is_taken c.args.here c.args.event.now ≡ true = search rules in took-so _ _ _ _ _ _ _ _ _ own c.in-Close.is c.close_event.ensures c.now-sites.ensures.moment c.now-sites.ensures.later

pub returns-in-Close-clause-printable : goal.returns-in-Close-clause-printable
returns-in-Close-clause-printable g c = shows-nothing _ refl _ _ _ _ _ (c.close_event.ensures nobody)

pub reinit_event-requires : goal.reinit_event-requires
reinit_event-requires g c = ordered-at _ _ c.requires

pub returns-in-Reinit-clause-took : goal.returns-in-Reinit-clause-took
returns-in-Reinit-clause-took g c = let own : is_taken c.args.here c.args.event.now ≡ true = search rules in took-so _ _ _ _ _ _ _ _ _ own c.in-Reinit.is c.reinit_event.ensures c.now-sites.ensures.moment c.now-sites.ensures.later

pub returns-in-Reinit-clause-printable : goal.returns-in-Reinit-clause-printable
returns-in-Reinit-clause-printable g c = shows-nothing _ refl _ _ _ _ _ (c.reinit_event.ensures nobody)

pub returns-in-Purge-clause-took : goal.returns-in-Purge-clause-took
returns-in-Purge-clause-took g c = let own : is_taken c.args.here c.args.event.now ≡ true = search rules in took-so _ _ _ _ _ _ _ _ _ own c.in-Purge.is c.purge_event.ensures c.now-sites.ensures.moment c.now-sites.ensures.later

pub returns-in-Purge-clause-printable : goal.returns-in-Purge-clause-printable
returns-in-Purge-clause-printable g c = shows-nothing _ refl _ _ _ _ _ (c.purge_event.ensures nobody)

pub show_event-requires : goal.show_event-requires
show_event-requires g c = ordered-at _ _ c.requires

pub returns-in-Show-clause-took : goal.returns-in-Show-clause-took
returns-in-Show-clause-took g c = let own : is_taken c.args.here c.args.event.now ≡ true = search rules in took-so _ _ _ _ _ _ _ _ _ own c.in-Show.is c.show_event.ensures.happened c.now-sites.ensures.moment c.now-sites.ensures.later

pub conflicts_event-requires : goal.conflicts_event-requires
conflicts_event-requires g c = ordered-at _ _ c.requires

pub returns-in-Conflicts-clause-took : goal.returns-in-Conflicts-clause-took
returns-in-Conflicts-clause-took g c = let own : is_taken c.args.here c.args.event.now ≡ true = search rules in took-so _ _ _ _ _ _ _ _ _ own c.in-Conflicts.is c.conflicts_event.ensures.happened c.now-sites.ensures.moment c.now-sites.ensures.later

pub ranges_event-requires : goal.ranges_event-requires
ranges_event-requires g c = ordered-at _ _ c.requires

pub returns-in-Ranges-clause-took : goal.returns-in-Ranges-clause-took
returns-in-Ranges-clause-took g c = let own : is_taken c.args.here c.args.event.now ≡ true = search rules in took-so _ _ _ _ _ _ _ _ _ own c.in-Ranges.is c.ranges_event.ensures c.now-sites.ensures.moment c.now-sites.ensures.later

pub returns-in-Ranges-clause-printable : goal.returns-in-Ranges-clause-printable
returns-in-Ranges-clause-printable g c = shows-nothing _ refl _ _ _ _ _ (c.ranges_event.ensures nobody)

pub generations_event-requires : goal.generations_event-requires
generations_event-requires g c = ordered-at _ _ c.requires

pub returns-in-Generations-clause-took : goal.returns-in-Generations-clause-took
returns-in-Generations-clause-took g c = let own : is_taken c.args.here c.args.event.now ≡ true = search rules in took-so _ _ _ _ _ _ _ _ _ own c.in-Generations.is c.generations_event.ensures c.now-sites.ensures.moment c.now-sites.ensures.later

pub returns-in-Generations-clause-printable : goal.returns-in-Generations-clause-printable
returns-in-Generations-clause-printable g c = shows-nothing _ refl _ _ _ _ _ (c.generations_event.ensures nobody)

pub count_event-requires : goal.count_event-requires
count_event-requires g c = ordered-at _ _ c.requires

pub returns-in-Count-clause-took : goal.returns-in-Count-clause-took
returns-in-Count-clause-took g c = let own : is_taken c.args.here c.args.event.now ≡ true = search rules in took-so _ _ _ _ _ _ _ _ _ own c.in-Count.is c.count_event.ensures c.now-sites.ensures.moment c.now-sites.ensures.later

pub returns-in-Count-clause-printable : goal.returns-in-Count-clause-printable
returns-in-Count-clause-printable g c = shows-nothing _ refl _ _ _ _ _ (c.count_event.ensures nobody)
