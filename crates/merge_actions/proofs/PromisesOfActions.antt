-- All promises, of the model behind a list of actions, and so of the machine.
use Rattle.std.proofs.Common.{sym}
use Rattle.std.specs.Prelude.{All}
use Rattle.merge_ident.specs.Books.{IsRule}
use Rattle.merge_model.specs.Tables.Publications.{rules_of}
use Rattle.merge_model.specs.Failing.Runs.{model_behind_actions}
use Rattle.merge_model.proofs.Entries.Downloads.{replies-stay}
use Rattle.merge_laws.specs.Laws.{OfEveryValidActions}
use Rattle.merge_laws.specs.Laws.Promised.{Promised}
use Rattle.merge_laws.proofs.Accounts.AccountsAlways.{no-change-is-lost}
use Rattle.merge_laws.proofs.ActsOnce.ActsOnceTaken.{done-stays, letters-stay, taken-have-acted, taken-only-answer}
use Rattle.merge_laws.proofs.Sessions.BoundsEnough.{downloads-enough, uploads-enough}
use Rattle.merge_laws.proofs.ActsOnce.EffectsOnce.{news-is-unmet, numbers-take-effect}
use Rattle.merge_laws.proofs.Runs.LawsOfActions as laws
use Rattle.merge_laws.proofs.LastLines.LeavingsOwed.{joins-take-nothing, purges-take-nothing}
use Rattle.merge_laws.proofs.Lineages.LineagesAlways.{actions-same, all-alike, all-steps, cases-decided, publishers-alike}
use Rattle.merge_laws.proofs.Runs.RestsOnKept.{accepted-known-by-actions, chains-accounted, held-granted-always, known-accepted-by-actions, moments-step, received-step, replies-true, sites-equal}
use Rattle.merge_laws.proofs.Sessions.RoundLaw.{round-settles}
use Rattle.merge_laws.proofs.Sessions.SessionLaw.{sessions-settle-by-actions}
use Rattle.merge_laws.proofs.Settled.SettledLaw.{settled-sites-hold}
use Rattle.merge_laws.proofs.Runs.ValidRules.{valid-rules}
use Rattle.merge_actions.specs.Actions.{MachineHasPromisesBehindActions}

pub promises-hold : OfEveryValidActions Promised
promises-hold resolvers publication valid says tallies slips actions =
    let rules : All IsRule (rules_of publication) = valid-rules resolvers publication valid in
    record {
      accounted = no-change-is-lost resolvers publication valid says tallies slips actions;
      partition = settled-sites-hold resolvers publication valid says tallies slips actions;
      sessions = sessions-settle-by-actions publication says tallies slips actions;
      once = laws.acts-once publication says tallies slips actions;
      taken = taken-have-acted publication says tallies slips actions;
      stays = done-stays publication says tallies slips actions;
      letters = letters-stay publication says tallies slips actions;
      again = taken-only-answer publication says tallies slips actions;
      effects = numbers-take-effect publication says tallies slips actions;
      news = news-is-unmet publication says tallies slips actions;
      lineages = all-alike resolvers publication valid says tallies slips actions;
      publisher = publishers-alike resolvers publication valid says tallies slips actions;
      subscribers = laws.subscribers-alike publication says tallies slips actions;
      cases = cases-decided resolvers publication valid says tallies slips actions;
      steps = all-steps resolvers publication valid says tallies slips actions;
      ranges = laws.ranges-apart publication rules says tallies slips actions;
      identities = laws.identities-apart publication rules says tallies slips actions;
      granted = laws.taken-were-granted publication rules says tallies slips actions;
      old = laws.old-past publication says tallies slips actions;
      watermarks = laws.watermarks-held publication says tallies slips actions;
      inside = replies-stay publication (model_behind_actions publication says tallies slips actions);
      received = laws.received-is-done publication says tallies slips actions;
      acted = laws.acted-is-done publication says tallies slips actions;
      gaps = laws.gap-is-done publication says tallies slips actions;
      closed = laws.takes-only-closed publication says tallies slips actions;
      joined = laws.joined-takes-acted publication says tallies slips actions;
      numbers = laws.number-is-done publication says tallies slips actions;
      unmet = laws.unmet-is-done publication says tallies slips actions;
      mappings = laws.mappings-told publication says tallies slips actions;
      changes = laws.changes-told publication says tallies slips actions;
      numbered = laws.made-are-numbered publication says tallies slips actions;
      known = laws.known-were-made publication says tallies slips actions;
      lineages_known = laws.knows-only-made publication says tallies slips actions;
      kept = laws.closings-keep-the-last publication says tallies slips actions;
      told = laws.uploads-tell-the-last publication says tallies slips actions;
      has_left = laws.left-by-line publication says tallies slips actions;
      touch_inside = laws.inside-by-line publication says tallies slips actions;
      touch_outside = laws.outside-by-line publication says tallies slips actions;
      rounds = round-settles resolvers publication valid says tallies slips actions;
      uploads = uploads-enough resolvers publication valid says tallies slips actions;
      downloads = downloads-enough resolvers publication valid says tallies slips actions;
      purges = purges-take-nothing resolvers publication valid says tallies slips actions;
      forgets = joins-take-nothing resolvers publication valid says tallies slips actions;
      accepted = known-accepted-by-actions resolvers publication valid says tallies slips actions;
      accepted_known = accepted-known-by-actions resolvers publication valid says tallies slips actions;
      chains = chains-accounted resolvers publication valid says tallies slips actions;
      equal = sites-equal resolvers publication valid says tallies slips actions;
      replies = replies-true resolvers publication valid says tallies slips actions;
      moments = moments-step resolvers publication valid says tallies slips actions;
      in_step = received-step publication says tallies slips actions;
      held = held-granted-always resolvers publication valid says tallies slips actions;
      sorted = laws.lists-sorted publication says tallies slips actions;
      subscriber_sorted = laws.sub-lists-sorted publication says tallies slips actions;
    }

pub machine-has-promises : MachineHasPromisesBehindActions
machine-has-promises resolvers publication valid says tallies slips actions = record {
  model = model_behind_actions publication says tallies slips actions;
  same_tables = sym (actions-same publication (resolvers, valid) says tallies slips actions).1;
  promised = promises-hold resolvers publication valid says tallies slips actions;
}
