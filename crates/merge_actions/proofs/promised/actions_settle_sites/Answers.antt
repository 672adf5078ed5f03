use Rattle.merge_model.specs.Failing.Runs.{model_behind_actions}
use Rattle.merge_model.proofs.Entries.Downloads.{replies-stay}
use Rattle.merge_laws.proofs.Sessions.BoundsEnough.{downloads-enough, uploads-enough}
use Rattle.merge_laws.proofs.Sessions.RoundLaw.{round-settles}
use Rattle.merge_laws.proofs.Sessions.SessionLaw.{sessions-settle-by-actions}
use Rattle.merge_laws.proofs.Settled.SettledLaw.{settled-sites-hold}
use Rattle.merge_actions.proofs.promised.actions_settle_sites.Goals as goal

pub returns : goal.returns
returns c = record {
  partition = settled-sites-hold;
  sessions = sessions-settle-by-actions;
  inside = λ publication says tallies slips actions. replies-stay publication (model_behind_actions publication says tallies slips actions);
  rounds = round-settles;
  uploads = uploads-enough;
  downloads = downloads-enough;
}
