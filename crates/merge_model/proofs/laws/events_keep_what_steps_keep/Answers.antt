use Rattle.std.specs.Prelude.{◌≡◌, true}
use Rattle.merge_model.specs.World.{World}
use Rattle.merge_model.specs.World.Events.{machine}
use Rattle.merge_model.specs.Failing.{faulty}
use Rattle.merge_model.proofs.Runs.Events.{events-keep}
use Rattle.merge_model.proofs.Failing.KeptFailing.{runs-keep}
use Rattle.merge_model.proofs.laws.events_keep_what_steps_keep.Goals as goal

pub returns : goal.returns
returns c = record {
  made = λ keeps kept publication says events w h.
      events-keep publication (machine publication says) (λ (v : World). keeps publication says v ≡ true) (λ v action k. kept publication says v action k) events w h;
  failing = λ keeps kept others publication says slips events w h.
      runs-keep publication (machine publication says) (λ (v : World). keeps publication says v ≡ true) (λ v action k. kept publication says v action k) (λ v tallies k. others publication says v tallies k) events (faulty w slips) h;
}
