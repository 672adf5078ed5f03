-- Actions of which none fails, or none was refused for a failure, do what they do where none can.
use Rattle.std.specs.List.{list_any}
use Rattle.std.specs.Prelude.{◌≡◌, List, false, refl}
use Rattle.merge_schema.specs.declared.publication.Publication.{Publication}
use Rattle.merge_model.specs.Failing.{Slips, faulty, faulty_stepping}
use Rattle.merge_model.specs.Failing.Reach.{AreNone}
use Rattle.merge_model.specs.Failing.Runs.{outcomes}
use Rattle.merge_model.specs.World.Session.{Stepping}
use Rattle.merge_model.specs.Laws.SlipLaws.{is_slip, refused_for}
use Rattle.merge_model.specs.World.Steps.{Action}
use Rattle.merge_model.proofs.Runs.Actions.{actions-alike, actions-or}
use Rattle.merge_model.proofs.Failing.NoSlips.{Plain, Same, acts-or, acts-plain}
use Rattle.merge_actions.specs.Actions.{DoesPlainly}

module _ {W : Type 0} (publication : Publication) (stepping : Stepping W) (w : W) (slips : Slips) (actions : List Action) where
  pub none-fails : AreNone slips → DoesPlainly publication stepping w slips actions
  none-fails none = (let done = actions-alike (faulty_stepping publication stepping) stepping (Plain publication stepping) (acts-plain publication stepping) actions (faulty w slips) w (refl, none) in (done.0, done.1.0))

  pub failures-show : list_any (refused_for is_slip) (outcomes (faulty_stepping publication stepping) (faulty w slips) actions) ≡ false → DoesPlainly publication stepping w slips actions
  failures-show none = actions-or (faulty_stepping publication stepping) stepping (Same publication stepping) is_slip (acts-or publication stepping) actions (faulty w slips) w refl none
