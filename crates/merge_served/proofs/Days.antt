-- A publisher that served for a while has its tables in a world that is the model's, of which all is promised.
use Rattle.std.proofs.Common.{◌≡◌, ◌++◌, ◌∷◌, ◌∙◌, [], List, ap, refl, sym}
use Rattle.merge_model.specs.Failing.Runs.{after_actions}
use Rattle.merge_model.specs.World.Session.{Stepping}
use Rattle.merge_model.specs.World.Steps.{Action}
use Rattle.merge_model.specs.World.{World}
use Rattle.merge_model.specs.Failing.{Faulty}
use Rattle.merge_model.specs.Failing.Reach.{stepping}
use Rattle.merge_laws.proofs.Lineages.LineagesAlways.{actions-same}
use Rattle.merge_actions.proofs.PromisesOfActions.{promises-hold}
use Rattle.merge_served.proofs.Decided.{requests-tell}
use Rattle.merge_served.proofs.Serving.{all-serving}
use Rattle.merge_served.specs.Served.{ServedJournalsHavePromises, ServedWorldsHavePromises, world_at}

-- actions behind others
after-more : {W : Type 0} (steps : Stepping W) (before during : List Action) (w : W) → after_actions steps w (before ++ during) ≡ after_actions steps (after_actions steps w before) during
after-more steps [] during w = refl
after-more steps (action ∷ before) during w = after-more steps before during (steps.act w action).0

pub served-have-promises : ServedWorldsHavePromises
served-have-promises resolvers publication valid says tallies slips before during serving journal e =
    let same = actions-same publication (resolvers, valid) says tallies slips (before ++ during) in record {
      tables = all-serving publication says (world_at publication says tallies slips before) during serving journal e
          ∙ ap (λ (f : Faulty World). f.world.publisher) (sym (after-more (stepping publication says) before during _));
      same_outcomes = sym same.0;
      same_tables = sym same.1;
      promised = promises-hold resolvers publication valid says tallies slips (before ++ during);
    }

pub journals-have-promises : ServedJournalsHavePromises
journals-have-promises resolvers publication valid says steady tallies slips before during serving journal decided e =
    served-have-promises resolvers publication valid says tallies slips before during serving journal
    (requests-tell publication says steady (world_at publication says tallies slips before) during serving journal decided e)
