-- A step, with the ask that an answer about ranges answers. The ways that a step can go do not tell it. So they tell of the
-- steps that post no such answer, and the shapes of a step tell of those that do.
use Rattle.std.specs.Prelude.{Bool, List, None, Option, Some, [], false, length, refl, slice_get, true, ℕ, ◌≡◌, ◌∷◌}
use Rattle.std.proofs.Common.{ap, arith, sym, ◌∙◌}
use Rattle.std.proofs.lemmas.Option.{slice_get_past}
use Rattle.merge_types.specs.declared.identifiers.SiteId.{SiteId}
use Rattle.merge_schema.specs.declared.publication.Publication.{Publication}
use Rattle.merge_batch.specs.declared.reply.Reply.TheVariants as reply
use Rattle.merge_batch.specs.declared.request.RangeAsk.{RangeAsk}
use Rattle.merge_batch.specs.declared.request.Request.TheVariants as request
use Rattle.merge_batch.proofs.Values.{slice_get-append_past}
use Rattle.merge_model.specs.History.{History}
use Rattle.merge_model.specs.History.Model.{Model, model_step}
use Rattle.merge_model.specs.Publisher.PublisherRanges.{plans, reply_to_ranges, with_grants}
use Rattle.merge_model.specs.World.Steps.{Action, post}
use Rattle.merge_model.specs.World.{Saying, World, with_publisher, with_subscriber}
use Rattle.merge_model.specs.declared.letter.Letter.{Letter}
use Rattle.merge_model.specs.declared.letter.Message.{Message}
use Rattle.merge_model.specs.declared.letter.Message.TheVariants.{Asks, Replies}
use Rattle.merge_laws.specs.Facts.Received.{Received}
use Rattle.merge_laws.proofs.Identities.IdentitySteps.{none-tells, not-both, posted-tells, tells_ranges}
use Rattle.merge_laws.proofs.Walking.Shapes.{Shapes, is_ranged, step-shaped}
use Rattle.merge_laws.proofs.Walking.{Sends, StepsKeep, comes, here, step-keeps}

decided : {A : Type 0} (b : Bool) → (b ≡ true → A) → (b ≡ false → A) → A
decided true one other = one refl
decided false one other = other refl

module _ (publication : Publication) (says : Saying) (B P : World → History → Type 0) (received : (w : World) (h : History) → B w h → Received w h) where
  -- what is known before a step, and what it keeps where it tells no ranges
  abbrev pub Before : List Letter → World → History → Type 0
  Before pool w h = B w h × (P w h × (w.pool ≡ pool))

  abbrev pub Silent : List Letter → World → History → Type 0
  Silent pool w h = tells_ranges pool w ≡ false → P w h

  pub record RangedKeep : Type 0 where
    pub silent : (pool : List Letter) → StepsKeep publication says (Before pool) (Silent pool)
    pub answers : (w : World) (h : History) (number : ℕ) (site : SiteId) (m : RangeAsk) → B w h → P w h → comes w number site (Asks (request.Ranges m))
        → Sends P site (Replies (reply.Ranged (reply_to_ranges m (plans publication m w.publisher)))) (with_publisher (with_grants (plans publication m w.publisher) (here w)) w) h

  -- an answer that tells ranges is no silent one
  pub no-silence : {A : Type 0} (pool : List Letter) (w : World) (site : SiteId) (m : RangeAsk) → w.pool ≡ pool
      → tells_ranges pool (post site (Replies (reply.Ranged (reply_to_ranges m (plans publication m w.publisher)))) (with_publisher (with_grants (plans publication m w.publisher) (here w)) w)).0 ≡ false → A
  no-silence pool w site m same none =
      let v : World = with_publisher (with_grants (plans publication m w.publisher) (here w)) w in
      let message : Message = Replies (reply.Ranged (reply_to_ranges m (plans publication m w.publisher))) in
      not-both (tells_ranges pool (post site message v).0) none (posted-tells pool v site message same)

  module _ (keeps : RangedKeep) where
    ranges-keep : (w : World) (h : History) → B w h → P w h → Shapes publication w h (λ (v : World) (k : History). tells_ranges w.pool v ≡ true → P v k)
    ranges-keep w h b p = record {
      nothing = λ k is. not-both (tells_ranges w.pool w) (none-tells w) is;
      passes = λ seconds k is. not-both (tells_ranges w.pool w) (none-tells w) is;
      publisher = λ q k is. not-both (tells_ranges w.pool w) (none-tells w) is;
      subscriber = λ t k is. not-both (tells_ranges w.pool w) (none-tells w) is;
      asks = λ t site m k is. not-both (tells_ranges w.pool (post site (Asks m) (with_subscriber t w)).0) (posted-tells w.pool (with_subscriber t w) site (Asks m) refl) is;
      answers = λ q tallies site m k other is. (let v : World = record w { publisher = q; tallies = tallies } in not-both (tells_ranges w.pool (post site (Replies m) v).0) (posted-tells w.pool v site (Replies m) refl ∙ other) is);
      ranges = λ number site m at is. keeps.answers w h number site m b p at;
    }

    -- every step
    pub ranged-step : (m : Model) (action : Action) → B m.world m.history → P m.world m.history → (let n : Model = (model_step publication says m action).0 in P n.world n.history)
    ranged-step m action b p =
        let n : Model = (model_step publication says m action).0 in
        let pool : List Letter = m.world.pool in
        decided (tells_ranges pool n.world)
        (step-shaped publication says m.world m.history (λ (v : World) (k : History). tells_ranges pool v ≡ true → P v k) (ranges-keep m.world m.history b p) action)
        (step-keeps publication says (Before pool) (Silent pool) (λ w h known. received w h known.0) (keeps.silent pool) m action (b, (p, refl)) (λ none. p))
