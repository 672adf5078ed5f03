-- No generation takes effect twice: what takes effect at a delivery has acted behind it, and stays so.
use Rattle.std.specs.Prelude.{◌≡◌, ◌<◌, ◌+◌, ◌-◌, ℕ, zero, suc, List, [], ◌∷◌, Bool, true, false, not, Option, Some, None, refl, filter, cond, nat_lt, All}
use Rattle.std.specs.List.{AllByRecursion, list_any, range_with_len}
use Rattle.std.proofs.Common.{arith, subst, sym, ap, ◌∙◌}
use Rattle.std.proofs.lemmas.Bool.Decides.{nat_tests}
use Rattle.std.proofs.lemmas.List.Elements.{All-head, All-tail}
use Rattle.merge_types.specs.declared.identifiers.SiteId.{SiteId}
use Rattle.merge_schema.specs.declared.publication.Publication.{Publication}
use Rattle.merge_batch.specs.Uploads.{is_in_interval}
use Rattle.merge_batch.specs.declared.refusal.Refusal.{Refusal}
use Rattle.merge_batch.specs.declared.request.Upload.{Upload}
use Rattle.merge_batch.specs.declared.request.UploadItem.{UploadItem}
use Rattle.merge_model.specs.Judge.ByNumbers.{by_numbers, received_by_number}
use Rattle.merge_model.specs.Failing.{Faulty, Slip, Slips, acting_with, fails, faulty, faulty_stepping, is_allowed, slip_if}
use Rattle.merge_model.specs.History.{History, is_done}
use Rattle.merge_model.specs.History.Model.{Model, did_something, empty_model, model}
use Rattle.merge_model.specs.Publisher.PublisherUpload.{brings_news}
use Rattle.merge_model.specs.Failing.Runs.{model_behind_actions}
use Rattle.merge_model.specs.World.Steps.{Action, Deliver}
use Rattle.merge_model.specs.Tables.{PublisherTables}
use Rattle.merge_model.specs.World.{Saying}
use Rattle.merge_model.specs.declared.outcome.Outcome.{Outcome}
use Rattle.merge_model.proofs.Runs.Actions.{events-are-actions, failing-actions-keep}
use Rattle.merge_laws.specs.Laws.ActsOnce.{AllActed, step_of_delivery}
use Rattle.merge_laws.specs.Laws.Effects.{ActingTakeEffect, EffectAt, NewsIsUnmet, NoneTakesEffectTwice, NumbersTakeEffect, RunsAreSteps, TakesEffect, behind_actions, history_judge}
use Rattle.merge_laws.specs.Laws.{OfEveryActions}
use Rattle.merge_laws.specs.Facts.Received.{DoneIsReceived, Received}
use Rattle.merge_laws.proofs.ActsOnce.ActsOnceSteps.{delivered-by, is-fine, refusal, taken_by}
use Rattle.merge_laws.proofs.ActsOnce.ActsOnceTaken.{Stays, delivered-acted, stays-keep}
use Rattle.merge_laws.proofs.Received.Models.{begins, model-fine, received-by-actions}
use Rattle.merge_laws.proofs.Runs.Tallied.{received-tallied}
use Rattle.merge_laws.proofs.Walking.{step-keeps}
use Rattle.merge_laws.proofs.Received.Worlds.{received-is}

-- Steps, some of which may fail, keep what each step and other tallies keep.

module _ (publication : Publication) (says : Saying) where
  received-after : (actions : List Action) (f : Faulty Model) → Received f.world.world f.world.history → (let g : Faulty Model = behind_actions publication says f actions in Received g.world.world g.world.history)
  received-after actions f r = failing-actions-keep publication (model publication says) (λ (m : Model). Received m.world m.history) (λ m action h. model-fine publication says m action h) (λ m tallies h. received-tallied m.world tallies m.history h) actions f r

  stays-after : (m : Model) (actions : List Action) (f : Faulty Model) → Received f.world.world f.world.history → Stays m f.world.world f.world.history
      → (let g : Faulty Model = behind_actions publication says f actions in Stays m g.world.world g.world.history)
  stays-after m actions f r stays = (failing-actions-keep publication (model publication says) (λ (n : Model). Received n.world n.history × Stays m n.world n.history)
      (λ n action both. (model-fine publication says n action both.0, step-keeps publication says Received (Stays m) (λ w h r. r) (stays-keep m publication says) n action both.0 both.1))
      (λ n tallies both. (received-tallied n.world tallies n.history both.0, both.1)) actions f (r, stays)).1

  -- A delivery that did something was no slip.

  slip-made : (allowed : Bool) (slips : Slips) (slip : Slip) (action : Action) (w : Model) (done : Model × Outcome) → did_something (slip_if publication (model publication says) allowed slips slip action w done).1 ≡ true
      → ((slip_if publication (model publication says) allowed slips slip action w done).0.world ≡ done.0) × (did_something done.1 ≡ true)
  slip-made true slips slip action w done did = absurd (cc did)
  slip-made false slips slip action w done did = (refl, did)

  acting-made : (slips : Slips) (action : Action) (w : Model) (done : Model × Outcome) → did_something (acting_with publication (model publication says) slips action w done).1 ≡ true
      → ((acting_with publication (model publication says) slips action w done).0.world ≡ done.0) × (did_something done.1 ≡ true)
  acting-made [] action w done did = (refl, did)
  acting-made (None ∷ slips) action w done did = (refl, did)
  acting-made (Some slip ∷ slips) action w done did = slip-made (is_allowed publication w.world action slip done.1) slips slip action w done did

  -- What takes effect has acted behind the delivery.
  effect-acted : (f : Faulty Model) (number : ℕ) (u : Upload) (generation : ℕ) → Received f.world.world f.world.history → EffectAt publication says f number u generation
      → is_done (fails publication (model publication says) f (Deliver number)).0.world.history u.site.0 generation ≡ true
  effect-acted f number u generation r effect =
      let made = acting-made f.slips (Deliver number) f.world (step_of_delivery publication says f.world number) effect.made in
      let acted : AllActed (step_of_delivery publication says f.world number).0.history u = delivered-acted publication says f.world r number effect.site u effect.sent made.1 in
      ap (λ (m : Model). is_done m.history u.site.0 generation) made.0 ∙ acted generation effect.effect.above effect.effect.within

  twice-never : (f : Faulty Model) (between : List Action) (first second : ℕ) (u v : Upload) (generation : ℕ) → Received f.world.world f.world.history
      → (let g : Faulty Model = behind_actions publication says (fails publication (model publication says) f (Deliver first)).0 between in
      v.site.0 ≡ u.site.0 → EffectAt publication says f first u generation → EffectAt publication says g second v generation → ⊥)
  twice-never f between first second u v generation r same one other =
      let behind : Faulty Model = (fails publication (model publication says) f (Deliver first)).0 in
      let g : Faulty Model = behind_actions publication says behind between in
      let stays = stays-after behind.world between behind (received-after (Deliver first ∷ []) f r) (λ number letter at. at, λ site k is. is) in
      let acted : is_done g.world.history u.site.0 generation ≡ true = stays.1 u.site.0 generation (effect-acted f first u generation r one) in
      let unmet : is_done g.world.history v.site.0 generation ≡ false = other.effect.unmet in
      let moved : is_done g.world.history u.site.0 generation ≡ false = ap (λ (site : ℕ). is_done g.world.history site generation) (sym same) ∙ unmet in
      absurd (grind (arith, acted, moved))

pub none-twice : NoneTakesEffectTwice
none-twice publication says tallies slips before between first second u v generation same one other =
    twice-never publication says (behind_actions publication says (faulty (empty_model publication tallies) slips) before) between first second u v generation (received-after publication says before (faulty (empty_model publication tallies) slips) (begins publication tallies)) same one other

pub runs-are-steps : RunsAreSteps
runs-are-steps publication says f events = events-are-actions (faulty_stepping publication (model publication says)) publication events f

-- The items that act.

module _ (publication : Publication) (m : Model) (number : ℕ) (u : Upload) (news : brings_news (history_judge m number) u ≡ true) where
  effect-here : (b : Bool) (item : UploadItem) (rest : List UploadItem) → is_in_interval u item ≡ true → not (is_done m.history u.site.0 item.generation) ≡ b → AllByRecursion (λ (x : UploadItem). TakesEffect (history_judge m number) u x.generation) rest
      → AllByRecursion (λ (x : UploadItem). TakesEffect (history_judge m number) u x.generation) (cond b (item ∷ rest) rest)
  effect-here true item rest inside is effects = (record { news = news; above = grind (arith, nat_tests, inside); within = grind (arith, nat_tests, inside); unmet = grind (arith, nat_tests, is) }, effects)
  effect-here false item rest inside is effects = effects

  effects-in : (items : List UploadItem) → All (λ (item : UploadItem). is_in_interval u item ≡ true) items
      → AllByRecursion (λ (item : UploadItem). TakesEffect (history_judge m number) u item.generation) (filter (λ (item : UploadItem). not (is_done m.history u.site.0 item.generation)) items)
  effects-in [] inside = tt
  effects-in (item ∷ items) inside = effect-here (not (is_done m.history u.site.0 item.generation)) item (filter (λ (x : UploadItem). not (is_done m.history u.site.0 x.generation)) items) (All-head (λ (x : UploadItem). is_in_interval u x ≡ true) item items inside) refl
      (effects-in items (All-tail (λ (x : UploadItem). is_in_interval u x ≡ true) item items inside))

module _ (publication : Publication) (says : Saying) (m : Model) (number : ℕ) (site : SiteId) (u : Upload) where
  taken-fine : (why : Option Refusal) → refusal publication says m number site u ≡ why → did_something (taken_by publication says m number site u why).1 ≡ true → refusal publication says m number site u ≡ None
  taken-fine (Some why) is did = absurd (cc did)
  taken-fine None is did = is

pub acting-take-effect : ActingTakeEffect
acting-take-effect publication says m number site u at did news =
    let fine = is-fine publication says m number site u (taken-fine publication says m number site u (refusal publication says m number site u) refl (subst (λ (done : Model × Outcome). did_something done.1 ≡ true) (delivered-by publication says m number site u at) did)) in
    effects-in publication m number u news u.items fine.1

-- By numbers.

module _ (m : Model) (r : Received m.world m.history) (number : ℕ) (u : Upload) (generation : ℕ) where
  by-history : TakesEffect (by_numbers m.world.publisher) u generation → TakesEffect (history_judge m number) u generation
  by-history effect = record {
    news = ap (λ (n : ℕ). nat_lt n u.to) (received-is m.history m.world.publisher u.site.0 r.done) ∙ effect.news;
    above = effect.above;
    within = effect.within;
    unmet = r.done u.site.0 generation (omega (arith, effect.above)) ∙ effect.unmet;
  }

  by-number : TakesEffect (history_judge m number) u generation → TakesEffect (by_numbers m.world.publisher) u generation
  by-number effect = record {
    news = ap (λ (n : ℕ). nat_lt n u.to) (sym (received-is m.history m.world.publisher u.site.0 r.done)) ∙ effect.news;
    above = effect.above;
    within = effect.within;
    unmet = sym (r.done u.site.0 generation (omega (arith, effect.above))) ∙ effect.unmet;
  }

pub numbers-take-effect : OfEveryActions (λ publication says m. NumbersTakeEffect m)
numbers-take-effect publication says tallies slips actions number u generation =
    let m : Model = model_behind_actions publication says tallies slips actions in
    let r = received-by-actions publication says tallies slips actions in
    (by-history m r number u generation, by-number m r number u generation)

-- News, read from the set.

any-unmet : (h : History) (p : PublisherTables) (n : ℕ) → DoneIsReceived h p → (more from : ℕ) → list_any (λ (generation : ℕ). not (is_done h n generation)) (range_with_len (from + 1) (suc more)) ≡ nat_lt (received_by_number p n) (from + suc more)
any-unmet h p n done zero from = grind (arith, nat_tests, done n (from + 1) (omega arith))
any-unmet h p n done (suc more) from = grind (arith, nat_tests, done n (from + 1) (omega arith), any-unmet h p n done more (from + 1))

news-of : (m : Model) → Received m.world m.history → (number : ℕ) (u : Upload) (length : ℕ) → u.to - u.from ≡ length → u.from < u.to
    → brings_news (history_judge m number) u ≡ list_any (λ (generation : ℕ). not (is_done m.history u.site.0 generation)) (range_with_len (u.from + 1) length)
news-of m r number u zero is up = absurd (omega (arith, is, up))
news-of m r number u (suc more) is up =
    let end : u.from + suc more ≡ u.to = omega (arith, is, up) in
    ap (λ (n : ℕ). nat_lt n u.to) (received-is m.history m.world.publisher u.site.0 r.done) ∙ ap (λ (to : ℕ). nat_lt (received_by_number m.world.publisher u.site.0) to) (sym end) ∙ sym (any-unmet m.history m.world.publisher u.site.0 r.done more u.from)

pub news-is-unmet : OfEveryActions (λ publication says m. NewsIsUnmet m)
news-is-unmet publication says tallies slips actions number u up =
    let m : Model = model_behind_actions publication says tallies slips actions in
    news-of m (received-by-actions publication says tallies slips actions) number u (u.to - u.from) refl up
