-- Rounds settle every site beside which other things happen, as long as no site changes a row and none is made anew.
use Rattle.std.specs.Prelude.{Bool, IfSome, List, None, Option, Some, [], false, refl, true, ℕ, ◌++◌, ◌+◌, ◌<◌, ◌∷◌, ◌≡◌, ◌≤◌}
use Rattle.std.proofs.Common.{ap, arith, subst, sym, ◌∙◌}
use Rattle.std.proofs.lemmas.Bool.Decides.{nat_tests}
use Rattle.merge_types.specs.declared.identifiers.SiteId.{SiteId}
use Rattle.merge_schema.specs.Valid.{IsValid}
use Rattle.merge_schema.specs.declared.publication.Publication.{Publication}
use Rattle.merge_batch.specs.declared.request.Request.TheVariants as request
use Rattle.merge_batch.specs.declared.request.Upload.{Upload}
use Rattle.merge_model.specs.Failing.{Faulty, Slips, fails, faulty}
use Rattle.merge_model.specs.Failing.Runs.{model_behind_actions}
use Rattle.merge_model.specs.History.Model.{Model, model, model_step}
use Rattle.merge_model.specs.History.{History, MadeChange, made_at, pasts_with}
use Rattle.merge_model.specs.Judge.ByHistory.{by_made, by_past, is_between_made}
use Rattle.merge_model.specs.Judge.ByNumbers.{received_by_number}
use Rattle.merge_model.specs.Laws.Promises.{IsSettled, is_expired_at}
use Rattle.merge_model.specs.Publisher.PublisherUpload.{brings_news}
use Rattle.merge_model.specs.Publisher.{last_closed}
use Rattle.merge_model.specs.Subscriber.Sending.{unsent_rows}
use Rattle.merge_model.specs.Subscriber.{subscriber_last_closed}
use Rattle.merge_model.specs.Tables.Keys.{at_number}
use Rattle.merge_model.specs.Tables.{SubscriberTables}
use Rattle.merge_model.specs.World.Steps.{Action}
use Rattle.merge_model.specs.World.{Saying, World, subscriber_at}
use Rattle.merge_model.specs.declared.letter.Letter.{Letter}
use Rattle.merge_model.specs.declared.letter.Message.TheVariants.{Asks}
use Rattle.merge_model.proofs.Failing.KeptFailing.{fails-keep}
use Rattle.merge_model.proofs.Lists.Finding.{all-weaker, found-named, some_same}
use Rattle.merge_laws.specs.Facts.Received.{UploadFits}
use Rattle.merge_laws.specs.Facts.Settled.{Settled, SiteHolds, made_in, site_view}
use Rattle.merge_laws.specs.Laws.{OfEveryValidActions}
use Rattle.merge_laws.proofs.Received.Deliveries.{news-above}
use Rattle.merge_laws.proofs.Received.MessageFacts.{letter-fits}
use Rattle.merge_laws.proofs.Runs.Ground.{Ground, ground-step, ground-tallied, grounded-by-actions}
use Rattle.merge_laws.proofs.Sessions.SessionChanges.{NoneBetween, UpTo, none-nothing, nothing-none, order-up, up-none}
use Rattle.merge_laws.proofs.Settled.SettledLaw.{settled-by-actions, settled-step}
use Rattle.merge_laws.proofs.Walking.{step-keeps}
use Rattle.merge_honest.specs.Filled.{AreFilled, count_in}
use Rattle.merge_honest.proofs.Filled.{counts-more, filled-begins, filled-keeps}
use Rattle.merge_laws.specs.Laws.Effects.{behind_actions}
use Rattle.merge_promises.specs.SpacedRounds.{AreOther, EachMeanwhile, HasSent, HasTaken, Meanwhile, SpacedRoundsSettle, is_other}
use Rattle.merge_promises.proofs.EachClosed.{EachHasChanges, has-begins, has-keeps}
use Rattle.merge_promises.proofs.OtherHistory.{fails-made}
use Rattle.merge_promises.proofs.OtherSteps.{Before, IsSilent, IsStill, Rises, fails-end, rises-itself, rises-then}

-- What is known of every model behind actions.
pub record Whole (publication : Publication) (m : Model) : Type 0 where
  pub ground : Ground publication m.world m.history
  pub settled : Settled publication m.world m.history
  pub filled : AreFilled m.world m.history
  pub changes : EachHasChanges m.world m.history

module _ (publication : Publication) (says : Saying) where
  whole-step : (m : Model) (action : Action) → Whole publication m → Whole publication (model_step publication says m action).0
  whole-step m action k = record {
    ground = ground-step publication says m action k.ground;
    settled = settled-step publication says m action k.ground k.settled;
    filled = step-keeps publication says (Ground publication) AreFilled (λ w h g. g.received) (filled-keeps publication says) m action k.ground k.filled;
    changes = step-keeps publication says (λ (w : World) (h : History). Ground publication w h × AreFilled w h) EachHasChanges (λ w h b. b.0.received) (has-keeps publication says) m action (k.ground, k.filled) k.changes;
  }

  whole-tallied : (m : Model) (others : List ℕ) → Whole publication m → Whole publication (record m { world = record m.world { tallies = others } })
  whole-tallied m others k = record {
    ground = ground-tallied publication m.world m.history others k.ground;
    settled = record { sites = k.settled.sites; publisher = k.settled.publisher };
    filled = k.filled;
    changes = k.changes;
  }

  whole-fails : (f : Faulty Model) (action : Action) → Whole publication f.world → Whole publication (fails publication (model publication says) f action).0.world
  whole-fails f action k = fails-keep publication (model publication says) (Whole publication) whole-step whole-tallied f action k

  whole-behind : (actions : List Action) (f : Faulty Model) → Whole publication f.world → Whole publication (behind_actions publication says f actions).world
  whole-behind [] f k = k
  whole-behind (action ∷ actions) f k = whole-behind actions (fails publication (model publication says) f action).0 (whole-fails f action k)

  -- Behind two lists is behind one after the other.
  behind-more : (before later : List Action) (f : Faulty Model) → behind_actions publication says f (before ++ later) ≡ behind_actions publication says (behind_actions publication says f before) later
  behind-more [] later f = refl
  behind-more (action ∷ before) later f = behind-more before later (fails publication (model publication says) f action).0

  -- What such actions leave: what the sites have rises, and the changes that they made stay.
  record Walks (m k : Model) : Type 0 where
    sites : (n : ℕ) (t : SubscriberTables) → at_number k.world.subscribers n ≡ Some t → Before m n t
    made : (n : ℕ) → (n ≡ 0 → ⊥) → made_at k.history n ≡ made_at m.history n

  walks-itself : (m : Model) → Walks m m
  walks-itself m = record { sites = λ n t at. record { tables = t; found = at; rises = rises-itself t }; made = λ n named. refl }

  walks-then : (m k x : Model) → Walks m k → Walks k x → Walks m x
  walks-then m k x one other = record {
    sites = λ n t at. (let last = other.sites n t at in let first = one.sites n last.tables last.found in record { tables = first.tables; found = first.found; rises = rises-then first.tables last.tables t first.rises last.rises });
    made = λ n named. other.made n named ∙ one.made n named;
  }

  one-walks : (f : Faulty Model) (action : Action) → Whole publication f.world → is_other action ≡ true → Walks f.world (fails publication (model publication says) f action).0.world
  one-walks f action k other = record {
    sites = (fails-end publication says f.world k.ground f.slips action other).1;
    made = λ n named. fails-made publication says f.world n named f.slips action other;
  }

  all-walk : (actions : List Action) (f : Faulty Model) → Whole publication f.world → AreOther actions → Walks f.world (behind_actions publication says f actions).world
  all-walk [] f k others = walks-itself f.world
  all-walk (action ∷ actions) f k others =
      let g : Faulty Model = (fails publication (model publication says) f action).0 in
      walks-then f.world g.world (behind_actions publication says g actions).world (one-walks f action k others.0) (all-walk actions g (whole-fails f action k) others.1)

  -- The same from a place in between.
  other-parts : (before later : List Action) → AreOther (before ++ later) → AreOther before × AreOther later
  other-parts [] later others = (tt, others)
  other-parts (action ∷ before) later others = (let rest = other-parts before later others.1 in ((others.0, rest.0), rest.1))

  -- Sites that have nothing to send.

  abbrev IsQuietAt : Model → ℕ → SubscriberTables → Type 0
  IsQuietAt m n s = (s.is_joined ≡ true) × UpTo s.received (made_at m.history n)

  abbrev AreQuiet : Model → Type 0
  AreQuiet m = (n : ℕ) (s : SubscriberTables) → at_number m.world.subscribers n ≡ Some s → IsQuietAt m n s

  -- of whom is found nobody has the publisher's number
  named-at : (m : Model) → Whole publication m → (n : ℕ) (s : SubscriberTables) → at_number m.world.subscribers n ≡ Some s → n ≡ 0 → ⊥
  named-at m k n s at zero_is = found-named m.world.subscribers n s k.ground.none at zero_is

  own-site : (m : Model) → Whole publication m → (n : ℕ) (s : SubscriberTables) → at_number m.world.subscribers n ≡ Some s → s.site.0 ≡ n
  own-site m k n s at = (k.ground.received.subscribers n s at).keyed

  up-to-more : (before after : ℕ) (made : List MadeChange) → before ≤ after → UpTo before made → UpTo after made
  up-to-more before after made up all = all-weaker (λ (c : MadeChange). c.generation ≤ before) (λ (c : MadeChange). c.generation ≤ after) (λ c low. omega (arith, low, up)) made all

  quiet-later : (m k : Model) → Walks m k → (n : ℕ) (s t : SubscriberTables) → (n ≡ 0 → ⊥) → Rises s t → IsQuietAt m n s → IsQuietAt k n t
  quiet-later m k walk n s t named rises quiet = (
    rises.joined quiet.0,
    subst (λ (made : List MadeChange). UpTo t.received made) (sym (walk.made n named)) (up-to-more s.received t.received (made_at m.history n) rises.received quiet.1),
  )

  quiets-later : (m k : Model) → Whole publication m → Walks m k → AreQuiet m → AreQuiet k
  quiets-later m k whole walk quiet n t at =
      let came = walk.sites n t at in
      quiet-later m k walk n came.tables t (named-at m whole n came.tables came.found) came.rises (quiet n came.tables came.found)

  -- none between, and none behind: none above
  below-all : (from to : ℕ) (made : List MadeChange) → UpTo to made → NoneBetween from to made → UpTo from made
  below-all from to [] up none = tt
  below-all from to (c ∷ made) up none =
      let high : c.generation ≤ to = up.0 in
      let out : is_between_made from to c ≡ false = none.0 in
      let low : c.generation ≤ from = grind (arith, nat_tests, high, out) in
      (low, below-all from to made up.1 none.1)

  quiet-of : (m : Model) → Whole publication m → (s : SubscriberTables) → subscriber_at m.world s.site ≡ Some s → s.is_joined ≡ true → unsent_rows (by_made m.history s.site) s ≡ [] → IsQuietAt m s.site.0 s
  quiet-of m k s at joins nothing =
      let order = (k.ground.numbered.subscribers s.site.0 s at).order (named-at m k s.site.0 s at) in
      (joins, below-all s.received (subscriber_last_closed s + 1) (made_at m.history s.site.0) (order-up s.changes (subscriber_last_closed s + 1) (made_at m.history s.site.0) order) (nothing-none m.history s nothing))

  -- No upload of theirs brings news: each generation that they closed has a change, and so it has acted.

  none-counted : (bound generation : ℕ) (made : List MadeChange) → bound < generation → UpTo bound made → count_in generation made ≡ 0
  none-counted bound generation [] low up = refl
  none-counted bound generation (c ∷ made) low up =
      let high : c.generation ≤ bound = up.0 in
      let rest = none-counted bound generation made low up.1 in
      let more = counts-more generation c made in
      grind (arith, nat_tests, more, rest, high, low)

  all-acted : (m : Model) → Whole publication m → (n : ℕ) (s : SubscriberTables) → at_number m.world.subscribers n ≡ Some s → IsQuietAt m n s → subscriber_last_closed s ≤ received_by_number m.world.publisher n
  all-acted m k n s at quiet =
      let behind : s.received ≤ received_by_number m.world.publisher n = (k.ground.behind.subscribers n s at).behind quiet.0 in
      let over : s.received < subscriber_last_closed s → ⊥ = λ above. (
      let one = k.changes n s at (subscriber_last_closed s) (omega (arith, above)) (omega arith) in
      let none = none-counted s.received (subscriber_last_closed s) (made_at m.history n) above quiet.1 in
      absurd (omega (arith, one, none))) in
      grind (arith, behind, over)

  silent-if : (b : Bool) → (b ≡ true → ⊥) → b ≡ false
  silent-if true never = absurd (never refl)
  silent-if false never = refl

  silent-upload : (m : Model) → Whole publication m → AreQuiet m → (number : ℕ) (site : SiteId) (u : Upload) (found : Option SubscriberTables) → at_number m.world.subscribers site.0 ≡ found → UploadFits site u found → brings_news (by_past m.history (pasts_with m.history number)) u ≡ true → ⊥
  silent-upload m k quiet number site u None is fits news = fits
  silent-upload m k quiet number site u (Some s) is fits news =
      let above : received_by_number m.world.publisher u.site.0 < u.to = news-above m.world m.history k.ground.received (pasts_with m.history number) u news in
      let same : u.site ≡ site = fits.0 in
      let here : received_by_number m.world.publisher site.0 < u.to = subst (λ (x : SiteId). received_by_number m.world.publisher x.0 < u.to) same above in
      let closed : u.to ≤ subscriber_last_closed s = fits.1 in
      let acted = all-acted m k site.0 s is (quiet site.0 s is) in
      absurd (omega (arith, here, closed, acted))

  silent : (m : Model) → Whole publication m → AreQuiet m → IsSilent m
  silent m k quiet number site u at =
      let letter : Letter = record { site = site; message = Asks (request.Upload u) } in
      silent-if (brings_news (by_past m.history (pasts_with m.history number)) u)
      (silent-upload m k quiet number site u (at_number m.world.subscribers site.0) refl (letter-fits m.world m.history number letter k.ground.received at))

  -- So the publisher's generations stay.
  still-then : (m k x : Model) → IsStill m.world.publisher k.world.publisher → IsStill k.world.publisher x.world.publisher → IsStill m.world.publisher x.world.publisher
  still-then m k x one other = λ empty. (let first = one empty in let last = other first.0 in (last.0, last.1 ∙ first.1))

  all-still : (actions : List Action) (f : Faulty Model) → Whole publication f.world → AreQuiet f.world → AreOther actions → IsStill f.world.world.publisher (behind_actions publication says f actions).world.world.publisher
  all-still [] f k quiet others = λ empty. (empty, refl)
  all-still (action ∷ actions) f k quiet others =
      let g : Faulty Model = (fails publication (model publication says) f action).0 in
      let one : IsStill f.world.world.publisher g.world.world.publisher = (fails-end publication says f.world k.ground f.slips action others.0).0 (silent f.world k quiet) in
      still-then f.world g.world (behind_actions publication says g actions).world one
      (all-still actions g (whole-fails f action k) (quiets-later f.world g.world k (one-walks f action k others.0) quiet) others.1)

  -- At a place of the actions, and from there to their end.
  module _ (f : Faulty Model) (k : Whole publication f.world) (Holds : Model → Type 0) (actions : List Action) (others : AreOther actions) (at : Meanwhile publication says Holds f actions) where
    abbrev there : Faulty Model
    there = behind_actions publication says f at.before

    abbrev ending : Faulty Model
    ending = behind_actions publication says f actions

    both : AreOther at.before × AreOther at.later
    both = other-parts at.before at.later (subst (λ (x : List Action). AreOther x) at.parts others)

    whole-there : Whole publication there.world
    whole-there = whole-behind at.before f k

    onward : ending ≡ behind_actions publication says there at.later
    onward = ap (λ (x : List Action). behind_actions publication says f x) at.parts ∙ behind-more at.before at.later f

    walks-there : Walks f.world there.world
    walks-there = all-walk at.before f k both.0

    walks-end : Walks there.world ending.world
    walks-end = subst (λ (g : Faulty Model). Walks there.world g.world) (sym onward) (all-walk at.later there whole-there both.1)

    still-end : AreQuiet there.world → IsStill there.world.world.publisher ending.world.world.publisher
    still-end quiet = subst (λ (g : Faulty Model). IsStill there.world.world.publisher g.world.world.publisher) (sym onward) (all-still at.later there whole-there quiet both.1)

  -- Behind the first list nobody has anything to send.
  module _ (f : Faulty Model) (k : Whole publication f.world) (first : List Action) (others : AreOther first) (each : EachMeanwhile publication says HasSent f first) where
    quiet-end : AreQuiet (behind_actions publication says f first).world
    quiet-end n t at =
        let begun = (all-walk first f k others).sites n t at in
        let keyed : begun.tables.site.0 ≡ n = own-site f.world k n begun.tables begun.found in
        let own : subscriber_at f.world.world begun.tables.site ≡ Some begun.tables = subst (λ (i : ℕ). at_number f.world.world.subscribers i ≡ Some begun.tables) (sym keyed) begun.found in
        let place : Meanwhile publication says (HasSent begun.tables.site) f first = each begun.tables own in
        let sent : HasSent begun.tables.site (behind_actions publication says f place.before).world = place.holds in
        let middle : Model = (behind_actions publication says f place.before).world in
        let whole : Whole publication middle = whole-there f k (HasSent begun.tables.site) first others place in
        let walk : Walks middle (behind_actions publication says f first).world = walks-end f k (HasSent begun.tables.site) first others place in
        let came = walk.sites n t at in
        let stood : at_number middle.world.subscribers n ≡ Some sent.tables = subst (λ (i : ℕ). at_number middle.world.subscribers i ≡ Some sent.tables) keyed sent.here in
        let same : came.tables ≡ sent.tables = some_same came.tables sent.tables (sym came.found ∙ stood) in
        let filed : sent.tables.site.0 ≡ n = own-site middle whole n sent.tables stood in
        let here : subscriber_at middle.world sent.tables.site ≡ Some sent.tables = subst (λ (i : ℕ). at_number middle.world.subscribers i ≡ Some sent.tables) (sym filed) stood in
        let quiet : IsQuietAt middle n sent.tables = subst (λ (i : ℕ). IsQuietAt middle i sent.tables) filed (quiet-of middle whole sent.tables here sent.joined sent.nothing) in
        quiet-later middle (behind_actions publication says f first).world walk n sent.tables t (named-at middle whole n sent.tables stood) (subst (λ (x : SubscriberTables). Rises x t) same came.rises) quiet

  -- Behind the second each has taken all.
  module _ (f : Faulty Model) (k : Whole publication f.world) (quiet : AreQuiet f.world) (second : List Action) (others : AreOther second) (each : EachMeanwhile publication says HasTaken f second) where
    abbrev done : Faulty Model
    done = behind_actions publication says f second

    settles : (s : SubscriberTables) → subscriber_at done.world.world s.site ≡ Some s → is_expired_at publication done.world.world s.site ≡ false → IsSettled publication done.world s
    settles s at live =
        let n : ℕ = s.site.0 in
        let begun = (all-walk second f k others).sites n s at in
        let keyed : begun.tables.site.0 ≡ n = own-site f.world k n begun.tables begun.found in
        let own : subscriber_at f.world.world begun.tables.site ≡ Some begun.tables = subst (λ (i : ℕ). at_number f.world.world.subscribers i ≡ Some begun.tables) (sym keyed) begun.found in
        let place : Meanwhile publication says (HasTaken begun.tables.site) f second = each begun.tables own in
        let middle : Model = (behind_actions publication says f place.before).world in
        let took : HasTaken begun.tables.site middle = place.holds in
        let walk : Walks middle done.world = walks-end f k (HasTaken begun.tables.site) second others place in
        let came = walk.sites n s at in
        let stood : at_number middle.world.subscribers n ≡ Some took.tables = subst (λ (i : ℕ). at_number middle.world.subscribers i ≡ Some took.tables) keyed took.here in
        let same : came.tables ≡ took.tables = some_same came.tables took.tables (sym came.found ∙ stood) in
        let rises : Rises took.tables s = subst (λ (x : SubscriberTables). Rises x s) same came.rises in
        let quiet_there : AreQuiet middle = quiets-later f.world middle k (walks-there f k (HasTaken begun.tables.site) second others place) quiet in
        let still = still-end f k (HasTaken begun.tables.site) second others place quiet_there took.none_open in
        let whole : Whole publication done.world = whole-behind second f k in
        let holds : SiteHolds (site_view publication done.world.world.publisher (made_in done.world.history.made n) n) s =
        subst (λ (found : Option SubscriberTables). IfSome found (SiteHolds (site_view publication done.world.world.publisher (made_in done.world.history.made n) n))) at (whole.settled.sites.sites n) in
        let up : took.tables.watermark ≤ s.watermark = rises.watermark in
        let down : s.watermark ≤ last_closed done.world.world.publisher = holds.marks in
        let held : took.tables.watermark ≡ last_closed middle.world.publisher = took.all_held in
        let stays : last_closed done.world.world.publisher ≡ last_closed middle.world.publisher = still.1 in
        let last : IsQuietAt done.world n s = quiets-later f.world done.world k (all-walk second f k others) quiet n s at in
        record {
          is_here = at;
          joined = last.0;
          in_time = live;
          nothing_unsent = none-nothing done.world.history s (up-none s.received s.received (subscriber_last_closed s + 1) (made_at done.world.history n) (omega arith) last.1);
          all_held = omega (arith, up, down, held, stays);
          none_open = still.0;
        }

  rounds-settle : (m : Model) → Whole publication m → SpacedRoundsSettle publication says m
  rounds-settle m k slips first second one other sent taken s at live =
      let f : Faulty Model = behind_actions publication says (faulty m slips) first in
      settles f (whole-behind first (faulty m slips) k) (quiet-end (faulty m slips) k first one sent) second other taken s at live

  whole-by-actions : (tallies : List ℕ) (slips : Slips) (actions : List Action) → (resolvers : ℕ) × IsValid resolvers publication → Whole publication (model_behind_actions publication says tallies slips actions)
  whole-by-actions tallies slips actions valid =
      let m : Model = model_behind_actions publication says tallies slips actions in
      let settled = settled-by-actions publication says tallies slips actions valid in
      let counted = grounded-by-actions publication says tallies slips actions valid (λ (w : World) (h : History). AreFilled w h × EachHasChanges w h)
      (λ n action g b. (
        step-keeps publication says (Ground publication) AreFilled (λ w h ground. ground.received) (filled-keeps publication says) n action g b.0,
        step-keeps publication says (λ (w : World) (h : History). Ground publication w h × AreFilled w h) EachHasChanges (λ w h both. both.0.received) (has-keeps publication says) n action (g, b.0) b.1,
      ))
      (λ w h others b. b) (filled-begins publication tallies, has-begins publication tallies) in
      record { ground = settled.0; settled = settled.1; filled = counted.1.0; changes = counted.1.1 }

pub spaced-rounds : OfEveryValidActions SpacedRoundsSettle
spaced-rounds resolvers publication valid says tallies slips actions = rounds-settle publication says (model_behind_actions publication says tallies slips actions) (whole-by-actions publication says tallies slips actions (resolvers, valid))
