-- The state records of the sites, after every list of events.
use Rattle.std.specs.Prelude.{Bool, None, Option, Some, false, if◌then◌else◌, nat_lt, refl, true, ℕ, ◌||◌, ◌<◌, ◌==◌, ◌^◌, ◌≡◌, ◌≤◌}
use Rattle.std.proofs.Common.{arith}
use Rattle.std.proofs.lemmas.Bool.Decides.{nat_tests}
use Rattle.merge_types.specs.Limits.{number_limit}
use Rattle.merge_batch.specs.declared.request.Outstanding.{Outstanding}
use Rattle.merge_batch.specs.declared.request.Outstanding.TheVariants as ask
use Rattle.merge_keeper.specs.PublisherRules as of_publisher
use Rattle.merge_keeper.specs.PublisherStart as start_publisher
use Rattle.merge_keeper.specs.Start.{is_counter}
use Rattle.merge_keeper.specs.States.{AreTalkNumbers, IsFront, asks, is_talk}
use Rattle.merge_keeper.specs.Stored.{kind_of, outstanding_from, outstanding_number, outstanding_to, phase_number}
use Rattle.merge_keeper.specs.SubscriberRules as of_subscriber
use Rattle.merge_keeper.specs.SubscriberStart as start_subscriber
use Rattle.merge_model.specs.Tables.Keys.{at_number}
use Rattle.merge_model.specs.History.Model.{Model}
use Rattle.merge_model.specs.Failing.Runs.{model_behind}
use Rattle.merge_model.specs.Subscriber.{subscriber_last_closed}
use Rattle.merge_model.specs.Tables.{PublisherTables, SubscriberTables}
use Rattle.merge_typed.specs.Typed.{MomentFits}
use Rattle.merge_laws.specs.Laws.{OfEveryValidRun}
use Rattle.merge_laws.specs.Facts.Settled.{SiteHolds, made_in, site_view}
use Rattle.merge_laws.specs.Facts.Watermarks.{StateHolds, state_in}
use Rattle.merge_laws.proofs.Settled.SettledWorlds.{if-found}
use Rattle.merge_honest.specs.Bounded.{PublisherIsBounded}
use Rattle.merge_honest.proofs.Rules.{Known, known-always}
use Rattle.merge_stored.specs.Conflicts.{AllConflictsAreKept}
use Rattle.merge_stored.specs.States.{OutstandingFits, SentFits, StatesLoad, SubscriberStateLoads}
use Rattle.merge_stored.specs.Stored.{publisher_stored, subscriber_stored}
use Rattle.merge_stored.proofs.Conflicts.{conflicts-kept}
use Rattle.merge_stored.proofs.Outstanding.{outstanding-fits}

pub counter-is : (n : ℕ) → n < number_limit → is_counter n ≡ true
counter-is n low = grind (arith, nat_tests, low)

pub fits-64 : (n : ℕ) → n < number_limit → n < 2 ^ 64
fits-64 n low = omega (arith, low)

pub closed-low : (p : PublisherTables) → PublisherIsBounded p → p.gens.filling.last_closed < number_limit
closed-low p bounded = (let low = bounded.closed in omega (arith, low))

-- The publisher.

module _ (p : PublisherTables) (changes : p.changes < number_limit) (closed : p.gens.filling.last_closed < number_limit) (conflicts : p.conflict_count < number_limit) (filled : p.gens.filling.filled < 1000) (latest : MomentFits p.latest) where
  pub front-fits : IsFront (of_publisher.state_of (publisher_stored p))
  front-fits = (omega arith, (fits-64 p.changes changes, (fits-64 p.gens.filling.last_closed closed, (omega (arith, filled), (fits-64 p.conflict_count conflicts, latest)))))

  pub front-sound : start_publisher.state_is_sound p.conflict_count (of_publisher.state_of (publisher_stored p)) ≡ true
  unfolding start_publisher.state_is_sound
  front-sound =
      let one = counter-is p.changes changes in
      let two = counter-is p.gens.filling.last_closed closed in
      let three = counter-is p.conflict_count conflicts in
      grind (arith, nat_tests, one, two, three, filled)

-- A subscriber.

-- a number that was given, and where a message goes from and to
talk-of : (last watermark seq limit : ℕ) (found : Option (ℕ × Outstanding)) → SentFits last found → last < limit → watermark < limit → ((number : ℕ) (sent : Outstanding) → found ≡ Some (number, sent) → number ≡ seq) → ((number from : ℕ) → found ≡ Some (number, ask.Download from) → from ≡ watermark) → seq < limit
    → (outstanding_number found < limit) × ((outstanding_from found < limit) × (outstanding_to found < limit))
talk-of last watermark seq limit None fits closed mark given asked low = (omega (arith, low), (omega (arith, low), omega (arith, low)))
talk-of last watermark seq limit (Some (number, ask.Join)) fits closed mark given asked low = (let same = given number ask.Join refl in (omega (arith, low, same), (omega (arith, low), omega (arith, low))))
talk-of last watermark seq limit (Some (number, ask.Ranges)) fits closed mark given asked low = (let same = given number ask.Ranges refl in (omega (arith, low, same), (omega (arith, low), omega (arith, low))))
talk-of last watermark seq limit (Some (number, ask.Upload from to)) fits closed mark given asked low =
    (let same = given number (ask.Upload from to) refl in let begin = fits.1.0 in let end = fits.1.1 in (omega (arith, low, same), (omega (arith, begin, closed), omega (arith, end, closed))))
talk-of last watermark seq limit (Some (number, ask.Download from)) fits closed mark given asked low =
    (let same = given number (ask.Download from) refl in let here = asked number from refl in (omega (arith, low, same), (omega (arith, here, mark), omega (arith, low))))

pub phase-is : (joined : Bool) → (phase_number joined < 2 ^ 8) × (((phase_number joined == 1) || (phase_number joined == 2)) ≡ true)
phase-is true = (omega arith, refl)
phase-is false = (omega arith, refl)

pub kind-low : (found : Option (ℕ × Outstanding)) → kind_of found < 2 ^ 8
kind-low None = omega arith
kind-low (Some (number, ask.Join)) = omega arith
kind-low (Some (number, ask.Upload from to)) = omega arith
kind-low (Some (number, ask.Ranges)) = omega arith
kind-low (Some (number, ask.Download from)) = omega arith

pub asks-is : (found : Option (ℕ × Outstanding)) → asks (kind_of found) (outstanding_from found) (outstanding_to found) ≡ true
asks-is None = refl
asks-is (Some (number, ask.Join)) = refl
asks-is (Some (number, ask.Upload from to)) = refl
asks-is (Some (number, ask.Ranges)) = refl
asks-is (Some (number, ask.Download from)) = refl

-- a message has a kind exactly where it has a number
one-on : (number : ℕ) → 1 ≤ number → (number == 0) ≡ false
one-on number low = grind (arith, nat_tests, low)

kinds-agree : (last : ℕ) (found : Option (ℕ × Outstanding)) → SentFits last found → (if outstanding_number found == 0 then kind_of found == 0 else nat_lt 0 (kind_of found)) ≡ true
kinds-agree last None fits = refl
kinds-agree last (Some (number, ask.Join)) fits = (let some = one-on number fits.0 in grind (arith, some))
kinds-agree last (Some (number, ask.Upload from to)) fits = (let some = one-on number fits.0 in grind (arith, some))
kinds-agree last (Some (number, ask.Ranges)) fits = (let some = one-on number fits.0 in grind (arith, some))
kinds-agree last (Some (number, ask.Download from)) fits = (let some = one-on number fits.0 in grind (arith, some))

module _ (s : SubscriberTables) (site : s.site.0 ≤ 63) (changes : s.changes < number_limit) (closed : subscriber_last_closed s < number_limit) (conflicts : s.conflict_count < number_limit) (filled : s.gens.filling.filled < 1000) (latest : MomentFits s.latest) (seq : s.seq < number_limit) (own : s.received ≤ subscriber_last_closed s)
    (mark : s.watermark < number_limit) (fits : OutstandingFits s) (given : (number : ℕ) (sent : Outstanding) → s.outstanding ≡ Some (number, sent) → number ≡ s.seq) (asked : (number from : ℕ) → s.outstanding ≡ Some (number, ask.Download from) → from ≡ s.watermark) where
  sub-front : IsFront (of_subscriber.state_of (subscriber_stored s)).front
  sub-front = (omega (arith, site), (fits-64 s.changes changes, (fits-64 (subscriber_last_closed s) closed, (omega (arith, filled), (fits-64 s.conflict_count conflicts, latest)))))

  numbers-fit : AreTalkNumbers (of_subscriber.state_of (subscriber_stored s)).talk
  numbers-fit =
      let sent = talk-of (subscriber_last_closed s) s.watermark s.seq number_limit s.outstanding fits closed mark given asked seq in
      (fits-64 s.seq seq, (fits-64 (outstanding_number s.outstanding) sent.0, (fits-64 (outstanding_from s.outstanding) sent.1.0, (fits-64 (outstanding_to s.outstanding) sent.1.1, (omega (arith, own, closed), (fits-64 s.watermark mark, (kind-low s.outstanding, (phase-is s.is_joined).0)))))))

  talk-is : is_talk (of_subscriber.state_of (subscriber_stored s)).talk ≡ true
  talk-is = (let one = asks-is s.outstanding in let two = (phase-is s.is_joined).1 in grind (arith, one, two))

  talk-sound : start_subscriber.talk_is_sound (of_subscriber.state_of (subscriber_stored s)).talk ≡ true
  unfolding start_subscriber.talk_is_sound
  talk-sound = (let one = counter-is s.seq seq in let two = kinds-agree (subscriber_last_closed s) s.outstanding fits in grind (arith, one, two))

  sub-sound : start_subscriber.state_is_sound s.site s.conflict_count (of_subscriber.state_of (subscriber_stored s)) ≡ true
  unfolding start_subscriber.state_is_sound
  sub-sound =
      let one = counter-is s.changes changes in
      let two = counter-is (subscriber_last_closed s) closed in
      let three = counter-is s.conflict_count conflicts in
      let four = talk-sound in
      grind (arith, nat_tests, one, two, three, four, filled, own)

  sub-loads : SubscriberStateLoads s
  sub-loads = ((sub-front, (numbers-fit, talk-is)), sub-sound)

pub states-load : OfEveryValidRun StatesLoad
states-load resolvers publication valid says tallies slips events =
    let m : Model = model_behind publication says tallies slips events in
    let k : Known publication m = known-always publication says tallies slips events (resolvers, valid) in
    let c : AllConflictsAreKept publication m = conflicts-kept publication says tallies slips events (resolvers, valid) in
    let p : PublisherTables = m.world.publisher in
    let closed = closed-low p k.bounded.publisher in record {
      publisher = λ latest. (let changes : p.changes < number_limit = (let low = k.bounded.publisher in omega (arith, low)) in let filled = k.whole.0.0.sorted.generations_ascend.unfilled in
          (front-fits p changes closed c.publisher.low filled latest, front-sound p changes closed c.publisher.low filled latest));
      subscribers = λ n s at latest. (
          let b = k.bounded.subscribers n s at in
          let r = k.whole.0.0.received.subscribers n s at in
          let marks = if-found (SiteHolds (site_view publication p (made_in m.history.made n) n)) (at_number m.world.subscribers n) s at (k.whole.0.1.sites.sites n) in
          let holds = if-found (StateHolds (state_in p.sites n)) (at_number m.world.subscribers n) s at (k.whole.0.0.watermarks.sites n) in
          let low = k.kept.grounded.1.1.0 n s at in
          let same = r.keyed in
          sub-loads s (omega (arith, low, same)) (let low = b.changes in omega (arith, low)) (let low = b.closed in omega (arith, low)) (c.subscribers n s at).low b.unfilled latest (let low = b.seq in omega (arith, low)) r.own
          (let low = marks.marks in omega (arith, low, closed)) (outstanding-fits publication says tallies slips events (resolvers, valid) n s at) r.last (λ number from out. holds.asked number from out));
    }
