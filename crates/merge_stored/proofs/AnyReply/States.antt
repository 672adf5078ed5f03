-- What a start asks of a subscriber's state record, and what each step leaves of it.
use Rattle.std.specs.Prelude.{List, None, Option, Some, false, if◌then◌else◌, nat_lt, refl, true, ℕ, ◌+◌, ◌<◌, ◌==◌, ◌^◌, ◌≡◌, ◌≤◌}
use Rattle.std.proofs.Common.{arith}
use Rattle.std.proofs.lemmas.Bool.Decides.{nat_tests}
use Rattle.merge_types.specs.Limits.{counter_limit, entry_limit, number_limit}
use Rattle.merge_types.specs.declared.identifiers.Moment.{Moment}
use Rattle.merge_types.specs.declared.row_key.RowKey.{RowKey as Key}
use Rattle.merge_units.specs.declared.version.Version.{Version}
use Rattle.merge_gens.specs.Filling as fill
use Rattle.merge_gens.specs.declared.filling.Filling.{Filling}
use Rattle.merge_ident.specs.Holders.{Holder}
use Rattle.merge_batch.specs.declared.request.Outstanding.{Outstanding}
use Rattle.merge_batch.specs.declared.request.Outstanding.TheVariants as ask
use Rattle.merge_keeper.specs.Stored.{kind_of, outstanding_from, outstanding_number, outstanding_to}
use Rattle.merge_keeper.specs.SubscriberRules as of_subscriber
use Rattle.merge_keeper.specs.SubscriberStart as start_subscriber
use Rattle.merge_keeper.specs.States.{AreTalkNumbers, IsFront, is_talk}
use Rattle.merge_model.specs.Subscriber.Sending.{with_message}
use Rattle.merge_model.specs.Subscriber.{subscriber_at_moment, subscriber_closed, subscriber_last_closed, with_version_if}
use Rattle.merge_model.specs.Tables.{SubscriberTables}
use Rattle.merge_typed.specs.Typed.{MomentFits}
use Rattle.merge_typed.proofs.OwnValues.{max-low}
use Rattle.merge_honest.proofs.Bounded.{closed-unfilled, closed-up}
use Rattle.merge_stored.specs.States.{SubscriberStateLoads}
use Rattle.merge_stored.specs.Stored.{subscriber_stored}
use Rattle.merge_stored.proofs.Outstanding.{closed-up as closed-rises}
use Rattle.merge_stored.proofs.States.{asks-is, counter-is, fits-64, kind-low, phase-is}

-- the outstanding message has a number exactly where it has a kind, and its numbers fit
abbrev pub SentStands : Option (ℕ × Outstanding) → Type 0
SentStands found = (outstanding_number found < 2 ^ 64) × ((outstanding_from found < 2 ^ 64) × ((outstanding_to found < 2 ^ 64) × ((if outstanding_number found == 0 then kind_of found == 0 else nat_lt 0 (kind_of found)) ≡ true)))

pub record StateStands (s : SubscriberTables) : Type 0 where
  pub site : s.site.0 < 2 ^ 16
  pub changes : s.changes < number_limit
  pub closed : subscriber_last_closed s < number_limit
  pub conflict_count : s.conflict_count < number_limit
  pub unfilled : s.gens.filling.filled < entry_limit
  pub latest : MomentFits s.latest
  pub seq : s.seq < number_limit
  pub own : s.received ≤ subscriber_last_closed s
  pub mark : s.watermark < 2 ^ 64
  pub sent : SentStands s.outstanding

-- From what a start asks.

pub state-from : (s : SubscriberTables) → SubscriberStateLoads s → StateStands s
unfolding start_subscriber.state_is_sound start_subscriber.talk_is_sound
state-from s loads =
    let front = loads.0.0 in
    let talk = loads.0.1.0 in
    let sound = loads.1 in
    record {
      site = front.0;
      changes = grind (arith, nat_tests, sound);
      closed = grind (arith, nat_tests, sound);
      conflict_count = grind (arith, nat_tests, sound);
      unfilled = grind (arith, nat_tests, sound);
      latest = front.1.1.1.1.1;
      seq = grind (arith, nat_tests, sound);
      own = grind (arith, nat_tests, sound);
      mark = talk.1.1.1.1.1.0;
      sent = (talk.1.0, (talk.1.1.0, (talk.1.1.1.0, grind (arith, sound))));
    }

-- And to it.

module _ (s : SubscriberTables) (b : StateStands s) where
  front-fits : IsFront (of_subscriber.state_of (subscriber_stored s)).front
  front-fits =
      let filled = b.unfilled in
      (b.site, (fits-64 s.changes b.changes, (fits-64 (subscriber_last_closed s) b.closed, (omega (arith, filled), (fits-64 s.conflict_count b.conflict_count, b.latest)))))

  numbers-fit : AreTalkNumbers (of_subscriber.state_of (subscriber_stored s)).talk
  numbers-fit =
      let own = b.own in
      let closed = b.closed in
      (fits-64 s.seq b.seq, (b.sent.0, (b.sent.1.0, (b.sent.1.1.0, (omega (arith, own, closed), (b.mark, (kind-low s.outstanding, (phase-is s.is_joined).0)))))))

  talk-is : is_talk (of_subscriber.state_of (subscriber_stored s)).talk ≡ true
  talk-is = (let one = asks-is s.outstanding in let two = (phase-is s.is_joined).1 in grind (arith, one, two))

  talk-sound : start_subscriber.talk_is_sound (of_subscriber.state_of (subscriber_stored s)).talk ≡ true
  unfolding start_subscriber.talk_is_sound
  talk-sound = (let one = counter-is s.seq b.seq in let two = b.sent.1.1.1 in grind (arith, one, two))

  state-sound : start_subscriber.state_is_sound s.site s.conflict_count (of_subscriber.state_of (subscriber_stored s)) ≡ true
  unfolding start_subscriber.state_is_sound
  state-sound =
      let one = counter-is s.changes b.changes in
      let two = counter-is (subscriber_last_closed s) b.closed in
      let three = counter-is s.conflict_count b.conflict_count in
      let four = talk-sound in
      let filled = b.unfilled in
      let own = b.own in
      grind (arith, nat_tests, one, two, three, four, filled, own)

  pub state-loads : SubscriberStateLoads s
  state-loads = ((front-fits, (numbers-fit, talk-is)), state-sound)

-- The small steps.

pub at-state : (now : Moment) (s : SubscriberTables) → MomentFits now → StateStands s → StateStands (subscriber_at_moment now s)
at-state now s fits b = record {
  site = b.site;
  changes = b.changes;
  closed = b.closed;
  conflict_count = b.conflict_count;
  unfilled = b.unfilled;
  latest = max-low now.0 s.latest.0 fits b.latest;
  seq = b.seq;
  own = b.own;
  mark = b.mark;
  sent = b.sent;
}

pub closed-state : (s : SubscriberTables) → subscriber_last_closed s < counter_limit → StateStands s → StateStands (subscriber_closed s)
closed-state s low b = record {
  site = b.site;
  changes = b.changes;
  closed = (let up = closed-up s.gens.filling in omega (arith, up, low));
  conflict_count = b.conflict_count;
  unfilled = closed-unfilled s.gens.filling;
  latest = b.latest;
  seq = b.seq;
  own = (let up = closed-rises s.gens.filling in let own = b.own in omega (arith, up, own));
  mark = b.mark;
  sent = b.sent;
}

-- a message, with the next number
abbrev pub AskFits : Outstanding → Type 0
AskFits (ask.Upload from to) = (from < 2 ^ 64) × (to < 2 ^ 64)
AskFits (ask.Download from) = from < 2 ^ 64
AskFits sent = Unit {0}

number-some : (n : ℕ) → (n + 1 == 0) ≡ false
number-some n = grind (arith, nat_tests)

new-sent : (seq : ℕ) (sent : Outstanding) → seq < counter_limit → AskFits sent → SentStands (Some (seq + 1, sent))
new-sent seq ask.Join low fits = (omega (arith, low), (omega arith, (omega arith, (let some = number-some seq in grind (arith, some)))))
new-sent seq ask.Ranges low fits = (omega (arith, low), (omega arith, (omega arith, (let some = number-some seq in grind (arith, some)))))
new-sent seq (ask.Upload from to) low fits = (omega (arith, low), (fits.0, (fits.1, (let some = number-some seq in grind (arith, some)))))
new-sent seq (ask.Download from) low fits = (omega (arith, low), (fits, (omega arith, (let some = number-some seq in grind (arith, some)))))

pub sent-state : (sent : Outstanding) (s : SubscriberTables) → s.seq < counter_limit → AskFits sent → StateStands s → StateStands (with_message sent s)
sent-state sent s low fits b = record {
  site = b.site;
  changes = b.changes;
  closed = b.closed;
  conflict_count = b.conflict_count;
  unfilled = b.unfilled;
  latest = b.latest;
  seq = omega (arith, low);
  own = b.own;
  mark = b.mark;
  sent = new-sent s.seq sent low fits;
}

-- A local change.

pub entered-rises : (filling : Filling) → filling.last_closed ≤ (fill.filled_by filling 1).last_closed
entered-rises filling = omega arith

entered-up : (filling : Filling) → filling.filled < entry_limit → (fill.filled_by filling 1).last_closed ≤ filling.last_closed + 1
entered-up filling low = omega (arith, low)

entered-unfilled : (filling : Filling) → (fill.filled_by filling 1).filled < entry_limit
entered-unfilled filling = omega arith

pub changed-state : (key : Key) (found : Option Version) (held : List (ℕ × Holder)) (s : SubscriberTables) → s.changes < counter_limit → subscriber_last_closed s < counter_limit → StateStands s
    → (let u : SubscriberTables = record s { changes = s.changes + 1; held = held } in StateStands (with_version_if key found u))
changed-state key None held s low closed b = record {
  site = b.site;
  changes = omega (arith, low);
  closed = b.closed;
  conflict_count = b.conflict_count;
  unfilled = b.unfilled;
  latest = b.latest;
  seq = b.seq;
  own = b.own;
  mark = b.mark;
  sent = b.sent;
}
changed-state key (Some version) held s low closed b = record {
  site = b.site;
  changes = omega (arith, low);
  closed = (let up = entered-up s.gens.filling b.unfilled in omega (arith, up, closed));
  conflict_count = b.conflict_count;
  unfilled = entered-unfilled s.gens.filling;
  latest = b.latest;
  seq = b.seq;
  own = (let up = entered-rises s.gens.filling in let own = b.own in omega (arith, up, own));
  mark = b.mark;
  sent = b.sent;
}

-- A reply leaves no message outstanding.

pub none-sent : SentStands None
none-sent = (omega arith, (omega arith, (omega arith, refl)))
