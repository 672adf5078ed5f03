-- The tables and messages of every typed run are typed: ranges, then moments and values.
use Rattle.std.specs.BTreeMap.{is_at}
use Rattle.std.specs.List.{AllByRecursion}
use Rattle.std.specs.Ordering.{nat_cmp}
use Rattle.std.specs.Prelude.{All, IfOk, IfSome, List, Option, Some, [], refl, ℕ, ◌+◌, ◌<◌, ◌^◌, ◌≡◌}
use Rattle.std.proofs.Common.{arith, subst}
use Rattle.merge_types.specs.declared.changes.Change.{Change}
use Rattle.merge_types.specs.declared.identifiers.RowId.{RowId}
use Rattle.merge_types.specs.declared.values.Value.{Value}
use Rattle.merge_ident.specs.Books.{IsRule}
use Rattle.merge_ident.specs.Grants.{granted_to}
use Rattle.merge_ident.specs.Holders.{Holder}
use Rattle.merge_ident.proofs.Stored.{no_grants}
use Rattle.merge_schema.specs.declared.publication.Identity.{Identity}
use Rattle.merge_schema.specs.declared.publication.Publication.{Publication}
use Rattle.merge_schema.specs.declared.publication.Subscription.{Subscription}
use Rattle.merge_batch.specs.declared.reply.Reply.{Reply}
use Rattle.merge_batch.specs.declared.reply.Reply.TheVariants as reply
use Rattle.merge_batch.specs.declared.request.Download.{Download}
use Rattle.merge_batch.specs.declared.request.Join.{Join}
use Rattle.merge_batch.specs.declared.request.RangeAsk.{RangeAsk}
use Rattle.merge_batch.specs.declared.request.Request.{Request}
use Rattle.merge_batch.specs.declared.request.Upload.{Upload}
use Rattle.merge_record.specs.Versions.{IsValue}
use Rattle.merge_model.specs.Judge.ByHistory.{by_history}
use Rattle.merge_model.specs.Failing.{Slips, faulty}
use Rattle.merge_model.specs.Tables.Keys.{at_number}
use Rattle.merge_model.specs.History.Model.{Model, empty_model, model, model_step}
use Rattle.merge_model.specs.Tables.Publications.{by_site, identities, rules_of}
use Rattle.merge_model.specs.Publisher.{holder_for, new_holders}
use Rattle.merge_model.specs.Publisher.PublisherLocal.{Drawn, draw_for_change}
use Rattle.merge_model.specs.Subscriber.Reinit.{reinitialise}
use Rattle.merge_model.specs.Failing.Runs.{model_behind}
use Rattle.merge_model.specs.World.Steps.{Action, Pass, kept_decisions, upload_questions}
use Rattle.merge_model.specs.Subscriber.Sending.{make_ask, make_join, make_ranges, make_upload}
use Rattle.merge_model.specs.Subscriber.{close_subscriber_generation, empty_subscriber, subscriber_drawn, subscriber_local}
use Rattle.merge_model.specs.Tables.{PublisherTables, SubscriberTables}
use Rattle.merge_model.specs.Subscriber.Taking.{take_reply}
use Rattle.merge_model.specs.World.{Saying, World, empty_subscribers, empty_world}
use Rattle.merge_model.specs.declared.outcome.Taken.{Taken}
use Rattle.merge_model.specs.declared.event.Event.{Event}
use Rattle.merge_model.specs.declared.letter.Message.{Message}
use Rattle.merge_model.specs.declared.letter.Message.TheVariants.{Asks, Replies}
use Rattle.merge_model.proofs.Lists.Finding.{all-weaker}
use Rattle.merge_model.proofs.Lists.{OfSome, all-both, all-map, all-unit}
use Rattle.merge_typed.specs.Laws.{MessagesAreTyped, OfEveryTypedRun, TablesAreTyped}
use Rattle.merge_typed.specs.Messages.{LetterIsTyped, MessageIsTyped, RequestIsTyped}
use Rattle.merge_typed.specs.Outside.{EventsAreTyped, RuleIsTyped}
use Rattle.merge_typed.specs.Typed.{HolderIsTyped}
use Rattle.merge_typed.proofs.Calls.{any-ok, any-some, ok-weaker}
use Rattle.merge_typed.proofs.Entries.{values-found}
use Rattle.merge_typed.proofs.Holders.{HolderFits, holder-typed, new-fits}
use Rattle.merge_typed.proofs.Moments.{OwnMoments, moments-asked, moments-closed, moments-joined, moments-local, moments-purged, moments-ranged, moments-uploaded}
use Rattle.merge_typed.proofs.OwnRanges.{Drew, OwnFits, OwnRanges, draws, ranges-asked, ranges-closed, ranges-joined, ranges-local, ranges-purged, ranges-ranged, ranges-uploaded}
use Rattle.merge_typed.proofs.OwnValues.{OwnValues, values-asked, values-closed, values-joined, values-local, values-purged, values-ranged, values-uploaded}
use Rattle.merge_typed.proofs.Runs.{runs-keep}
use Rattle.merge_typed.proofs.SubscriberRanges.{HeldFits, ReplyRanges, SubscriberDrew, SubscriberRanges, ranges-anew, ranges-ask, ranges-join, ranges-ranges, ranges-reply, ranges-sub-closed, ranges-sub-local, ranges-upload, sub-draws}
use Rattle.merge_typed.proofs.SubscriberValues.{ReplyOrders, SubscriberValues, values-anew, values-ask, values-join, values-ranges, values-reply, values-sub-closed, values-sub-local, values-upload}
use Rattle.merge_typed.proofs.Walk.{ActionIsTyped, CallsKeep, Fits, OfLetter, OfMessage, act-fits, pass-fits}

-- nothing is asked
abbrev OfOwn : PublisherTables → Type 0
OfOwn p = Unit {0}

abbrev OfSub : SubscriberTables → Type 0
OfSub s = Unit {0}

abbrev OfRequest : Request → Type 0
OfRequest m = Unit {0}

abbrev OfReply : Reply → Type 0
OfReply m = Unit {0}

abbrev None-of : (X : Type 0) → SubscriberTables × X → Type 0
None-of X x = OfSub x.0 × Unit {0}

abbrev Nothing : (X : Type 0) → Option (SubscriberTables × X) → Type 0
Nothing X made = IfSome made (None-of X)

-- In the beginning.
begins : (publication : Publication) (S : SubscriberTables → Type 0) → ((s : Subscription) → S (empty_subscriber publication s.site)) → (n : ℕ) (t : SubscriberTables) → at_number (empty_subscribers publication) n ≡ Some t → S t
begins publication S each n t at = subst (λ (found : Option SubscriberTables). OfSome S found) at (values-found S (is_at (nat_cmp n)) (empty_subscribers publication)
    (all-map (λ (s : ℕ × Subscription). Unit {0}) (λ (entry : ℕ × SubscriberTables). S entry.1) (λ (s : ℕ × Subscription). (s.0, empty_subscriber publication s.1.site)) (λ s none. each s.1) (by_site publication) (all-unit (by_site publication))))

new-held : (publication : Publication) → HeldFits (new_holders publication)
new-held publication = all-map (λ (place : ℕ × Identity). Unit {0}) (λ (entry : ℕ × Holder). HolderFits entry.1) holder_for (λ place none. new-fits place.1.threshold) (identities publication) (all-unit (identities publication))

new-own : (publication : Publication) → AllByRecursion (OwnFits []) (new_holders publication)
new-own publication = all-map (λ (place : ℕ × Identity). Unit {0}) (OwnFits []) holder_for (λ place none. record { fits = new-fits place.1.threshold; few = omega arith }) (identities publication) (all-unit (identities publication))

module _ (publication : Publication) (rules : All IsRule (rules_of publication)) (typed : AllByRecursion RuleIsTyped (rules_of publication)) (says : Saying) where
  abbrev Ranges : PublisherTables → Type 0
  Ranges p = OwnRanges publication typed p

  -- what each call keeps
  ranges-keep : CallsKeep publication says OfOwn Ranges OfSub SubscriberRanges OfRequest ReplyRanges
  ranges-keep = record {
    of_local = λ judge now change p low is known r. ranges-local publication typed now p r judge change;
    of_close = λ now p low r. ranges-closed publication typed now p r;
    of_purge = λ now p low r. ranges-purged publication typed now p r;
    of_join = λ now m p low r. ranges-joined publication typed now p r m;
    of_upload = λ judge now m tallies p low is r. ranges-uploaded publication typed now p r judge m (kept_decisions says tallies (upload_questions publication judge now m p));
    of_ranges = λ judge now m p low r. ranges-ranged publication typed now p r judge m;
    of_ask = λ judge now m p low r. ranges-asked publication typed now p r judge m;
    of_subscriber_local = λ now change s low is known r. ranges-sub-local s r publication now change;
    of_subscriber_close = λ now s low r. ranges-sub-closed s r now;
    of_make_join = λ s r. ranges-join s r;
    of_make_upload = λ judge now s low r. ranges-upload s r judge now;
    of_make_ranges = λ s r. ranges-ranges s r;
    of_make_ask = λ s r. ranges-ask s r;
    of_reply = λ judge now m s low is r. ranges-reply s r publication judge now m is;
    of_anew = λ judge now s low r. ranges-anew s r judge now;
  }

  own-value : (p : PublisherTables) (change : Change) → Ranges p → IfOk (draw_for_change publication p change) (λ d. IsValue d.value)
  own-value p change r = ok-weaker (Drew publication typed) (λ (d : Drawn). IsValue d.value) (λ d drew. drew.value) (draw_for_change publication p change) (draws publication typed p change r)

  sub-value : (s : SubscriberTables) (change : Change) → SubscriberRanges s → IfOk (subscriber_drawn s change) (λ d. IsValue d.0)
  sub-value s change r = ok-weaker SubscriberDrew (λ (d : Value × List (ℕ × Holder)). IsValue d.0) (λ d drew. drew.value) (subscriber_drawn s change) (sub-draws s change r)

  values-keep : CallsKeep publication says Ranges OwnValues SubscriberRanges SubscriberValues RequestIsTyped ReplyOrders
  values-keep = record {
    of_local = λ judge now change p low is r v. values-local publication now p low v judge change is (own-value p change r);
    of_close = λ now p low v. values-closed publication now p low v;
    of_purge = λ now p low v. values-purged publication now p low v;
    of_join = λ now m p low v. values-joined publication now p low v m;
    of_upload = λ judge now m tallies p low is v. values-uploaded publication now p low v says judge m tallies is;
    of_ranges = λ judge now m p low v. values-ranged publication now p low v judge m;
    of_ask = λ judge now m p low v. values-asked publication now p low v judge m;
    of_subscriber_local = λ now change s low is r v. values-sub-local s v publication now change low is (sub-value s change r);
    of_subscriber_close = λ now s low v. values-sub-closed s v now low;
    of_make_join = λ s v. values-join s v;
    of_make_upload = λ judge now s low v. values-upload s v judge now low;
    of_make_ranges = λ s v. values-ranges s v;
    of_make_ask = λ s v. values-ask s v;
    of_reply = λ judge now m s low is v. values-reply s v publication judge now m low is;
    of_anew = λ judge now s low v. values-anew s v judge now low;
  }

  moments-keep : CallsKeep publication says OfOwn OwnMoments OfSub OfSub OfRequest OfReply
  moments-keep = record {
    of_local = λ judge now change p low is known f. moments-local publication now p low f judge change;
    of_close = λ now p low f. moments-closed publication now p low f;
    of_purge = λ now p low f. moments-purged publication now p low f;
    of_join = λ now m p low f. moments-joined publication now p low f m;
    of_upload = λ judge now m tallies p low is f. moments-uploaded publication now p low f judge m (kept_decisions says tallies (upload_questions publication judge now m p));
    of_ranges = λ judge now m p low f. moments-ranged publication now p low f judge m;
    of_ask = λ judge now m p low f. moments-asked publication now p low f judge m;
    of_subscriber_local = λ now change s low is known f. any-ok (λ (done : SubscriberTables × RowId). OfSub done.0) (λ done. tt) (subscriber_local publication now change s);
    of_subscriber_close = λ now s low f. any-ok (λ (done : SubscriberTables × ℕ). OfSub done.0) (λ done. tt) (close_subscriber_generation now s);
    of_make_join = λ s f. any-ok (Nothing Join) (any-some (None-of Join) (λ x. (tt, tt))) (make_join s);
    of_make_upload = λ judge now s low f. any-ok (Nothing Upload) (any-some (None-of Upload) (λ x. (tt, tt))) (make_upload judge now s);
    of_make_ranges = λ s f. any-ok (Nothing RangeAsk) (any-some (None-of RangeAsk) (λ x. (tt, tt))) (make_ranges s);
    of_make_ask = λ s f. any-ok (None-of Download) (λ x. (tt, tt)) (make_ask s);
    of_reply = λ judge now m s low is f. any-ok (λ (done : SubscriberTables × Taken). OfSub done.0) (λ done. tt) (take_reply publication judge now m s);
    of_anew = λ judge now s low f. any-ok (λ (done : SubscriberTables × ℕ). OfSub done.0) (λ done. tt) (reinitialise judge now s);
  }

  -- All three, in each step.

  abbrev RangesFitIn : ℕ → World → Type 0
  RangesFitIn latest w = Fits publication says OfOwn Ranges OfSub SubscriberRanges OfRequest ReplyRanges latest w

  abbrev MomentsFitIn : ℕ → World → Type 0
  MomentsFitIn latest w = Fits publication says OfOwn OwnMoments OfSub OfSub OfRequest OfReply latest w

  abbrev ValuesFitIn : ℕ → World → Type 0
  ValuesFitIn latest w = Fits publication says Ranges OwnValues SubscriberRanges SubscriberValues RequestIsTyped ReplyOrders latest w

  record AllFit (latest : ℕ) (w : World) : Type 0 where
    ranges : RangesFitIn latest w
    moments : MomentsFitIn latest w
    values : ValuesFitIn latest w

  acts : (latest : ℕ) (m : Model) (action : Action) → latest < 2 ^ 64 → ActionIsTyped action → AllFit latest m.world → AllFit latest (model_step publication says m action).0.world
  acts latest m action low is f = record {
    ranges = act-fits publication says OfOwn Ranges OfSub SubscriberRanges OfRequest ReplyRanges latest low m.world f.ranges tt (λ n s at. tt) ranges-keep (by_history m.history) action is;
    moments = act-fits publication says OfOwn OwnMoments OfSub OfSub OfRequest OfReply latest low m.world f.moments tt (λ n s at. tt) moments-keep (by_history m.history) action is;
    values = act-fits publication says Ranges OwnValues SubscriberRanges SubscriberValues RequestIsTyped ReplyOrders latest low m.world f.values f.ranges.publisher f.ranges.subscribers values-keep (by_history m.history) action is;
  }

  passes : (latest seconds : ℕ) (m : Model) → AllFit latest m.world → AllFit (latest + seconds) (model_step publication says m (Pass seconds)).0.world
  passes latest seconds m f = record {
    ranges = pass-fits publication says OfOwn Ranges OfSub SubscriberRanges OfRequest ReplyRanges latest seconds m.world f.ranges;
    moments = pass-fits publication says OfOwn OwnMoments OfSub OfSub OfRequest OfReply latest seconds m.world f.moments;
    values = pass-fits publication says Ranges OwnValues SubscriberRanges SubscriberValues RequestIsTyped ReplyOrders latest seconds m.world f.values;
  }

  tallied : (latest : ℕ) (w : World) (tallies : List ℕ) → AllFit latest w → AllFit latest (record w { tallies = tallies })
  tallied latest w tallies f = record {
    ranges = record { publisher = f.ranges.publisher; subscribers = f.ranges.subscribers; letters = f.ranges.letters; moment = f.ranges.moment };
    moments = record { publisher = f.moments.publisher; subscribers = f.moments.subscribers; letters = f.moments.letters; moment = f.moments.moment };
    values = record { publisher = f.values.publisher; subscribers = f.values.subscribers; letters = f.values.letters; moment = f.values.moment };
  }

  begin : (tallies : List ℕ) → AllFit 0 (empty_world publication tallies)
  begin tallies = record {
    ranges = record {
      publisher = record { book = record { book = record { rules_fit = rules; grants_fit = no_grants; in_order = tt }; typed = tt; room = λ article site. (let none : granted_to article site [] ≡ 0 = refl in omega (arith, none)) }; held = new-own publication };
      subscribers = begins publication SubscriberRanges (λ s. new-held publication);
      letters = tt;
      moment = omega arith;
    };
    moments = record { publisher = record { closings = tt; sites = tt; latest = omega arith }; subscribers = λ n s at. tt; letters = tt; moment = omega arith };
    values = record {
      publisher = record { rows = tt; conflicts = tt; latest = omega arith };
      subscribers = begins publication SubscriberValues (λ s. record { rows = tt; conflicts = tt; latest = omega arith });
      letters = tt;
      moment = omega arith;
    };
  }

  always : (tallies : List ℕ) (slips : Slips) (events : List Event) → EventsAreTyped events → (last : ℕ) × AllFit last (model_behind publication says tallies slips events).world
  always tallies slips events is =
      let low : 0 < 2 ^ 64 = omega arith in
      runs-keep publication (model publication says) (λ (latest : ℕ) (m : Model). AllFit latest m.world) acts passes (λ latest m others f. tallied latest m.world others f) events 0 (faulty (empty_model publication tallies) slips) low is.values is.moments (begin tallies)

  -- What it says of tables and messages.

  tables-typed : (last : ℕ) (m : Model) → AllFit last m.world → TablesAreTyped m
  tables-typed last m f = record {
    publisher = record {
      rows = f.values.publisher.rows;
      conflicts = f.values.publisher.conflicts;
      closings = f.moments.publisher.closings;
      sites = f.moments.publisher.sites;
      grants = f.ranges.publisher.book.typed;
      held = all-weaker (OwnFits m.world.publisher.grants) HolderIsTyped (λ entry own. holder-typed entry own.fits) m.world.publisher.held f.ranges.publisher.held;
      latest = f.values.publisher.latest;
    };
    subscribers = λ n s at. (let v : SubscriberValues s = f.values.subscribers n s at in record {
      rows = v.rows;
      conflicts = v.conflicts;
      held = all-weaker (λ (entry : ℕ × Holder). HolderFits entry.1) HolderIsTyped holder-typed s.held (f.ranges.subscribers n s at);
      latest = v.latest;
    });
  }

  message-typed : (message : Message) → OfMessage publication says OfOwn Ranges OfSub SubscriberRanges OfRequest ReplyRanges message → OfMessage publication says Ranges OwnValues SubscriberRanges SubscriberValues RequestIsTyped ReplyOrders message → MessageIsTyped message
  message-typed (Asks m) ranges values = values
  message-typed (Replies (reply.Ranged m)) ranges values = ranges
  message-typed (Replies (reply.Downloaded m)) ranges values = values
  message-typed (Replies (reply.Joined m)) ranges values = tt
  message-typed (Replies (reply.Uploaded m)) ranges values = tt
  message-typed (Replies (reply.Refused number codes)) ranges values = tt

  messages-typed : (last : ℕ) (m : Model) → AllFit last m.world → MessagesAreTyped m
  messages-typed last m f = all-both (OfLetter publication says OfOwn Ranges OfSub SubscriberRanges OfRequest ReplyRanges) (OfLetter publication says Ranges OwnValues SubscriberRanges SubscriberValues RequestIsTyped ReplyOrders) LetterIsTyped
      (λ letter ranges values. message-typed letter.message ranges values) m.world.pool f.ranges.letters f.values.letters

pub tables-are-typed : OfEveryTypedRun TablesAreTyped
tables-are-typed publication rules typed says tallies slips events is =
    let fit = always publication rules typed says tallies slips events is in tables-typed publication rules typed says fit.0 (model_behind publication says tallies slips events) fit.1

pub messages-are-typed : OfEveryTypedRun MessagesAreTyped
messages-are-typed publication rules typed says tallies slips events is =
    let fit = always publication rules typed says tallies slips events is in messages-typed publication rules typed says fit.0 (model_behind publication says tallies slips events) fit.1
