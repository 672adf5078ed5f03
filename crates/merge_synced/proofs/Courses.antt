-- Where the model's session stands while the agent's goes on, what is left to do of it, and that its bounds suffice for that.
use Rattle.std.specs.List.{fold}
use Rattle.std.specs.Prelude.{Bool, Err, List, None, Ok, Option, Some, false, if◌then◌else◌, length, nat_le, nat_lt, option_map, refl, suc, true, unwrap_or, zero, ℕ, ◌+◌, ◌-◌, ◌<◌, ◌≡◌, ◌≤◌}
use Rattle.std.proofs.Common.{ap, arith, subst, sym, ◌∙◌}
use Rattle.std.proofs.lemmas.Bool.Decides.{nat_tests}
use Rattle.merge_types.specs.declared.identifiers.Moment.{Moment}
use Rattle.merge_types.specs.declared.identifiers.SiteId.{SiteId}
use Rattle.merge_ident.specs.Answers.{grants_with_all}
use Rattle.merge_ident.specs.Holders.{Holder}
use Rattle.merge_ident.specs.declared.grants.Grant.{Grant}
use Rattle.merge_resolve.specs.Asked.{tallies_after}
use Rattle.merge_schema.specs.declared.publication.Publication.{Publication}
use Rattle.merge_batch.specs.declared.refusal.Refusal.{Refusal}
use Rattle.merge_batch.specs.declared.reply.Downloaded.{Downloaded}
use Rattle.merge_batch.specs.declared.reply.RangeGrant.{RangeGrant}
use Rattle.merge_batch.specs.declared.reply.Reply.{Reply}
use Rattle.merge_batch.specs.declared.reply.Reply.TheVariants as reply
use Rattle.merge_batch.specs.declared.request.Request.{Request}
use Rattle.merge_model.specs.Judge.ByNumbers.{by_rows}
use Rattle.merge_model.specs.Publisher.{last_closed}
use Rattle.merge_model.specs.Subscriber.Taking.{take_reply, with_grant as receives}
use Rattle.merge_model.specs.Subscriber.{subscriber_last_closed}
use Rattle.merge_model.specs.Tables.Publications.{rules_of}
use Rattle.merge_model.specs.Tables.{PublisherTables, SubscriberTables}
use Rattle.merge_model.specs.World.Calls.{questions_on, result_of_request}
use Rattle.merge_model.specs.World.Events.{machine}
use Rattle.merge_model.specs.World.Session.{Session as ModelSession, Stepping, after_download, as_it_is, brings_generations, downloaded_in, downloads_up_to, exchange, has_grant, last_message, range_asks, range_requests_up_to, unsent_generations, uploads_up_to, with_answer, with_download, with_upload}
use Rattle.merge_model.specs.World.Steps.{SendDownload, SendJoin, SendRanges, SendUpload, Sending}
use Rattle.merge_model.specs.World.Faults.{heard_by}
use Rattle.merge_model.specs.World.{Saying, World, subscriber_at}
use Rattle.merge_model.specs.declared.outcome.Taken.TheVariants.{Acted}
use Rattle.merge_model.specs.declared.letter.Message.{Message}
use Rattle.merge_model.specs.declared.letter.Message.TheVariants.{Replies}
use Rattle.merge_world.specs.Messages.{request_of_sending}
use Rattle.merge_world.specs.Sessions.{brings_found, download_in, grants, one_if}
use Rattle.merge_laws.proofs.Received.Subscribing.{filling-rises}
use Rattle.merge_laws.proofs.Sessions.SessionExchanges.{last-posted}
use Rattle.merge_owed.proofs.HeldThresholds.{AreThresholds}
use Rattle.merge_owed.proofs.RangeAnswers.{brought, planned}
use Rattle.merge_agent.specs.Sessions.{Asks, Downloads, IsUnderWay, Joins, Over, Session, Stage, Uploads, at, sending_in, session_at_next_stage, session_behind_reply, stage_to}
use Rattle.merge_synced.specs.Answering.{Serving, serving_in}
use Rattle.merge_synced.specs.Courses.{Asking, Course, Done, Downloading, Fetching, Joining, Uploading, left_of, past_join, past_ranges, past_uploads, session_with_counts, stage_of}
use Rattle.merge_synced.proofs.Granting.{AllGo, all-begin, all-go, none-left}
use Rattle.merge_synced.proofs.Made.{closes-one, none-unsent, ranges-refused, sent-site, taken-site, upload-made}
use Rattle.merge_synced.proofs.Stands.{IsBehind, behind-step}
use Rattle.merge_synced.proofs.Steps.{asks-always, exchange-is, none-sent, refused-is, replied_world, sent_world, taken-has, taken-keeps, taken_world, told-last, unmade-is, untaken-is}
use Rattle.merge_synced.proofs.Took.{DownloadTook, RangesTook, UploadTook, closing_in, download-took, join-took, ranges-took, upload-took}
use Rattle.merge_synced.proofs.Turns.{Turned}

pub record StandsAt (publication : Publication) (site : SiteId) (now : Moment) (v : World) (s : SubscriberTables) : Type 0 where
  pub here : subscriber_at v site ≡ Some s
  pub own : s.site ≡ site
  pub moment : v.moment ≡ now
  pub behind : IsBehind publication v

-- the publisher's generations have closed up to the target, and the site has still to ask for some
pub record Fetches (count target : ℕ) (v : World) (s : SubscriberTables) : Type 0 where
  pub closed : last_closed v.publisher ≡ target
  pub empty : v.publisher.gens.filling.filled ≡ 0
  pub marks : s.watermark ≤ target
  pub enough : target + 1 ≤ s.watermark + count

pub record RangesLeft (publication : Publication) (site : SiteId) (count : ℕ) (v : World) (s : SubscriberTables) : Type 0 where
  pub left : ℕ
  pub go : AllGo (rules_of publication) left site v.publisher.grants s.held
  pub enough : left + 1 ≤ count

pub record Sends (count : ℕ) (s : SubscriberTables) : Type 0 where
  pub thresholds : AreThresholds s.held
  pub enough : closing_in s + 1 ≤ count + s.received

-- the bound suffices
abbrev pub Enough : Publication → SiteId → Course → World → SubscriberTables → Type 0
Enough publication site Joining v s = AreThresholds s.held
Enough publication site (Uploading count) v s = Sends count s
Enough publication site (Asking count) v s = RangesLeft publication site count v s
Enough publication site Fetching v s = Unit {0}
Enough publication site (Downloading count target) v s = Fetches count target v s
Enough publication site Done v s = Unit {0}

same-serving : (a b : Serving) → a.publisher ≡ b.publisher → a.tallies ≡ b.tallies → a ≡ b
same-serving a b tables tallies =
    ap (λ (x : PublisherTables). (let s : Serving = record { publisher = x; tallies = a.tallies } in s)) tables
    ∙ ap (λ (x : List ℕ). (let s : Serving = record { publisher = b.publisher; tallies = x } in s)) tallies

one-more : (b : Bool) (n : ℕ) → (if b then n + 1 else n) ≡ n + one_if b
one-more true n = refl
one-more false n = omega arith

module _ (publication : Publication) (says : Saying) (site : SiteId) (now : Moment) where
  abbrev M : Stepping World
  M = machine publication says

  abbrev after_ranges : ModelSession World → ModelSession World
  after_ranges x = past_ranges publication says site x

  abbrev after_uploads : ModelSession World → ModelSession World
  after_uploads x = past_uploads publication says site x

  abbrev pub after_join : ModelSession World → ModelSession World
  after_join x = past_join publication says site x

  -- what is left of the session
  abbrev pub rest : Course → ModelSession World → ModelSession World
  rest c x = left_of publication says site c x

  -- some steps led from there to another session, and to this publisher
  pub record Onward (c : Course) (v : World) (i j : ℕ) (t : Session) (q : Serving) : Type 0 where
    pub course : Course
    pub world : World
    pub stage : t.stage ≡ stage_of course
    pub here : StandsAt publication site now world t.tables
    pub enough : Enough publication site course world t.tables
    pub serving : serving_in world ≡ q
    pub same : rest c (session_with_counts v i j) ≡ rest course (session_with_counts world t.uploads t.downloads)

  -- at the beginning of uploads there are enough
  pub sends-begin : (v : World) (s : SubscriberTables) → subscriber_at v site ≡ Some s → AreThresholds s.held → Sends (unsent_generations M site v) s
  sends-begin v s here thresholds =
      let count : unsent_generations M site v ≡ subscriber_last_closed s + 2 - s.received = ap (λ (found : Option SubscriberTables). unwrap_or (option_map (λ (x : SubscriberTables). x.gens.filling.last_closed + 2 - x.received) found) 0) here in
      let most = closes-one s.gens.filling in
      record { thresholds = thresholds; enough = omega (arith, count, most) }

  grants-begin : (v : World) (s : SubscriberTables) → AreThresholds s.held → RangesLeft publication site (range_asks M site v) v s
  grants-begin v s thresholds = record { left = suc (suc (length v.publisher.grants)); go = all-begin (rules_of publication) site v.publisher.grants s.held thresholds; enough = omega arith }

  -- where the bound is used up there is nothing to send
  nothing-left : (s sent : SubscriberTables) (q : Request) → Sends zero s → request_of_sending SendUpload now s ≡ Ok (Some (sent, q)) → ⊥
  nothing-left s sent q sends made =
      let up = sends.enough in
      let low = filling-rises s.gens.filling in
      (upload-made now s sent q made).some (none-unsent s (omega (arith, up, low)))

  -- A turn.
  module _ (sending : Sending) (v : World) (s new : SubscriberTables) (r : Reply) (q : Serving) (h : StandsAt publication site now v s) (t : Turned publication says now sending s new r (serving_in v) q) where
    abbrev next_world : World
    next_world = taken_world publication site t.sent t.request t.after r new v

    keyed : t.sent.site ≡ site
    keyed = sent-site sending now s t.sent t.request t.made ∙ h.own

    next-site : new.site ≡ site
    next-site = taken-site publication (by_rows t.sent) now r t.sent new t.taken ∙ keyed

    made-here : request_of_sending sending v.moment s ≡ Ok (Some (t.sent, t.request))
    made-here = subst (λ (x : Moment). request_of_sending sending x s ≡ Ok (Some (t.sent, t.request))) (sym h.moment) t.made

    answer-here : result_of_request publication says v.tallies v.moment t.request v.publisher ≡ Ok (t.after, r)
    answer-here = subst (λ (x : Moment). result_of_request publication says v.tallies x t.request v.publisher ≡ Ok (t.after, r)) (sym h.moment) t.answer

    taken-here : take_reply publication (by_rows t.sent) v.moment r t.sent ≡ Ok (new, Acted)
    taken-here = subst (λ (x : Moment). take_reply publication (by_rows t.sent) x r t.sent ≡ Ok (new, Acted)) (sym h.moment) t.taken

    next-behind : IsBehind publication next_world
    next-behind = taken-keeps publication says site sending v s t.sent t.request h.here h.own made-here t.after r answer-here keyed (IsBehind publication) (λ w action b. behind-step publication says w action b) new taken-here h.behind

    next-here : StandsAt publication site now next_world new
    next-here = record { here = taken-has publication site t.sent t.request t.after r new v next-site; own = next-site; moment = h.moment; behind = next-behind }

    next-serving : serving_in next_world ≡ q
    next-serving = same-serving (serving_in next_world) q (sym t.tables)
        (ap (λ (x : Moment). tallies_after v.tallies (questions_on publication x t.request v.publisher)) h.moment ∙ sym t.tallies)

    turn-is : (i j : ℕ) (counted next : ModelSession World → ModelSession World)
        → exchange M site sending counted next (session_with_counts v i j) ≡ next (record (counted (session_with_counts (replied_world publication site t.request t.after r (sent_world site t.sent t.request v)) i j)) { world = next_world })
    turn-is i j counted next = exchange-is publication says site sending v s t.sent t.request h.here h.own made-here t.after r answer-here keyed new (session_with_counts v i j) counted next taken-here refl

    last-is : last_message M site next_world ≡ Some (Replies r)
    last-is = told-last publication site t.sent t.request t.after r new v

    -- of a download
    module _ (d : Downloaded) (is : r ≡ reply.Downloaded d) where
      last-download : downloaded_in M site (last_message M site next_world) ≡ Some d
      last-download = ap (λ (found : Option Message). downloaded_in M site found) (last-is ∙ ap (λ (x : Reply). Some (Replies x)) is)

      counted-is : (i j : ℕ) → (let before : World = replied_world publication site t.request t.after r (sent_world site t.sent t.request v) in
          with_answer M site (session_with_counts before i j) ≡ session_with_counts before i (j + one_if (brings_found (Some d))))
      counted-is i j =
          let before : World = replied_world publication site t.request t.after r (sent_world site t.sent t.request v) in
          ap (λ (found : Option Downloaded). (let x : ModelSession World = elim found [ None ↦ session_with_counts before i j | Some m ↦ with_download M site m (session_with_counts before i j) ] in x)) last-download
          ∙ ap (λ (n : ℕ). session_with_counts before i n) (one-more (brings_generations M site d) j)

      fetched-is : (i j : ℕ) (next : Downloaded → ModelSession World → ModelSession World)
          → exchange M site sending (with_answer M site) (after_download M site next) (session_with_counts v i j) ≡ next d (session_with_counts next_world i (j + one_if (brings_found (Some d))))
      fetched-is i j next =
          turn-is i j (with_answer M site) (after_download M site next)
          ∙ ap (λ (x : ModelSession World). after_download M site next (record x { world = next_world })) (counted-is i j)
          ∙ ap (λ (found : Option Downloaded). (let x : ModelSession World = elim found [ None ↦ session_with_counts next_world i (j + one_if (brings_found (Some d))) | Some m ↦ next m (session_with_counts next_world i (j + one_if (brings_found (Some d)))) ] in x)) last-download

      -- the counts of the agent
      told-found : download_in (Some (Replies r)) ≡ Some d
      told-found = ap (λ (x : Reply). download_in (Some (Replies x))) is

  join-on : (v : World) (s new : SubscriberTables) (r : Reply) (i j : ℕ) (q : Serving) → StandsAt publication site now v s → AreThresholds s.held → Turned publication says now SendJoin s new r (serving_in v) q
      → Onward Joining v i j (session_behind_reply (at Joins s i j) new r Joins) q
  join-on v s new r i j q h thresholds t =
      let w : World = next_world SendJoin v s new r q h t in
      let after : StandsAt publication site now w new = next-here SendJoin v s new r q h t in
      record {
        course = Uploading (unsent_generations M site w);
        world = w;
        stage = refl;
        here = after;
        enough = sends-begin w new after.here (subst AreThresholds (sym (join-took publication says now s new r (serving_in v) q t)) thresholds);
        serving = next-serving SendJoin v s new r q h t;
        same = ap after_join (turn-is SendJoin v s new r q h t i j (as_it_is M site) (as_it_is M site));
      }

  upload-on : (count : ℕ) (v : World) (s new : SubscriberTables) (r : Reply) (i j : ℕ) (q : Serving) → StandsAt publication site now v s → Sends count s → Turned publication says now SendUpload s new r (serving_in v) q
      → Onward (Uploading count) v i j (session_behind_reply (at Uploads s i j) new r Uploads) q
  upload-on zero v s new r i j q h sends t = absurd (nothing-left s t.sent t.request sends t.made)
  upload-on (suc count) v s new r i j q h sends t =
      let took : UploadTook s new = upload-took publication says now s new r (serving_in v) q t in
      let up = sends.enough in let more = took.received in let same = took.closing in
      record {
        course = Uploading count;
        world = next_world SendUpload v s new r q h t;
        stage = refl;
        here = next-here SendUpload v s new r q h t;
        enough = record { thresholds = subst AreThresholds (sym took.held) sends.thresholds; enough = omega (arith, up, more, same) };
        serving = next-serving SendUpload v s new r q h t;
        same = ap after_uploads (turn-is SendUpload v s new r q h t i j (with_upload M site) (uploads_up_to M site count));
      }

  -- Ranges: each reply that brings one comes nearer to the end.
  granted-on : (left : ℕ) (v w : World) (s new : SubscriberTables) (r : Reply) (count : ℕ) → s.site ≡ site → (took : RangesTook publication s new r v.publisher.grants w.publisher.grants) → nat_lt 0 (length took.told.grants) ≡ true
      → AllGo (rules_of publication) left site v.publisher.grants s.held → left + 1 ≤ suc count → RangesLeft publication site count w new
  granted-on zero v w s new r count own took some go enough =
      absurd (none-left (rules_of publication) s.site (heard_by s) v.publisher.grants s.held took.distinct (subst (λ (x : SiteId). AllGo (rules_of publication) zero x v.publisher.grants s.held) (sym own) go)
      (sym (ap (λ (g : List RangeGrant). nat_lt 0 (length g)) took.brings) ∙ some))
  granted-on (suc left) v w s new r count own took some go enough =
      let gone : AllGo (rules_of publication) left s.site (grants_with_all v.publisher.grants (planned (rules_of publication) s.site v.publisher.grants s.held)) (fold receives s.held (brought (planned (rules_of publication) s.site v.publisher.grants s.held))) =
      all-go (rules_of publication) s.site (heard_by s) v.publisher.grants s.held took.distinct left took.fits (subst (λ (x : SiteId). AllGo (rules_of publication) (suc left) x v.publisher.grants s.held) (sym own) go) in
      record {
        left = left;
        go = subst (λ (x : SiteId). AllGo (rules_of publication) left x w.publisher.grants new.held) own
            (subst (λ (x : List Grant). AllGo (rules_of publication) left s.site x new.held) (sym took.granted)
            (subst (λ (x : List (ℕ × Holder)). AllGo (rules_of publication) left s.site (grants_with_all v.publisher.grants (planned (rules_of publication) s.site v.publisher.grants s.held)) x) (sym took.held) gone));
        enough = omega (arith, enough);
      }

  asked-by : (b : Bool) (count : ℕ) (v : World) (s new : SubscriberTables) (r : Reply) (i j : ℕ) (q : Serving) (h : StandsAt publication site now v s) → RangesLeft publication site (suc count) v s → (t : Turned publication says now SendRanges s new r (serving_in v) q)
      → (took : RangesTook publication s new r v.publisher.grants (next_world SendRanges v s new r q h t).publisher.grants) → nat_lt 0 (length took.told.grants) ≡ b → Onward (Asking (suc count)) v i j (session_behind_reply (at Asks s i j) new r Asks) q
  asked-by true count v s new r i j q h g t took is =
      let w : World = next_world SendRanges v s new r q h t in
      let told : grants (Some (Replies r)) ≡ true = ap (λ (x : Reply). grants (Some (Replies x))) took.replied ∙ is in
      let last : has_grant M site (last_message M site w) ≡ true = ap (λ (found : Option Message). has_grant M site found) (last-is SendRanges v s new r q h t) ∙ told in
      record {
        course = Asking count;
        world = w;
        stage = ap (λ (b : Bool). (let x : Stage = if b then Asks else Downloads None in x)) told;
        here = next-here SendRanges v s new r q h t;
        enough = granted-on g.left v w s new r count h.own took is g.go g.enough;
        serving = next-serving SendRanges v s new r q h t;
        same = ap after_ranges (turn-is SendRanges v s new r q h t i j (as_it_is M site) (λ (x : ModelSession World). if has_grant M site (last_message M site x.world) then range_requests_up_to M site count x else x)
            ∙ ap (λ (b : Bool). (let x : ModelSession World = if b then range_requests_up_to M site count (session_with_counts w i j) else session_with_counts w i j in x)) last);
      }
  asked-by false count v s new r i j q h g t took is =
      let w : World = next_world SendRanges v s new r q h t in
      let told : grants (Some (Replies r)) ≡ false = ap (λ (x : Reply). grants (Some (Replies x))) took.replied ∙ is in
      let last : has_grant M site (last_message M site w) ≡ false = ap (λ (found : Option Message). has_grant M site found) (last-is SendRanges v s new r q h t) ∙ told in
      record {
        course = Fetching;
        world = w;
        stage = ap (λ (b : Bool). (let x : Stage = if b then Asks else Downloads None in x)) told;
        here = next-here SendRanges v s new r q h t;
        enough = tt;
        serving = next-serving SendRanges v s new r q h t;
        same = ap after_ranges (turn-is SendRanges v s new r q h t i j (as_it_is M site) (λ (x : ModelSession World). if has_grant M site (last_message M site x.world) then range_requests_up_to M site count x else x)
            ∙ ap (λ (b : Bool). (let x : ModelSession World = if b then range_requests_up_to M site count (session_with_counts w i j) else session_with_counts w i j in x)) last);
      }

  ask-on : (count : ℕ) (v : World) (s new : SubscriberTables) (r : Reply) (i j : ℕ) (q : Serving) → StandsAt publication site now v s → RangesLeft publication site count v s → Turned publication says now SendRanges s new r (serving_in v) q
      → Onward (Asking count) v i j (session_behind_reply (at Asks s i j) new r Asks) q
  ask-on zero v s new r i j q h g t = (let enough = g.enough in absurd (omega (arith, enough)))
  ask-on (suc count) v s new r i j q h g t =
      let took : RangesTook publication s new r v.publisher.grants (next_world SendRanges v s new r q h t).publisher.grants =
      subst (λ (x : List Grant). RangesTook publication s new r v.publisher.grants x) (ap (λ (x : PublisherTables). x.grants) t.tables) (ranges-took publication says now s new r (serving_in v) q t) in
      asked-by (nat_lt 0 (length took.told.grants)) count v s new r i j q h g t took refl

  -- Downloads: each one moves the watermark up to the target.

  at-most : (a b : ℕ) → nat_le a b ≡ true → a ≤ b
  at-most a b is = grind (arith, nat_tests, is)

  less : (a b : ℕ) → nat_le a b ≡ false → b < a
  less a b is = grind (arith, nat_tests, is)

  -- what the agent comes to
  onward-stage : (target : Option ℕ) (d : Downloaded) (found : Option Downloaded) → found ≡ Some d → stage_to target found ≡ stage_to target (Some d)
  onward-stage target d found is = ap (λ (x : Option Downloaded). stage_to target x) is

  -- where there is nothing behind what was asked for, the session is over
  over-on : (c : Course) (target : Option ℕ) (v : World) (s new : SubscriberTables) (r : Reply) (i j last : ℕ) (q : Serving) (h : StandsAt publication site now v s) (t : Turned publication says now SendDownload s new r (serving_in v) q) (d : Downloaded)
      → r ≡ reply.Downloaded d → unwrap_or target d.last ≡ last → nat_le last d.from ≡ true
      → rest c (session_with_counts v i j) ≡ session_with_counts (next_world SendDownload v s new r q h t) i (j + one_if (brings_found (Some d)))
      → Onward c v i j (session_behind_reply (at (Downloads target) s i j) new r (Downloads target)) q
  over-on c target v s new r i j last q h t d is aim past same =
      let found : download_in (Some (Replies r)) ≡ Some d = told-found SendDownload v s new r q h t d is in
      let w : World = next_world SendDownload v s new r q h t in
      record {
        course = Done;
        world = w;
        stage = onward-stage target d (download_in (Some (Replies r))) found ∙ ap (λ (n : ℕ). (let x : Stage = if nat_le n d.from then Over else Downloads (Some n) in x)) aim
            ∙ ap (λ (b : Bool). (let x : Stage = if b then Over else Downloads (Some last) in x)) past;
        here = next-here SendDownload v s new r q h t;
        enough = tt;
        serving = next-serving SendDownload v s new r q h t;
        same = same ∙ ap (λ (x : Option Downloaded). session_with_counts w i (j + one_if (brings_found x))) (sym found);
      }

  -- and else it goes on to the target
  more-on : (c : Course) (target : Option ℕ) (v : World) (s new : SubscriberTables) (r : Reply) (i j last count : ℕ) (q : Serving) (h : StandsAt publication site now v s) (t : Turned publication says now SendDownload s new r (serving_in v) q) (d : Downloaded)
      → r ≡ reply.Downloaded d → unwrap_or target d.last ≡ last → nat_le last d.from ≡ false → Fetches count last (next_world SendDownload v s new r q h t) new
      → rest c (session_with_counts v i j) ≡ downloads_up_to M site count last (session_with_counts (next_world SendDownload v s new r q h t) i (j + one_if (brings_found (Some d))))
      → Onward c v i j (session_behind_reply (at (Downloads target) s i j) new r (Downloads target)) q
  more-on c target v s new r i j last count q h t d is aim past fetches same =
      let found : download_in (Some (Replies r)) ≡ Some d = told-found SendDownload v s new r q h t d is in
      let w : World = next_world SendDownload v s new r q h t in
      record {
        course = Downloading count last;
        world = w;
        stage = onward-stage target d (download_in (Some (Replies r))) found ∙ ap (λ (n : ℕ). (let x : Stage = if nat_le n d.from then Over else Downloads (Some n) in x)) aim
            ∙ ap (λ (b : Bool). (let x : Stage = if b then Over else Downloads (Some last) in x)) past;
        here = next-here SendDownload v s new r q h t;
        enough = fetches;
        serving = next-serving SendDownload v s new r q h t;
        same = same ∙ ap (λ (x : Option Downloaded). downloads_up_to M site count last (session_with_counts w i (j + one_if (brings_found x)))) (sym found);
      }

  fetch-by : (b : Bool) (v : World) (s new : SubscriberTables) (r : Reply) (i j : ℕ) (q : Serving) (h : StandsAt publication site now v s) (t : Turned publication says now SendDownload s new r (serving_in v) q)
      → (took : DownloadTook s new r v.publisher (next_world SendDownload v s new r q h t).publisher) → nat_le took.told.last took.told.from ≡ b → Onward Fetching v i j (session_behind_reply (at (Downloads None) s i j) new r (Downloads None)) q
  fetch-by true v s new r i j q h t took past =
      let w : World = next_world SendDownload v s new r q h t in
      let d : Downloaded = took.told in
      let next : Downloaded → ModelSession World → ModelSession World = λ (m : Downloaded) (x : ModelSession World). if nat_le m.last m.from then x else downloads_up_to M site (m.last + 1 - m.from) m.last x in
      over-on Fetching None v s new r i j d.last q h t d took.replied refl past
      (fetched-is SendDownload v s new r q h t d took.replied i j next
      ∙ ap (λ (b : Bool). (let x : ModelSession World = session_with_counts w i (j + one_if (brings_found (Some d))) in let y : ModelSession World = if b then x else downloads_up_to M site (d.last + 1 - d.from) d.last x in y)) past)
  fetch-by false v s new r i j q h t took past =
      let w : World = next_world SendDownload v s new r q h t in
      let d : Downloaded = took.told in
      let next : Downloaded → ModelSession World → ModelSession World = λ (m : Downloaded) (x : ModelSession World). if nat_le m.last m.from then x else downloads_up_to M site (m.last + 1 - m.from) m.last x in
      let low = less d.last d.from past in let onward = took.onward low in let held = took.held in let within = took.within in
      more-on Fetching None v s new r i j d.last (d.last + 1 - d.from) q h t d took.replied refl past
      (record { closed = sym took.last; empty = took.empty; marks = omega (arith, held, within); enough = omega (arith, low, onward, held) })
      (fetched-is SendDownload v s new r q h t d took.replied i j next
      ∙ ap (λ (b : Bool). (let x : ModelSession World = session_with_counts w i (j + one_if (brings_found (Some d))) in let y : ModelSession World = if b then x else downloads_up_to M site (d.last + 1 - d.from) d.last x in y)) past)

  took-here : (v : World) (s new : SubscriberTables) (r : Reply) (q : Serving) (h : StandsAt publication site now v s) (t : Turned publication says now SendDownload s new r (serving_in v) q) → DownloadTook s new r v.publisher (next_world SendDownload v s new r q h t).publisher
  took-here v s new r q h t = subst (λ (x : PublisherTables). DownloadTook s new r v.publisher x) t.tables (download-took publication says now s new r (serving_in v) q t)

  fetch-on : (v : World) (s new : SubscriberTables) (r : Reply) (i j : ℕ) (q : Serving) → StandsAt publication site now v s → Turned publication says now SendDownload s new r (serving_in v) q → Onward Fetching v i j (session_behind_reply (at (Downloads None) s i j) new r (Downloads None)) q
  fetch-on v s new r i j q h t =
      let took : DownloadTook s new r v.publisher (next_world SendDownload v s new r q h t).publisher = took-here v s new r q h t in
      fetch-by (nat_le took.told.last took.told.from) v s new r i j q h t took refl

  download-by : (b : Bool) (count target : ℕ) (v : World) (s new : SubscriberTables) (r : Reply) (i j : ℕ) (q : Serving) (h : StandsAt publication site now v s) → Fetches (suc count) target v s → (t : Turned publication says now SendDownload s new r (serving_in v) q)
      → (took : DownloadTook s new r v.publisher (next_world SendDownload v s new r q h t).publisher) → nat_le target took.told.from ≡ b → Onward (Downloading (suc count) target) v i j (session_behind_reply (at (Downloads (Some target)) s i j) new r (Downloads (Some target))) q
  download-by true count target v s new r i j q h f t took past =
      let w : World = next_world SendDownload v s new r q h t in
      let d : Downloaded = took.told in
      let next : Downloaded → ModelSession World → ModelSession World = λ (m : Downloaded) (x : ModelSession World). if nat_le target m.from then x else downloads_up_to M site count target x in
      over-on (Downloading (suc count) target) (Some target) v s new r i j target q h t d took.replied refl past
      (fetched-is SendDownload v s new r q h t d took.replied i j next
      ∙ ap (λ (b : Bool). (let x : ModelSession World = session_with_counts w i (j + one_if (brings_found (Some d))) in let y : ModelSession World = if b then x else downloads_up_to M site count target x in y)) past)
  download-by false count target v s new r i j q h f t took past =
      let w : World = next_world SendDownload v s new r q h t in
      let d : Downloaded = took.told in
      let next : Downloaded → ModelSession World → ModelSession World = λ (m : Downloaded) (x : ModelSession World). if nat_le target m.from then x else downloads_up_to M site count target x in
      let closed : last_closed w.publisher ≡ target = took.still f.empty ∙ f.closed in
      let last : d.last ≡ target = took.last ∙ closed in
      let low = less target d.from past in let held = took.held in let within = took.within in let from = took.from in let enough = f.enough in
      let onward = took.onward (omega (arith, low, last)) in
      more-on (Downloading (suc count) target) (Some target) v s new r i j target count q h t d took.replied refl past
      (record { closed = closed; empty = took.empty; marks = omega (arith, held, within, last); enough = omega (arith, onward, held, from, enough) })
      (fetched-is SendDownload v s new r q h t d took.replied i j next
      ∙ ap (λ (b : Bool). (let x : ModelSession World = session_with_counts w i (j + one_if (brings_found (Some d))) in let y : ModelSession World = if b then x else downloads_up_to M site count target x in y)) past)

  never-fetches : (target : ℕ) (v : World) (s : SubscriberTables) → Fetches zero target v s → ⊥
  never-fetches target v s f = (let marks = f.marks in let enough = f.enough in omega (arith, marks, enough))

  download-on : (count target : ℕ) (v : World) (s new : SubscriberTables) (r : Reply) (i j : ℕ) (q : Serving) → StandsAt publication site now v s → Fetches count target v s → Turned publication says now SendDownload s new r (serving_in v) q
      → Onward (Downloading count target) v i j (session_behind_reply (at (Downloads (Some target)) s i j) new r (Downloads (Some target))) q
  download-on zero target v s new r i j q h f t = absurd (never-fetches target v s f)
  download-on (suc count) target v s new r i j q h f t =
      let took : DownloadTook s new r v.publisher (next_world SendDownload v s new r q h t).publisher = took-here v s new r q h t in
      download-by (nat_le target took.told.from) count target v s new r i j q h f t took refl

  -- A turn in any stage.
  pub turn-on : (c : Course) (v : World) (s new : SubscriberTables) (r : Reply) (i j : ℕ) (q : Serving) → StandsAt publication site now v s → Enough publication site c v s → IsUnderWay (stage_of c)
      → Turned publication says now (sending_in (stage_of c)) s new r (serving_in v) q → Onward c v i j (session_behind_reply (at (stage_of c) s i j) new r (stage_of c)) q
  turn-on Joining v s new r i j q h e going t = join-on v s new r i j q h e t
  turn-on (Uploading count) v s new r i j q h e going t = upload-on count v s new r i j q h e t
  turn-on (Asking count) v s new r i j q h e going t = ask-on count v s new r i j q h e t
  turn-on Fetching v s new r i j q h e going t = fetch-on v s new r i j q h t
  turn-on (Downloading count target) v s new r i j q h e going t = download-on count target v s new r i j q h e t
  turn-on Done v s new r i j q h e going t = absurd going

  -- There is no message to make.

  none-is : (sending : Sending) (v : World) (s : SubscriberTables) (i j : ℕ) (counted next : ModelSession World → ModelSession World) → StandsAt publication site now v s → request_of_sending sending now s ≡ Ok None → exchange M site sending counted next (session_with_counts v i j) ≡ session_with_counts v i j
  none-is sending v s i j counted next h none = none-sent publication says site sending v s (session_with_counts v i j) counted next h.here (subst (λ (x : Moment). request_of_sending sending x s ≡ Ok None) (sym h.moment) none) refl

  uploads-past : (count : ℕ) (v : World) (s : SubscriberTables) (i j : ℕ) → StandsAt publication site now v s → request_of_sending SendUpload now s ≡ Ok None → uploads_up_to M site count (session_with_counts v i j) ≡ session_with_counts v i j
  uploads-past zero v s i j h none = refl
  uploads-past (suc count) v s i j h none = none-is SendUpload v s i j (with_upload M site) (uploads_up_to M site count) h none

  ranges-past : (count : ℕ) (v : World) (s : SubscriberTables) (i j : ℕ) → StandsAt publication site now v s → request_of_sending SendRanges now s ≡ Ok None → range_requests_up_to M site count (session_with_counts v i j) ≡ session_with_counts v i j
  ranges-past zero v s i j h none = refl
  ranges-past (suc count) v s i j h none = none-is SendRanges v s i j (as_it_is M site) (λ (x : ModelSession World). if has_grant M site (last_message M site x.world) then range_requests_up_to M site count x else x) h none

  pub skip-on : (c : Course) (v : World) (s : SubscriberTables) (i j : ℕ) → StandsAt publication site now v s → Enough publication site c v s → IsUnderWay (stage_of c) → request_of_sending (sending_in (stage_of c)) now s ≡ Ok None
      → Onward c v i j (session_at_next_stage (at (stage_of c) s i j)) (serving_in v)
  skip-on Joining v s i j h e going none = record {
    course = Uploading (unsent_generations M site v);
    world = v;
    stage = refl;
    here = h;
    enough = sends-begin v s h.here e;
    serving = refl;
    same = ap after_join (none-is SendJoin v s i j (as_it_is M site) (as_it_is M site) h none);
  }
  skip-on (Uploading count) v s i j h e going none = record {
    course = Asking (range_asks M site v);
    world = v;
    stage = refl;
    here = h;
    enough = grants-begin v s e.thresholds;
    serving = refl;
    same = ap after_uploads (uploads-past count v s i j h none);
  }
  skip-on (Asking count) v s i j h e going none = record {
    course = Fetching;
    world = v;
    stage = refl;
    here = h;
    enough = tt;
    serving = refl;
    same = ap after_ranges (ranges-past count v s i j h none);
  }
  skip-on Fetching v s i j h e going none = absurd (asks-always s none)
  skip-on (Downloading count target) v s i j h e going none = absurd (asks-always s none)
  skip-on Done v s i j h e going none = absurd going

  -- The publisher refuses.

  abbrev pub stopped : World → ℕ → ℕ → Refusal → ModelSession World
  stopped v i j why = record { world = v; uploads = i; downloads = j; stop = Some why }

  module _ (v : World) (s sent : SubscriberTables) (q : Request) (i j : ℕ) (why : Refusal) (h : StandsAt publication site now v s) (refused : result_of_request publication says v.tallies now q v.publisher ≡ Err why) where
    refused-by : (sending : Sending) (counted next : ModelSession World → ModelSession World) → request_of_sending sending now s ≡ Ok (Some (sent, q)) → exchange M site sending counted next (session_with_counts v i j) ≡ stopped (sent_world site sent q v) i j why
    refused-by sending counted next made = refused-is publication says site sending v s sent q h.here h.own (subst (λ (x : Moment). request_of_sending sending x s ≡ Ok (Some (sent, q))) (sym h.moment) made) why (session_with_counts v i j) counted next
        (subst (λ (x : Moment). result_of_request publication says v.tallies x q v.publisher ≡ Err why) (sym h.moment) refused) refl

    pub refuse-on : (c : Course) → Enough publication site c v s → IsUnderWay (stage_of c) → request_of_sending (sending_in (stage_of c)) now s ≡ Ok (Some (sent, q)) → rest c (session_with_counts v i j) ≡ stopped (sent_world site sent q v) i j why
    refuse-on Joining e going made = ap after_join (refused-by SendJoin (as_it_is M site) (as_it_is M site) made)
    refuse-on (Uploading zero) e going made = absurd (nothing-left s sent q e made)
    refuse-on (Uploading (suc count)) e going made = ap after_uploads (refused-by SendUpload (with_upload M site) (uploads_up_to M site count) made)
    refuse-on (Asking zero) e going made = (let enough = e.enough in absurd (omega (arith, enough)))
    refuse-on (Asking (suc count)) e going made = ap after_ranges (refused-by SendRanges (as_it_is M site) (λ (x : ModelSession World). if has_grant M site (last_message M site x.world) then range_requests_up_to M site count x else x) made)
    refuse-on Fetching e going made = refused-by SendDownload (with_answer M site) (after_download M site (λ (m : Downloaded) (x : ModelSession World). if nat_le m.last m.from then x else downloads_up_to M site (m.last + 1 - m.from) m.last x)) made
    refuse-on (Downloading zero target) e going made = absurd (never-fetches target v s e)
    refuse-on (Downloading (suc count) target) e going made = refused-by SendDownload (with_answer M site) (after_download M site (λ (m : Downloaded) (x : ModelSession World). if nat_le target m.from then x else downloads_up_to M site count target x)) made
    refuse-on Done e going made = absurd going

  -- The site refuses to make a message.

  module _ (v : World) (s : SubscriberTables) (i j : ℕ) (why : Refusal) (h : StandsAt publication site now v s) where
    unmade-by : (sending : Sending) (counted next : ModelSession World → ModelSession World) → request_of_sending sending now s ≡ Err why → exchange M site sending counted next (session_with_counts v i j) ≡ stopped v i j why
    unmade-by sending counted next refused = unmade-is publication says site sending v s why (session_with_counts v i j) counted next h.here (subst (λ (x : Moment). request_of_sending sending x s ≡ Err why) (sym h.moment) refused) refl

    ranges-unmade : (count : ℕ) → 1 ≤ count → request_of_sending SendRanges now s ≡ Err why → range_requests_up_to M site count (session_with_counts v i j) ≡ stopped v i j why
    ranges-unmade zero some refused = absurd (omega (arith, some))
    ranges-unmade (suc count) some refused = unmade-by SendRanges (as_it_is M site) (λ (x : ModelSession World). if has_grant M site (last_message M site x.world) then range_requests_up_to M site count x else x) refused

    -- where it refuses an upload, it refuses a request for ranges too
    pub unmade-on : (c : Course) → Enough publication site c v s → IsUnderWay (stage_of c) → request_of_sending (sending_in (stage_of c)) now s ≡ Err why → rest c (session_with_counts v i j) ≡ stopped v i j why
    unmade-on Joining e going refused = ap after_join (unmade-by SendJoin (as_it_is M site) (as_it_is M site) refused)
    unmade-on (Uploading zero) e going refused = ap after_ranges (ranges-unmade (range_asks M site v) (omega arith) (ranges-refused now s why refused))
    unmade-on (Uploading (suc count)) e going refused = ap after_uploads (unmade-by SendUpload (with_upload M site) (uploads_up_to M site count) refused)
    unmade-on (Asking count) e going refused = (let enough = e.enough in ap after_ranges (ranges-unmade count (omega (arith, enough)) refused))
    unmade-on Fetching e going refused = unmade-by SendDownload (with_answer M site) (after_download M site (λ (m : Downloaded) (x : ModelSession World). if nat_le m.last m.from then x else downloads_up_to M site (m.last + 1 - m.from) m.last x)) refused
    unmade-on (Downloading zero target) e going refused = absurd (never-fetches target v s e)
    unmade-on (Downloading (suc count) target) e going refused = unmade-by SendDownload (with_answer M site) (after_download M site (λ (m : Downloaded) (x : ModelSession World). if nat_le target m.from then x else downloads_up_to M site count target x)) refused
    unmade-on Done e going refused = absurd going

  -- The site refuses a reply, which the model's session counts all the same.

  same-download : (r : Reply) → downloaded_in M site (Some (Replies r)) ≡ download_in (Some (Replies r))
  same-download (reply.Joined m) = refl
  same-download (reply.Uploaded m) = refl
  same-download (reply.Ranged m) = refl
  same-download (reply.Downloaded m) = refl
  same-download (reply.Refused number values) = refl

  counted-or : (w : World) (i j : ℕ) (why : Refusal) (found : Option Downloaded)
      → (let x : ModelSession World = elim found [ None ↦ session_with_counts w i j | Some m ↦ with_download M site m (session_with_counts w i j) ] in let y : ModelSession World = record x { world = w; stop = Some why } in y) ≡ stopped w i (j + one_if (brings_found found)) why
  counted-or w i j why None = (let same : j ≡ j + 0 = omega arith in ap (λ (n : ℕ). stopped w i n why) same)
  counted-or w i j why (Some m) = ap (λ (n : ℕ). stopped w i n why) (one-more (brings_generations M site m) j)

  module _ (v : World) (s sent : SubscriberTables) (q : Request) (p : PublisherTables) (r : Reply) (i j : ℕ) (why : Refusal) (h : StandsAt publication site now v s) (keyed : sent.site ≡ site)
      (answer : result_of_request publication says v.tallies now q v.publisher ≡ Ok (p, r)) (untaken : take_reply publication (by_rows sent) now r sent ≡ Err why) where
    abbrev told_world : World
    told_world = replied_world publication site q p r (sent_world site sent q v)

    untaken-by : (sending : Sending) (counted next : ModelSession World → ModelSession World) → request_of_sending sending now s ≡ Ok (Some (sent, q))
        → exchange M site sending counted next (session_with_counts v i j) ≡ record (counted (session_with_counts told_world i j)) { world = told_world; stop = Some why }
    untaken-by sending counted next made = untaken-is publication says site sending v s sent q h.here h.own (subst (λ (x : Moment). request_of_sending sending x s ≡ Ok (Some (sent, q))) (sym h.moment) made)
        p r (subst (λ (x : Moment). result_of_request publication says v.tallies x q v.publisher ≡ Ok (p, r)) (sym h.moment) answer) keyed
        why (session_with_counts v i j) counted next (subst (λ (x : Moment). take_reply publication (by_rows sent) x r sent ≡ Err why) (sym h.moment) untaken) refl

    last-told : downloaded_in M site (last_message M site told_world) ≡ download_in (Some (Replies r))
    last-told = ap (λ (found : Option Message). downloaded_in M site found) (last-posted None (sent_world site sent q v).pool (record { site = site; message = Replies r })) ∙ same-download r

    fetch-untaken : (next : ModelSession World → ModelSession World) → request_of_sending SendDownload now s ≡ Ok (Some (sent, q))
        → exchange M site SendDownload (with_answer M site) next (session_with_counts v i j) ≡ stopped told_world i (j + one_if (brings_found (download_in (Some (Replies r))))) why
    fetch-untaken next made =
        untaken-by SendDownload (with_answer M site) next made
        ∙ ap (λ (found : Option Downloaded). (let x : ModelSession World = elim found [ None ↦ session_with_counts told_world i j | Some m ↦ with_download M site m (session_with_counts told_world i j) ] in let y : ModelSession World = record x { world = told_world; stop = Some why } in y)) last-told
        ∙ counted-or told_world i j why (download_in (Some (Replies r)))

    abbrev counted_in : Stage → Session
    counted_in stage = session_behind_reply (at stage s i j) sent r stage

    pub untaken-on : (c : Course) → Enough publication site c v s → IsUnderWay (stage_of c) → request_of_sending (sending_in (stage_of c)) now s ≡ Ok (Some (sent, q))
        → rest c (session_with_counts v i j) ≡ stopped told_world (counted_in (stage_of c)).uploads (counted_in (stage_of c)).downloads why
    untaken-on Joining e going made = ap after_join (untaken-by SendJoin (as_it_is M site) (as_it_is M site) made)
    untaken-on (Uploading zero) e going made = absurd (nothing-left s sent q e made)
    untaken-on (Uploading (suc count)) e going made = ap after_uploads (untaken-by SendUpload (with_upload M site) (uploads_up_to M site count) made)
    untaken-on (Asking zero) e going made = (let enough = e.enough in absurd (omega (arith, enough)))
    untaken-on (Asking (suc count)) e going made = ap after_ranges (untaken-by SendRanges (as_it_is M site) (λ (x : ModelSession World). if has_grant M site (last_message M site x.world) then range_requests_up_to M site count x else x) made)
    untaken-on Fetching e going made = fetch-untaken (after_download M site (λ (m : Downloaded) (x : ModelSession World). if nat_le m.last m.from then x else downloads_up_to M site (m.last + 1 - m.from) m.last x)) made
    untaken-on (Downloading zero target) e going made = absurd (never-fetches target v s e)
    untaken-on (Downloading (suc count) target) e going made = fetch-untaken (after_download M site (λ (m : Downloaded) (x : ModelSession World). if nat_le target m.from then x else downloads_up_to M site count target x)) made
    untaken-on Done e going made = absurd going
