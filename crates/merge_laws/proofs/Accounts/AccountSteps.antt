-- Every step keeps what is accounted for, and nothing is made where it begins.
use Rattle.std.specs.Prelude.{◌≡◌, ◌≤◌, ◌<◌, ◌+◌, ℕ, List, [], true, Option, Some, None, refl, flat_map, map, option_map, unwrap_or}
use Rattle.std.specs.List.{fold}
use Rattle.std.proofs.Common.{arith, sym, ap, ◌∙◌}
use Rattle.std.proofs.lemmas.Bool.Decides.{nat_tests}
use Rattle.merge_units.specs.declared.version.Version.{Version}
use Rattle.merge_schema.specs.Valid.{IsValid}
use Rattle.merge_schema.specs.declared.publication.Publication.{Publication}
use Rattle.merge_batch.specs.declared.reply.Reply.TheVariants as reply
use Rattle.merge_batch.specs.declared.request.Join.{Join}
use Rattle.merge_batch.specs.declared.request.Outstanding.TheVariants as ask
use Rattle.merge_batch.specs.declared.request.Request.TheVariants as request
use Rattle.merge_model.specs.Judge.ByHistory.{by_past}
use Rattle.merge_model.specs.History.{History, MadeChange, no_history, no_past, pasts_with}
use Rattle.merge_model.specs.Judge.{PublisherJudge}
use Rattle.merge_model.specs.Tables.Keys.{at_number, put_number, row_at}
use Rattle.merge_model.specs.History.Noting
use Rattle.merge_model.specs.Tables.Publications.{by_site}
use Rattle.merge_model.specs.Publisher.{last_closed}
use Rattle.merge_model.specs.Publisher.PublisherJoin.{join_acts, join_taken}
use Rattle.merge_model.specs.Publisher.PublisherLocal.{version_at}
use Rattle.merge_model.specs.Publisher.PublisherPurge.{is_old_tombstone, purge}
use Rattle.merge_model.specs.Publisher.PublisherRanges.{plans, reply_to_ranges}
use Rattle.merge_model.specs.Subscriber.Sending.{join_of, want_of, with_message}
use Rattle.merge_model.specs.Subscriber.{subscriber_at_moment, subscriber_closed, subscriber_version_at}
use Rattle.merge_types.specs.declared.row_key.RowKey.{RowKey as Key}
use Rattle.merge_units.specs.declared.site_row.SubscriberRow.{SubscriberRow}
use Rattle.merge_model.specs.Tables.{PublisherTables, SubscriberTables}
use Rattle.merge_model.specs.World.{Saying, World, empty_world, with_publisher}
use Rattle.merge_model.specs.declared.letter.Message.TheVariants.{Asks, Replies}
use Rattle.merge_laws.specs.Facts.Accounts.{Accounts, IsSafe, OfAccounts, is_settled, received_of}
use Rattle.merge_laws.specs.Facts.LineagesStand.{is_of}
use Rattle.merge_laws.specs.Facts.Received.{JoinFits, LetterFits, joined_at}
use Rattle.merge_laws.proofs.Accounts.AccountAnew.{anew-accounts}
use Rattle.merge_laws.proofs.Accounts.AccountAnswers.{answer-accounts}
use Rattle.merge_laws.proofs.Accounts.AccountBase.{Base}
use Rattle.merge_laws.proofs.Accounts.AccountLocal.{sub-change-accounts}
use Rattle.merge_laws.proofs.Accounts.AccountNotes.{based-accounts, done-accounts, lines-accounts, none-traced, post-accounts, same-accounts}
use Rattle.merge_laws.proofs.Accounts.AccountOwn.{own-change-accounts}
use Rattle.merge_laws.proofs.Accounts.AccountPurging.{forgotten-accounts}
use Rattle.merge_laws.proofs.Accounts.AccountReplies.{reply-accounts}
use Rattle.merge_laws.proofs.Accounts.AccountSending.{sending-accounts, stays-accounts}
use Rattle.merge_laws.proofs.Accounts.AccountSites.{nothing-traced}
use Rattle.merge_laws.proofs.Accounts.AccountUploads.{upload-accounts}
use Rattle.merge_model.proofs.Lists.Finding.{all-weaker, pool-at}
use Rattle.merge_laws.proofs.Makers.KnownMakers.{none-ascends}
use Rattle.merge_laws.proofs.Letters.LetterNumbers.{named-begins}
use Rattle.merge_laws.proofs.Received.Models.{begins-with}
use Rattle.merge_laws.proofs.Own.OwnPasts.{lines-on}
use Rattle.merge_laws.proofs.Received.Publishing.{in_reach}
use Rattle.merge_laws.proofs.Told.ToldTables.{forgotten-versions}
use Rattle.merge_laws.proofs.Walking.{Sends, StepsKeep, comes, here, join_noted}

module _ (publication : Publication) where
  -- A join covers generations that its site takes for received.
  join-generation : (w : World) (h : History) (m : Join) (found : Option SubscriberTables) → Base publication w h → at_number w.subscribers m.site.0 ≡ found → JoinFits (joined_at w.publisher m.site) m.site m found → join_acts m w.publisher ≡ true → m.generation ≤ received_of w.subscribers m.site.0
  join-generation w h m None b at fits acts = absurd fits
  join-generation w h m (Some s) b at fits acts =
      let joins : joined_at w.publisher m.site < m.seq = grind (arith, nat_tests, acts) in
      let now = fits.2 joins in
      let waits = (b.0.behind.subscribers m.site.0 s at).waits now.0 in
      let received : received_of w.subscribers m.site.0 ≡ s.received = ap (λ (found : Option SubscriberTables). unwrap_or (option_map (λ (t : SubscriberTables). t.received) found) 0) at in
      let told = now.1 in
      omega (arith, waits, received, told)

  join-accounts : (w : World) (h : History) (number : ℕ) (m : Join) → Base publication w h → OfAccounts publication w h → comes w number m.site (Asks (request.Join m)) → join_acts m w.publisher ≡ true
      → Sends (OfAccounts publication) m.site (Replies (reply.Joined (record { seq = m.seq }))) (with_publisher (join_taken m (here w)) w) (join_noted (by_past h (pasts_with h number)) m w.publisher h)
  join-accounts w h number m b a at acts =
      let judge : PublisherJudge = by_past h (pasts_with h number) in
      let found : Key → Option Version = version_at w.publisher in
      let k : History = join_noted judge m w.publisher h in
      let covers : m.generation ≤ received_of w.subscribers m.site.0 =
      join-generation w h m (at_number w.subscribers m.site.0) b refl (pool-at (LetterFits w.subscribers w.publisher) w number (record { site = m.site; message = Asks (request.Join m) }) at b.0.received.letters) acts in
      let covered : History = Noting.with_done m.site.0 0 m.generation h in
      let done : Accounts publication found w.subscribers w.pool covered = done-accounts publication found w.subscribers w.pool h a m.site.0 0 m.generation (omega arith)
      (all-weaker (λ (c : MadeChange). is_settled w.subscribers h c ≡ true → IsSafe h c) (λ (c : MadeChange). is_of m.site.0 c ≡ true → in_reach 0 m.generation c.generation ≡ true → IsSafe h c)
      (λ c old own reach. (
      let same : c.dot.site.0 ≡ m.site.0 = grind (arith, nat_tests, own) in
      let received : received_of w.subscribers c.dot.site.0 ≡ received_of w.subscribers m.site.0 = ap (λ (n : ℕ). received_of w.subscribers n) same in
      old (grind (arith, nat_tests, reach, covers, received))
      )) h.made a.settled) in
      let bases : List (ℕ × ℕ) = put_number h.bases m.site.0 (last_closed w.publisher) in
      let noted : Accounts publication found w.subscribers w.pool k = lines-on (Accounts publication found w.subscribers w.pool) (map (Noting.gone_line (last_closed w.publisher + 1)) (map (Noting.gone_for m.site) (Noting.left_rows judge m.site))) (record covered { bases = bases }) (λ others. based-accounts publication found w.subscribers w.pool covered done others bases) in
      post-accounts publication found w.subscribers w.pool k noted m.site (Replies (reply.Joined (record { seq = m.seq }))) tt (none-traced publication found w.subscribers w.pool k noted) tt

  purge-accounts : (w : World) (h : History) → Base publication w h → OfAccounts publication w h → OfAccounts publication (with_publisher (purge publication w.moment w.publisher).0 w) (Noting.noted_purge publication (by_past h (pasts_with h 0)) (here w) h)
  purge-accounts w h b a =
      let q : PublisherTables = (purge publication w.moment w.publisher).0 in
      let keys : List Key = Noting.old_tombstones publication (here w) in
      let k : History = fold Noting.with_purged h keys in
      let forgot = forgotten-accounts publication (version_at w.publisher) w.subscribers w.pool h b.0.none keys a in
      let same : Accounts publication (version_at q) w.subscribers w.pool k = same-accounts publication _ w.subscribers w.pool k forgot (version_at q)
      (λ key. forgotten-versions (is_old_tombstone publication (here w)) w.publisher.rows b.0.sorted.rows_ascend key) in
      lines-accounts publication (version_at q) w.subscribers w.pool k same
      (map (Noting.gone_line (last_closed (here w) + 1)) (flat_map (Noting.old_left publication (by_past h (pasts_with h 0)) (here w)) (map Noting.site_of_subscription (by_site publication))))

  pub accounts-keep : (says : Saying) → StepsKeep publication says (Base publication) (OfAccounts publication)
  accounts-keep says = record {
    moment = λ w h now b a. a;
    own_change = λ w h change d b a fine is. own-change-accounts publication w h change d b a fine;
    own_closing = λ w h b a. a;
    forgetting = λ w h b a. purge-accounts w h b a;
    same = λ w h s b a at. stays-accounts publication w h s b a at s (λ key. refl) refl;
    subscriber_change = λ w h s change d b a at named fine is. sub-change-accounts publication w h s change d b a at fine;
    subscriber_closing = λ w h s b a at. stays-accounts publication w h s b a at (subscriber_closed (subscriber_at_moment w.moment s)) (λ key. refl) refl;
    anew = λ w h s b a at. anew-accounts publication w h s b a at;
    sends_join = λ w h s b a at joining. (
        let t : SubscriberTables = with_message ask.Join s in
        let stays = stays-accounts publication w h s b a at t (λ key. refl) refl in
        post-accounts publication (version_at w.publisher) (put_number w.subscribers s.site.0 t) w.pool h stays s.site (Asks (request.Join (join_of s))) tt (none-traced publication (version_at w.publisher) (put_number w.subscribers s.site.0 t) w.pool h stays) tt
        );
    sends_upload = λ w h s b a at fine. sending-accounts publication w h s b a at;
    sends_ranges = λ w h s b a at fine. (
        let t : SubscriberTables = with_message ask.Ranges s in
        let stays = stays-accounts publication w h s b a at t (λ key. refl) refl in
        post-accounts publication (version_at w.publisher) (put_number w.subscribers s.site.0 t) w.pool h stays s.site (Asks (request.Ranges (record { site = s.site; seq = s.seq + 1; wants = map want_of s.held }))) tt
        (none-traced publication (version_at w.publisher) (put_number w.subscribers s.site.0 t) w.pool h stays) tt
        );
    sends_ask = λ w h s b a at fine. (
        let t : SubscriberTables = with_message (ask.Download s.watermark) s in
        let stays = stays-accounts publication w h s b a at t (λ key. refl) refl in
        post-accounts publication (version_at w.publisher) (put_number w.subscribers s.site.0 t) w.pool h stays s.site (Asks (request.Download (record { site = s.site; seq = s.seq + 1; from = s.watermark }))) tt
        (none-traced publication (version_at w.publisher) (put_number w.subscribers s.site.0 t) w.pool h stays) tt
        );
    joins = λ w h number m b a at fine acts. join-accounts w h number m b a at acts;
    joins_again = λ w h number m b a at acts. post-accounts publication (version_at w.publisher) w.subscribers w.pool h a m.site (Replies (reply.Joined (record { seq = m.seq }))) tt (none-traced publication (version_at w.publisher) w.subscribers w.pool h a) tt;
    uploads = λ w h number m b a at fine news. upload-accounts publication says w h number m b a at fine news;
    uploads_again = λ w h number m b a at none. post-accounts publication (version_at w.publisher) w.subscribers w.pool h a m.site (Replies (reply.Uploaded _)) tt (none-traced publication (version_at w.publisher) w.subscribers w.pool h a) tt;
    answers_ranges = λ w h site m b a. post-accounts publication (version_at w.publisher) w.subscribers w.pool h a site (Replies (reply.Ranged (reply_to_ranges m (plans publication m w.publisher)))) tt (none-traced publication (version_at w.publisher) w.subscribers w.pool h a) tt;
    answers_ask = λ w h number site m b a at fine. answer-accounts publication w h number site m b a;
    replies = λ w h s number m sent b a at there out none. reply-accounts publication w h s number b a at m sent there out none;
  }

  -- How it begins.
  none-held : (s : SubscriberTables) (key : Key) (version : Version) → s.rows ≡ [] → subscriber_version_at s key ≡ Some version → ⊥
  none-held s key version none at = absurd (let no : None ≡ Some version = sym (ap (λ (rows : List (Key × SubscriberRow)). option_map (λ (row : SubscriberRow). row.version) (row_at rows key)) none) ∙ at in cc)

  pub accounts-begin : (tallies : List ℕ) → (resolvers : ℕ) × IsValid resolvers publication → OfAccounts publication (empty_world publication tallies) no_history
  accounts-begin tallies valid = record {
    publisher = λ key version at. absurd cc;
    subscribers = λ n s key version at held. absurd (none-held s key version (begins-with publication (λ (k : ℕ) (t : SubscriberTables). t.rows ≡ []) (λ k site keyed. refl) n s at) held);
    letters = tt;
    absent = λ key none dot. refl;
    sorted = λ site. none-ascends;
    named = (named-begins publication tallies valid).0;
    held = λ site key. nothing-traced [] [] [] no_past key;
    sent = tt;
    unsent = λ n s at. tt;
    uploads = tt;
    settled = tt;
  }
