-- Every step keeps what holds of identity values, and so does every list of events.
use Rattle.std.specs.Prelude.{◌≤◌, ◌++◌, ◌∷◌, zero, suc, IfOk, All, cond, option_map, unwrap_or, ◌≡◌, ◌+◌, ℕ, List, [], Bool, true, false, Option, Some, None, Result, Ok, refl, map, length, slice_get}
use Rattle.std.specs.BTreeMap.{is_at}
use Rattle.std.specs.Ordering.{nat_cmp}
use Rattle.std.proofs.Common.{arith, subst, sym, ap, ◌∙◌}
use Rattle.std.proofs.lemmas.Option.{slice_get_past}
use Rattle.merge_types.specs.declared.identifiers.SiteId.{SiteId}
use Rattle.merge_types.specs.declared.changes.Change.{Change}
use Rattle.merge_types.specs.declared.values.Value.{Value}
use Rattle.merge_units.specs.declared.version.Version.{Version}
use Rattle.merge_ident.specs.declared.grants.Ask.{Ask}
use Rattle.merge_ident.specs.declared.grants.Grant.{Grant}
use Rattle.merge_ident.specs.declared.grants.Rule.{Rule}
use Rattle.merge_ident.specs.Answers.{grants_with, grants_with_all, plan_of, plans_of}
use Rattle.merge_ident.specs.Books.{IsBook, IsRule}
use Rattle.merge_ident.specs.Holders.{Holder, new_holder}
use Rattle.merge_ident.proofs.Stored.{no_grants}
use Rattle.merge_ident.proofs.Plans.{book-with_plan}
use Rattle.merge_schema.specs.declared.publication.Publication.{Publication}
use Rattle.merge_schema.specs.declared.publication.Identity.{Identity}
use Rattle.merge_schema.specs.declared.publication.Subscription.{Subscription}
use Rattle.merge_batch.specs.declared.refusal.Refusal.{Refusal}
use Rattle.merge_batch.specs.declared.request.Upload.{Upload}
use Rattle.merge_batch.specs.declared.request.RangeAsk.{RangeAsk}
use Rattle.merge_batch.specs.declared.request.Request.TheVariants as request
use Rattle.merge_batch.specs.declared.reply.Reply.{Reply}
use Rattle.merge_batch.specs.declared.reply.Reply.TheVariants as reply
use Rattle.merge_batch.specs.Uploads.{whole_number}
use Rattle.merge_batch.specs.declared.request.Outstanding.{Outstanding}
use Rattle.merge_batch.specs.declared.request.Outstanding.TheVariants as ask
use Rattle.merge_batch.proofs.Values.{slice_get-append_past}
use Rattle.merge_model.specs.Failing.{Slips, faulty}
use Rattle.merge_model.specs.Failing.Runs.{model_behind, model_behind_actions}
use Rattle.merge_model.specs.declared.event.Event.{Event}
use Rattle.merge_types.specs.declared.row_key.RowKey.{RowKey as Key}
use Rattle.merge_model.specs.Tables.{PublisherTables, SubscriberTables}
use Rattle.merge_model.specs.Tables.Keys.{put_number, at_number}
use Rattle.merge_model.specs.Publisher.Acts.{Act}
use Rattle.merge_model.specs.Judge.{PublisherJudge, SubscriberJudge}
use Rattle.merge_model.specs.Tables.Publications.{by_site, identities, rules_of}
use Rattle.merge_model.specs.Publisher.{last_closed, new_holders}
use Rattle.merge_model.specs.Publisher.PublisherLocal.{Drawn, draw_for_change, made_locally, next_dot}
use Rattle.merge_model.specs.Publisher.PublisherRanges.{reply_to_ranges, plans, with_grants, ask_by}
use Rattle.merge_model.specs.Publisher.PublisherDownload.{reply_to, tables_after_download}
use Rattle.merge_model.specs.World.{Saying, World, subscriber_at, with_publisher, with_subscriber, empty_world, empty_subscribers}
use Rattle.merge_model.specs.declared.letter.Message.TheVariants.{Asks, Replies}
use Rattle.merge_model.specs.declared.letter.Letter.{Letter}
use Rattle.merge_model.specs.declared.letter.Message.{Message}
use Rattle.merge_model.specs.World.Steps.{Action, post}
use Rattle.merge_model.specs.History.{History, Line, pasts_with, MadeChange, past_at}
use Rattle.merge_model.specs.Judge.ByHistory.{by_history, by_past, by_made}
use Rattle.merge_model.specs.History.Noting
use Rattle.merge_model.specs.History.Model.{Model, empty_model, model, model_step}
use Rattle.merge_model.specs.World.Events.{after}
use Rattle.merge_model.specs.Tables.Changes.{key_of, version_after}
use Rattle.merge_model.specs.World.Faults.{reply_fault}
use Rattle.merge_model.specs.History.Pasts.{past_after}
use Rattle.merge_model.specs.Subscriber.Reinit.{result_of_reinit}
use Rattle.merge_model.specs.Subscriber.Sending.{join_of, upload_sent, want_of, with_message}
use Rattle.merge_model.specs.Subscriber.{empty_subscriber, subscriber_at_moment, subscriber_closed, subscriber_drawn, subscriber_last_closed, subscriber_made_locally, subscriber_next_dot, subscriber_version_at, with_version, with_version_if}
use Rattle.merge_model.specs.Subscriber.Taking.{tables_after_reply}
use Rattle.merge_model.proofs.Runs.Actions.{failing-actions-keep}
use Rattle.merge_laws.proofs.Runs.Tallied.{received-tallied}
use Rattle.merge_laws.specs.Facts.Identities.{Held, holder_in, held_at, holders_at, Identities, LetterTells, MessageTells}
use Rattle.merge_laws.specs.Facts.Received.{Received}
use Rattle.merge_model.proofs.Lists.Finding.{all-more}
use Rattle.merge_laws.proofs.Identities.IdentityCalls.{held-with, nothing-held}
use Rattle.merge_laws.proofs.Identities.IdentityDraws.{draw-keeps, letters-grow}
use Rattle.merge_laws.proofs.Identities.IdentityGrants.{Grows, all-grow, plans-told}
use Rattle.merge_laws.proofs.Identities.IdentityNotes.{SameTaken, anew-made, lines-made, purge-made, same-made, taker-made, upload-taken}
use Rattle.merge_laws.proofs.Walking.Shapes.{Shapes, is_ranged, step-shaped}
use Rattle.merge_laws.proofs.Walking.{StepsKeep, acts_in, here, join_noted, own_noted, step-keeps, told_by}
use Rattle.merge_laws.proofs.Watermarks.WatermarkModels.{pool-at}
use Rattle.merge_laws.proofs.Identities.IdentityTakes.{all-received, draw-took, holding, own-held, ranged-fits, same-held}
use Rattle.merge_laws.proofs.Received.Models.{model-fine, received-always}
use Rattle.merge_laws.proofs.Runs.OfActions.{of-events}

abbrev pub Apart : Publication → World → List MadeChange → Type 0
Apart publication w made = Identities publication w.publisher.grants w.publisher.held w.subscribers w.pool made

-- How it begins: nothing was granted, and nothing is held.

found-in : {A B : Type 0} (of : A → B) (P : Option B → Type 0) (es : List (ℕ × A)) (n : ℕ) → P None → ((x : A) → P (Some (of x))) → P (at_number (map (λ (e : ℕ × A). (e.0, of e.1)) es) n)
found-in of P [] n none some = none
found-in {A = A} {B = B} of P (e ∷ es) n none some = elim (is_at (nat_cmp n) e.0) as (λ (b : Bool). P (let found : Option B = cond b (Some (of e.1)) (at_number (map (λ (x : ℕ × A). (x.0, of x.1)) es) n) in found)) [
  | true ↦ some e.1
  | false ↦ found-in of P es n none some
]

new-held : (publication : Publication) (site article : ℕ) → Held [] [] site article (holder_in (new_holders publication) article)
new-held publication site article = found-in (λ (identity : Identity). new_holder identity.threshold) (λ (found : Option Holder). Held [] [] site article (unwrap_or found (new_holder 0))) (identities publication) article
    (nothing-held site article 0) (λ identity. nothing-held site article identity.threshold)

sites-held : (publication : Publication) (site article : ℕ) → Held [] [] site article (holder_in (held_at (empty_subscribers publication) site) article)
sites-held publication site article = found-in (λ (subscription : Subscription). empty_subscriber publication subscription.site)
    (λ (found : Option SubscriberTables). Held [] [] site article (holder_in (unwrap_or (option_map (λ (s : SubscriberTables). s.held) found) []) article)) (by_site publication) site
    (nothing-held site article 0) (λ subscription. new-held publication site article)

all-held : (publication : Publication) (site article : ℕ) → Held [] [] site article (holder_in (holders_at (new_holders publication) (empty_subscribers publication) site) article)
all-held publication zero article = new-held publication 0 article
all-held publication (suc k) article = sites-held publication (suc k) article

begins : (publication : Publication) → All IsRule (rules_of publication) → (tallies : List ℕ) → Apart publication (empty_world publication tallies) []
begins publication fit tallies = record {
  book = record {
    rules_fit = fit;
    grants_fit = no_grants;
    in_order = tt;
  };
  held = all-held publication;
  letters = tt;
}

-- What goes on beside what is held.

plans-book : (rules : List Rule) (grants : List Grant) (asks : List Ask) → IsBook rules grants → IsBook rules (grants_with_all grants (plans_of rules grants asks))
plans-book rules grants [] book = book
plans-book rules grants (ask ∷ asks) book = plans-book rules (grants_with grants (plan_of rules grants ask)) asks (book-with_plan rules grants ask book)

module _ (publication : Publication) (grants : List Grant) (own : List (ℕ × Holder)) (subscribers : List (ℕ × SubscriberTables)) (pool : List Letter) (made : List MadeChange) where
  taken-same : (after : List MadeChange) → SameTaken after made → Identities publication grants own subscribers pool made → Identities publication grants own subscribers pool after
  taken-same after same i = record {
    book = i.book;
    held = λ site article. held-with grants grants made after site article (holder_in (holders_at own subscribers site) article) (λ test. omega arith) (same site article) (i.held site article);
    letters = i.letters;
  }

  letter-more : (letter : Letter) → Identities publication grants own subscribers pool made → LetterTells grants letter → Identities publication grants own subscribers (pool ++ letter ∷ []) made
  letter-more letter i tells = record { book = i.book; held = λ site article. i.held site article; letters = all-more (LetterTells grants) pool letter i.letters tells }

  more-granted : (asks : List Ask) → Identities publication grants own subscribers pool made → Identities publication (grants_with_all grants (plans_of (rules_of publication) grants asks)) own subscribers pool made
  more-granted asks i =
      let more : List Grant = grants_with_all grants (plans_of (rules_of publication) grants asks) in
      let grow : Grows grants more = all-grow (rules_of publication) grants asks in
      record {
        book = plans-book (rules_of publication) grants asks i.book;
        held = λ site article. held-with grants more made made site article (holder_in (holders_at own subscribers site) article) grow (λ value. refl) (i.held site article);
        letters = letters-grow grants more pool grow i.letters;
      }

above-zero : (n : ℕ) → (n ≡ 0 → ⊥) → 1 ≤ n
above-zero zero named = absurd (named refl)
above-zero (suc n) named = omega arith

-- A subscriber goes on.

module _ (publication : Publication) (w : World) (made : List MadeChange) (i : Apart publication w made) (s : SubscriberTables) (at : subscriber_at w s.site ≡ Some s) where
  put-stays : (t : SubscriberTables) → t.site ≡ s.site → Identities publication w.publisher.grants w.publisher.held (put_number w.subscribers s.site.0 t) w.pool made → Apart publication (with_subscriber t w) made
  put-stays t same k = subst (λ (x : SiteId). Identities publication w.publisher.grants w.publisher.held (put_number w.subscribers x.0 t) w.pool made) (sym same) k

  same-stays : (t : SubscriberTables) → t.site ≡ s.site → t.held ≡ s.held → Apart publication (with_subscriber t w) made
  same-stays t same held = put-stays t same (same-held publication w.publisher.grants w.publisher.held w.subscribers w.pool made i s at t held)

  -- with a message of it
  sends : (t : SubscriberTables) (message : Message) → t.site ≡ s.site → t.held ≡ s.held → MessageTells w.publisher.grants s.site message → Apart publication (post s.site message (with_subscriber t w)).0 made
  sends t message same held tells =
      letter-more publication w.publisher.grants w.publisher.held (with_subscriber t w).subscribers w.pool made (record { site = s.site; message = message }) (same-stays t same held) tells

  reply-acts : (judge : SubscriberJudge) (sent : Outstanding) (m : Reply) → MessageTells w.publisher.grants s.site (Replies m) → reply_fault publication sent m s ≡ None → Apart publication (with_subscriber (tables_after_reply judge w.moment m s) w) made
  reply-acts judge sent (reply.Joined m) tells none = same-stays (tables_after_reply judge w.moment (reply.Joined m) s) refl refl
  reply-acts judge sent (reply.Uploaded m) tells none = same-stays (tables_after_reply judge w.moment (reply.Uploaded m) s) refl refl
  reply-acts judge sent (reply.Downloaded m) tells none = same-stays (tables_after_reply judge w.moment (reply.Downloaded m) s) refl refl
  reply-acts judge sent (reply.Refused number values) tells none = same-stays (tables_after_reply judge w.moment (reply.Refused number values) s) refl refl
  reply-acts judge sent (reply.Ranged m) tells none =
      let t : SubscriberTables = tables_after_reply judge w.moment (reply.Ranged m) s in
      let fits = ranged-fits publication sent m s none in
      put-stays t refl (holding publication w.publisher.grants w.publisher.held w.subscribers w.pool made i s at t
      (λ low. all-received w.publisher.grants made s.site.0 low m.grants s.held fits.0 fits.1 tells (own-held publication w.publisher.grants w.publisher.held w.subscribers w.pool made i s at low)))

  version-placed : (key : Key) (version : Option Version) (u : SubscriberTables) → u.site ≡ s.site → (after : List MadeChange) → ((t : SubscriberTables) → t.held ≡ u.held → Identities publication w.publisher.grants w.publisher.held (put_number w.subscribers s.site.0 t) w.pool after)
      → Apart publication (with_subscriber (with_version_if key version u) w) after
  version-placed key None u same after each =
      subst (λ (x : SiteId). Identities publication w.publisher.grants w.publisher.held (put_number w.subscribers x.0 u) w.pool after) (sym same) (each u refl)
  version-placed key (Some version) u same after each =
      subst (λ (x : SiteId). Identities publication w.publisher.grants w.publisher.held (put_number w.subscribers x.0 (with_version key version u)) w.pool after) (sym same) (each (with_version key version u) refl)

-- Changes that are made, and answers.

module _ (publication : Publication) (w : World) (h : History) (i : Apart publication w h.made) where
  own-change : (judge : PublisherJudge) (change : Change) (d : Drawn) → draw_for_change publication w.publisher change ≡ Ok d → Apart publication (with_publisher (made_locally publication judge change d (here w)).0 w) (own_noted publication judge change d (here w) h).made
  own-change judge change d is =
      let k : History = Noting.with_change publication (next_dot (here w)) (last_closed (here w) + 1) change d.value h in
      let more : List Line = Noting.lines_of_entries (last_closed (here w) + 1) (Noting.drawn_entries publication judge change (here w) d) in
      let key : Key = key_of (next_dot (here w)) change in
      let c : MadeChange = Noting.made_change publication (next_dot (here w)) (last_closed (here w) + 1) change d.value key (past_after publication (next_dot (here w)) change (past_at h 0 key)) in
      let fact = subst (λ (draw : Result Drawn Refusal). IfOk draw (λ x. (y : MadeChange) → y.dot.site.0 ≡ 0 → y.key.article ≡ (key_of (next_dot w.publisher) change).article → y.identity ≡ whole_number (Some x.value) → Identities publication x.grants x.held w.subscribers w.pool (y ∷ h.made)))
      is (draw-keeps publication w.publisher w.subscribers w.pool h.made i change) in
      subst (λ (made : List MadeChange). Identities publication d.grants d.held w.subscribers w.pool made) (sym (lines-made more k)) (fact c refl refl refl)

  sub-change : (s : SubscriberTables) (change : Change) (d : Value × List (ℕ × Holder)) → subscriber_at w s.site ≡ Some s → 1 ≤ s.site.0 → subscriber_drawn s change ≡ Ok d
      → Apart publication (with_subscriber (subscriber_made_locally publication change d (subscriber_at_moment w.moment s)).0 w) (Noting.with_change publication (subscriber_next_dot s) (subscriber_last_closed s + 1) change d.0 h).made
  sub-change s change d at low is =
      let t : SubscriberTables = subscriber_at_moment w.moment s in
      let key : Key = key_of (subscriber_next_dot s) change in
      let c : MadeChange = Noting.made_change publication (subscriber_next_dot s) (subscriber_last_closed s + 1) change d.0 key (past_after publication (subscriber_next_dot s) change (past_at h s.site.0 key)) in
      let u : SubscriberTables = record t { changes = t.changes + 1; held = d.1 } in
      let fact = subst (λ (draw : Result (Value × List (ℕ × Holder)) Refusal). IfOk draw (λ x. (v : SubscriberTables) (y : MadeChange) → v.held ≡ x.1 → y.dot.site.0 ≡ s.site.0 → y.key.article ≡ (key_of (subscriber_next_dot s) change).article → y.identity ≡ whole_number (Some x.0)
      → Identities publication w.publisher.grants w.publisher.held (put_number w.subscribers s.site.0 v) w.pool (y ∷ h.made)))
      is (draw-took publication w.publisher.grants w.publisher.held w.subscribers w.pool h.made i s at change low) in
      version-placed publication w h.made i s at key (version_after publication (subscriber_next_dot s) d.0 change (subscriber_version_at s key)) u refl (c ∷ h.made) (λ v same. fact v c same refl refl refl)

  -- the publisher answers with the same ranges, where the same values were taken
  answers : (site : SiteId) (m : Reply) (after : List MadeChange) → SameTaken after h.made → MessageTells w.publisher.grants site (Replies m) → Identities publication w.publisher.grants w.publisher.held w.subscribers (w.pool ++ record { site = site; message = Replies m } ∷ []) after
  answers site m after same tells = letter-more publication w.publisher.grants w.publisher.held w.subscribers w.pool after (record { site = site; message = Replies m }) (taken-same publication w.publisher.grants w.publisher.held w.subscribers w.pool h.made after same i) tells

  -- and an ask for ranges, which is of the site that sent it
  answers-ranges : (site : SiteId) (m : RangeAsk) → m.site ≡ site → Apart publication (post site (Replies (reply.Ranged (reply_to_ranges m (plans publication m w.publisher)))) (with_publisher (with_grants (plans publication m w.publisher) (here w)) w)).0 h.made
  answers-ranges site m same =
      let q : PublisherTables = with_grants (plans publication m w.publisher) (here w) in
      let message : Message = Replies (reply.Ranged (reply_to_ranges m (plans publication m w.publisher))) in
      subst (λ (x : SiteId). Identities publication q.grants q.held w.subscribers (w.pool ++ record { site = x; message = message } ∷ []) h.made) same
      (letter-more publication q.grants q.held w.subscribers w.pool h.made (record { site = m.site; message = message })
      (more-granted publication w.publisher.grants w.publisher.held w.subscribers w.pool h.made (map (ask_by m.site) m.wants) i) (plans-told (rules_of publication) w.publisher.grants m.site m.wants))

-- Every step. The ways that it can go do not tell which site an ask for ranges came from. So they tell of the steps that post no
-- answer to such an ask, and the shapes of a step tell of those that do.

-- whether ranges are told in the letter after these
abbrev pub tells_ranges : List Letter → World → Bool
tells_ranges pool w = elim (slice_get w.pool (length pool)) [
  | None ↦ false
  | Some letter ↦ elim letter.message [
    | Asks m ↦ false
    | Replies m ↦ is_ranged m
  ]
]

pub posted-tells : (pool : List Letter) (w : World) (site : SiteId) (message : Message) → w.pool ≡ pool → tells_ranges pool (post site message w).0 ≡ (let b : Bool = elim message [ Asks m ↦ false | Replies m ↦ is_ranged m ] in b)
posted-tells pool w site message same =
    let letter : Letter = record { site = site; message = message } in
    ap (λ (xs : List Letter). tells_ranges xs (post site message w).0) (sym same)
    ∙ ap (λ (found : Option Letter). (let b : Bool = elim found [ None ↦ false | Some x ↦ elim x.message [ Asks m ↦ false | Replies m ↦ is_ranged m ] ] in b)) (slice_get-append_past w.pool (letter ∷ []) (length w.pool) 0 (omega arith))

pub none-tells : (w : World) → tells_ranges w.pool w ≡ false
none-tells w = ap (λ (found : Option Letter). (let b : Bool = elim found [ None ↦ false | Some x ↦ elim x.message [ Asks m ↦ false | Replies m ↦ is_ranged m ] ] in b)) (slice_get_past w.pool (length w.pool) (omega arith))

pub not-both : {A : Type 0} (b : Bool) → b ≡ false → b ≡ true → A
not-both b none some = absurd (grind (arith, none, some))

module _ (publication : Publication) (says : Saying) where
  -- what is known before the step
  abbrev Base : List Letter → World → History → Type 0
  Base pool w h = Received w h × (Apart publication w h.made × (w.pool ≡ pool))

  abbrev Unanswered : List Letter → World → History → Type 0
  Unanswered pool w h = tells_ranges pool w ≡ false → Apart publication w h.made

  identities-keep : (pool : List Letter) → StepsKeep publication says (Base pool) (Unanswered pool)
  identities-keep pool = record {
    moment = λ w h now b p none. b.1.0;
    own_change = λ w h change d b p fine is none. own-change publication w h b.1.0 (by_past h (pasts_with h 0)) change d is;
    own_closing = λ w h b p none. b.1.0;
    forgetting = λ w h b p none. (let judge : PublisherJudge = by_past h (pasts_with h 0) in let k : History = Noting.noted_purge publication judge (here w) h in
        taken-same publication w.publisher.grants w.publisher.held w.subscribers w.pool h.made k.made (same-made k.made h.made (purge-made publication judge (here w) h)) b.1.0);
    same = λ w h s b p at none. same-stays publication w h.made b.1.0 s at s refl refl;
    subscriber_change = λ w h s change d b p at named fine is none. sub-change publication w h b.1.0 s change d at (above-zero s.site.0 named) is;
    subscriber_closing = λ w h s b p at none. same-stays publication w h.made b.1.0 s at (subscriber_closed (subscriber_at_moment w.moment s)) refl refl;
    anew = λ w h s b p at none. (let judge : SubscriberJudge = by_made h s.site in let t : SubscriberTables = (result_of_reinit judge (subscriber_at_moment w.moment s)).0 in
        subst (λ (made : List MadeChange). Apart publication (with_subscriber t w) made) (sym (anew-made (by_history h) s.site (Some s) h)) (same-stays publication w h.made b.1.0 s at t refl refl));
    sends_join = λ w h s b p at joining none. sends publication w h.made b.1.0 s at (with_message ask.Join s) (Asks (request.Join (join_of s))) refl refl tt;
    sends_upload = λ w h s b p at fine none. (let made : SubscriberTables × Upload = upload_sent (by_made h s.site) (subscriber_closed (subscriber_at_moment w.moment s)) in sends publication w h.made b.1.0 s at made.0 (Asks (request.Upload made.1)) refl refl tt);
    sends_ranges = λ w h s b p at fine none. sends publication w h.made b.1.0 s at (with_message ask.Ranges s) (Asks (request.Ranges (record { site = s.site; seq = s.seq + 1; wants = map want_of s.held }))) refl refl refl;
    sends_ask = λ w h s b p at fine none. sends publication w h.made b.1.0 s at (with_message (ask.Download s.watermark) s) (Asks (request.Download (record { site = s.site; seq = s.seq + 1; from = s.watermark }))) refl refl tt;
    joins = λ w h number m b p at fine acts none. (let judge : PublisherJudge = by_past h (pasts_with h number) in
        let joined : History = record (Noting.with_done m.site.0 0 m.generation h) { bases = put_number h.bases m.site.0 (last_closed w.publisher) } in
        let lines : List Line = map (Noting.gone_line (last_closed w.publisher + 1)) (map (Noting.gone_for m.site) (Noting.left_rows judge m.site)) in
        answers publication w h b.1.0 m.site (reply.Joined (record { seq = m.seq })) (join_noted judge m w.publisher h).made (same-made (join_noted judge m w.publisher h).made h.made (lines-made lines joined)) tt);
    joins_again = λ w h number m b p at acts none. answers publication w h b.1.0 m.site (reply.Joined (record { seq = m.seq })) h.made (λ site article value. refl) tt;
    uploads = λ w h number m b p at fine news none. (let judge : PublisherJudge = by_past h (pasts_with h number) in let acts : List Act = acts_in publication says judge m w in
        answers publication w h b.1.0 m.site (reply.Uploaded (told_by judge m)) (Noting.with_acts_noted publication judge m acts (pasts_with h number) (here w) h).made (upload-taken publication judge m acts (pasts_with h number) (here w) h true) tt);
    uploads_again = λ w h number m b p at old none. answers publication w h b.1.0 m.site (reply.Uploaded (told_by (by_past h (pasts_with h number)) m)) h.made (λ site article value. refl) tt;
    answers_ranges = λ w h site m b p none. (let v : World = with_publisher (with_grants (plans publication m w.publisher) (here w)) w in
        let message : Message = Replies (reply.Ranged (reply_to_ranges m (plans publication m w.publisher))) in not-both (tells_ranges pool (post site message v).0) none (posted-tells pool v site message b.1.1));
    answers_ask = λ w h number site m b p at fine none. answers publication w h b.1.0 site (reply.Downloaded (reply_to publication (by_past h (pasts_with h number)) m (tables_after_download m (here w)))) h.made (λ x article value. refl) tt;
    replies = λ w h s number m sent b p at there out fits none. (let judge : SubscriberJudge = by_made h s.site in let t : SubscriberTables = tables_after_reply judge w.moment m s in
        subst (λ (made : List MadeChange). Apart publication (with_subscriber t w) made) (sym (taker-made (by_history h) s.site (pasts_with h number) m (Some s) h))
        (reply-acts publication w h.made b.1.0 s at judge sent m (pool-at (LetterTells w.publisher.grants) w number (record { site = s.site; message = Replies m }) there b.1.0.letters) fits));
  }

  ranges-keep : (w : World) (h : History) → Apart publication w h.made → Shapes publication w h (λ (v : World) (k : History). tells_ranges w.pool v ≡ true → Apart publication v k.made)
  ranges-keep w h i = record {
    nothing = λ k is. not-both (tells_ranges w.pool w) (none-tells w) is;
    passes = λ seconds k is. not-both (tells_ranges w.pool w) (none-tells w) is;
    publisher = λ q k is. not-both (tells_ranges w.pool w) (none-tells w) is;
    subscriber = λ t k is. not-both (tells_ranges w.pool w) (none-tells w) is;
    asks = λ t site m k is. not-both (tells_ranges w.pool (post site (Asks m) (with_subscriber t w)).0) (posted-tells w.pool (with_subscriber t w) site (Asks m) refl) is;
    answers = λ q tallies site m k other is. (let v : World = record w { publisher = q; tallies = tallies } in not-both (tells_ranges w.pool (post site (Replies m) v).0) (posted-tells w.pool v site (Replies m) refl ∙ other) is);
    ranges = λ number site m at is. answers-ranges publication w h i site m (pool-at (LetterTells w.publisher.grants) w number (record { site = site; message = Asks (request.Ranges m) }) at i.letters);
  }

  decided : {A : Type 0} (b : Bool) → (b ≡ true → A) → (b ≡ false → A) → A
  decided true one other = one refl
  decided false one other = other refl

  identities-step : (m : Model) (action : Action) → Received m.world m.history → Apart publication m.world m.history.made → (let n : Model = (model_step publication says m action).0 in Apart publication n.world n.history.made)
  identities-step m action r i =
      let n : Model = (model_step publication says m action).0 in
      let pool : List Letter = m.world.pool in
      decided (tells_ranges pool n.world)
      (step-shaped publication says m.world m.history (λ (v : World) (k : History). tells_ranges pool v ≡ true → Apart publication v k.made) (ranges-keep m.world m.history i) action)
      (step-keeps publication says (Base pool) (Unanswered pool) (λ w h b. b.0) (identities-keep pool) m action (r, (i, refl)) (λ none. i))

-- Every list of events.

pub identities-by-actions : (publication : Publication) → All IsRule (rules_of publication) → (says : Saying) (tallies : List ℕ) (slips : Slips) (actions : List Action)
    → (let m : Model = model_behind_actions publication says tallies slips actions in Apart publication m.world m.history.made)
identities-by-actions publication fit says tallies slips actions =
    (failing-actions-keep publication (model publication says) (λ (m : Model). Received m.world m.history × Apart publication m.world m.history.made)
    (λ m action both. (model-fine publication says m action both.0, identities-step publication says m action both.0 both.1)) (λ m others both. (received-tallied m.world others m.history both.0, both.1)) actions (faulty (empty_model publication tallies) slips)
    (received-always publication says tallies [] [], begins publication fit tallies)).1

pub identities-always : (publication : Publication) → All IsRule (rules_of publication) → (says : Saying) (tallies : List ℕ) (slips : Slips) (events : List Event)
    → (let m : Model = model_behind publication says tallies slips events in Apart publication m.world m.history.made)
identities-always publication fit says tallies slips events = of-events publication says tallies slips events (λ (m : Model). Apart publication m.world m.history.made) (identities-by-actions publication fit says tallies slips)
