-- An exchange of the model over any world: a message is made, the publisher answers it, and the answer comes.
use Rattle.std.specs.List.{last_or}
use Rattle.std.specs.Prelude.{Err, List, None, Ok, Option, Result, Some, [], length, map, refl, slice_get, suc, ℕ, ◌++◌, ◌+◌, ◌∷◌, ◌≡◌}
use Rattle.std.proofs.Common.{ap, arith, subst, sym, ◌∙◌}
use Rattle.merge_types.specs.declared.identifiers.SiteId.{SiteId}
use Rattle.merge_resolve.specs.Asked.{tallies_after}
use Rattle.merge_schema.specs.declared.publication.Publication.{Publication}
use Rattle.merge_batch.specs.declared.refusal.Refusal.{Refusal}
use Rattle.merge_batch.specs.declared.refusal.Refusal.TheVariants.{UnknownSite}
use Rattle.merge_batch.specs.declared.reply.Reply.{Reply}
use Rattle.merge_batch.specs.declared.reply.Reply.TheVariants as reply
use Rattle.merge_batch.specs.declared.reply.Uploaded.{Uploaded}
use Rattle.merge_batch.specs.declared.request.Download.{Download}
use Rattle.merge_batch.specs.declared.request.Request.{Request}
use Rattle.merge_batch.specs.declared.request.Request.TheVariants as request
use Rattle.merge_batch.specs.declared.request.Upload.{Upload}
use Rattle.merge_model.specs.Judge.ByNumbers.{by_numbers, by_rows}
use Rattle.merge_model.specs.Publisher.PublisherDownload.{download}
use Rattle.merge_model.specs.Publisher.PublisherJoin.{join}
use Rattle.merge_model.specs.Publisher.PublisherRanges.{ranges}
use Rattle.merge_model.specs.Publisher.PublisherUpload.{upload}
use Rattle.merge_model.specs.Subscriber.Sending.{make_ask, make_join, make_ranges, make_upload}
use Rattle.merge_model.specs.Subscriber.Taking.{take_reply}
use Rattle.merge_model.specs.Tables.Keys.{at_number, put_number}
use Rattle.merge_model.specs.Tables.{PublisherTables, SubscriberTables}
use Rattle.merge_model.specs.World.Calls.{as_reply, questions_on, result_of_request}
use Rattle.merge_model.specs.World.Events.{machine}
use Rattle.merge_model.specs.World.Session.{Session, answered_as, ask, exchange, session_after_reply, then_deliver}
use Rattle.merge_model.specs.World.Steps.{Action, Deliver, Send, SendDownload, SendJoin, SendRanges, SendUpload, Sending, after_upload, deliver_letter, deliver_reply, deliver_request, kept_decisions, post, post_if_made, post_reply, send_from, unless_refused, upload_questions}
use Rattle.merge_model.specs.World.{Saying, World, by_tables, letter_at, subscriber_at, with_publisher, with_subscriber}
use Rattle.merge_model.specs.declared.letter.Letter.{Letter}
use Rattle.merge_model.specs.declared.letter.Message.{Message}
use Rattle.merge_model.specs.declared.letter.Message.TheVariants.{Asks, Replies}
use Rattle.merge_model.specs.declared.outcome.Outcome.{Outcome}
use Rattle.merge_model.specs.declared.outcome.Outcome.TheVariants.{NoLetter, NoPost, Posted, Refuses, Took}
use Rattle.merge_model.specs.declared.outcome.Taken.{Taken}
use Rattle.merge_model.specs.declared.outcome.Taken.TheVariants.{Acted}
use Rattle.merge_model.proofs.Lists.Finding.{at_put_same}
use Rattle.merge_laws.proofs.Walking.{letter-last as last-there}
use Rattle.merge_world.specs.Messages.{as_request, request_of_sending, some_if_made}
use Rattle.merge_laws.proofs.Sessions.SessionExchanges.{last-posted}

-- the world with a request more in the pool, and with a reply
abbrev pub sent_world : SiteId → SubscriberTables → Request → World → World
sent_world site sent q w = (post site (Asks q) (with_subscriber sent w)).0

abbrev pub replied_world : Publication → SiteId → Request → PublisherTables → Reply → World → World
replied_world publication site q p r w = (post site (Replies r) (record w { publisher = p; tallies = tallies_after w.tallies (questions_on publication w.moment q w.publisher) })).0

-- and with its tables behind the reply
abbrev pub taken_world : Publication → SiteId → SubscriberTables → Request → PublisherTables → Reply → SubscriberTables → World → World
taken_world publication site sent q p r new w = with_subscriber new (replied_world publication site q p r (sent_world site sent q w))

-- the site's tables in it
pub sent-has : (site : SiteId) (sent : SubscriberTables) (q : Request) (w : World) → sent.site ≡ site → subscriber_at (sent_world site sent q w) site ≡ Some sent
sent-has site sent q w keyed = subst (λ (x : SiteId). at_number (put_number w.subscribers sent.site.0 sent) x.0 ≡ Some sent) keyed (at_put_same sent.site.0 sent w.subscribers)

-- A message that is made, by what its call gives.

sent-by : {A : Type 0} (site : SiteId) (message : A → Request) (w : World) (made : Result (Option (SubscriberTables × A)) Refusal) (sent : SubscriberTables) (q : Request) → as_request message made ≡ Ok (Some (sent, q))
    → unless_refused w made (post_if_made site message w) ≡ (sent_world site sent q w, Posted (length w.pool + 1))
sent-by site message w (Ok (Some made)) sent q e =
    let pair : (let both : SubscriberTables × Request = (made.0, message made.1) in both) ≡ (sent, q) = cc in
    ap (λ (both : SubscriberTables × Request). post site (Asks both.1) (with_subscriber both.0 w)) pair
sent-by site message w (Ok None) sent q e = absurd cc
sent-by site message w (Err why) sent q e = absurd cc

sent-always : (site : SiteId) (w : World) (made : Result (SubscriberTables × Download) Refusal) (sent : SubscriberTables) (q : Request) → as_request request.Download (some_if_made made) ≡ Ok (Some (sent, q))
    → unless_refused w made (λ (done : SubscriberTables × Download). post site (Asks (request.Download done.1)) (with_subscriber done.0 w)) ≡ (sent_world site sent q w, Posted (length w.pool + 1))
sent-always site w (Ok made) sent q e =
    let pair : (let both : SubscriberTables × Request = (made.0, request.Download made.1) in both) ≡ (sent, q) = cc in
    ap (λ (both : SubscriberTables × Request). post site (Asks both.1) (with_subscriber both.0 w)) pair
sent-always site w (Err why) sent q e = absurd cc

sending-is : (sending : Sending) (w : World) (s sent : SubscriberTables) (q : Request) → request_of_sending sending w.moment s ≡ Ok (Some (sent, q))
    → send_from (by_tables w) sending w s ≡ (sent_world s.site sent q w, Posted (length w.pool + 1))
sending-is SendJoin w s sent q e = sent-by s.site request.Join w (make_join s) sent q e
sending-is SendUpload w s sent q e = sent-by s.site request.Upload w (make_upload (by_rows s) w.moment s) sent q e
sending-is SendRanges w s sent q e = sent-by s.site request.Ranges w (make_ranges s) sent q e
sending-is SendDownload w s sent q e = sent-always s.site w (make_ask s) sent q e

-- where there is none to make

none-by : {A : Type 0} (site : SiteId) (message : A → Request) (w : World) (made : Result (Option (SubscriberTables × A)) Refusal) → as_request message made ≡ Ok None → unless_refused w made (post_if_made site message w) ≡ (w, NoPost)
none-by site message w (Ok (Some made)) e = absurd cc
none-by site message w (Ok None) e = refl
none-by site message w (Err why) e = absurd cc

none-never : (made : Result (SubscriberTables × Download) Refusal) → as_request request.Download (some_if_made made) ≡ Ok None → ⊥
none-never (Ok made) e = absurd cc
none-never (Err why) e = absurd cc

none-is : (sending : Sending) (w : World) (s : SubscriberTables) → request_of_sending sending w.moment s ≡ Ok None → send_from (by_tables w) sending w s ≡ (w, NoPost)
none-is SendJoin w s e = none-by s.site request.Join w (make_join s) e
none-is SendUpload w s e = none-by s.site request.Upload w (make_upload (by_rows s) w.moment s) e
none-is SendRanges w s e = none-by s.site request.Ranges w (make_ranges s) e
none-is SendDownload w s e = absurd (none-never (make_ask s) e)

-- and where the site refuses to make it

not-by : {A : Type 0} (site : SiteId) (message : A → Request) (w : World) (made : Result (Option (SubscriberTables × A)) Refusal) (why : Refusal) → as_request message made ≡ Err why → unless_refused w made (post_if_made site message w) ≡ (w, Refuses why)
not-by site message w (Ok made) why e = absurd cc
not-by site message w (Err other) why e = let same : other ≡ why = cc in ap (λ (x : Refusal). (let done : World × Outcome = (w, Refuses x) in done)) same

not-always : (site : SiteId) (w : World) (made : Result (SubscriberTables × Download) Refusal) (why : Refusal) → as_request request.Download (some_if_made made) ≡ Err why
    → unless_refused w made (λ (done : SubscriberTables × Download). post site (Asks (request.Download done.1)) (with_subscriber done.0 w)) ≡ (w, Refuses why)
not-always site w (Ok made) why e = absurd cc
not-always site w (Err other) why e = let same : other ≡ why = cc in ap (λ (x : Refusal). (let done : World × Outcome = (w, Refuses x) in done)) same

not-made : (sending : Sending) (w : World) (s : SubscriberTables) (why : Refusal) → request_of_sending sending w.moment s ≡ Err why → send_from (by_tables w) sending w s ≡ (w, Refuses why)
not-made SendJoin w s why e = not-by s.site request.Join w (make_join s) why e
not-made SendUpload w s why e = not-by s.site request.Upload w (make_upload (by_rows s) w.moment s) why e
not-made SendRanges w s why e = not-by s.site request.Ranges w (make_ranges s) why e
not-made SendDownload w s why e = not-always s.site w (make_ask s) why e

-- a site always has an ask to make
pub asks-always : (s : SubscriberTables) → as_request request.Download (some_if_made (make_ask s)) ≡ Ok None → ⊥
asks-always s e = none-never (make_ask s) e

-- What the publisher answers.

reply-by : {A : Type 0} (site : SiteId) (message : A → Reply) (w : World) (done : Result (PublisherTables × A) Refusal) (p : PublisherTables) (r : Reply) → as_reply message done ≡ Ok (p, r)
    → post_reply site message w done ≡ ((post site (Replies r) (with_publisher p w)).0, Posted (length w.pool + 1))
reply-by site message w (Ok done) p r e =
    let pair : (let both : PublisherTables × Reply = (done.0, message done.1) in both) ≡ (p, r) = cc in
    ap (λ (both : PublisherTables × Reply). post site (Replies both.1) (with_publisher both.0 w)) pair
reply-by site message w (Err why) p r e = absurd cc

refused-by : {A : Type 0} (site : SiteId) (message : A → Reply) (w : World) (done : Result (PublisherTables × A) Refusal) (why : Refusal) → as_reply message done ≡ Err why → post_reply site message w done ≡ (w, Refuses why)
refused-by site message w (Ok done) why e = absurd cc
refused-by site message w (Err other) why e = let same : other ≡ why = cc in ap (λ (x : Refusal). (let done : World × Outcome = (w, Refuses x) in done)) same

module _ (publication : Publication) (says : Saying) where
  upload-by : (site : SiteId) (m : Upload) (w : World) (done : Result (PublisherTables × Uploaded) Refusal) (p : PublisherTables) (r : Reply) → as_reply reply.Uploaded done ≡ Ok (p, r)
      → after_upload publication says (by_numbers w.publisher) site m w done ≡ (replied_world publication site (request.Upload m) p r w, Posted (length w.pool + 1))
  upload-by site m w (Ok done) p r e =
      let pair : (let both : PublisherTables × Reply = (done.0, reply.Uploaded done.1) in both) ≡ (p, r) = cc in
      ap (λ (both : PublisherTables × Reply). post site (Replies both.1) (record w { publisher = both.0; tallies = tallies_after w.tallies (questions_on publication w.moment (request.Upload m) w.publisher) })) pair
  upload-by site m w (Err why) p r e = absurd cc

  no-upload-by : (site : SiteId) (m : Upload) (w : World) (done : Result (PublisherTables × Uploaded) Refusal) (why : Refusal) → as_reply reply.Uploaded done ≡ Err why → after_upload publication says (by_numbers w.publisher) site m w done ≡ (w, Refuses why)
  no-upload-by site m w (Ok done) why e = absurd cc
  no-upload-by site m w (Err other) why e = let same : other ≡ why = cc in ap (λ (x : Refusal). (let done : World × Outcome = (w, Refuses x) in done)) same

  pub answer-is : (site : SiteId) (q : Request) (w : World) (p : PublisherTables) (r : Reply) → result_of_request publication says w.tallies w.moment q w.publisher ≡ Ok (p, r)
      → deliver_request publication says (by_numbers w.publisher) site q w ≡ (replied_world publication site q p r w, Posted (length w.pool + 1))
  answer-is site (request.Join m) w p r e = reply-by site reply.Joined w (join publication w.moment m w.publisher) p r e
  answer-is site (request.Upload m) w p r e = upload-by site m w (upload publication (by_numbers w.publisher) w.moment m (kept_decisions says w.tallies (upload_questions publication (by_numbers w.publisher) w.moment m w.publisher)) w.publisher) p r e
  answer-is site (request.Ranges m) w p r e = reply-by site reply.Ranged w (ranges publication (by_numbers w.publisher) w.moment m w.publisher) p r e
  answer-is site (request.Download m) w p r e = reply-by site reply.Downloaded w (download publication (by_numbers w.publisher) w.moment m w.publisher) p r e

  pub refusal-is : (site : SiteId) (q : Request) (w : World) (why : Refusal) → result_of_request publication says w.tallies w.moment q w.publisher ≡ Err why → deliver_request publication says (by_numbers w.publisher) site q w ≡ (w, Refuses why)
  refusal-is site (request.Join m) w why e = refused-by site reply.Joined w (join publication w.moment m w.publisher) why e
  refusal-is site (request.Upload m) w why e = no-upload-by site m w (upload publication (by_numbers w.publisher) w.moment m (kept_decisions says w.tallies (upload_questions publication (by_numbers w.publisher) w.moment m w.publisher)) w.publisher) why e
  refusal-is site (request.Ranges m) w why e = refused-by site reply.Ranged w (ranges publication (by_numbers w.publisher) w.moment m w.publisher) why e
  refusal-is site (request.Download m) w why e = refused-by site reply.Downloaded w (download publication (by_numbers w.publisher) w.moment m w.publisher) why e

  -- what comes of a reply that the site took, or refused
  abbrev took_by : World → Result (SubscriberTables × Taken) Refusal → World × Outcome
  took_by w done = unless_refused w done (λ (made : SubscriberTables × Taken). (with_subscriber made.0 w, Took made.1))

  -- The steps of the machine.

  abbrev act : World → Action → World × Outcome
  act = (machine publication says).act

  sent-at : (site : SiteId) (sending : Sending) (w : World) (s : SubscriberTables) (done : World × Outcome) → subscriber_at w site ≡ Some s → send_from (by_tables w) sending w s ≡ done → act w (Send site sending) ≡ done
  sent-at site sending w s done at is =
      subst (λ (found : Option SubscriberTables). (let made : World × Outcome = elim found [ None ↦ (w, Refuses (UnknownSite site)) | Some t ↦ send_from (by_tables w) sending w t ] in made) ≡ done) (sym at) is

  letter-last : (pool : List Letter) (letter : Letter) (w : World) → w.pool ≡ pool ++ letter ∷ [] → letter_at w (length pool + 1) ≡ Some letter
  letter-last pool letter w is =
      let next : length pool + 1 ≡ suc (length pool) = omega arith in
      ap (λ (k : ℕ). letter_at w k) next ∙ ap (λ (letters : List Letter). slice_get letters (length pool)) is ∙ last-there pool letter

  pub comes : (number : ℕ) (w : World) (letter : Letter) (done : World × Outcome) → letter_at w number ≡ Some letter → deliver_letter publication says (by_tables w) number w letter ≡ done → act w (Deliver number) ≡ done
  comes number w letter done at is =
      subst (λ (found : Option Letter). (let made : World × Outcome = elim found [ None ↦ (w, NoLetter) | Some x ↦ deliver_letter publication says (by_tables w) number w x ] in made) ≡ done) (sym at) is

  came-back : (number : ℕ) (w : World) (site : SiteId) (r : Reply) (t : SubscriberTables) (done : Result (SubscriberTables × Taken) Refusal) → letter_at w number ≡ Some (record { site = site; message = Replies r }) → subscriber_at w site ≡ Some t
      → take_reply publication (by_rows t) w.moment r t ≡ done → act w (Deliver number) ≡ took_by w done
  came-back number w site r t done letter at is = comes number w (record { site = site; message = Replies r }) (took_by w done) letter
      (subst (λ (found : Option SubscriberTables). (let made : World × Outcome = elim found [ None ↦ (w, Refuses (UnknownSite site)) | Some s ↦ deliver_reply publication (by_tables w) r w s ] in made) ≡ took_by w done) (sym at)
      (ap (λ (x : Result (SubscriberTables × Taken) Refusal). took_by w x) is))

  -- An exchange that went through, or that one of both refused.
  module _ (site : SiteId) (sending : Sending) (w : World) (s sent : SubscriberTables) (q : Request) (here : subscriber_at w site ≡ Some s) (own : s.site ≡ site) (made : request_of_sending sending w.moment s ≡ Ok (Some (sent, q))) where
    pub send-is : act w (Send site sending) ≡ (sent_world site sent q w, Posted (length w.pool + 1))
    send-is = sent-at site sending w s (sent_world site sent q w, Posted (length w.pool + 1)) here
        (sending-is sending w s sent q made ∙ ap (λ (x : SiteId). (let done : World × Outcome = (sent_world x sent q w, Posted (length w.pool + 1)) in done)) own)

    pub request-there : letter_at (sent_world site sent q w) (length w.pool + 1) ≡ Some (record { site = site; message = Asks q })
    request-there = letter-last w.pool (record { site = site; message = Asks q }) (sent_world site sent q w) refl

    ask-refused : (why : Refusal) → result_of_request publication says w.tallies w.moment q w.publisher ≡ Err why → ask (machine publication says) site sending w ≡ (sent_world site sent q w, Refuses why)
    ask-refused why e = ap (λ (done : World × Outcome). then_deliver (machine publication says) site done) send-is
        ∙ comes (length w.pool + 1) (sent_world site sent q w) (record { site = site; message = Asks q }) (sent_world site sent q w, Refuses why) request-there (refusal-is site q (sent_world site sent q w) why e)

    pub refused-is : (why : Refusal) (x : Session World) (counted next : Session World → Session World) → result_of_request publication says w.tallies w.moment q w.publisher ≡ Err why → x.world ≡ w
        → exchange (machine publication says) site sending counted next x ≡ record x { world = sent_world site sent q w; stop = Some why }
    refused-is why x counted next e is =
        ap (λ (v : World). answered_as (machine publication says) site counted next x (ask (machine publication says) site sending v)) is
        ∙ ap (λ (done : World × Outcome). answered_as (machine publication says) site counted next x done) (ask-refused why e)

    -- the publisher answered
    module _ (p : PublisherTables) (r : Reply) (answer : result_of_request publication says w.tallies w.moment q w.publisher ≡ Ok (p, r)) (keyed : sent.site ≡ site) where
      abbrev replied : World
      replied = replied_world publication site q p r (sent_world site sent q w)

      ask-answered : ask (machine publication says) site sending w ≡ (replied, Posted (length (sent_world site sent q w).pool + 1))
      ask-answered = ap (λ (done : World × Outcome). then_deliver (machine publication says) site done) send-is
          ∙ comes (length w.pool + 1) (sent_world site sent q w) (record { site = site; message = Asks q }) (replied, Posted (length (sent_world site sent q w).pool + 1)) request-there
          (answer-is site q (sent_world site sent q w) p r answer)

      -- and this came of its reply
      came-is : (done : Result (SubscriberTables × Taken) Refusal) (x : Session World) (counted next : Session World → Session World) → take_reply publication (by_rows sent) w.moment r sent ≡ done → x.world ≡ w
          → exchange (machine publication says) site sending counted next x ≡ session_after_reply (machine publication says) site next (counted (record x { world = replied })) (took_by replied done)
      came-is done x counted next taken is =
          ap (λ (v : World). answered_as (machine publication says) site counted next x (ask (machine publication says) site sending v)) is
          ∙ ap (λ (made : World × Outcome). answered_as (machine publication says) site counted next x made) ask-answered
          ∙ ap (λ (made : World × Outcome). session_after_reply (machine publication says) site next (counted (record x { world = replied })) made)
          (came-back (length (sent_world site sent q w).pool + 1) replied site r sent done
          (letter-last (sent_world site sent q w).pool (record { site = site; message = Replies r }) replied refl) (sent-has site sent q w keyed) taken)

      pub exchange-is : (new : SubscriberTables) (x : Session World) (counted next : Session World → Session World) → take_reply publication (by_rows sent) w.moment r sent ≡ Ok (new, Acted) → x.world ≡ w
          → exchange (machine publication says) site sending counted next x ≡ next (record (counted (record x { world = replied })) { world = taken_world publication site sent q p r new w })
      exchange-is new x counted next taken is = came-is (Ok (new, Acted)) x counted next taken is

      pub untaken-is : (why : Refusal) (x : Session World) (counted next : Session World → Session World) → take_reply publication (by_rows sent) w.moment r sent ≡ Err why → x.world ≡ w
          → exchange (machine publication says) site sending counted next x ≡ record (counted (record x { world = replied })) { world = replied; stop = Some why }
      untaken-is why x counted next refused is = came-is (Err why) x counted next refused is

      -- what each step keeps, such an exchange keeps
      pub taken-keeps : (P : World → Type 0) → ((v : World) (action : Action) → P v → P (act v action).0) → (new : SubscriberTables) → take_reply publication (by_rows sent) w.moment r sent ≡ Ok (new, Acted) → P w → P (taken_world publication site sent q p r new w)
      taken-keeps P keeps new taken before =
          let asked : P (sent_world site sent q w) = subst (λ (done : World × Outcome). P done.0) send-is (keeps w (Send site sending) before) in
          let told : P replied = subst (λ (done : World × Outcome). P done.0)
          (comes (length w.pool + 1) (sent_world site sent q w) (record { site = site; message = Asks q }) (replied, Posted (length (sent_world site sent q w).pool + 1)) request-there (answer-is site q (sent_world site sent q w) p r answer))
          (keeps (sent_world site sent q w) (Deliver (length w.pool + 1)) asked) in
          subst (λ (done : World × Outcome). P done.0)
          (came-back (length (sent_world site sent q w).pool + 1) replied site r sent (Ok (new, Acted))
          (letter-last (sent_world site sent q w).pool (record { site = site; message = Replies r }) replied refl) (sent-has site sent q w keyed) taken)
          (keeps replied (Deliver (length (sent_world site sent q w).pool + 1)) told)

  pub none-sent : (site : SiteId) (sending : Sending) (w : World) (s : SubscriberTables) (x : Session World) (counted next : Session World → Session World) → subscriber_at w site ≡ Some s → request_of_sending sending w.moment s ≡ Ok None
      → x.world ≡ w → exchange (machine publication says) site sending counted next x ≡ record x { world = w }
  none-sent site sending w s x counted next here none is =
      ap (λ (v : World). answered_as (machine publication says) site counted next x (ask (machine publication says) site sending v)) is
      ∙ ap (λ (done : World × Outcome). answered_as (machine publication says) site counted next x (then_deliver (machine publication says) site done)) (sent-at site sending w s (w, NoPost) here (none-is sending w s none))

  pub unmade-is : (site : SiteId) (sending : Sending) (w : World) (s : SubscriberTables) (why : Refusal) (x : Session World) (counted next : Session World → Session World) → subscriber_at w site ≡ Some s → request_of_sending sending w.moment s ≡ Err why
      → x.world ≡ w → exchange (machine publication says) site sending counted next x ≡ record x { world = w; stop = Some why }
  unmade-is site sending w s why x counted next here refused is =
      ap (λ (v : World). answered_as (machine publication says) site counted next x (ask (machine publication says) site sending v)) is
      ∙ ap (λ (done : World × Outcome). answered_as (machine publication says) site counted next x (then_deliver (machine publication says) site done)) (sent-at site sending w s (w, Refuses why) here (not-made sending w s why refused))

-- What the world has behind a turn.
module _ (publication : Publication) (site : SiteId) (sent : SubscriberTables) (q : Request) (p : PublisherTables) (r : Reply) (new : SubscriberTables) (w : World) where
  pub taken-has : new.site ≡ site → subscriber_at (taken_world publication site sent q p r new w) site ≡ Some new
  taken-has same = subst (λ (x : SiteId). at_number (put_number (put_number w.subscribers sent.site.0 sent) new.site.0 new) x.0 ≡ Some new) same (at_put_same new.site.0 new (put_number w.subscribers sent.site.0 sent))

  -- the reply is the last message
  pub told-last : last_or None (map (λ (letter : Letter). letter.message) (taken_world publication site sent q p r new w).pool) ≡ Some (Replies r)
  told-last = last-posted None (sent_world site sent q w).pool (record { site = site; message = Replies r })
