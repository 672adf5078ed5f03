-- The journal of a publisher that serves, one action after the other.
use Rattle.std.proofs.Common.{◌≡◌, ◌++◌, ◌∷◌, ◌∙◌, [], All, Bool, true, false, List, Option, Some, None, Result, Ok, Err, ℕ, ap, refl, subst, sym, if◌then◌else◌}
use Rattle.std.proofs.lemmas.List.Elements.{All-head, All-tail}
use Rattle.merge_types.specs.declared.identifiers.SiteId.{SiteId}
use Rattle.merge_schema.specs.declared.publication.Publication.{Publication}
use Rattle.merge_batch.specs.declared.refusal.Refusal.{Refusal}
use Rattle.merge_batch.specs.declared.refusal.Refusal.TheVariants.{NoMemory, StoreFault}
use Rattle.merge_batch.specs.declared.reply.Reply.{Reply}
use Rattle.merge_batch.specs.declared.reply.Uploaded.{Uploaded}
use Rattle.merge_batch.specs.declared.reply.Reply.TheVariants as reply
use Rattle.merge_batch.specs.declared.request.Request.{Request}
use Rattle.merge_batch.specs.declared.request.Request.TheVariants as request
use Rattle.merge_batch.specs.declared.request.Upload.{Upload}
use Rattle.merge_model.specs.Failing.{Faulty, Slip, Slips, acting_with, slip_if, slip_refusal}
use Rattle.merge_model.specs.Failing.Reach.{stepping}
use Rattle.merge_model.specs.Failing.Runs.{after_actions}
use Rattle.merge_model.specs.Judge.ByNumbers.{by_numbers}
use Rattle.merge_model.specs.Laws.SlipLaws.{is_slip, refused_for}
use Rattle.merge_model.specs.Publisher.{later}
use Rattle.merge_model.specs.Publisher.PublisherDownload.{download}
use Rattle.merge_model.specs.Publisher.PublisherJoin.{join}
use Rattle.merge_model.specs.Publisher.PublisherRanges.{ranges}
use Rattle.merge_model.specs.Publisher.PublisherUpload.{upload}
use Rattle.merge_model.specs.Tables.{PublisherTables, SubscriberTables}
use Rattle.merge_model.specs.World.Calls.{as_reply, result_of_request}
use Rattle.merge_model.specs.World.Events.{machine}
use Rattle.merge_model.specs.World.Steps.{Action, CloseAt, Deliver, Forget, Look, Make, MakeAnew, Pass, Send, Sending, SendDownload, SendJoin, SendRanges, SendUpload, after_upload, post_reply as answers, at_subscriber, deliver, deliver_letter, deliver_request, kept_decisions, post_if_made, send_from, unless_refused, upload_questions}
use Rattle.merge_model.specs.World.{Saying, World, by_tables, letter_at, subscriber_at}
use Rattle.merge_model.specs.declared.letter.Letter.{Letter}
use Rattle.merge_model.specs.declared.letter.Message.{Message}
use Rattle.merge_model.specs.declared.letter.Message.TheVariants.{Asks, Replies}
use Rattle.merge_model.specs.declared.outcome.Outcome.{Outcome}
use Rattle.merge_model.specs.declared.outcome.Outcome.TheVariants.{NoLetter}
use Rattle.merge_desk.proofs.Entries.{answered-again}
use Rattle.merge_desk.specs.Replay.{answer_to, entry_decisions, replay, tables_and_reply}
use Rattle.merge_desk.specs.declared.entry.Entry.{Entry}
use Rattle.merge_draft.specs.Drafting.{result_with_decisions}
use Rattle.merge_served.proofs.Moments.{taken-alike}
use Rattle.merge_served.specs.Served.{AttendedRequest, IsServing, asked_by, attended, attended_at, attended_by, attended_in, if_taken, unless_failed}

-- Journals by their parts.

first : {x y : AttendedRequest} {xs ys : List AttendedRequest} → x ∷ xs ≡ y ∷ ys → x ≡ y
first e = cc e

rest : {x y : AttendedRequest} {xs ys : List AttendedRequest} → x ∷ xs ≡ y ∷ ys → xs ≡ ys
rest e = cc e

-- entries of which none is taken leave the tables
none-behind : (publication : Publication) (p : PublisherTables) (j : Entry) (es : List Entry) (r : Result (PublisherTables × Reply) Refusal)
    → ((q : PublisherTables) → attended_in publication q es ≡ [] → replay publication q es ≡ q)
    → if_taken r (attended_at p j) ++ attended_in publication (tables_and_reply p r).0 es ≡ [] → replay publication (tables_and_reply p r).0 es ≡ p
none-behind publication p j es (Ok done) more e = let here : attended_at p j ∷ attended_in publication done.0 es ≡ [] = e in absurd (cc here)
none-behind publication p j es (Err why) more e = more p e

none-taken : (publication : Publication) (p : PublisherTables) (journal : List Entry) → attended_in publication p journal ≡ [] → replay publication p journal ≡ p
none-taken publication p [] e = refl
none-taken publication p (j ∷ journal) e = none-behind publication p j journal (result_with_decisions publication j.moment j.request j.decisions p) (λ q. none-taken publication q journal) e

-- a journal in two parts, by what was taken
pub record Parts (publication : Publication) (p : PublisherTables) (xs ys : List AttendedRequest) (journal : List Entry) : Type 0 where
  pub early : List Entry
  pub late : List Entry
  pub whole : journal ≡ early ++ late
  pub taken : attended_in publication p early ≡ xs
  pub behind : attended_in publication (replay publication p early) late ≡ ys

split-behind : (publication : Publication) (p : PublisherTables) (j : Entry) (es : List Entry) (xs ys : List AttendedRequest) (r : Result (PublisherTables × Reply) Refusal)
    → result_with_decisions publication j.moment j.request j.decisions p ≡ r
    → ((q : PublisherTables) (xs ys : List AttendedRequest) → attended_in publication q es ≡ xs ++ ys → Parts publication q xs ys es)
    → if_taken r (attended_at p j) ++ attended_in publication (tables_and_reply p r).0 es ≡ xs ++ ys → Parts publication p xs ys (j ∷ es)
split-behind publication p j es xs ys (Err why) is more e =
    let parts = more p xs ys e in record {
      early = j ∷ parts.early;
      late = parts.late;
      whole = ap (λ (l : List Entry). j ∷ l) parts.whole;
      taken = ap (λ (r : Result (PublisherTables × Reply) Refusal). if_taken r (attended_at p j) ++ attended_in publication (tables_and_reply p r).0 parts.early) is ∙ parts.taken;
      behind = ap (λ (r : Result (PublisherTables × Reply) Refusal). attended_in publication (replay publication (tables_and_reply p r).0 parts.early) parts.late) is ∙ parts.behind;
    }
split-behind publication p j es [] ys (Ok done) is more e = record {
  early = [];
  late = j ∷ es;
  whole = refl;
  taken = refl;
  behind = ap (λ (r : Result (PublisherTables × Reply) Refusal). if_taken r (attended_at p j) ++ attended_in publication (tables_and_reply p r).0 es) is ∙ e;
}
split-behind publication p j es (x ∷ xs) ys (Ok done) is more e =
    let here : attended_at p j ∷ attended_in publication done.0 es ≡ x ∷ (xs ++ ys) = e in
    let parts = more done.0 xs ys (rest here) in record {
      early = j ∷ parts.early;
      late = parts.late;
      whole = ap (λ (l : List Entry). j ∷ l) parts.whole;
      taken = ap (λ (r : Result (PublisherTables × Reply) Refusal). if_taken r (attended_at p j) ++ attended_in publication (tables_and_reply p r).0 parts.early) is
          ∙ ap (λ (a : AttendedRequest). a ∷ attended_in publication done.0 parts.early) (first here) ∙ ap (λ (l : List AttendedRequest). x ∷ l) parts.taken;
      behind = ap (λ (r : Result (PublisherTables × Reply) Refusal). attended_in publication (replay publication (tables_and_reply p r).0 parts.early) parts.late) is ∙ parts.behind;
    }

pub split : (publication : Publication) (p : PublisherTables) (xs ys : List AttendedRequest) (journal : List Entry) → attended_in publication p journal ≡ xs ++ ys → Parts publication p xs ys journal
split publication p [] ys [] e = record { early = []; late = []; whole = refl; taken = refl; behind = e }
split publication p (x ∷ xs) ys [] e = let here : [] ≡ x ∷ (xs ++ ys) = e in absurd (cc here)
split publication p xs ys (j ∷ journal) e = split-behind publication p j journal xs ys (result_with_decisions publication j.moment j.request j.decisions p) refl (λ q xs ys. split publication q xs ys journal) e

replay-on : (publication : Publication) (p : PublisherTables) (early late : List Entry) → replay publication p (early ++ late) ≡ replay publication (replay publication p early) late
replay-on publication p [] late = refl
replay-on publication p (e ∷ early) late = replay-on publication (answer_to publication p e).0 early late

-- What does nothing at the publisher.

quiet-unless : {A : Type 0} (w : World) (result : Result A Refusal) (k : A → World × Outcome) → ((a : A) → (k a).0.publisher ≡ w.publisher) → (unless_refused w result k).0.publisher ≡ w.publisher
quiet-unless w (Err why) k h = refl
quiet-unless w (Ok a) k h = h a

quiet-if-there : (w : World) (site : SiteId) (s : Option SubscriberTables) (act : SubscriberTables → World × Outcome) → subscriber_at w site ≡ s → ((t : SubscriberTables) → (act t).0.publisher ≡ w.publisher)
    → (at_subscriber site w act).0.publisher ≡ w.publisher
quiet-if-there w site None act is h = rw (is, at_subscriber) refl
quiet-if-there w site (Some t) act is h = rw (is, at_subscriber) (h t)

quiet-at : (w : World) (site : SiteId) (act : SubscriberTables → World × Outcome) → ((t : SubscriberTables) → (act t).0.publisher ≡ w.publisher) → (at_subscriber site w act).0.publisher ≡ w.publisher
quiet-at w site act h = quiet-if-there w site (subscriber_at w site) act refl h

quiet-posted : {A : Type 0} (site : SiteId) (message : A → Request) (w : World) (made : Option (SubscriberTables × A)) → (post_if_made site message w made).0.publisher ≡ w.publisher
quiet-posted site message w None = refl
quiet-posted site message w (Some made) = refl

module _ (publication : Publication) (says : Saying) where
  quiet-sent : (w : World) (sending : Sending) (s : SubscriberTables) → (send_from (by_tables w) sending w s).0.publisher ≡ w.publisher
  quiet-sent w SendJoin s = quiet-unless w _ _ (λ made. quiet-posted s.site _ w made)
  quiet-sent w SendUpload s = quiet-unless w _ _ (λ made. quiet-posted s.site _ w made)
  quiet-sent w SendRanges s = quiet-unless w _ _ (λ made. quiet-posted s.site _ w made)
  quiet-sent w SendDownload s = quiet-unless w _ _ (λ made. refl)

  -- a step that is none at the publisher leaves its tables, also where it fails
  slip-quiet : (b : Bool) (slips : Slips) (slip : Slip) (action : Action) (w : World) (done : World × Outcome) → done.0.publisher ≡ w.publisher
      → (slip_if publication (machine publication says) b slips slip action w done).0.world.publisher ≡ w.publisher
  slip-quiet true slips slip action w done h = refl
  slip-quiet false slips slip action w done h = h

  acting-quiet : (slips : Slips) (action : Action) (w : World) (done : World × Outcome) → done.0.publisher ≡ w.publisher
      → (acting_with publication (machine publication says) slips action w done).0.world.publisher ≡ w.publisher
  acting-quiet [] action w done h = h
  acting-quiet (None ∷ slips) action w done h = h
  acting-quiet (Some slip ∷ slips) action w done h = slip-quiet _ slips slip action w done h

  -- What a message does that comes to the publisher: the journal's part leads to its tables, and a refusal leaves them.

  by_answer : {A : Type 0} (site : SiteId) (message : A → Reply) (w : World) (done : Result (PublisherTables × A) Refusal)
      → (answers site message w done).0.publisher ≡ (tables_and_reply w.publisher (as_reply message done)).0
  by_answer site message w (Ok made) = refl
  by_answer site message w (Err why) = refl

  by_upload : (site : SiteId) (m : Upload) (w : World) (done : Result (PublisherTables × Uploaded) Refusal)
      → (after_upload publication says (by_numbers w.publisher) site m w done).0.publisher ≡ (tables_and_reply w.publisher (as_reply reply.Uploaded done)).0
  by_upload site m w (Ok made) = refl
  by_upload site m w (Err why) = refl

  delivered : (site : SiteId) (m : Request) (w : World)
      → (deliver_request publication says (by_numbers w.publisher) site m w).0.publisher ≡ (tables_and_reply w.publisher (result_of_request publication says w.tallies w.moment m w.publisher)).0
  delivered site (request.Join m) w = by_answer site reply.Joined w (join publication w.moment m w.publisher)
  delivered site (request.Upload m) w = by_upload site m w (upload publication (by_numbers w.publisher) w.moment m (kept_decisions says w.tallies (upload_questions publication (by_numbers w.publisher) w.moment m w.publisher)) w.publisher)
  delivered site (request.Ranges m) w = by_answer site reply.Ranged w (ranges publication (by_numbers w.publisher) w.moment m w.publisher)
  delivered site (request.Download m) w = by_answer site reply.Downloaded w (download publication (by_numbers w.publisher) w.moment m w.publisher)

  refused_answer : {A : Type 0} (site : SiteId) (message : A → Reply) (w : World) (done : Result (PublisherTables × A) Refusal)
      → refused_for is_slip (answers site message w done).1 ≡ true → (answers site message w done).0.publisher ≡ w.publisher
  refused_answer site message w (Ok made) is = absurd (cc is)
  refused_answer site message w (Err why) is = refl

  refused_upload : (site : SiteId) (m : Upload) (w : World) (done : Result (PublisherTables × Uploaded) Refusal)
      → refused_for is_slip (after_upload publication says (by_numbers w.publisher) site m w done).1 ≡ true → (after_upload publication says (by_numbers w.publisher) site m w done).0.publisher ≡ w.publisher
  refused_upload site m w (Ok made) is = absurd (cc is)
  refused_upload site m w (Err why) is = refl

  refused : (site : SiteId) (m : Request) (w : World)
      → refused_for is_slip (deliver_request publication says (by_numbers w.publisher) site m w).1 ≡ true → (deliver_request publication says (by_numbers w.publisher) site m w).0.publisher ≡ w.publisher
  refused site (request.Join m) w = refused_answer site reply.Joined w (join publication w.moment m w.publisher)
  refused site (request.Upload m) w = refused_upload site m w (upload publication (by_numbers w.publisher) w.moment m (kept_decisions says w.tallies (upload_questions publication (by_numbers w.publisher) w.moment m w.publisher)) w.publisher)
  refused site (request.Ranges m) w = refused_answer site reply.Ranged w (ranges publication (by_numbers w.publisher) w.moment m w.publisher)
  refused site (request.Download m) w = refused_answer site reply.Downloaded w (download publication (by_numbers w.publisher) w.moment m w.publisher)

  -- what a message is taken for
  abbrev pub asked_of : World → Request → AttendedRequest
  asked_of w m = record { moment = later w.moment w.publisher.latest; request = m; decisions = entry_decisions publication says w.tallies w.moment m w.publisher }

  -- an entry that is taken for a message makes the same of the tables
  same-made : (w : World) (m : Request) (j : Entry) (made done : PublisherTables × Reply) → attended_at w.publisher j ≡ asked_of w m
      → result_with_decisions publication j.moment j.request j.decisions w.publisher ≡ Ok made → result_of_request publication says w.tallies w.moment m w.publisher ≡ Ok done → made ≡ done
  same-made w m j made done same is so =
      let p : PublisherTables = w.publisher in
      let moment : later j.moment p.latest ≡ later w.moment p.latest = ap (λ (a : AttendedRequest). a.moment) same in
      let here : result_with_decisions publication w.moment j.request j.decisions p ≡ Ok made = sym (taken-alike publication j.moment w.moment j.request j.decisions p moment) ∙ is in
      let asked : result_with_decisions publication w.moment j.request j.decisions p ≡ result_with_decisions publication w.moment m (entry_decisions publication says w.tallies w.moment m p) p =
      ap (λ (a : AttendedRequest). result_with_decisions publication w.moment a.request a.decisions p) same in
      ap (tables_and_reply p) (sym here) ∙ ap (tables_and_reply p) asked ∙ answered-again publication says w.tallies w.moment m p ∙ ap (tables_and_reply p) so

  taken-behind : (w : World) (m : Request) (done : PublisherTables × Reply) → result_of_request publication says w.tallies w.moment m w.publisher ≡ Ok done
      → (j : Entry) (es : List Entry) (r : Result (PublisherTables × Reply) Refusal) → result_with_decisions publication j.moment j.request j.decisions w.publisher ≡ r
      → (attended_in publication w.publisher es ≡ asked_of w m ∷ [] → replay publication w.publisher es ≡ done.0)
      → if_taken r (attended_at w.publisher j) ++ attended_in publication (tables_and_reply w.publisher r).0 es ≡ asked_of w m ∷ [] → replay publication (tables_and_reply w.publisher r).0 es ≡ done.0
  taken-behind w m done so j es (Err why) is more e = more e
  taken-behind w m done so j es (Ok made) is more e =
      let here : attended_at w.publisher j ∷ attended_in publication made.0 es ≡ asked_of w m ∷ [] = e in
      none-taken publication made.0 es (rest here) ∙ ap (λ (d : PublisherTables × Reply). d.0) (same-made w m j made done (first here) is so)

  one-taken : (w : World) (m : Request) (done : PublisherTables × Reply) → result_of_request publication says w.tallies w.moment m w.publisher ≡ Ok done
      → (part : List Entry) → attended_in publication w.publisher part ≡ asked_of w m ∷ [] → replay publication w.publisher part ≡ done.0
  one-taken w m done so [] e = let here : [] ≡ asked_of w m ∷ [] = e in absurd (cc here)
  one-taken w m done so (j ∷ part) e =
      taken-behind w m done so j part (result_with_decisions publication j.moment j.request j.decisions w.publisher) refl (one-taken w m done so part) e

  one-entry : (w : World) (m : Request) (h : Result (PublisherTables × Reply) Refusal) → result_of_request publication says w.tallies w.moment m w.publisher ≡ h
      → (part : List Entry) → attended_in publication w.publisher part ≡ if_taken h (asked_of w m) → replay publication w.publisher part ≡ (tables_and_reply w.publisher h).0
  one-entry w m (Ok done) is part e = one-taken w m done is part e
  one-entry w m (Err why) is part e = none-taken publication w.publisher part e

  -- how a message that comes and its part of a journal fit together
  record Fits (w : World) (asked : List AttendedRequest) (done : World × Outcome) : Type 0 where
    entries : (part : List Entry) → attended_in publication w.publisher part ≡ asked → replay publication w.publisher part ≡ done.0.publisher
    still : refused_for is_slip done.1 ≡ true → done.0.publisher ≡ w.publisher

  quiet-fits : (w : World) (done : World × Outcome) → done.0.publisher ≡ w.publisher → Fits w [] done
  quiet-fits w done h = record {
    entries = λ part e. none-taken publication w.publisher part e ∙ sym h;
    still = λ is. h;
  }

  fits-message : (site : SiteId) (number : ℕ) (message : Message) (w : World)
      → Fits w (asked_by publication says w (Some (record { site = site; message = message }))) (deliver_letter publication says (by_tables w) number w (record { site = site; message = message }))
  fits-message site number (Asks m) w = record {
    entries = λ part e. one-entry w m (result_of_request publication says w.tallies w.moment m w.publisher) refl part e ∙ sym (delivered site m w);
    still = refused site m w;
  }
  fits-message site number (Replies m) w = quiet-fits w _ (quiet-at w site _ (λ t. quiet-unless w _ _ (λ made. refl)))

  fits : (number : ℕ) (w : World) (letter : Option Letter) → letter_at w number ≡ letter → Fits w (asked_by publication says w (letter_at w number)) (deliver publication says (by_tables w) number w)
  fits number w None is = rw (is, deliver) (quiet-fits w (w, NoLetter) refl)
  fits number w (Some letter) is = rw (is, deliver) (fits-message letter.site number letter.message w)

  made-fits : (b : Bool) (w : World) (asked : List AttendedRequest) (done : World × Outcome) → Fits w asked done → refused_for is_slip done.1 ≡ b
      → (part : List Entry) → attended_in publication w.publisher part ≡ unless_failed b asked → replay publication w.publisher part ≡ done.0.publisher
  made-fits true w asked done f is part e = none-taken publication w.publisher part e ∙ sym (f.still is)
  made-fits false w asked done f is part e = f.entries part e

  by-kind : (b : Bool) → is_slip (if b then StoreFault else NoMemory) ≡ true
  by-kind true = refl
  by-kind false = refl

  told-slip : (slip : Slip) → is_slip (slip_refusal slip) ≡ true
  told-slip slip = by-kind slip.is_fault

  slip-fits : (b : Bool) (slips : Slips) (slip : Slip) (action : Action) (w : World) (asked : List AttendedRequest) (done : World × Outcome) → Fits w asked done
      → (part : List Entry) → attended_in publication w.publisher part ≡ unless_failed (refused_for is_slip (slip_if publication (machine publication says) b slips slip action w done).1) asked
      → replay publication w.publisher part ≡ (slip_if publication (machine publication says) b slips slip action w done).0.world.publisher
  slip-fits true slips slip action w asked done f part e =
      none-taken publication w.publisher part (e ∙ ap (λ (b : Bool). unless_failed b asked) (told-slip slip))
  slip-fits false slips slip action w asked done f part e = made-fits _ w asked done f refl part e

  acting-fits : (slips : Slips) (action : Action) (w : World) (asked : List AttendedRequest) (done : World × Outcome) → Fits w asked done
      → (part : List Entry) → attended_in publication w.publisher part ≡ unless_failed (refused_for is_slip (acting_with publication (machine publication says) slips action w done).1) asked
      → replay publication w.publisher part ≡ (acting_with publication (machine publication says) slips action w done).0.world.publisher
  acting-fits [] action w asked done f part e = made-fits _ w asked done f refl part e
  acting-fits (None ∷ slips) action w asked done f part e = made-fits _ w asked done f refl part e
  acting-fits (Some slip ∷ slips) action w asked done f part e = slip-fits _ slips slip action w asked done f part e

  -- One action, and all of them.

  nothing-added : (w : World) (after : PublisherTables) → after ≡ w.publisher → (part : List Entry) → attended_in publication w.publisher part ≡ [] → replay publication w.publisher part ≡ after
  nothing-added w after same part e = none-taken publication w.publisher part e ∙ sym same

  pub one-action : (f : Faulty World) (action : Action) → IsServing action → (part : List Entry) → attended_in publication f.world.publisher part ≡ attended_by publication says f.world action ((stepping publication says).act f action).1
      → replay publication f.world.publisher part ≡ ((stepping publication says).act f action).0.world.publisher
  one-action f (Pass seconds) serving part e = nothing-added f.world _ refl part e
  one-action f (Make site change) serving part e = nothing-added f.world _ (acting-quiet f.slips (Make site change) f.world _ (rw serving (quiet-at f.world site _ (λ t. quiet-unless f.world _ _ (λ made. refl))))) part e
  one-action f (CloseAt site) serving part e = nothing-added f.world _ (acting-quiet f.slips (CloseAt site) f.world _ (rw serving (quiet-at f.world site _ (λ t. quiet-unless f.world _ _ (λ made. refl))))) part e
  one-action f (Send site sending) serving part e = nothing-added f.world _ (acting-quiet f.slips (Send site sending) f.world _ (quiet-at f.world site _ (quiet-sent f.world sending))) part e
  one-action f (Deliver number) serving part e = acting-fits f.slips (Deliver number) f.world _ _ (fits number f.world (letter_at f.world number) refl) part e
  one-action f (MakeAnew site) serving part e = nothing-added f.world _ (acting-quiet f.slips (MakeAnew site) f.world _ (quiet-at f.world site _ (λ t. quiet-unless f.world _ _ (λ made. refl)))) part e
  one-action f Forget serving part e = absurd serving
  one-action f Look serving part e = nothing-added f.world _ (acting-quiet f.slips Look f.world _ refl) part e

  pub all-serving : (f : Faulty World) (actions : List Action) → All IsServing actions → (journal : List Entry) → attended_in publication f.world.publisher journal ≡ attended publication says f actions
      → replay publication f.world.publisher journal ≡ (after_actions (stepping publication says) f actions).world.publisher
  all-serving f [] serving journal e = none-taken publication f.world.publisher journal e
  all-serving f (action ∷ actions) serving journal e =
      let done = (stepping publication says).act f action in
      let parts = split publication f.world.publisher (attended_by publication says f.world action done.1) (attended publication says done.0 actions) journal e in
      let step : replay publication f.world.publisher parts.early ≡ done.0.world.publisher = one-action f action (All-head IsServing action actions serving) parts.early parts.taken in
      ap (replay publication f.world.publisher) parts.whole
      ∙ replay-on publication f.world.publisher parts.early parts.late
      ∙ ap (λ (p : PublisherTables). replay publication p parts.late) step
      ∙ all-serving done.0 actions (All-tail IsServing action actions serving) parts.late
      (subst (λ (p : PublisherTables). attended_in publication p parts.late ≡ attended publication says done.0 actions) step parts.behind)
