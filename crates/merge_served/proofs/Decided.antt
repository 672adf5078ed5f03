-- The decisions of a journal are those of a world in which the publisher takes the same requests at the same moments.
use Rattle.std.proofs.Common.{◌≡◌, ◌++◌, ◌∷◌, ◌∙◌, [], All, Bool, Err, List, None, Ok, Option, Result, Some, ap, false, map, refl, subst, sym, true, ℕ}
use Rattle.std.proofs.lemmas.List.Elements.{All-head, All-tail}
use Rattle.merge_types.specs.declared.identifiers.SiteId.{SiteId}
use Rattle.merge_units.specs.declared.result.Decision.{Decision}
use Rattle.merge_schema.specs.declared.publication.Publication.{Publication}
use Rattle.merge_batch.specs.declared.refusal.Refusal.{Refusal}
use Rattle.merge_batch.specs.declared.reply.Reply.{Reply}
use Rattle.merge_batch.specs.declared.request.Request.{Request}
use Rattle.merge_model.specs.Failing.{Faulty}
use Rattle.merge_model.specs.Failing.Reach.{stepping}
use Rattle.merge_model.specs.Laws.SlipLaws.{is_slip, refused_for}
use Rattle.merge_model.specs.Publisher.{later}
use Rattle.merge_model.specs.Tables.{PublisherTables}
use Rattle.merge_model.specs.World.Calls.{result_of_request}
use Rattle.merge_model.specs.World.Steps.{Action, Deliver}
use Rattle.merge_model.specs.World.{Saying, World, letter_at}
use Rattle.merge_model.specs.declared.letter.Letter.{Letter}
use Rattle.merge_model.specs.declared.letter.Message.{Message}
use Rattle.merge_model.specs.declared.letter.Message.TheVariants.{Asks, Replies}
use Rattle.merge_model.specs.declared.outcome.Outcome.{Outcome}
use Rattle.merge_draft.specs.Drafting.{result_with_decisions}
use Rattle.merge_desk.specs.Replay.{AreDecided, answer_to, entry_decisions, replay, tables_and_reply}
use Rattle.merge_desk.specs.declared.entry.Entry.{Entry}
use Rattle.merge_served.proofs.Serving.{Parts, asked_of, one-action, split}
use Rattle.merge_served.proofs.Tallies.{same-entry}
use Rattle.merge_served.specs.Served.{AttendedRequest, IsServing, TakenRequest, asked_by, attended, attended_at, attended_by, attended_in, if_taken, taken_as, unless_failed}
use Rattle.merge_served.specs.Tallies.{SaysTheSameAtAnyTally}

-- Requests without their decisions.

head-of : {x y : TakenRequest} {xs ys : List TakenRequest} → x ∷ xs ≡ y ∷ ys → x ≡ y
head-of e = cc e

tail-of : {x y : TakenRequest} {xs ys : List TakenRequest} → x ∷ xs ≡ y ∷ ys → xs ≡ ys
tail-of e = cc e

none-there : (xs : List AttendedRequest) → map taken_as xs ≡ [] → xs ≡ []
none-there [] e = refl
none-there (x ∷ xs) e = let here : taken_as x ∷ map taken_as xs ≡ [] = e in absurd (cc here)

abbrev attended_with : TakenRequest → List Decision → AttendedRequest
attended_with taken decisions = record { moment = taken.moment; request = taken.request; decisions = decisions }

same-request : (a b : AttendedRequest) → taken_as a ≡ taken_as b → a.decisions ≡ b.decisions → a ≡ b
same-request a b e decisions = ap (λ (taken : TakenRequest). attended_with taken a.decisions) e ∙ ap (attended_with (taken_as b)) decisions

-- what was taken, in two parts that are taken as these are
record Halves (xs ys all : List AttendedRequest) : Type 0 where
  early : List AttendedRequest
  late : List AttendedRequest
  whole : all ≡ early ++ late
  before : map taken_as early ≡ map taken_as xs
  behind : map taken_as late ≡ map taken_as ys

halve : (xs ys all : List AttendedRequest) → map taken_as all ≡ map taken_as (xs ++ ys) → Halves xs ys all
halve [] ys all e = record { early = []; late = all; whole = refl; before = refl; behind = e }
halve (x ∷ xs) ys [] e = let here : [] ≡ taken_as x ∷ map taken_as (xs ++ ys) = e in absurd (cc here)
halve (x ∷ xs) ys (z ∷ all) e =
    let here : taken_as z ∷ map taken_as all ≡ taken_as x ∷ map taken_as (xs ++ ys) = e in
    let more = halve xs ys all (tail-of here) in record {
      early = z ∷ more.early;
      late = more.late;
      whole = ap (λ (l : List AttendedRequest). z ∷ l) more.whole;
      before = ap (λ (taken : TakenRequest). taken ∷ map taken_as more.early) (head-of here) ∙ ap (λ (l : List TakenRequest). taken_as x ∷ l) more.before;
      behind = more.behind;
    }

module _ (publication : Publication) (says : Saying) where
  -- A journal in two parts.

  decided-early : (p : PublisherTables) (early late : List Entry) → AreDecided publication says p (early ++ late) → AreDecided publication says p early
  decided-early p [] late decided = tt
  decided-early p (x ∷ early) late (own, decided) = (own, decided-early (answer_to publication p x).0 early late decided)

  decided-late : (p : PublisherTables) (early late : List Entry) → AreDecided publication says p (early ++ late) → AreDecided publication says (replay publication p early) late
  decided-late p [] late decided = decided
  decided-late p (x ∷ early) late (own, decided) = decided-late (answer_to publication p x).0 early late decided

module _ (publication : Publication) (says : Saying) (steady : SaysTheSameAtAnyTally says) where
  -- what a message is taken for
  abbrev asked : World → Request → AttendedRequest
  asked w m = asked_of publication says w m

  -- The part of a journal that belongs to a message.

  taken-decided : (w : World) (m : Request) (j : Entry) (es : List Entry) (r : Result (PublisherTables × Reply) Refusal) (tallies : List ℕ)
      → j.decisions ≡ entry_decisions publication says tallies j.moment j.request w.publisher → AreDecided publication says (tables_and_reply w.publisher r).0 es
      → (AreDecided publication says w.publisher es → map taken_as (attended_in publication w.publisher es) ≡ taken_as (asked w m) ∷ [] → attended_in publication w.publisher es ≡ asked w m ∷ [])
      → map taken_as (if_taken r (attended_at w.publisher j) ++ attended_in publication (tables_and_reply w.publisher r).0 es) ≡ taken_as (asked w m) ∷ []
      → if_taken r (attended_at w.publisher j) ++ attended_in publication (tables_and_reply w.publisher r).0 es ≡ asked w m ∷ []
  taken-decided w m j es (Err why) tallies is decided more e = more decided e
  taken-decided w m j es (Ok made) tallies is decided more e =
      let p : PublisherTables = w.publisher in
      let here : taken_as (attended_at p j) ∷ map taken_as (attended_in publication made.0 es) ≡ taken_as (asked w m) ∷ [] = e in
      let same : taken_as (attended_at p j) ≡ taken_as (asked w m) = head-of here in
      let moments : later j.moment p.latest ≡ later w.moment p.latest = ap (λ (taken : TakenRequest). taken.moment) same in
      let requests : j.request ≡ m = ap (λ (taken : TakenRequest). taken.request) same in
      let decisions : j.decisions ≡ entry_decisions publication says w.tallies w.moment m p =
      is
      ∙ ap (λ (q : Request). entry_decisions publication says tallies j.moment q p) requests
      ∙ same-entry says steady publication tallies w.tallies j.moment w.moment m p moments in
      ap (λ (a : AttendedRequest). a ∷ attended_in publication made.0 es) (same-request (attended_at p j) (asked w m) same decisions)
      ∙ ap (λ (l : List AttendedRequest). asked w m ∷ l) (none-there (attended_in publication made.0 es) (tail-of here))

  one-decided : (w : World) (m : Request) (part : List Entry) → AreDecided publication says w.publisher part
      → map taken_as (attended_in publication w.publisher part) ≡ taken_as (asked w m) ∷ [] → attended_in publication w.publisher part ≡ asked w m ∷ []
  one-decided w m [] decided e = let here : [] ≡ taken_as (asked w m) ∷ [] = e in absurd (cc here)
  one-decided w m (j ∷ part) ((tallies, is), decided) e =
      taken-decided w m j part (result_with_decisions publication j.moment j.request j.decisions w.publisher) tallies is decided (one-decided w m part) e

  result-decided : (w : World) (m : Request) (r : Result (PublisherTables × Reply) Refusal) (part : List Entry) → AreDecided publication says w.publisher part
      → map taken_as (attended_in publication w.publisher part) ≡ map taken_as (if_taken r (asked w m)) → attended_in publication w.publisher part ≡ if_taken r (asked w m)
  result-decided w m (Ok done) part decided e = one-decided w m part decided e
  result-decided w m (Err why) part decided e = none-there (attended_in publication w.publisher part) e

  message-decided : (w : World) (site : SiteId) (message : Message) (part : List Entry) → AreDecided publication says w.publisher part
      → map taken_as (attended_in publication w.publisher part) ≡ map taken_as (asked_by publication says w (Some (record { site = site; message = message })))
      → attended_in publication w.publisher part ≡ asked_by publication says w (Some (record { site = site; message = message }))
  message-decided w site (Asks m) part decided e = result-decided w m (result_of_request publication says w.tallies w.moment m w.publisher) part decided e
  message-decided w site (Replies m) part decided e = none-there (attended_in publication w.publisher part) e

  letter-decided : (w : World) (letter : Option Letter) (part : List Entry) → AreDecided publication says w.publisher part
      → map taken_as (attended_in publication w.publisher part) ≡ map taken_as (asked_by publication says w letter) → attended_in publication w.publisher part ≡ asked_by publication says w letter
  letter-decided w None part decided e = none-there (attended_in publication w.publisher part) e
  letter-decided w (Some letter) part decided e = message-decided w letter.site letter.message part decided e

  failed-or-decided : (failed : Bool) (w : World) (letter : Option Letter) (part : List Entry) → AreDecided publication says w.publisher part
      → map taken_as (attended_in publication w.publisher part) ≡ map taken_as (unless_failed failed (asked_by publication says w letter))
      → attended_in publication w.publisher part ≡ unless_failed failed (asked_by publication says w letter)
  failed-or-decided true w letter part decided e = none-there (attended_in publication w.publisher part) e
  failed-or-decided false w letter part decided e = letter-decided w letter part decided e

  -- One action, and all of them.

  action-decided : (w : World) (action : Action) (outcome : Outcome) (part : List Entry) → AreDecided publication says w.publisher part
      → map taken_as (attended_in publication w.publisher part) ≡ map taken_as (attended_by publication says w action outcome)
      → attended_in publication w.publisher part ≡ attended_by publication says w action outcome
  action-decided w (Deliver number) outcome part decided e = failed-or-decided (refused_for is_slip outcome) w (letter_at w number) part decided e
  action-decided w action outcome part decided e = none-there (attended_in publication w.publisher part) e

  pub requests-tell : (f : Faulty World) (actions : List Action) → All IsServing actions → (journal : List Entry) → AreDecided publication says f.world.publisher journal
      → map taken_as (attended_in publication f.world.publisher journal) ≡ map taken_as (attended publication says f actions)
      → attended_in publication f.world.publisher journal ≡ attended publication says f actions
  requests-tell f [] serving journal decided e = none-there (attended_in publication f.world.publisher journal) e
  requests-tell f (action ∷ actions) serving journal decided e =
      let p : PublisherTables = f.world.publisher in
      let done = (stepping publication says).act f action in
      let own : List AttendedRequest = attended_by publication says f.world action done.1 in
      let more : List AttendedRequest = attended publication says done.0 actions in
      let halves : Halves own more (attended_in publication p journal) = halve own more (attended_in publication p journal) e in
      let parts : Parts publication p halves.early halves.late journal = split publication p halves.early halves.late journal halves.whole in
      let both : AreDecided publication says p (parts.early ++ parts.late) = subst (λ (l : List Entry). AreDecided publication says p l) parts.whole decided in
      let early : attended_in publication p parts.early ≡ own =
      action-decided f.world action done.1 parts.early (decided-early publication says p parts.early parts.late both) (ap (map taken_as) parts.taken ∙ halves.before) in
      let step : replay publication p parts.early ≡ done.0.world.publisher = one-action publication says f action (All-head IsServing action actions serving) parts.early early in
      let late : attended_in publication done.0.world.publisher parts.late ≡ more =
      requests-tell done.0 actions (All-tail IsServing action actions serving) parts.late
      (subst (λ (q : PublisherTables). AreDecided publication says q parts.late) step (decided-late publication says p parts.early parts.late both))
      (ap (λ (q : PublisherTables). map taken_as (attended_in publication q parts.late)) (sym step) ∙ ap (map taken_as) parts.behind ∙ halves.behind) in
      halves.whole
      ∙ ap (λ (l : List AttendedRequest). l ++ halves.late) (sym parts.taken ∙ early)
      ∙ ap (λ (l : List AttendedRequest). own ++ l) (sym parts.behind ∙ ap (λ (q : PublisherTables). attended_in publication q parts.late) step ∙ late)
