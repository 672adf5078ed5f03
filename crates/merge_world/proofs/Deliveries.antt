-- Messages that come to where they go, as actions.
use Rattle.std.proofs.Common.{◌≡◌, ◌+◌, ◌++◌, ◌∷◌, [], ℕ, zero, suc, true, List, Option, Some, None, Result, Ok, Err, get_or, length, map, set, refl, ap, sym, subst, ◌∙◌, sum_by}
use Rattle.std.proofs.Math.Path.{fun_ext}
use Rattle.std.specs.List.{position}
use Rattle.merge_types.specs.declared.identifiers.Moment.{Moment}
use Rattle.merge_types.specs.declared.identifiers.SiteId.{SiteId}
use Rattle.merge_resolve.specs.declared.case.ConflictCase.{ConflictCase}
use Rattle.merge_schema.specs.declared.publication.Publication.{Publication}
use Rattle.merge_batch.specs.declared.refusal.Refusal.{Refusal}
use Rattle.merge_batch.specs.declared.refusal.Refusal.TheVariants.{NoMemory, UnknownSite}
use Rattle.merge_batch.specs.declared.reply.Reply.{Reply}
use Rattle.merge_batch.specs.declared.reply.Reply.TheVariants as reply
use Rattle.merge_batch.specs.declared.request.Request.{Request}
use Rattle.merge_model.specs.Judge.ByNumbers.{by_rows}
use Rattle.merge_model.specs.World.Calls.{Counted, questions_on, reply_commits, request_commits, result_of_request, taken_commits}
use Rattle.merge_model.specs.World.Parts.{letter_in_pool}
use Rattle.merge_model.specs.World.Steps.{Action, Deliver, deliver_letter, deliver_reply, step, unless_refused}
use Rattle.merge_model.specs.Tables.{SubscriberTables}
use Rattle.merge_model.specs.Subscriber.Taking.{take_reply}
use Rattle.merge_model.specs.World.{Saying, World, by_tables, letter_at, subscriber_at, with_subscriber}
use Rattle.merge_model.specs.declared.letter.Letter.{Letter}
use Rattle.merge_model.specs.declared.letter.Message.{Message}
use Rattle.merge_model.specs.declared.letter.Message.TheVariants.{Asks, Replies}
use Rattle.merge_model.specs.declared.outcome.Outcome.{Outcome}
use Rattle.merge_model.specs.declared.outcome.Outcome.TheVariants.{NoLetter, Posted, Refuses, Took}
use Rattle.merge_model.specs.declared.outcome.Taken.{Taken}
use Rattle.merge_model.proofs.Failing.Calling.{acts-all, calls, outcome_by}
use Rattle.merge_world.specs.Views.{Does, HandedView, IsOrdered, Moves, PublisherCall, PublisherView, SitesView, SubscriberCall, SubscriberView, faults_of, sites_view, world_of}
use Rattle.merge_world.proofs.Doing.{both-rise}
use Rattle.merge_world.proofs.Finding.{found-place, is_of, placed, publication-place, unfound}
use Rattle.merge_world.proofs.Locals.{does-at, made-here, wants-room}

-- an action that asks nobody leaves the resolvers as they are
pub does-moves : (action : Action) (v v' : SitesView) (h : HandedView) (outcome : Outcome) → Does action v v' outcome → Moves action v v' h h outcome
does-moves action v v' h outcome does = record { acts = does.acts h.says h.tallies; keeps = record { stays = does.stays; says = refl } }

pub moves-from : (action : Action) (u v v' : SitesView) (h h' : HandedView) (outcome : Outcome) → u ≡ v → Moves action u v' h h' outcome → Moves action v v' h h' outcome
moves-from action u v v' h h' outcome e moves = subst (λ (x : SitesView). Moves action x v' h h' outcome) e moves

-- what is behind, and its outcome, in other words
pub moves-so : (action : Action) (u v v' : SitesView) (h h' : HandedView) (outcome outcome' : Outcome) → v ≡ v' → outcome ≡ outcome' → Moves action u v' h h' outcome' → Moves action u v h h' outcome
moves-so action u v v' h h' outcome outcome' e f moves = subst (λ (x : SitesView). Moves action u x h h' outcome) (sym e) (subst (λ (o : Outcome). Moves action u v' h h' o) (sym f) moves)

same-says : (f g : Saying) → ((k n : ℕ) (asked : ConflictCase) → f k n asked ≡ g k n asked) → f ≡ g
same-says f g each = fun_ext (λ k. fun_ext (λ n. fun_ext (λ asked. each k n asked)))

letter-of : (v : SitesView) (tallies : List ℕ) (number : ℕ) → letter_at (world_of v tallies) number ≡ letter_in_pool v.pool number
letter-of v tallies zero = refl
letter-of v tallies (suc number) = refl

letter-is : (v : SitesView) (tallies : List ℕ) (number : ℕ) (letter : Letter) (message : Message) → Some letter ≡ letter_in_pool v.pool number → letter.message ≡ message
    → letter_at (world_of v tallies) number ≡ Some (record { site = letter.site; message = message })
letter-is v tallies number letter message found is = letter-of v tallies number ∙ (sym found ∙ ap (λ (x : Message). let there : Letter = record { site = letter.site; message = x } in Some there) is)

-- a request
module _ (ss : List SubscriberView) (pool : List Letter) (moment : Moment) (p p' : PublisherView) (h h' : HandedView) (number : ℕ) (letter : Letter) (m : Request) where
  abbrev old : SitesView
  old = sites_view p ss pool moment

  pub handles : (same : p'.publication ≡ p.publication) → ((k n : ℕ) (asked : ConflictCase) → h'.says k n asked ≡ h.says k n asked) → Some letter ≡ letter_in_pool pool number → letter.message ≡ Asks m
      → (done : Reply) → PublisherCall (result_of_request p.publication h.says h.tallies moment m p.tables) (request_commits p.publication moment m p.tables) p p' (Ok done)
      → Counted (result_of_request p.publication h.says h.tallies moment m p.tables) (questions_on p.publication moment m p.tables) h.tallies h'.tallies (Ok done)
      → Moves (Deliver number) old (sites_view p' ss (pool ++ record { site = letter.site; message = Replies done } ∷ []) moment) h h' (Posted (length pool + 1))
  handles same steady found asks done called counted = record {
    acts = acts-all p.publication h.says (Deliver number) (world_of old h.tallies) (world_of (sites_view p' ss (pool ++ record { site = letter.site; message = Replies done } ∷ []) moment) h'.tallies) (Posted (length pool + 1))
        p.faults p'.faults old.faults (sites_view p' ss pool moment).faults (both-rise p.faults p'.faults (sum_by faults_of ss))
        (calls p.publication h.says (world_of old h.tallies) number letter.site m p'.tables h'.tallies p.faults p'.faults (Ok done) (letter-is old h.tallies number letter (Asks m) found asks) called counted);
    keeps = record { stays = record { publication = same; sites = refl; publications = refl; moment = refl }; says = same-says h'.says h.says steady };
  }

  pub handling-fails : (same : p'.publication ≡ p.publication) → ((k n : ℕ) (asked : ConflictCase) → h'.says k n asked ≡ h.says k n asked) → Some letter ≡ letter_in_pool pool number → letter.message ≡ Asks m
      → (why : Refusal) → PublisherCall (result_of_request p.publication h.says h.tallies moment m p.tables) (request_commits p.publication moment m p.tables) p p' (Err why)
      → Counted (result_of_request p.publication h.says h.tallies moment m p.tables) (questions_on p.publication moment m p.tables) h.tallies h'.tallies (Err why)
      → Moves (Deliver number) old (sites_view p' ss pool moment) h h' (Refuses why)
  handling-fails same steady found asks why called counted = record {
    acts = acts-all p.publication h.says (Deliver number) (world_of old h.tallies) (world_of (sites_view p' ss pool moment) h'.tallies) (Refuses why)
        p.faults p'.faults old.faults (sites_view p' ss pool moment).faults (both-rise p.faults p'.faults (sum_by faults_of ss))
        (calls p.publication h.says (world_of old h.tallies) number letter.site m p'.tables h'.tallies p.faults p'.faults (Err why) (letter-is old h.tallies number letter (Asks m) found asks) called counted);
    keeps = record { stays = record { publication = same; sites = refl; publications = refl; moment = refl }; says = same-says h'.says h.says steady };
  }

reply-acts : (m : Reply) (taken : Taken) → reply_commits m taken ≡ true → taken_commits taken ≡ true
reply-acts (reply.Joined m) taken is = is
reply-acts (reply.Uploaded m) taken is = is
reply-acts (reply.Ranged m) taken is = is
reply-acts (reply.Downloaded m) taken is = is
reply-acts (reply.Refused number values) taken is = absurd (cc)

-- what comes of a number, by the message that is found, and of a reply, by the subscriber
abbrev delivered : Publication → Saying → World → ℕ → Option Letter → World × Outcome
delivered p says w number found = elim found [
  | None ↦ (w, NoLetter)
  | Some letter ↦ deliver_letter p says (by_tables w) number w letter
]

abbrev replied-found : Publication → World → Reply → SiteId → Option SubscriberTables → World × Outcome
replied-found p w m site found = elim found [
  | None ↦ (w, Refuses (UnknownSite site))
  | Some t ↦ deliver_reply p (by_tables w) m w t
]

-- a reply
module _ {S : Type 0} (f : S → SubscriberView) (p : PublisherView) (pool : List Letter) (moment : Moment) (items : List S) (number : ℕ) (letter : Letter) (h : HandedView) where
  abbrev here : SitesView
  here = sites_view p (map f items) pool moment

  taking-step : (w : World) (m : Reply) (t : SubscriberTables) (says : Saying) → letter_at w number ≡ Some (record { site = letter.site; message = Replies m }) → subscriber_at w letter.site ≡ Some t
      → step p.publication says w (Deliver number) ≡ unless_refused w (take_reply p.publication (by_rows t) w.moment m t) (λ (done : SubscriberTables × Taken). (with_subscriber done.0 w, Took done.1))
  taking-step w m t says found at = ap (delivered p.publication says w number) found ∙ ap (replied-found p.publication w m letter.site) at

  pub takes-here : (m : Reply) (i : ℕ) (s s' : S) → IsOrdered here → Some letter ≡ letter_in_pool pool number → letter.message ≡ Replies m → Some i ≡ position (is_of f letter.site.0) items → s ≡ get_or items i s
      → (f s').tables.site ≡ (f s).tables.site → (f s').publication ≡ (f s).publication
      → (r : Result Taken Refusal) → SubscriberCall (take_reply (f s).publication (by_rows (f s).tables) moment m (f s).tables) (reply_commits m) (f s) (f s') r
      → Moves (Deliver number) here (sites_view p (map f (set items i s')) pool moment) h h (outcome_by Took r)
  takes-here m i s s' ordered found is placed_at at same_site same_publication r called =
      let place = placed f items i s letter.site.0 placed_at at in
      does-moves (Deliver number) here (sites_view p (map f (set items i s')) pool moment) h (outcome_by Took r)
      (does-at f p pool moment items (Deliver number) refl i s s' letter.site ordered placed_at at same_site same_publication (take_reply p.publication (by_rows (f s).tables) moment m (f s).tables) Took (reply_commits m)
      (λ tallies x commit. reply-acts m x commit)
      (λ says tallies. taking-step (world_of here tallies) m (f s).tables says (letter-is here tallies number letter (Replies m) found is) (found-place f p pool moment items i s letter.site tallies ordered placed_at at)) r
      (subst (λ (q : Publication). SubscriberCall (take_reply q (by_rows (f s).tables) moment m (f s).tables) (reply_commits m) (f s) (f s') r) (publication-place f p pool moment items i s ordered place.0 at) called))

  taking-nowhere : (w : World) (m : Reply) (says : Saying) → letter_at w number ≡ Some (record { site = letter.site; message = Replies m }) → subscriber_at w letter.site ≡ None
      → step p.publication says w (Deliver number) ≡ (w, Refuses (UnknownSite letter.site))
  taking-nowhere w m says found none = ap (delivered p.publication says w number) found ∙ ap (replied-found p.publication w m letter.site) none

  pub takes-nowhere : (m : Reply) → Some letter ≡ letter_in_pool pool number → letter.message ≡ Replies m → None ≡ position (is_of f letter.site.0) items
      → Moves (Deliver number) here here h h (Refuses (UnknownSite letter.site))
  takes-nowhere m found is none = does-moves (Deliver number) here here h (Refuses (UnknownSite letter.site)) (made-here (Deliver number) refl here (Refuses (UnknownSite letter.site))
      (λ says tallies. taking-nowhere (world_of here tallies) m says (letter-is here tallies number letter (Replies m) found is) (unfound f p pool moment items letter.site tallies none)))

lost-step : (p : Publication) (says : Saying) (w : World) (number : ℕ) → letter_at w number ≡ None → step p says w (Deliver number) ≡ (w, NoLetter)
lost-step p says w number none = ap (delivered p says w number) none

-- no message has the number
pub has-no-letter : (v : SitesView) (number : ℕ) (h : HandedView) → None ≡ letter_in_pool v.pool number → Moves (Deliver number) v v h h NoLetter
has-no-letter v number h none = does-moves (Deliver number) v v h NoLetter (made-here (Deliver number) refl v NoLetter
    (λ says tallies. lost-step v.publication says (world_of v tallies) number (letter-of v tallies number ∙ sym none)))

pub wants-room-to-deliver : (number : ℕ) (v v' : SitesView) (h : HandedView) → v' ≡ v → Moves (Deliver number) v v' h h (Refuses NoMemory)
wants-room-to-deliver number v v' h same = does-moves (Deliver number) v v' h (Refuses NoMemory) (wants-room (Deliver number) refl v v' same)
