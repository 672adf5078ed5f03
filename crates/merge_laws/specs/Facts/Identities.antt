-- No two inserts of an article take one identity value.
use Rattle.std.specs.Prelude.{◌≡◌, ◌≤◌, ◌==◌, ◌&&◌, ◌||◌, ℕ, zero, suc, ℤ, List, [], Bool, true, All, count_by, nat_le, option_map, unwrap_or}
use Rattle.std.specs.List.{AllByRecursion}
use Rattle.merge_types.specs.declared.identifiers.SiteId.{SiteId}
use Rattle.merge_ident.specs.declared.grants.Grant.{Grant}
use Rattle.merge_ident.specs.declared.grants.Range.{Range}
use Rattle.merge_ident.specs.declared.ranges.RangeEvent.{RangeEvent}
use Rattle.merge_ident.specs.Books.{IsBook, IsRule}
use Rattle.merge_ident.specs.Grants.{gives, is_in}
use Rattle.merge_ident.specs.Holders.{Holder, new_holder}
use Rattle.merge_ident.specs.Runs.{after_all, EventsFit, received_in, times_received, times_taken}
use Rattle.merge_batch.specs.declared.reply.RangeGrant.{RangeGrant}
use Rattle.merge_batch.specs.declared.reply.Reply.TheVariants as reply
use Rattle.merge_batch.specs.declared.request.Request.TheVariants as request
use Rattle.merge_schema.specs.declared.publication.Publication.{Publication}
use Rattle.merge_model.specs.Failing.{Slips}
use Rattle.merge_model.specs.Failing.Runs.{model_behind, model_behind_actions}
use Rattle.merge_model.specs.World.Steps.{Action}
use Rattle.merge_model.specs.declared.event.Event.{Event}
use Rattle.merge_model.specs.History.{MadeChange}
use Rattle.merge_model.specs.Tables.Keys.{at_number}
use Rattle.merge_model.specs.History.Model.{Model}
use Rattle.merge_model.specs.Laws.Promises.{takes}
use Rattle.merge_model.specs.Tables.Publications.{rules_of}
use Rattle.merge_model.specs.Tables.{SubscriberTables}
use Rattle.merge_model.specs.World.{Saying}
use Rattle.merge_model.specs.declared.letter.Message.TheVariants.{Asks, Replies}
use Rattle.merge_model.specs.declared.letter.Letter.{Letter}
use Rattle.merge_model.specs.declared.letter.Message.{Message}

-- The laws.

-- what a model is after some events, whatever they were, where the publication's ranges have values
abbrev pub OfEveryRuledModel : (Model → Type 0) → Type 0
OfEveryRuledModel Holds = (publication : Publication) → All IsRule (rules_of publication) → (says : Saying) (tallies : List ℕ) (slips : Slips) (events : List Event)
    → Holds (model_behind publication says tallies slips events)

-- the same of every list of actions
abbrev pub OfEveryRuledActions : (Model → Type 0) → Type 0
OfEveryRuledActions Holds = (publication : Publication) → All IsRule (rules_of publication) → (says : Saying) (tallies : List ℕ) (slips : Slips) (actions : List Action)
    → Holds (model_behind_actions publication says tallies slips actions)

-- whether a change is an insert of a site that took a value of an article
abbrev pub takes_at : ℕ → ℕ → ℤ → MadeChange → Bool
takes_at site article value change = (change.dot.site.0 == site) && takes article value change

-- whether a grant gives a value of an article to a site
abbrev pub gives_to : ℕ → ℕ → ℤ → Grant → Bool
gives_to site article value grant = (grant.site.0 == site) && gives article value grant

-- What an insert of a site took was granted to this site.
abbrev pub TakenWereGranted : Model → Type 0
TakenWereGranted m = (site article : ℕ) (value : ℤ) → 1 ≤ count_by (takes_at site article value) m.history.made → 1 ≤ count_by (gives_to site article value) m.world.publisher.grants

-- The invariant.

-- whether a site has heard of a grant of its own, by how many ranges of the article it received.
-- The publisher has its own ranges as it grants them.
abbrev pub has_heard : ℕ → ℕ → Grant → Bool
has_heard site have grant = (site == 0) || nat_le grant.number have

abbrev pub gives_heard : ℕ → ℕ → ℕ → ℤ → Grant → Bool
gives_heard site article have value grant = has_heard site have grant && gives_to site article value grant

abbrev pub gives_numbered : ℕ → ℕ → ℕ → ℤ → Grant → Bool
gives_numbered site article number value grant = (grant.number == number) && gives_to site article value grant

-- what a site holds: the publisher, or a subscriber
abbrev pub held_at : List (ℕ × SubscriberTables) → ℕ → List (ℕ × Holder)
held_at subscribers site = unwrap_or (option_map (λ (s : SubscriberTables). s.held) (at_number subscribers site)) []

abbrev pub holders_at : List (ℕ × Holder) → List (ℕ × SubscriberTables) → ℕ → List (ℕ × Holder)
holders_at own subscribers zero = own
holders_at own subscribers (suc site) = held_at subscribers (suc site)

-- of an article; one that has no ranges is as one of which none was received
abbrev pub holder_in : List (ℕ × Holder) → ℕ → Holder
holder_in held article = unwrap_or (at_number held article) (new_holder 0)

-- What a site holds of an article is what calls left that came one after the other: its inserts took
-- the values that these answered, and the ranges that it received are among its grants, each once.
pub record Held (grants : List Grant) (made : List MadeChange) (site article : ℕ) (holder : Holder) : Type 0 where
  pub calls : List RangeEvent
  pub fit : EventsFit 0 calls
  pub left : after_all (new_holder holder.threshold) calls ≡ holder
  pub taken : (value : ℤ) → count_by (takes_at site article value) made ≡ times_taken value (new_holder holder.threshold) calls
  pub received : (value : ℤ) → times_received value (received_in calls) ≤ count_by (gives_heard site article holder.have value) grants

-- a range that a reply tells of was granted to the site, with its number
abbrev pub told_range : RangeGrant → Range
told_range told = record { begin = told.begin; end = told.end }

abbrev pub IsTold : List Grant → ℕ → RangeGrant → Type 0
IsTold grants site told = (value : ℤ) → is_in value (told_range told) ≡ true → 1 ≤ count_by (gives_numbered site told.article told.number value) grants

-- an ask for ranges is of the site that sent it, and a reply tells of granted ranges alone
abbrev pub MessageTells : List Grant → SiteId → Message → Type 0
MessageTells grants site (Asks (request.Ranges m)) = m.site ≡ site
MessageTells grants site (Asks m) = Unit {0}
MessageTells grants site (Replies (reply.Ranged m)) = AllByRecursion (IsTold grants site.0) m.grants
MessageTells grants site (Replies m) = Unit {0}

abbrev pub LetterTells : List Grant → Letter → Type 0
LetterTells grants letter = MessageTells grants letter.site letter.message

pub record Identities (publication : Publication) (grants : List Grant) (own : List (ℕ × Holder)) (subscribers : List (ℕ × SubscriberTables)) (pool : List Letter) (made : List MadeChange) : Type 0 where
  pub book : IsBook (rules_of publication) grants
  pub held : (site article : ℕ) → Held grants made site article (holder_in (holders_at own subscribers site) article)
  pub letters : AllByRecursion (LetterTells grants) pool
