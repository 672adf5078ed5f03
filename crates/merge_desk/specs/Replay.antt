-- One thread answers the requests of a journal, one after the other.
use Rattle.std.specs.Prelude.{Err, List, Ok, Result, [], unwrap_or, ℕ, ◌+◌, ◌∷◌, ◌≡◌}
use Rattle.merge_types.specs.declared.identifiers.Moment.{Moment}
use Rattle.merge_units.specs.declared.result.Decision.{Decision}
use Rattle.merge_schema.specs.declared.publication.Publication.{Publication}
use Rattle.merge_batch.specs.Refusals.{number_of, reply_to}
use Rattle.merge_batch.specs.declared.refusal.Refusal.{Refusal}
use Rattle.merge_batch.specs.declared.reply.Reply.{Reply}
use Rattle.merge_batch.specs.declared.reply.Reply.TheVariants as reply
use Rattle.merge_batch.specs.declared.request.Request.{Request}
use Rattle.merge_model.specs.World.Calls.{questions_on, result_of_request}
use Rattle.merge_resolve.specs.Asked.{tallies_after}
use Rattle.merge_model.specs.Tables.{PublisherTables}
use Rattle.merge_model.specs.World.{Saying}
use Rattle.merge_draft.specs.Drafting.{decisions_on, result_with_decisions}
use Rattle.merge_desk.specs.Marks.{mark_on}
use Rattle.merge_desk.specs.declared.entry.Entry.{Entry}
use Rattle.merge_desk.specs.declared.mark.Mark.{Mark}

-- the reply that tells a refusal; one that is told no site would be its number alone
abbrev pub reply_of_refusal : Refusal → Reply
reply_of_refusal why = unwrap_or (reply_to why) (reply.Refused (number_of why) [])

-- what is made of the tables, and the reply: a request that is refused is answered too, and changes nothing
abbrev pub tables_and_reply : PublisherTables → Result (PublisherTables × Reply) Refusal → PublisherTables × Reply
tables_and_reply p (Ok done) = done
tables_and_reply p (Err why) = (p, reply_of_refusal why)

-- the decisions on a request's conflicts; one that is refused has none
abbrev pub decisions_if_made : Result (PublisherTables × Reply) Refusal → List Decision → List Decision
decisions_if_made (Ok done) decisions = decisions
decisions_if_made (Err why) decisions = []

abbrev pub entry_decisions : Publication → Saying → List ℕ → Moment → Request → PublisherTables → List Decision
entry_decisions publication says tallies now m p = decisions_if_made (result_of_request publication says tallies now m p) (decisions_on publication says tallies now m p)

-- how often each resolver was asked behind a request: all its questions where it is made, and none where it is refused
abbrev pub asked_if_made : Result (PublisherTables × Reply) Refusal → (old behind : List ℕ) → List ℕ
asked_if_made (Ok done) old behind = behind
asked_if_made (Err why) old behind = old

abbrev pub entry_tallies : Publication → Saying → List ℕ → Moment → Request → PublisherTables → List ℕ
entry_tallies publication says tallies now m p = asked_if_made (result_of_request publication says tallies now m p) tallies (tallies_after tallies (questions_on publication now m p))

-- an entry's request is answered at its moment, with its decisions
abbrev pub answer_to : Publication → PublisherTables → Entry → PublisherTables × Reply
answer_to publication p e = tables_and_reply p (result_with_decisions publication e.moment e.request e.decisions p)

-- the tables behind all entries
abbrev pub replay : Publication → PublisherTables → List Entry → PublisherTables
replay publication p [] = p
replay publication p (e ∷ es) = replay publication (answer_to publication p e).0 es

-- the replies to all entries
abbrev pub replies : Publication → PublisherTables → List Entry → List Reply
replies publication p [] = []
replies publication p (e ∷ es) = let done = answer_to publication p e in done.1 ∷ replies publication done.0 es

-- the marks of all entries, where the first has this place
abbrev pub marks_from : Publication → PublisherTables → ℕ → List Entry → List Mark
marks_from publication p place [] = []
marks_from publication p place (e ∷ es) = let done = answer_to publication p e in mark_on place e.moment e.request done.1 ∷ marks_from publication done.0 (place + 1) es

-- the decisions of each entry are those of resolvers that say this and had been asked so often, on the tables behind the entries before it
abbrev pub AreDecided : Publication → Saying → PublisherTables → List Entry → Type 0
AreDecided publication says p [] = Unit {0}
AreDecided publication says p (e ∷ es) =
    ((tallies : List ℕ) × (e.decisions ≡ entry_decisions publication says tallies e.moment e.request p))
    × AreDecided publication says (answer_to publication p e).0 es

abbrev pub mark_in : Entry → Mark
mark_in e = e.mark

-- the publication of no articles, for a name of an opening that is not picked
abbrev pub no_publication : Publication
no_publication = record { name = []; retention_days = 0; conflict_retention_days = 0; articles = []; subscriptions = [] }
