-- The calls of a site: what each of them does by the definitions, and in which ways it may fail.
use Rattle.std.specs.List.{list_any}
use Rattle.std.specs.Prelude.{Bool, Err, List, None, Ok, Option, Result, Some, [], false, map, nat_lt, take, true, ℕ, ◌+◌, ◌||◌, ◌≡◌, ◌≤◌, ◌⊎◌}
use Rattle.merge_types.specs.declared.identifiers.Moment.{Moment}
use Rattle.merge_resolve.specs.declared.case.ConflictCase.{ConflictCase}
use Rattle.merge_gens.specs.Book.{Book}
use Rattle.merge_gens.specs.declared.sites.SiteState.{SiteState}
use Rattle.merge_ident.specs.Answers.{Answer}
use Rattle.merge_ident.specs.declared.grants.GrantAnswer.TheVariants.{Granted}
use Rattle.merge_ident.specs.declared.grants.GrantPlan.{GrantPlan}
use Rattle.merge_resolve.specs.Asked.{tallies_after}
use Rattle.merge_schema.specs.declared.publication.Publication.{Publication}
use Rattle.merge_batch.specs.declared.refusal.Refusal.{Refusal}
use Rattle.merge_batch.specs.declared.reply.Reply.{Reply}
use Rattle.merge_batch.specs.declared.request.Download.{Download}
use Rattle.merge_batch.specs.declared.request.Request.{Request}
use Rattle.merge_model.specs.Judge.ByNumbers.{by_numbers}
use Rattle.merge_model.specs.Publisher.{state_of}
use Rattle.merge_model.specs.Publisher.PublisherDownload.{download, in_step}
use Rattle.merge_model.specs.Publisher.PublisherJoin.{join, join_acts}
use Rattle.merge_model.specs.Publisher.PublisherRanges.{plans, ranges}
use Rattle.merge_model.specs.Publisher.PublisherUpload.{brings_news, upload}
use Rattle.merge_model.specs.World.Steps.{kept_decisions, upload_questions}
use Rattle.merge_resolve.specs.Questions.{question_of as asked_of}
use Rattle.merge_model.specs.Tables.{PublisherTables}
use Rattle.merge_model.specs.World.{Saying}
use Rattle.merge_model.specs.declared.outcome.Taken.{Taken}
use Rattle.merge_model.specs.declared.outcome.Taken.TheVariants.{Acted, Missed}
use Rattle.merge_batch.specs.declared.refusal.Refusal.TheVariants as refusal
use Rattle.merge_batch.specs.declared.reply.Reply.TheVariants as reply
use Rattle.merge_batch.specs.declared.request.Request.TheVariants as request

-- What a call makes: the tables behind it, and its answer.

abbrev pub as_reply : {A : Type 0} → (A → Reply) → Result (PublisherTables × A) Refusal → Result (PublisherTables × Reply) Refusal
as_reply message (Ok done) = Ok (done.0, message done.1)
as_reply message (Err refusal) = Err refusal

-- what the publisher does with a request, where each resolver says what it says and was asked so often before
abbrev pub result_of_request : Publication → Saying → List ℕ → Moment → Request → PublisherTables → Result (PublisherTables × Reply) Refusal
result_of_request publication says tallies now (request.Join m) p = as_reply reply.Joined (join publication now m p)
result_of_request publication says tallies now (request.Upload m) p = as_reply reply.Uploaded (upload publication (by_numbers p) now m (kept_decisions says tallies (upload_questions publication (by_numbers p) now m p)) p)
result_of_request publication says tallies now (request.Ranges m) p = as_reply reply.Ranged (ranges publication (by_numbers p) now m p)
result_of_request publication says tallies now (request.Download m) p = as_reply reply.Downloaded (download publication (by_numbers p) now m p)

-- the questions of a request that is not refused
abbrev pub questions_on : Publication → Moment → Request → PublisherTables → List (ℕ × ConflictCase)
questions_on publication now (request.Upload m) p = map asked_of (upload_questions publication (by_numbers p) now m p)
questions_on publication now m p = []

-- a message of a subscriber, where there may be none to make, and its tables then stay as they are
abbrev pub made_or_none : {T A : Type 0} → T → Option (T × A) → T × Option A
made_or_none tables None = (tables, None)
made_or_none tables (Some made) = (made.0, Some made.1)

abbrev pub message_or_none : {T A : Type 0} → T → Result (Option (T × A)) Refusal → Result (T × Option A) Refusal
message_or_none tables (Ok made) = Ok (made_or_none tables made)
message_or_none tables (Err refusal) = Err refusal

-- What commits. A call that changes no record commits nothing, and so no fault of the store can meet it.

-- with every answer: a local change, a download's request, a making anew, a purge
abbrev pub always_commits : {A : Type 0} → A → Bool
always_commits answer = true

-- the moment that a site keeps moves
abbrev pub is_later : Moment → Moment → Bool
is_later now latest = nat_lt latest.0 now.0

-- a closing keeps the moment, and the open generation where that has an entry
abbrev pub closing_commits : {A : Type 0} → Moment → Moment → Book → A → Bool
closing_commits now latest gens answer = is_later now latest || nat_lt 0 gens.filling.filled

-- a request for a download tells how far its site is, and closes the open generation
abbrev pub is_behind : Download → PublisherTables → SiteState → Bool
is_behind m p state = nat_lt state.watermark m.from || nat_lt state.last_sync (in_step m p)

abbrev pub is_new_grant : Answer → Bool
is_new_grant (Ok (Granted number range)) = true
is_new_grant answer = false

-- whether a request that is not refused changes a record, but for that of the moment
abbrev pub changes_records : Publication → Request → PublisherTables → Bool
changes_records publication (request.Join m) p = join_acts m p
changes_records publication (request.Upload m) p = brings_news (by_numbers p) m
changes_records publication (request.Ranges m) p = list_any (λ (plan : GrantPlan). is_new_grant plan.answer) (plans publication m p)
changes_records publication (request.Download m) p = is_behind m p (state_of p m.site) || nat_lt 0 p.gens.filling.filled

abbrev pub request_commits : {A : Type 0} → Publication → Moment → Request → PublisherTables → A → Bool
request_commits publication now m p answer = is_later now p.latest || changes_records publication m p

-- a message that was made takes a number
abbrev pub message_commits : {A : Type 0} → Option A → Bool
message_commits None = false
message_commits (Some message) = true

-- a reply that acts. A refusal does nothing
abbrev pub taken_commits : Taken → Bool
taken_commits Acted = true
taken_commits (Missed seq outstanding) = false

abbrev pub reply_commits : Reply → Taken → Bool
reply_commits (reply.Refused number values) taken = false
reply_commits m taken = taken_commits taken

-- What a call may do. `by` is what it makes by the definitions, `commits` says with which answers that is a commit, and
-- `before` and `after` count the faults of the store.

-- The call made its step. Or it failed, and no table changed: the step is refused, memory was wanting, or the commit
-- failed. That comes only where this very call commits, and is counted; nothing else is.
abbrev pub Called : {T A : Type 0} → Result (T × A) Refusal → (A → Bool) → T → T → ℕ → ℕ → Result A Refusal → Type 0
Called by commits old new before after (Ok done) = (by ≡ Ok (new, done)) × (after ≡ before)
Called {T} {A} by commits old new before after (Err why) = (new ≡ old) × ((by ≡ Err why) × (after ≡ before) ⊎ ((why ≡ refusal.NoMemory) × (after ≡ before) ⊎ (why ≡ refusal.StoreFault) × ((done : T × A) × (by ≡ Ok done) × (commits done.1 ≡ true)) × (before + 1 ≤ after)))

-- A call that takes no memory is refused for nothing but what the definition refuses.
abbrev pub RefusesOnlyAs : {A B : Type 0} → Result A Refusal → Result B Refusal → Type 0
RefusesOnlyAs by result = (why : Refusal) → result ≡ Err why → by ≡ Err why

-- How often resolvers were asked: all questions by a call that is made, none by one that is refused, the first few by one that fails.
abbrev pub Counted : {T A Q : Type 0} → Result (T × A) Refusal → List (ℕ × Q) → List ℕ → List ℕ → Result A Refusal → Type 0
Counted by questions old new (Ok done) = new ≡ tallies_after old questions
Counted by questions old new (Err why) = ((n : ℕ) × (new ≡ tallies_after old (take n questions))) × ((other : Refusal) → by ≡ Err other → new ≡ old)
