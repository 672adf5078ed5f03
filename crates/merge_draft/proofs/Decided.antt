-- What a publisher makes of a request, with decisions that are known.
use Rattle.std.proofs.Common.{◌≡◌, ◌∙◌, Err, List, None, Ok, Option, Some, ap, refl, sym, ℕ}
use Rattle.merge_types.specs.declared.identifiers.Moment.{Moment}
use Rattle.merge_units.specs.declared.result.Decision.{Decision}
use Rattle.merge_schema.specs.declared.publication.Publication.{Publication}
use Rattle.merge_batch.specs.declared.refusal.Refusal.{Refusal}
use Rattle.merge_batch.specs.declared.reply.Reply.{Reply}
use Rattle.merge_batch.specs.declared.reply.Reply.TheVariants as reply
use Rattle.merge_batch.specs.declared.reply.Uploaded.{Uploaded}
use Rattle.merge_batch.specs.declared.request.Request.{Request}
use Rattle.merge_batch.specs.declared.request.Request.TheVariants as request
use Rattle.merge_model.specs.Judge.ByNumbers.{by_numbers}
use Rattle.merge_model.specs.World.Calls.{as_reply, result_of_request}
use Rattle.merge_model.specs.Publisher.PublisherUpload.{upload_refusal}
use Rattle.merge_model.specs.Tables.Refusals.{unless}
use Rattle.merge_model.specs.Tables.{PublisherTables}
use Rattle.merge_model.specs.World.{Saying}
use Rattle.merge_draft.specs.Drafting.{decisions_on, result_with_decisions}

pub handled-is : (publication : Publication) (says : Saying) (tallies : List ℕ) (now : Moment) (m : Request) (p : PublisherTables)
    → result_of_request publication says tallies now m p ≡ result_with_decisions publication now m (decisions_on publication says tallies now m p) p
handled-is publication says tallies now (request.Join m) p = refl
handled-is publication says tallies now (request.Upload m) p = refl
handled-is publication says tallies now (request.Ranges m) p = refl
handled-is publication says tallies now (request.Download m) p = refl

same-refusal : (refused : Option Refusal) (a b : PublisherTables × Uploaded) (why : Refusal) → as_reply reply.Uploaded (unless refused a) ≡ Err why → as_reply reply.Uploaded (unless refused b) ≡ Err why
same-refusal None a b why e = absurd cc
same-refusal (Some refusal) a b why e = e

pub refused-whatever : (publication : Publication) (now : Moment) (m : Request) (xs ys : List Decision) (p : PublisherTables) (why : Refusal) → result_with_decisions publication now m xs p ≡ Err why → result_with_decisions publication now m ys p ≡ Err why
refused-whatever publication now (request.Join m) xs ys p why e = e
refused-whatever publication now (request.Upload m) xs ys p why e = same-refusal (upload_refusal publication (by_numbers p) now m p) _ _ why e
refused-whatever publication now (request.Ranges m) xs ys p why e = e
refused-whatever publication now (request.Download m) xs ys p why e = e

-- A request that was worked out with what the resolvers decide.
pub handled-by : (publication : Publication) (says : Saying) (tallies : List ℕ) (now : Moment) (m : Request) (p : PublisherTables) (decisions : List Decision) (done : PublisherTables × Reply)
    → result_with_decisions publication now m decisions p ≡ Ok done → decisions ≡ decisions_on publication says tallies now m p → result_of_request publication says tallies now m p ≡ Ok done
handled-by publication says tallies now m p decisions done made same = handled-is publication says tallies now m p ∙ ap (λ ds. result_with_decisions publication now m ds p) (sym same) ∙ made
