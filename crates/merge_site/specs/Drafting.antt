-- A request that is worked out at a publisher with a keeper, and then put in place.
use Rattle.std.specs.Prelude.{Bool, Err, IfOk, List, Ok, OnOk, Result, [], false, take, ℕ, ◌≡◌}
use Rattle.merge_types.specs.declared.identifiers.Moment.{Moment}
use Rattle.merge_units.specs.declared.result.Decision.{Decision}
use Rattle.merge_resolve.specs.Asked.{tallies_after}
use Rattle.merge_schema.specs.declared.publication.Publication.{Publication}
use Rattle.merge_batch.specs.declared.refusal.Refusal.{Refusal}
use Rattle.merge_batch.specs.declared.reply.Reply.{Reply}
use Rattle.merge_batch.specs.declared.reply.Reply.TheVariants as reply
use Rattle.merge_batch.specs.declared.request.Request.{Request}
use Rattle.merge_json.specs.Sendable.{IsSendableReply}
use Rattle.merge_model.specs.World.Calls.{questions_on, request_commits, result_of_request}
use Rattle.merge_model.specs.Tables.{PublisherTables}
use Rattle.merge_model.specs.World.{Saying}
use Rattle.merge_draft.specs.Drafting.{decisions_on}
use Rattle.merge_draft.specs.declared.drafting.Drafted.{Drafted}
use Rattle.merge_pub.specs.After.{after}
use Rattle.merge_pub.specs.Held.{Held, IsDrafted, tables_of}
use Rattle.merge_steps.specs.declared.changes.Draft.{Draft}
use Rattle.merge_pub.specs.declared.uploading.UploadDraft.{UploadDraft}
use Rattle.merge_site.specs.Calls.{IsRefused}
use Rattle.merge_site.specs.declared.request_draft.RequestDraft.{RequestDraft}

-- a publisher as drafts must fit it: all that it holds, and how often its store failed
pub record HeldView : Type 0 where
  pub held : Held
  pub faults : ℕ

-- a request that was worked out without conflicts, as it is drafted
abbrev pub drafted_as : {A : Type 0} → (A → Reply) → Bool → Result (Draft × A) Refusal → Result (Drafted RequestDraft) Refusal
drafted_as message commits (Ok made) = Ok (record { work = record { draft = made.0; commits = commits }; reply = message made.1; decisions = [] })
drafted_as message commits (Err why) = Err why

-- and an upload, with what was decided
abbrev pub upload_drafted : Bool → Result UploadDraft Refusal → Result (Drafted RequestDraft) Refusal
upload_drafted commits (Ok made) = Ok (record { work = record { draft = made.draft; commits = commits }; reply = reply.Uploaded made.told; decisions = made.decisions })
upload_drafted commits (Err why) = Err why

-- What was worked out fits the publisher: its draft is the last one, and where nothing is committed nothing changes.
pub record IsFit (h : Held) (work : RequestDraft) : Type 0 where
  pub drafted : IsDrafted h work.draft
  pub still : work.commits ≡ false → after work.draft.changes (tables_of h) ≡ tables_of h

-- A request was worked out on the tables `p`: what it makes of them and its reply, with these decisions on its conflicts, or
-- why not.
pub record IsWorked (by : Result (PublisherTables × Reply) Refusal) (kept : List Decision) (commits_with : Reply → Bool) (p : PublisherTables) (result : Result (Drafted RequestDraft) Refusal) : Type 0 where
  pub made : IfOk result (λ d. by ≡ Ok (after d.work.draft.changes p, d.reply))
  pub decisions : IfOk result (λ d. d.decisions ≡ kept)
  pub commits : IfOk result (λ d. d.work.commits ≡ commits_with d.reply)
  pub sendable : IfOk result (λ d. IsSendableReply d.reply)
  pub refused : (why : Refusal) → result ≡ Err why → IsRefused by why

-- A request was drafted on the tables `p`, where the resolvers say this and were asked so often before it and behind it: what was
-- worked out, and that they were asked all its questions where it is made, none where it is refused, and else the first few.
pub record IsRequestDrafted (publication : Publication) (says : Saying) (tallies told : List ℕ) (now : Moment) (m : Request) (p : PublisherTables) (result : Result (Drafted RequestDraft) Refusal) : Type 0 where
  pub worked : IsWorked (result_of_request publication says tallies now m p) (decisions_on publication says tallies now m p) (request_commits publication now m p) p result
  pub asked : OnOk result (told ≡ tallies_after tallies (questions_on publication now m p))
  pub some : (n : ℕ) × (told ≡ tallies_after tallies (take n (questions_on publication now m p)))
  pub none : (refusal : Refusal) → result_of_request publication says tallies now m p ≡ Err refusal → told ≡ tallies
