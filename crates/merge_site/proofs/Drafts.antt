-- A request that was worked out, by the step that was worked out for it.
use Rattle.std.proofs.Common.{◌≡◌, ◌∙◌, ℕ, List, [], Bool, true, false, inl, inr, sym, ap, refl, subst}
use Rattle.std.specs.Prelude.{Err, IfOk, Ok, Result}
use Rattle.merge_types.specs.declared.identifiers.Moment.{Moment}
use Rattle.merge_units.specs.declared.result.Decision.{Decision}
use Rattle.merge_schema.specs.declared.publication.Publication.{Publication}
use Rattle.merge_batch.specs.declared.refusal.Refusal.{Refusal}
use Rattle.merge_batch.specs.declared.reply.Reply.{Reply}
use Rattle.merge_batch.specs.declared.reply.Reply.TheVariants as reply
use Rattle.merge_batch.specs.declared.reply.Uploaded.{Uploaded}
use Rattle.merge_batch.specs.declared.request.Request.{Request}
use Rattle.merge_json.specs.Sendable.{IsSendableReply}
use Rattle.merge_model.specs.World.Calls.{as_reply, request_commits, result_of_request}
use Rattle.merge_model.specs.Tables.{PublisherTables}
use Rattle.merge_model.specs.World.{Saying}
use Rattle.merge_draft.specs.Drafting.{decisions_on, result_with_decisions}
use Rattle.merge_draft.specs.declared.drafting.Drafted.{Drafted}
use Rattle.merge_draft.proofs.Decided.{handled-is}
use Rattle.merge_pub.specs.After.{after}
use Rattle.merge_pub.specs.Held.{Held, IsDrafted, tables_of}
use Rattle.merge_steps.specs.declared.changes.Draft.{Draft}
use Rattle.merge_pub.specs.declared.uploading.UploadDraft.{UploadDraft}
use Rattle.merge_site.specs.Calls.{IsRefused}
use Rattle.merge_site.specs.Drafting.{HeldView, IsFit, IsWorked, drafted_as, upload_drafted}
use Rattle.merge_site.specs.Publishers.{tables_after_draft, told_alone}
use Rattle.merge_site.specs.declared.request_draft.RequestDraft.{RequestDraft}

ok-not-err : {X : Type 0} (x : X) (why : Refusal) → Ok x ≡ Err why → ⊥
ok-not-err x why is = cc

err-same : {X : Type 0} (why other : Refusal) → (let one : Result X Refusal = Err why in one ≡ Err other) → why ≡ other
err-same why other is = cc

refused-reply : {A : Type 0} (message : A → Reply) (by : Result (PublisherTables × A) Refusal) (why : Refusal) → IsRefused by why → IsRefused (as_reply message by) why
refused-reply message by why (inl starved) = inl starved
refused-reply message by why (inr refused) = inr (ap (as_reply message) refused)

-- what is refused as a reply is refused
pub reply-refused : {A : Type 0} (message : A → Reply) (by : Result (PublisherTables × A) Refusal) (why : Refusal) → as_reply message by ≡ Err why → by ≡ Err why
reply-refused message (Ok made) why is = absurd (ok-not-err _ why is)
reply-refused message (Err other) why is = ap Err (err-same other why is)

module _ {A : Type 0} (message : A → Reply) (by : Result (PublisherTables × A) Refusal) (decisions : List Decision) (commits_with : Reply → Bool) (p : PublisherTables) where
  worked-made : (draft : Draft) (answer : A) (commits : Bool) (ds : List Decision) → by ≡ Ok (after draft.changes p, answer) → commits ≡ commits_with (message answer) → ds ≡ decisions → IsSendableReply (message answer)
      → IsWorked (as_reply message by) decisions commits_with p (Ok (record { work = record { draft = draft; commits = commits }; reply = message answer; decisions = ds }))
  worked-made draft answer commits ds made is same sendable = record {
    made = ap (as_reply message) made;
    decisions = same;
    commits = is;
    sendable = sendable;
    refused = λ why no. absurd (ok-not-err _ why no);
  }

  worked-refused : (why : Refusal) → IsRefused by why → IsWorked (as_reply message by) decisions commits_with p (Err why)
  worked-refused why refused = record {
    made = tt;
    decisions = tt;
    commits = tt;
    sendable = tt;
    refused = λ other is. subst (IsRefused (as_reply message by)) (err-same {X = Drafted RequestDraft} why other is) (refused-reply message by why refused);
  }

-- A request that has no conflicts.

module _ {A : Type 0} (message : A → Reply) (commits : Bool) (worked : Result (Draft × A) Refusal) (result : Result (Drafted RequestDraft) Refusal) (is : result ≡ drafted_as message commits worked) where
  pub worked-as : (by : Result (PublisherTables × A) Refusal) (commits_with : Reply → Bool) (p : PublisherTables)
      → IfOk worked (λ made. by ≡ Ok (tables_after_draft p made)) → IfOk worked (λ made. commits ≡ commits_with (message made.1)) → IfOk worked (λ made. IsSendableReply (message made.1)) → ((why : Refusal) → worked ≡ Err why → IsRefused by why)
      → IsWorked (as_reply message by) [] commits_with p result
  worked-as by commits_with p made told sendable refused = subst (IsWorked (as_reply message by) [] commits_with p) (sym is) (each worked made told sendable refused)
    where
      each : (w : Result (Draft × A) Refusal) → IfOk w (λ made. by ≡ Ok (tables_after_draft p made)) → IfOk w (λ made. commits ≡ commits_with (message made.1)) → IfOk w (λ made. IsSendableReply (message made.1)) → ((why : Refusal) → w ≡ Err why → IsRefused by why)
          → IsWorked (as_reply message by) [] commits_with p (drafted_as message commits w)
      each (Ok m) made told sendable refused = worked-made message by [] commits_with p m.0 m.1 commits [] made told refl sendable
      each (Err why) made told sendable refused = worked-refused message by [] commits_with p why (refused why refl)

  pub fits-as : (now : Held) → IfOk worked (λ made. IsDrafted now made.0) → IfOk worked (λ made. commits ≡ false → after made.0.changes (tables_of now) ≡ tables_of now) → IfOk result (λ d. IsFit now d.work)
  fits-as now ready still = subst (λ (r : Result (Drafted RequestDraft) Refusal). IfOk r (λ d. IsFit now d.work)) (sym is) (each worked ready still)
    where
      each : (w : Result (Draft × A) Refusal) → IfOk w (λ made. IsDrafted now made.0) → IfOk w (λ made. commits ≡ false → after made.0.changes (tables_of now) ≡ tables_of now) → IfOk (drafted_as message commits w) (λ d. IsFit now d.work)
      each (Ok m) ready still = record { drafted = ready; still = still }
      each (Err why) ready still = tt

-- An upload.

module _ (commits : Bool) (worked : Result UploadDraft Refusal) (result : Result (Drafted RequestDraft) Refusal) (is : result ≡ upload_drafted commits worked) where
  abbrev told : Uploaded → Reply
  told uploaded = reply.Uploaded uploaded

  pub worked-upload : (by : Result (PublisherTables × Uploaded) Refusal) (decisions : List Decision) (commits_with : Reply → Bool) (p : PublisherTables)
      → IfOk worked (λ made. by ≡ Ok (after made.draft.changes p, made.told)) → IfOk worked (λ made. made.decisions ≡ decisions) → IfOk worked (λ made. commits ≡ commits_with (told made.told)) → ((why : Refusal) → worked ≡ Err why → IsRefused by why)
      → IsWorked (as_reply told by) decisions commits_with p result
  worked-upload by decisions commits_with p made same tells refused = subst (IsWorked (as_reply told by) decisions commits_with p) (sym is) (each worked made same tells refused)
    where
      each : (w : Result UploadDraft Refusal) → IfOk w (λ made. by ≡ Ok (after made.draft.changes p, made.told)) → IfOk w (λ made. made.decisions ≡ decisions) → IfOk w (λ made. commits ≡ commits_with (told made.told)) → ((why : Refusal) → w ≡ Err why → IsRefused by why)
          → IsWorked (as_reply told by) decisions commits_with p (upload_drafted commits w)
      each (Ok m) made same tells refused = worked-made told by decisions commits_with p m.draft m.told commits m.decisions made tells same tt
      each (Err why) made same tells refused = worked-refused told by decisions commits_with p why (refused why refl)

  pub fits-upload : (now : Held) → IfOk worked (λ made. IsDrafted now made.draft) → IfOk (told_alone worked) (λ made. commits ≡ false → after made.0.changes (tables_of now) ≡ tables_of now) → IfOk result (λ d. IsFit now d.work)
  fits-upload now ready still = subst (λ (r : Result (Drafted RequestDraft) Refusal). IfOk r (λ d. IsFit now d.work)) (sym is) (each worked ready still)
    where
      each : (w : Result UploadDraft Refusal) → IfOk w (λ made. IsDrafted now made.draft) → IfOk (told_alone w) (λ made. commits ≡ false → after made.0.changes (tables_of now) ≡ tables_of now) → IfOk (upload_drafted commits w) (λ d. IsFit now d.work)
      each (Ok m) ready still = record { drafted = ready; still = still }
      each (Err why) ready still = tt

  pub asked-upload : (P : Type 0) → IfOk worked (λ made. P) → IfOk result (λ d. P)
  asked-upload P asked = subst (λ (r : Result (Drafted RequestDraft) Refusal). IfOk r (λ d. P)) (sym is) (each worked asked)
    where
      each : (w : Result UploadDraft Refusal) → IfOk w (λ made. P) → IfOk (upload_drafted commits w) (λ d. P)
      each (Ok m) asked = asked
      each (Err why) asked = tt

-- By the decisions that were made.

module _ (publication : Publication) (says : Saying) (tallies : List ℕ) (now : Moment) (m : Request) (p : PublisherTables) where
  pub made-decided : (commits_with : Reply → Bool) (result : Result (Drafted RequestDraft) Refusal) → IsWorked (result_of_request publication says tallies now m p) (decisions_on publication says tallies now m p) commits_with p result
      → IfOk result (λ d. result_with_decisions publication now m d.decisions p ≡ Ok (after d.work.draft.changes p, d.reply))
  made-decided commits_with (Err why) worked = tt
  made-decided commits_with (Ok d) worked =
      ap (λ (ds : List Decision). result_with_decisions publication now m ds p) worked.decisions ∙ sym (handled-is publication says tallies now m p) ∙ worked.made

  pub commits-told : (decisions : List Decision) (by : Result (PublisherTables × Reply) Refusal) (result : Result (Drafted RequestDraft) Refusal) → IsWorked by decisions (request_commits publication now m p) p result
      → IfOk result (λ d. d.work.commits ≡ true → request_commits publication now m p d.reply ≡ true)
  commits-told decisions by (Err why) worked = tt
  commits-told decisions by (Ok d) worked = λ yes. sym worked.commits ∙ yes

-- A publisher that shows all that it holds.

abbrev held_view : Held → ℕ → HeldView
held_view h faults = record { held = h; faults = faults }

-- what holds of the parts holds of what is seen
pub at-held : (P : Held → Type 0) (old : HeldView) (h : Held) (faults : ℕ) → held_view h faults ≡ old → P h → P old.held
at-held P old h faults seen holds = subst (λ (v : HeldView). P v.held) seen holds
