-- What is owed of a call that is not refused.
use Rattle.std.specs.Prelude.{Bool, Err, IfOk, IfSome, List, None, Ok, Option, Result, Some, false, if◌then◌else◌, refl, true, ℕ, ◌==◌, ◌≡◌}
use Rattle.std.proofs.Common.{subst}
use Rattle.merge_types.specs.declared.changes.Change.{Change}
use Rattle.merge_types.specs.declared.identifiers.Moment.{Moment}
use Rattle.merge_types.specs.declared.identifiers.RowId.{RowId}
use Rattle.merge_types.specs.declared.values.Value.{Value}
use Rattle.merge_ident.specs.Holders.{Holder}
use Rattle.merge_schema.specs.declared.publication.Publication.{Publication}
use Rattle.merge_batch.specs.declared.refusal.Refusal.{Refusal}
use Rattle.merge_batch.specs.declared.reply.Reply.{Reply}
use Rattle.merge_batch.specs.declared.reply.Reply.TheVariants as reply
use Rattle.merge_batch.specs.declared.request.Outstanding.{Outstanding}
use Rattle.merge_model.specs.World.Faults.{reply_fault}
use Rattle.merge_model.specs.Judge.{PublisherJudge, SubscriberJudge}
use Rattle.merge_model.specs.Publisher.{at_moment}
use Rattle.merge_model.specs.Publisher.PublisherLocal.{Drawn, draw_for_change, local, local_refusal, made_locally}
use Rattle.merge_model.specs.Tables.Refusals.{unless}
use Rattle.merge_model.specs.Subscriber.{subscriber_at_moment, subscriber_drawn, subscriber_local, subscriber_local_refusal, subscriber_made_locally}
use Rattle.merge_model.specs.Tables.{PublisherTables, SubscriberTables}
use Rattle.merge_model.specs.Subscriber.Taking.{met_by, seq_of, tables_after_reply, take_reply}
use Rattle.merge_model.specs.declared.outcome.Taken.{Taken}
use Rattle.merge_model.specs.declared.outcome.Taken.TheVariants.{Acted, Missed}

pub unless-ok : {X : Type 0} (Of : X → Type 0) (refusal : Option Refusal) (done : X) → (refusal ≡ None → Of done) → IfOk (unless refusal done) Of
unless-ok Of (Some why) done each = tt
unless-ok Of None done each = each refl

pub ok-of : {X E : Type 0} (Of : X → Type 0) (done : Result X E) (x : X) → IfOk done Of → done ≡ Ok x → Of x
ok-of {X = X} {E = E} Of done x ok is = subst (λ (r : Result X E). IfOk r Of) is ok

pub ok-weaker : {X E : Type 0} (P Q : X → Type 0) → ((x : X) → P x → Q x) → (done : Result X E) → IfOk done P → IfOk done Q
ok-weaker P Q weaker (Ok x) is = weaker x is
ok-weaker P Q weaker (Err e) is = tt

pub any-ok : {X E : Type 0} (Of : X → Type 0) → ((x : X) → Of x) → (done : Result X E) → IfOk done Of
any-ok Of each (Ok x) = each x
any-ok Of each (Err e) = tt

pub any-some : {X : Type 0} (Of : X → Type 0) → ((x : X) → Of x) → (made : Option X) → IfSome made Of
any-some Of each (Some x) = each x
any-some Of each None = tt

-- local changes
module _ (publication : Publication) (judge : PublisherJudge) (now : Moment) (change : Change) (p : PublisherTables) (P : PublisherTables → Type 0) where
  drawn-ok : (draw : Result Drawn Refusal) → ((d : Drawn) → draw ≡ Ok d → P (made_locally publication judge change d (at_moment now p)).0)
      → (let done : Result (PublisherTables × RowId) Refusal = elim draw [ Err refusal ↦ Err refusal | Ok d ↦ Ok (made_locally publication judge change d (at_moment now p)) ] in IfOk done (λ x. P x.0))
  drawn-ok (Err refusal) each = tt
  drawn-ok (Ok d) each = each d refl

  refused-ok : (found : Option Refusal) → (found ≡ None → (d : Drawn) → draw_for_change publication p change ≡ Ok d → P (made_locally publication judge change d (at_moment now p)).0)
      → (let done : Result (PublisherTables × RowId) Refusal = elim found [ Some refusal ↦ Err refusal | None ↦ elim (draw_for_change publication p change) [ Err refusal ↦ Err refusal | Ok d ↦ Ok (made_locally publication judge change d (at_moment now p)) ] ] in IfOk done (λ x. P x.0))
  refused-ok (Some refusal) each = tt
  refused-ok None each = drawn-ok (draw_for_change publication p change) (each refl)

  pub local-ok : (local_refusal publication change p ≡ None → (d : Drawn) → draw_for_change publication p change ≡ Ok d → P (made_locally publication judge change d (at_moment now p)).0) → IfOk (local publication judge now change p) (λ x. P x.0)
  local-ok each = refused-ok (local_refusal publication change p) each

module _ (publication : Publication) (now : Moment) (change : Change) (s : SubscriberTables) (S : SubscriberTables → Type 0) where
  sub-drawn-ok : (draw : Result (Value × List (ℕ × Holder)) Refusal) → ((d : Value × List (ℕ × Holder)) → draw ≡ Ok d → S (subscriber_made_locally publication change d (subscriber_at_moment now s)).0)
      → (let done : Result (SubscriberTables × RowId) Refusal = elim draw [ Err refusal ↦ Err refusal | Ok d ↦ Ok (subscriber_made_locally publication change d (subscriber_at_moment now s)) ] in IfOk done (λ x. S x.0))
  sub-drawn-ok (Err refusal) each = tt
  sub-drawn-ok (Ok d) each = each d refl

  sub-refused-ok : (found : Option Refusal) → (found ≡ None → (d : Value × List (ℕ × Holder)) → subscriber_drawn s change ≡ Ok d → S (subscriber_made_locally publication change d (subscriber_at_moment now s)).0)
      → (let done : Result (SubscriberTables × RowId) Refusal = elim found [ Some refusal ↦ Err refusal | None ↦ elim (subscriber_drawn s change) [ Err refusal ↦ Err refusal | Ok d ↦ Ok (subscriber_made_locally publication change d (subscriber_at_moment now s)) ] ] in IfOk done (λ x. S x.0))
  sub-refused-ok (Some refusal) each = tt
  sub-refused-ok None each = sub-drawn-ok (subscriber_drawn s change) (each refl)

  pub sub-local-ok : (subscriber_local_refusal publication change s ≡ None → (d : Value × List (ℕ × Holder)) → subscriber_drawn s change ≡ Ok d → S (subscriber_made_locally publication change d (subscriber_at_moment now s)).0) → IfOk (subscriber_local publication now change s) (λ x. S x.0)
  sub-local-ok each = sub-refused-ok (subscriber_local_refusal publication change s) each

-- a reply acts where it answers what is outstanding and fits it
module _ (publication : Publication) (judge : SubscriberJudge) (now : Moment) (s : SubscriberTables) (S : SubscriberTables → Type 0) (stays : S s) where
  if-met : (b : Bool) (m : Reply) (sent : ℕ × Outstanding) (fault : Option Refusal) → (fault ≡ None → S (tables_after_reply judge now m s))
      → (let done : Result (SubscriberTables × Taken) Refusal = if b then unless fault (tables_after_reply judge now m s, Acted) else Ok (s, Missed (seq_of m) sent.0) in IfOk done (λ x. S x.0))
  if-met true m sent fault acts = unless-ok (λ (x : SubscriberTables × Taken). S x.0) fault (tables_after_reply judge now m s, Acted) acts
  if-met false m sent fault acts = stays

  met-ok : (m : Reply) (found : Option (ℕ × Outstanding)) → ((sent : Outstanding) → reply_fault publication sent m s ≡ None → S (tables_after_reply judge now m s)) → IfOk (met_by publication judge now m s found) (λ x. S x.0)
  met-ok m None acts = stays
  met-ok m (Some sent) acts = if-met (sent.0 == seq_of m) m sent (reply_fault publication sent.1 m s) (acts sent.1)

  pub reply-ok : (m : Reply) → ((sent : Outstanding) → reply_fault publication sent m s ≡ None → S (tables_after_reply judge now m s)) → IfOk (take_reply publication judge now m s) (λ x. S x.0)
  reply-ok (reply.Joined m) acts = met-ok (reply.Joined m) s.outstanding acts
  reply-ok (reply.Uploaded m) acts = met-ok (reply.Uploaded m) s.outstanding acts
  reply-ok (reply.Ranged m) acts = met-ok (reply.Ranged m) s.outstanding acts
  reply-ok (reply.Downloaded m) acts = met-ok (reply.Downloaded m) s.outstanding acts
  reply-ok (reply.Refused number values) acts = stays
