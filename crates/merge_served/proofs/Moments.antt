-- A publisher takes the later of the moment that it is given and the last one that it took.
use Rattle.std.proofs.Common.{ℕ, [], List, Option, ap, max, ◌∷◌, ◌≡◌}
use Rattle.std.specs.Prelude.{nat_lt}
use Rattle.merge_types.specs.declared.identifiers.Moment.{Moment}
use Rattle.merge_types.specs.declared.identifiers.SiteId.{SiteId}
use Rattle.merge_units.specs.declared.result.Decision.{Decision}
use Rattle.merge_schema.specs.declared.publication.Publication.{Publication}
use Rattle.merge_batch.specs.declared.refusal.Refusal.{Refusal}
use Rattle.merge_batch.specs.declared.refusal.Refusal.TheVariants.{Gap, WrongWatermark}
use Rattle.merge_batch.specs.declared.reply.Joined.{Joined}
use Rattle.merge_batch.specs.declared.reply.Reply.TheVariants as reply
use Rattle.merge_batch.specs.declared.reply.Uploaded.{Uploaded}
use Rattle.merge_batch.specs.declared.request.Request.{Request}
use Rattle.merge_batch.specs.declared.request.Request.TheVariants as request
use Rattle.merge_model.specs.Judge.ByNumbers.{by_numbers}
use Rattle.merge_model.specs.Judge.{PublisherJudge}
use Rattle.merge_model.specs.Publisher.Acts.{acts_of}
use Rattle.merge_model.specs.Publisher.PublisherDownload.{reply_to, tables_after_download}
use Rattle.merge_model.specs.Publisher.PublisherJoin.{join_refusal, tables_after_join}
use Rattle.merge_model.specs.Publisher.PublisherRanges.{plans, reply_to_ranges, with_grants}
use Rattle.merge_model.specs.Publisher.PublisherUpload.{tables_after_upload, too_many_new}
use Rattle.merge_model.specs.Publisher.{counters, last_closed, later, state_refusal, unknown_site}
use Rattle.merge_model.specs.Tables.Keys.{at_number}
use Rattle.merge_model.specs.Tables.Refusals.{counter_end, first_refusal, refused_if, unless}
use Rattle.merge_model.specs.Tables.{PublisherTables}
use Rattle.merge_model.specs.World.Calls.{as_reply}
use Rattle.merge_model.specs.World.Faults.{ranges_fault, upload_fault}
use Rattle.merge_draft.specs.Drafting.{result_with_decisions}

-- what a site is refused for by a moment that was taken
abbrev refused_at : Publication → SiteId → ℕ → PublisherTables → Moment → Option Refusal
refused_at publication site seq p t = first_refusal (unknown_site publication site ∷ state_refusal publication seq t (at_number p.sites site.0) ∷ [])

-- so two moments for which the publisher takes the same one make the same of a request
pub taken-alike : (publication : Publication) (a b : Moment) (m : Request) (decisions : List Decision) (p : PublisherTables) → later a p.latest ≡ later b p.latest → result_with_decisions publication a m decisions p ≡ result_with_decisions publication b m decisions p
taken-alike publication a b (request.Join m) decisions p e =
    let answer : Joined = record { seq = m.seq } in
    ap (λ (t : Moment). as_reply reply.Joined (unless (join_refusal publication m p) (tables_after_join m (record p { latest = t }), answer))) e
taken-alike publication a b (request.Upload m) decisions p e =
    let judge : PublisherJudge = by_numbers p in
    let answer : Uploaded = record { seq = m.seq; received = max m.to (judge.received m.site.0) } in
    let others : List (Option Refusal) = refused_if (judge.is_gap m.site.0 m.from) (Gap m.from (judge.received m.site.0)) ∷ upload_fault publication judge m p ∷ too_many_new (acts_of judge m [] p) p ∷ counter_end (counters p) ∷ [] in
    ap (λ (t : Moment). as_reply reply.Uploaded (unless (first_refusal (refused_at publication m.site m.seq p t ∷ others)) (tables_after_upload publication judge m decisions (record p { latest = t }), answer))) e
taken-alike publication a b (request.Ranges m) decisions p e =
    let others : List (Option Refusal) = ranges_fault publication (by_numbers p) m p ∷ counter_end (counters p) ∷ [] in
    ap (λ (t : Moment). as_reply reply.Ranged (unless (first_refusal (refused_at publication m.site m.seq p t ∷ others)) (with_grants (plans publication m p) (record p { latest = t }), reply_to_ranges m (plans publication m p)))) e
taken-alike publication a b (request.Download m) decisions p e =
    let others : List (Option Refusal) = refused_if (nat_lt (last_closed p) m.from) (WrongWatermark m.from (last_closed p)) ∷ counter_end (counters p) ∷ [] in
    ap (λ (t : Moment). as_reply reply.Downloaded (unless (first_refusal (refused_at publication m.site m.seq p t ∷ others)) (tables_after_download m (record p { latest = t }), reply_to publication (by_numbers p) m (tables_after_download m (record p { latest = t }))))) e
