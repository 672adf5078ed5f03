-- Only a join notes a base.
use Rattle.std.specs.Prelude.{◌≡◌, ◌+◌, List, Option, Some, None, refl, map, flat_map}
use Rattle.std.specs.List.{fold}
use Rattle.std.proofs.Common.{◌∙◌}
use Rattle.merge_types.specs.declared.identifiers.SiteId.{SiteId}
use Rattle.merge_batch.specs.declared.reply.Reply.{Reply}
use Rattle.merge_batch.specs.declared.request.Upload.{Upload}
use Rattle.merge_schema.specs.declared.publication.Publication.{Publication}
use Rattle.merge_types.specs.declared.row_key.RowKey.{RowKey as Key}
use Rattle.merge_model.specs.Tables.{PublisherTables, SubscriberTables}
use Rattle.merge_model.specs.Publisher.Acts.{Act}
use Rattle.merge_model.specs.Judge.{PublisherJudge}
use Rattle.merge_model.specs.Publisher.Entries.{Entries}
use Rattle.merge_model.specs.Tables.Publications.{by_site}
use Rattle.merge_model.specs.Publisher.{last_closed}
use Rattle.merge_model.specs.World.{Judges}
use Rattle.merge_model.specs.History.{History, Line, Past}
use Rattle.merge_model.specs.History.Noting
use Rattle.merge_laws.proofs.Walking.NotesLeave.{acts-leave, anew-leave, fold-leave, taker-leave}

pub lines-bases : (lines : List Line) (h : History) → (Noting.with_lines lines h).bases ≡ h.bases
lines-bases lines h = fold-leave (λ (x : History). x.bases) Noting.with_line (λ x line. refl) lines h

-- Uploads.

acts-bases : (incoming : List (Key × Past)) (entries : Entries) (acts : List Act) (h : History) → (fold (Noting.with_act incoming entries) h acts).bases ≡ h.bases
acts-bases incoming entries acts h = acts-leave (λ (x : History). x.bases) (λ x lost. refl) (λ x made pasts. refl) (λ x accepted. refl) incoming entries acts h

pub upload-bases : (publication : Publication) (judge : PublisherJudge) (m : Upload) (acts : List Act) (incoming : List (Key × Past)) (p : PublisherTables) (h : History) → (Noting.with_acts_noted publication judge m acts incoming p h).bases ≡ h.bases
upload-bases publication judge m acts incoming p h =
    let entries : Entries = Noting.acts_entries publication judge m acts p in
    lines-bases (Noting.lines_of_entries (last_closed p + 1) entries) (fold (Noting.with_act incoming entries) h acts) ∙ acts-bases incoming entries acts h

-- A purge.

forgotten-bases : (keys : List Key) (h : History) → (fold Noting.with_purged h keys).bases ≡ h.bases
forgotten-bases keys h = fold-leave (λ (x : History). x.bases) Noting.with_purged (λ x key. refl) keys h

pub purge-bases : (publication : Publication) (judge : PublisherJudge) (p : PublisherTables) (h : History) → (Noting.noted_purge publication judge p h).bases ≡ h.bases
purge-bases publication judge p h =
    lines-bases (map (Noting.gone_line (last_closed p + 1)) (flat_map (Noting.old_left publication judge p) (map Noting.site_of_subscription (by_site publication)))) (fold Noting.with_purged h (Noting.old_tombstones publication p))
    ∙ forgotten-bases (Noting.old_tombstones publication p) h

-- What subscribers do.

pub taken-bases : (judges : Judges) (site : SiteId) (incoming : List (Key × Past)) (m : Reply) (found : Option SubscriberTables) (h : History)
    → (let k : History = elim found [ None ↦ h | Some s ↦ Noting.noted_reply (judges.subscriber site s) site incoming m h ] in k.bases ≡ h.bases)
taken-bases judges site incoming m found h = taker-leave (λ (x : History). x.bases) (λ x pasts. refl) judges site incoming m found h

pub anew-bases : (judges : Judges) (site : SiteId) (found : Option SubscriberTables) (h : History)
    → (let k : History = elim found [ None ↦ h | Some s ↦ Noting.noted_anew (judges.subscriber site s) s h ] in k.bases ≡ h.bases)
anew-bases judges site found h = anew-leave (λ (x : History). x.bases) (λ x pasts. refl) (λ x lost. refl) judges site found h
